use Rattle.std.proofs.Common.{arith, refl, subst, sym}
use Rattle.std.proofs.lemmas.Result.{err_from_is_err_and}
use Rattle.jfr_frame.proofs.Reading.{Read, read_more, read_all, read_computed, read_stops}
use Rattle.jfr_frame.proofs.StartLaws.{head_short}
use Rattle.jfr_frame.proofs.frames.Frames.read_in.Goals as goal

pub returns-in_err-record-clause-refused : goal.returns-in_err-record-clause-refused
returns-in_err-record-clause-refused c =
    let p = err_from_is_err_and c.from_residual.result c.from_residual.ensures.1 in
    rw (p.1, p.2) (read_stops _ _ _ _ c.requires c.records.invariant c.in_err-record.ensures.refused (c.in_err-record.ensures.exact c.in_err-record.ensures.refused.1))

pub of-requires-clause-short : goal.of-requires-clause-short
of-requires-clause-short c =
    let found = rw c.in-Some.is at c.in_ok-record.ensures.ok in
    omega (arith, (head_short _ _ found.1).2)

pub records-preserved : goal.records-preserved
records-preserved c =
    subst (Read c.args.chunk.now c.push.new.self.items) (sym c.end-at.ensures)
    (read_more _ _ _ _ _ _ c.records.invariant (rw c.in-Some.is at c.in_ok-record.ensures.ok) c.of.ensures c.in_ok-push.ensures.items)

pub invariant_of-result : goal.invariant_of-result
invariant_of-result c = read_all _ _ _ c.records.invariant (c.in_ok-record.ensures.end.0 (rw c.in_default.is refl))

pub returns-clause-ok : goal.returns-clause-ok
returns-clause-ok c = (invariant_of-result c).cover

pub returns-clause-exact : goal.returns-clause-exact
returns-clause-exact c = read_computed _ _ _ c.records.invariant (c.in_ok-record.ensures.end.0 (rw c.in_default.is refl))
