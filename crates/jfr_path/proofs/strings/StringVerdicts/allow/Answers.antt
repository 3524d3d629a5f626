use Rattle.std.proofs.Common.{◌≡◌, ap, arith, get_or, sym, true, ◌∙◌}
use Rattle.std.proofs.lemmas.Option.{slice_get-get_or}
use Rattle.jfr_path.specs.Strings.{Options, matches_of}
use Rattle.jfr_path.proofs.StringLaws.{asked_all, asked_excluded, is_excluded}
use Rattle.jfr_path.proofs.strings.StringVerdicts.allow.Goals as goal

pub returns-then-excluded_by-clause-ok : goal.returns-then-excluded_by-clause-ok
returns-then-excluded_by-clause-ok c =
    let o = c.args.self.now in
    let l = c.loop-index in
    let x = get_or c.args.indices.now l.index-index 0 in
    let excluded : is_excluded o x ≡ true =
    sym (ap (λ p. p.1) c.in_ok-included_by.ensures.ok ∙ ap (λ (o : Options). (matches_of o x).1) l.invariant.0) ∙ c.if-excluded_by.true in
    sym (asked_excluded o c.args.indices.now l.index-index x l.included l.invariant.1 (slice_get-get_or c.args.indices.now l.index-index 0 (omega arith)) excluded)

pub returns-clause-ok : goal.returns-clause-ok
returns-clause-ok c = asked_all c.args.self.now c.args.indices.now c.loop-index.index-index c.loop-index.included c.loop-index.invariant.1 (omega arith)
