use Rattle.std.proofs.Common.{refl, sym, subst, Err}
use Rattle.std.proofs.lemmas.Result.{err_from_is_err_and}
use Rattle.jfr_header.specs.Fronts.{Whole}
use Rattle.jfr_header.proofs.Steps.{chain_known, map_known}
use Rattle.jfr_verify.specs.Outputs.{AllWhole, OpenedIn, OutputRead}
use Rattle.jfr_verify.proofs.OutputLaws.{whole_more, keep_start, keep_next, keep_end, keep_refused, keep_stopped, not_opened, same_on}
use Rattle.jfr_verify.proofs.outputs.read_outputs.Goals as goal

pub returns-in_err-cutter-clause-contents : goal.returns-in_err-cutter-clause-contents
returns-in_err-cutter-clause-contents g c =
    let p = err_from_is_err_and c.from_residual.result c.from_residual.ensures.1 in
    rw (p.1, p.2) (map_known (g.P.Place.state c.args.place.now).contents (g.P.Place.state c.open.new.place).contents (OpenedIn c.args.name.now (Err c.in_err-cutter.field-0.0))
    (OutputRead c.args.name.now (Err c.in_err-cutter.field-0.0)) c.in_err-cutter.ensures.contents (λ w v h. not_opened c.args.name.now c.in_err-cutter.field-0.0 w v h))

pub chunks-init : goal.chunks-init
chunks-init g c = record {
  keeping = map_known (g.P.Place.state c.args.place.now).contents (g.P.Place.state c.open.new.place).contents _ _ c.in_ok-cutter.ensures.contents
      (λ w v h. keep_start c.args.name.now c.new-outputs.result.chunks.items c.in_ok-cutter.cutter w v c.new-outputs.ensures h);
  whole = subst AllWhole (sym c.new-outputs.ensures) tt;
  live = c.in_ok-cutter.ensures.live;
  counts = c.in_ok-cutter.ensures.counts;
}

pub next-requires : goal.next-requires
next-requires g c = c.chunks.invariant.live

pub returns-in-End-clause-contents : goal.returns-in-End-clause-contents
returns-in-End-clause-contents g c =
    chain_known (g.P.Place.state c.args.place.now).contents (g.P.Place.state c.chunks.place).contents
    (g.P.Place.state c.next.new.place).contents _ _ _ c.chunks.invariant.keeping c.in-End.ensures.contents
    (λ w v u k n. keep_end c.args.name.now c.chunks.outputs.chunks.items c.chunks.cutter c.next.new.self w v u k c.chunks.outputs.chunks refl n)

pub returns-in-Refused-clause-contents : goal.returns-in-Refused-clause-contents
returns-in-Refused-clause-contents g c =
    chain_known (g.P.Place.state c.args.place.now).contents (g.P.Place.state c.chunks.place).contents
    (g.P.Place.state c.next.new.place).contents _ _ _ c.chunks.invariant.keeping c.in-Refused.ensures.contents
    (λ w v u k n. keep_refused c.args.name.now c.chunks.outputs.chunks.items c.chunks.cutter c.next.new.self w v u k c.in-Refused.refusal c.in-Refused.ensures.cut.0 n)

pub returns-in-Err-clause-contents : goal.returns-in-Err-clause-contents
returns-in-Err-clause-contents g c =
    chain_known (g.P.Place.state c.args.place.now).contents (g.P.Place.state c.chunks.place).contents
    (g.P.Place.state c.next.new.place).contents _ _ _ c.chunks.invariant.keeping c.in-Chunk.ensures.contents
    (λ w v u k n. keep_stopped c.args.name.now c.chunks.outputs.chunks.items c.chunks.cutter c.next.new.self w v u k c.in-Err.fault c.of_output.result c.bytes.result.now c.number.result
    c.of_output.ensures c.bytes.ensures c.number.ensures c.in-Chunk.ensures.cut n c.in-Err.ensures.refused)

pub chunks-preserved : goal.chunks-preserved
chunks-preserved g c = record {
  keeping = chain_known (g.P.Place.state c.args.place.now).contents (g.P.Place.state c.chunks.place).contents
      (g.P.Place.state c.next.new.place).contents _ _ _ c.chunks.invariant.keeping c.in-Chunk.ensures.contents
      (λ w v u k n. keep_next c.args.name.now c.chunks.outputs.chunks.items c.chunks.cutter c.next.new.self w v u k c.keep.new.self.chunks.items c.bytes.result.now c.bytes.ensures
      c.in-Chunk.ensures.cut n c.in-Ok.ensures.ok);
  whole = whole_more c.bytes.result.now c.chunks.outputs.chunks.items c.keep.new.self.chunks.items c.in-Ok.ensures.ok
      (subst Whole (sym c.bytes.ensures) c.in-Chunk.ensures.cut.whole) c.chunks.invariant.whole;
  live = c.in-Chunk.ensures.cut.live;
  counts = same_on (g.P.Place.state c.args.place.now) (g.P.Place.state c.chunks.place) (g.P.Place.state c.next.new.place) c.chunks.invariant.counts
      (record { reads = c.in-Chunk.ensures.counts; writes = c.in-Chunk.ensures.writes; same = c.in-Chunk.ensures.steady });
}
