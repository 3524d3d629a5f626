use Rattle.std.proofs.Common.{arith, ℕ, sym, ◌∙◌, subst, List, [], ◌∷◌, ◌++◌, IfSome, Bool, IsTrue, refl, Ok, Err}
use Rattle.jfr_outside.specs.World.{IfKnown}
use Rattle.jfr_plan.specs.Effects.{outside}
use Rattle.jfr_plan.specs.Rules.{Rule, Goes}
use Rattle.jfr_plan.specs.Goings.{IsPast}
use Rattle.jfr_plan.specs.Parts.{PartWorld}
use Rattle.jfr_plan.proofs.Staging.{stage_end, stage_seen, stage_refused, stage_failed, stage_memory, stage_err, stage_goes, counted_on}
use Rattle.jfr_plan.proofs.stage.run_chunks.Goals as goal

pub returns-in-Ok-clause-contents : goal.returns-in-Ok-clause-contents
returns-in-Ok-clause-contents g c = λ earlier input b o h.
    let r = g.S.Stage.rule c.args.stage.now in
    let st = (g.P.Place.state c.args.place.now).steady in
    let p = (g.O.Sink.state c.chunks.out).written in
    let q = (g.O.Sink.state c.end.new.out).written in
    let d = (g.P.Place.state c.next.new.place).contents in
    let z = (g.P.Place.state c.end.new.place).contents in
    stage_end st r earlier (g.S.Stage.seen c.chunks.stage) input c.chunks.at (Ok c.in-Ok.field-0) o p q b (g.P.Place.state c.chunks.place).contents d z
    (c.chunks.invariant.going earlier input b o h) c.in-End.ensures.contents
    (λ before s. subst (λ (y : Rule). IfKnown d z (PartWorld st (Goes (y.ends before)) (Ok c.in-Ok.field-0) p q)) c.chunks.invariant.rule
    (subst (λ (k : Bool). IfKnown d z (PartWorld k (Goes ((g.S.Stage.rule c.chunks.stage).ends before)) (Ok c.in-Ok.field-0) p q)) (c.in-End.ensures.steady ∙ c.chunks.invariant.counts.3)
    (c.in-Ok.ensures.contents before s)))

pub returns-in-Ok-clause-later : goal.returns-in-Ok-clause-later
returns-in-Ok-clause-later g c = λ earlier input b o h e.
    let Seen = g.S.Stage.seen c.chunks.stage in
    let closed = c.in-End.ensures.cut.1 in
    let past = stage_seen (g.S.Stage.rule c.args.stage.now) earlier Seen input c.chunks.at o (g.O.Sink.state c.chunks.out).written b (g.P.Place.state c.chunks.place).contents
    (g.P.Place.state c.next.new.place).contents (c.chunks.invariant.going earlier input b o h) c.in-End.ensures.contents in
    subst (λ (n : ℕ). IfSome b (IsPast Seen earlier input c.next.new.self.start n)) (sym closed.number)
    (subst (λ (n : ℕ). IfSome b (IsPast Seen earlier input n c.chunks.at.number)) (sym closed.start) past)

pub returns-in-Err-clause-contents : goal.returns-in-Err-clause-contents
returns-in-Err-clause-contents g c = λ earlier input b o h.
    let r = g.S.Stage.rule c.args.stage.now in
    let st = (g.P.Place.state c.args.place.now).steady in
    let p = (g.O.Sink.state c.chunks.out).written in
    let q = (g.O.Sink.state c.end.new.out).written in
    let d = (g.P.Place.state c.next.new.place).contents in
    let z = (g.P.Place.state c.end.new.place).contents in
    stage_end st r earlier (g.S.Stage.seen c.chunks.stage) input c.chunks.at (Err c.in-Err.ending) o p q b (g.P.Place.state c.chunks.place).contents d z
    (c.chunks.invariant.going earlier input b o h) c.in-End.ensures.contents
    (λ before s. subst (λ (y : Rule). IfKnown d z (PartWorld st (Goes (y.ends before)) (Err c.in-Err.ending) p q)) c.chunks.invariant.rule
    (subst (λ (k : Bool). IfKnown d z (PartWorld k (Goes ((g.S.Stage.rule c.chunks.stage).ends before)) (Err c.in-Err.ending) p q)) (c.in-End.ensures.steady ∙ c.chunks.invariant.counts.3)
    (c.in-Err.ensures.contents before s)))

pub returns-in-Refused-clause-contents : goal.returns-in-Refused-clause-contents
returns-in-Refused-clause-contents g c = λ earlier input b o h.
    stage_refused (g.P.Place.state c.args.place.now).steady (g.S.Stage.rule c.args.stage.now) earlier (g.S.Stage.seen c.chunks.stage) input c.chunks.at c.in-Refused.refusal o
    (g.O.Sink.state c.chunks.out).written b (g.P.Place.state c.chunks.place).contents (g.P.Place.state c.next.new.place).contents c.in-Refused.ensures.cut.0
    (c.chunks.invariant.going earlier input b o h) c.in-Refused.ensures.contents

pub returns-in-Failed-clause-contents : goal.returns-in-Failed-clause-contents
returns-in-Failed-clause-contents g c = λ earlier input b o h.
    stage_failed (g.P.Place.state c.args.place.now).steady (g.S.Stage.rule c.args.stage.now) earlier (g.S.Stage.seen c.chunks.stage) input c.chunks.at o (g.O.Sink.state c.chunks.out).written b
    (g.P.Place.state c.chunks.place).contents (g.P.Place.state c.next.new.place).contents (c.chunks.invariant.going earlier input b o h) c.in-Failed.ensures.contents
    (λ y. c.in-Failed.ensures.fails (subst IsTrue (sym c.chunks.invariant.counts.3) y) refl)

pub returns-in-Memory-clause-contents : goal.returns-in-Memory-clause-contents
returns-in-Memory-clause-contents g c = λ earlier input b o h.
    stage_memory (g.P.Place.state c.args.place.now).steady (g.S.Stage.rule c.args.stage.now) earlier (g.S.Stage.seen c.chunks.stage) input c.chunks.at o (g.O.Sink.state c.chunks.out).written b
    (g.P.Place.state c.chunks.place).contents (g.P.Place.state c.next.new.place).contents (c.chunks.invariant.going earlier input b o h) c.in-Memory.ensures.contents

pub returns-in-Err-chunk-clause-contents : goal.returns-in-Err-chunk-clause-contents
returns-in-Err-chunk-clause-contents g c = λ earlier input b o h.
    let x = c.next.new.self.bytes in
    let r = g.S.Stage.rule c.args.stage.now in
    let st = (g.P.Place.state c.args.place.now).steady in
    let p = (g.O.Sink.state c.chunks.out).written in
    let q = (g.O.Sink.state c.chunk.new.out).written in
    let d = (g.P.Place.state c.next.new.place).contents in
    let z = (g.P.Place.state c.chunk.new.place).contents in
    stage_err st r earlier (g.S.Stage.seen c.chunks.stage) input c.chunks.at x c.in-Err-chunk.ending o p q b (g.P.Place.state c.chunks.place).contents d z
    (c.chunks.invariant.going earlier input b o h) c.in-Chunk.ensures.contents
    (λ before s n. subst (λ (y : List ℕ). IfKnown d z (PartWorld st (r.asks before y) (Err c.in-Err-chunk.ending) p q)) c.bytes.ensures
    (subst (λ (y : Rule). IfKnown d z (PartWorld st (y.asks before c.bytes.result.now) (Err c.in-Err-chunk.ending) p q)) c.chunks.invariant.rule
    (subst (λ (k : Bool). IfKnown d z (PartWorld k ((g.S.Stage.rule c.chunks.stage).asks before c.bytes.result.now) (Err c.in-Err-chunk.ending) p q))
    (c.in-Chunk.ensures.steady ∙ c.chunks.invariant.counts.3) (c.in-Err-chunk.ensures.contents before s (Prim.omega (arith, c.number.ensures, c.in-Chunk.ensures.cut.number, n))))))

pub chunks-preserved : goal.chunks-preserved
chunks-preserved g c =
    let x = c.next.new.self.bytes in
    let r = g.S.Stage.rule c.args.stage.now in
    let st = (g.P.Place.state c.args.place.now).steady in
    let p = (g.O.Sink.state c.chunks.out).written in
    let q = (g.O.Sink.state c.chunk.new.out).written in
    let d = (g.P.Place.state c.next.new.place).contents in
    let z = (g.P.Place.state c.chunk.new.place).contents in
    let Next = g.S.Stage.seen c.chunk.new.self in
    let cut = c.in-Chunk.ensures.cut in
    record {
      going = λ earlier input b o h.
          stage_goes st r earlier (g.S.Stage.seen c.chunks.stage) Next input c.chunks.at c.next.new.self c.in-Ok-chunk.field-0 o p q b (g.P.Place.state c.chunks.place).contents d z cut
          (c.chunks.invariant.going earlier input b o h) c.in-Chunk.ensures.contents
          (λ before s n. (
            subst (λ (y : List ℕ). IfKnown d z (PartWorld st (r.asks before y) (Ok c.in-Ok-chunk.field-0) p q)) c.bytes.ensures
                (subst (λ (y : Rule). IfKnown d z (PartWorld st (y.asks before c.bytes.result.now) (Ok c.in-Ok-chunk.field-0) p q)) c.chunks.invariant.rule
                (subst (λ (k : Bool). IfKnown d z (PartWorld k ((g.S.Stage.rule c.chunks.stage).asks before c.bytes.result.now) (Ok c.in-Ok-chunk.field-0) p q))
                (c.in-Chunk.ensures.steady ∙ c.chunks.invariant.counts.3) (c.in-Ok-chunk.ensures.contents before s (Prim.omega (arith, c.number.ensures, c.in-Chunk.ensures.cut.number, n))))),
            subst (λ (y : List ℕ). Next (before ++ y ∷ [])) c.bytes.ensures (c.in-Ok-chunk.ensures.seen before s (Prim.omega (arith, c.number.ensures, c.in-Chunk.ensures.cut.number, n))),
          ));
      rule = c.in-Ok-chunk.ensures.rule ∙ c.chunks.invariant.rule;
      live = cut.live;
      counts = counted_on (outside (g.P.Place.state c.args.place.now) (g.O.Sink.state c.args.out.now)) (outside (g.P.Place.state c.chunks.place) (g.O.Sink.state c.chunks.out))
          (outside (g.P.Place.state c.chunk.new.place) (g.O.Sink.state c.chunk.new.out)) c.chunks.invariant.counts
          (counted_on (outside (g.P.Place.state c.chunks.place) (g.O.Sink.state c.chunks.out)) (outside (g.P.Place.state c.next.new.place) (g.O.Sink.state c.chunks.out))
          (outside (g.P.Place.state c.chunk.new.place) (g.O.Sink.state c.chunk.new.out)) (c.in-Chunk.ensures.counts, c.in-Chunk.ensures.writes, refl, c.in-Chunk.ensures.steady)
          c.in-Ok-chunk.ensures.counts);
    }
