use Rattle.std.proofs.Common.{◌≡◌, ℕ, ◌-◌, ◌^◌, List, Option, true, false}
use Rattle.jfr_outside.specs.World.{World, IfKnown}
use Rattle.jfr_plan.specs.Effects.{outside}
use Rattle.jfr_plan.specs.Outcomes.{Counted, Unchanged}
use Rattle.jfr_plan.specs.Goings.{Staged}
use Rattle.jfr_plan.proofs.stage.run_chunks.Given as goal

abbrev pub invariant-chunks : goal.invariant-chunks
invariant-chunks g l = record {
  going : (earlier : List (List ℕ)) (input : List ℕ) (b : Option World) (o : Option (List ℕ))
      → IfKnown b (g.P.Place.state l.initial.place).contents (Staged (g.S.Stage.rule l.initial.stage) earlier (g.S.Stage.seen l.initial.stage) input l.initial.at.start l.initial.at.number false o (g.O.Sink.state l.initial.out).written) → IfKnown b (g.P.Place.state l.place).contents (Staged (g.S.Stage.rule l.initial.stage) earlier (g.S.Stage.seen l.stage) input l.at.start l.at.number l.at.given o (g.O.Sink.state l.out).written);
  rule : g.S.Stage.rule l.stage ≡ g.S.Stage.rule l.initial.stage;
  live : l.at.live ≡ true;
  counts : Counted Unchanged Unchanged Unchanged (outside (g.P.Place.state l.initial.place) (g.O.Sink.state l.initial.out)) (outside (g.P.Place.state l.place) (g.O.Sink.state l.out));
}

abbrev pub decreases-chunks : goal.decreases-chunks
decreases-chunks g l = 2 ^ 62 - l.at.start
