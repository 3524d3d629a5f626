use Rattle.std.proofs.Common.{ℕ, List, IfSome}
use Rattle.jfr_plan.specs.Effects.{without_sink}
use Rattle.jfr_plan.specs.Outcomes.{Counted, Unchanged}
use Rattle.jfr_split.specs.Joins.{CanJoin}
use Rattle.jfr_split.proofs.Sorting.{bytes_of}
use Rattle.jfr_split.proofs.Joined.{JoinedFrom}
use Rattle.jfr_split.proofs.joining.join_files.Given as goal

abbrev pub invariant-files : goal.invariant-files
invariant-files g l = record {
  joined : (output : List ℕ) (contents : List (List ℕ)) → IfSome (g.P.Place.state l.initial.place).contents (CanJoin output (bytes_of l.files) contents)
      → JoinedFrom contents l.file-index l.at.start l.at.number (g.P.Place.state l.initial.place).contents (g.P.Place.state l.place).contents;
  counts : Counted Unchanged Unchanged Unchanged (without_sink (g.P.Place.state l.initial.place)) (without_sink (g.P.Place.state l.place));
}
