use Rattle.std.proofs.Common.{take}
use Rattle.jfr_mask.specs.Recordings.{table_lines}
use Rattle.jfr_mask.proofs.TableLines.{LinesDone}
use Rattle.jfr_mask.proofs.table.append_lines.Given as goal

abbrev pub invariant-loop-at : goal.invariant-loop-at
invariant-loop-at g l = LinesDone (take l.at (table_lines 1 l.dictionary)) (g.P.Place.state l.initial.place) (g.P.Place.state l.place)
