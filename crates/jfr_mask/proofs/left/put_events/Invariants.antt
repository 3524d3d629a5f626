use Rattle.std.proofs.Common.{◌≡◌, false}
use Rattle.jfr_mask.specs.Masked.{is_held_masked, is_masked_string}
use Rattle.jfr_mask.proofs.EventRows.{AreRows}
use Rattle.jfr_mask.proofs.WalkBut.{EventsRest}
use Rattle.jfr_mask.proofs.left.put_events.Given as goal

abbrev pub invariant-loop-number : goal.invariant-loop-number
invariant-loop-number l = record {
  marks : EventsRest (is_masked_string (is_held_masked l.masked l.chunk.classes)) l.chunk l.kept l.number l.fn.reaching.list l.reaching.list;
  rows : l.reaching.failed ≡ false → AreRows (is_held_masked l.masked l.chunk.classes) l.chunk l.kept l.number l.reaching.events.strings.items l.reaching.events.ends.items;
}
