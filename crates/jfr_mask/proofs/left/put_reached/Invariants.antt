use Rattle.std.proofs.Common.{◌≡◌, false, length, ◌-◌}
use Rattle.jfr_chunk.specs.Reach.{kept_by}
use Rattle.jfr_mask.specs.EventStrings.{AreListed}
use Rattle.jfr_mask.specs.Masked.{is_held_masked, is_masked_string}
use Rattle.jfr_mask.proofs.WalkBut.{Going}
use Rattle.jfr_mask.proofs.left.put_reached.Given as goal

abbrev pub invariant-loop-next : goal.invariant-loop-next
invariant-loop-next l = record {
  going : Going (is_masked_string (is_held_masked l.masked l.chunk.classes)) l.chunk (kept_by l.chunk l.kept) l.reaching.list.flags.items l.reaching.list.order.items l.next;
  listed : l.reaching.failed ≡ false → AreListed (is_held_masked l.masked l.chunk.classes) l.chunk l.kept l.reaching.events.strings.items l.reaching.events.ends.items;
}

abbrev pub decreases-loop-next : goal.decreases-loop-next
decreases-loop-next l = length l.chunk.entries - l.next
