use Rattle.std.specs.Prelude.{◌≡◌, ◌≤◌, ◌++◌, List, ℕ, length}
use Rattle.std.specs.List.{filter_map}
use Rattle.jfr_chunk.specs.Reach.{kept_by}
use Rattle.jfr_stacks.specs.Adding.{AreAtMost, HasPending}
use Rattle.jfr_stacks.specs.Held.{counts_in}
use Rattle.jfr_stacks.specs.Roles.{WritesFor}
use Rattle.jfr_stacks.specs.Texts.{entry_text, stack_of}
use Rattle.jfr_stacks.proofs.EventLaws.{left}
use Rattle.jfr_stacks.proofs.counting.count_events.Given as goal

-- The texts of the kept events so far are counted.
abbrev pub invariant-loop-number : goal.invariant-loop-number
invariant-loop-number l = record {
  done : List (List ℕ);
  rest : done ++ left (stack_of l.chunk) l.chunk l.kept l.number ≡ filter_map (stack_of l.chunk) (kept_by l.chunk l.kept);
  few : length done ≤ l.number;
  pending : HasPending (entry_text l.chunk) (counts_in l.initial.counts) done (counts_in l.counts) 0 l.by_entry.items;
  each : length l.by_entry.items ≡ length l.chunk.entries;
  small : AreAtMost l.number l.by_entry.items;
  ready : WritesFor l.chunk l.writer.frames;
}
