use Rattle.std.specs.Prelude.{ℕ, List, drop}
use Rattle.jfr_stacks.specs.Adding.{HasPending}
use Rattle.jfr_stacks.specs.Folded.{Counts}
use Rattle.jfr_stacks.specs.Held.{counts_in}
use Rattle.jfr_stacks.specs.Roles.{WritesFor}
use Rattle.jfr_stacks.specs.Texts.{entry_text}
use Rattle.jfr_stacks.proofs.adding.add_entries.Given as goal

-- The events of the entries before this one are added.
abbrev pub invariant-loop-number : goal.invariant-loop-number
invariant-loop-number l = record {
  ready : WritesFor l.chunk l.writer.frames;
  pending : (old : Counts) (ts : List (List ℕ)) → HasPending (entry_text l.chunk) old ts (counts_in l.initial.counts) 0 l.by_entry
      → HasPending (entry_text l.chunk) old ts (counts_in l.counts) l.number (drop l.number l.by_entry);
}
