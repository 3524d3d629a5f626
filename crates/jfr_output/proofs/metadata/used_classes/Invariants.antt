use Rattle.std.proofs.Common.{◌≡◌, ℕ}
use Rattle.jfr_chunk.specs.Parts.{events_of}
use Rattle.jfr_meta.specs.Stays.{is_in}
use Rattle.jfr_output.proofs.UsedLaws.{used_before}
use Rattle.jfr_output.proofs.metadata.used_classes.Given as goal

-- The set has the classes of the kept events before this one.
abbrev pub invariant-loop-number : goal.invariant-loop-number
invariant-loop-number l = record {
  ids : (id : ℕ) → is_in l.used.ids id ≡ used_before l.kept (events_of l.chunk) l.number id;
}
