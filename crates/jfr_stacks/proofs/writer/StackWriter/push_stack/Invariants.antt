use Rattle.std.proofs.Common.{◌≡◌, ◌++◌, vec_len}
use Rattle.std.specs.List.{AllByRecursion}
use Rattle.std.specs.Prelude.{string_bytes}
use Rattle.jfr_stacks.specs.Frames.{IsChunkValue}
use Rattle.jfr_stacks.specs.Roles.{WritesFor}
use Rattle.jfr_stacks.proofs.TextLaws.{rest_text}
use Rattle.jfr_stacks.proofs.writer.StackWriter.push_stack.Given as goal

-- The text so far, with the frames that are left.
abbrev pub invariant-frames : goal.invariant-frames
invariant-frames l = record {
  values : AllByRecursion (IsChunkValue l.chunk) l.frames.items;
  ready : WritesFor l.chunk l.self.frames;
  left : string_bytes l.self.text ++ rest_text l.chunk l.frames.items ≡ string_bytes l.initial.self.text ++ rest_text l.chunk l.initial.frames.items;
}

-- A frame is taken each time.
abbrev pub decreases-frames : goal.decreases-frames
decreases-frames l = vec_len l.frames
