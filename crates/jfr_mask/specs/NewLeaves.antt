-- A masked string of the chunk, as the code keeps it until it is written.
use Rattle.std.specs.Prelude.{ℕ, ◌+◌, ◌≤◌, List, length, None, slice_range}
use Rattle.std.specs.Option.{option_map}
use Rattle.jfr_layout.specs.declared.kind.Kind.TheVariants as kinds
use Rattle.jfr_value.specs.declared.leaf.LeafKind.TheVariants as leaf_kinds
use Rattle.jfr_value.specs.Leaves.{LeafAt}
use Rattle.jfr_chunk.specs.Parts.{Parts}
use Rattle.jfr_rewrite.specs.Copying.{LiesIn}
use Rattle.jfr_mask.specs.declared.event_strings.StringAt.{StringAt}
use Rattle.jfr_mask.specs.declared.masker.MaskedLeaf.{MaskedLeaf}
use Rattle.jfr_mask.specs.declared.masker.Masker.{Masker}
use Rattle.jfr_mask.specs.Masked.{string_bytes}
use Rattle.jfr_mask.specs.MaskedLeaves.{leaf_text}
use Rattle.jfr_mask.specs.Maskers.{shown_by}
use Rattle.jfr_mask.specs.Noted.{HasNoted, text_at}

-- The bytes of a string of an event with what is shown for its text.
abbrev pub masked_by : Masker → StringAt → List ℕ
masked_by m s = string_bytes (option_map (shown_by m) (text_at m.strings.chunk.now s))

-- A string of any value, as a leaf again. Its holder doesn't matter any more.
abbrev pub leaf_again : Parts → MaskedLeaf → LeafAt
leaf_again p s = record { kind = leaf_kinds.Base kinds.Text; class = s.class; holder = None; at = s.at; spelled = slice_range p.bytes s.at (s.at + s.len) }

-- Its bytes with what is shown for its text.
abbrev pub new_bytes : Masker → MaskedLeaf → List ℕ
new_bytes m s = string_bytes (option_map (shown_by m) (leaf_text m.strings.chunk.now (leaf_again m.strings.chunk.now s)))

-- It is in the masker's chunk.
pub record CanPut (m : Masker) (s : MaskedLeaf) : Type 0 where
  pub within : s.at + s.len ≤ length m.strings.chunk.now.bytes
  pub lies : LiesIn m.strings.chunk.now (leaf_again m.strings.chunk.now s)
  pub noted : HasNoted m
