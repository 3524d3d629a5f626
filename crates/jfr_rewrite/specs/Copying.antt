-- A value of which single leaves become other bytes, while it is copied.
use Rattle.std.specs.Prelude.{◌≡◌, ℕ, ◌+◌, ◌≤◌, false, List, ◌++◌, length, slice_range}
use Rattle.jfr_base.specs.Integer.{Spells}
use Rattle.jfr_layout.specs.declared.kind.Kind.TheVariants as kinds
use Rattle.jfr_layout.specs.declared.shape.Shape.{Shape}
use Rattle.jfr_value.specs.declared.leaf.LeafKind.TheVariants as leaf_kinds
use Rattle.jfr_value.specs.Leaves.{KeyIsSpelled, LeafAt, leaf_key}
use Rattle.jfr_value.specs.Nodes.{IsNode, node_at}
use Rattle.jfr_value.specs.Values.{Single}
use Rattle.jfr_chunk.specs.Parts.{Parts}
use Rattle.jfr_rewrite.specs.declared.copying.ValueCopy.{ValueCopy}
use Rattle.jfr_rewrite.specs.Changed.{Change, changed_leaf}

-- The bytes that a leaf becomes.
abbrev pub leaf_becomes : Change → LeafAt → List ℕ
leaf_becomes ch l = (changed_leaf ch l).spelled

-- The shape of a leaf that is a string.
abbrev pub string_shape : LeafAt → Shape
string_shape l = record { class = l.class; constant = false; array = false }

-- The leaf lies in the chunk: its bytes are there, they spell its key if it is a reference, and if it is a string, it
-- is a value of the chunk, and its key is spelled after the kind byte.
pub record LiesIn (p : Parts) (l : LeafAt) : Type 0 where
  pub within : l.at + length l.spelled ≤ length p.bytes
  pub bytes : slice_range p.bytes l.at (l.at + length l.spelled) ≡ l.spelled
  pub key : KeyIsSpelled l
  pub reference : (n : ℕ) → l.kind ≡ leaf_kinds.Key n → Spells l.spelled n
  pub string : l.kind ≡ leaf_kinds.Base kinds.Text
      → IsNode p.classes p.bytes (node_at (string_shape l) l.at (l.at + length l.spelled)) (Single (string_shape l) (leaf_kinds.Base kinds.Text) l.spelled (leaf_key (leaf_kinds.Base kinds.Text) l.spelled))

-- If nothing failed, what is written, with the bytes that wait up to a leaf's end, has grown by what the leaf becomes,
-- given where the leaf starts and ends.
abbrev pub Copies : List ℕ → ℕ → ℕ → List ℕ → ValueCopy → ValueCopy → Type 0
Copies bytes at end becomes old new = new.failed ≡ false → (old.failed ≡ false) × (new.out.now.items ++ slice_range bytes new.copied end ≡ (old.out.now.items ++ slice_range bytes old.copied at) ++ becomes)

-- A leaf of the chunk that the change changes so, in the same vector.
abbrev pub CopiesLeaf : Change → Parts → LeafAt → ValueCopy → ValueCopy → Type 0
CopiesLeaf ch p l old new = (new.out.ghost_name ≡ old.out.ghost_name) × Copies p.bytes l.at (l.at + length l.spelled) (leaf_becomes ch l) old new
