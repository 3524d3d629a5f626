-- The masked strings in a node are strings of the chunk.
use Rattle.std.specs.Prelude.{◌≡◌, ◌+◌, Bool, true, false, List, [], ◌∷◌, length, nat_lt, Option, None, Some, slice_range, if◌then◌else◌}
use Rattle.std.specs.List.{AllByRecursion, cons_option, filter_map}
use Rattle.std.proofs.Common.{ap, refl, sym, ◌∙◌}
use Rattle.jfr_layout.specs.Classes.{Sound}
use Rattle.jfr_value.specs.declared.leaf.Holder.{Holder}
use Rattle.jfr_value.specs.declared.leaf.LeafKind.{LeafKind}
use Rattle.jfr_value.specs.Leaves.{LeafAt, leaf_key, leaves}
use Rattle.jfr_value.specs.Nodes.{IsNode, NodeAt}
use Rattle.jfr_value.specs.Values.{Value}
use Rattle.jfr_chunk.specs.Parts.{AreParts, Parts}
use Rattle.jfr_chunk.proofs.HasNodesLaws.{has_nodes}
use Rattle.jfr_chunk.proofs.TestLaws.{right_true}
use Rattle.jfr_rewrite.specs.Copying.{LiesIn}
use Rattle.jfr_rewrite.proofs.LaidLeaves.{node_lies}
use Rattle.jfr_mask.specs.EventStrings.{long_at, masked_at, string_at, strings_in}
use Rattle.jfr_mask.specs.Masked.{is_string_leaf, string_text}
use Rattle.jfr_mask.specs.MaskedLeaves.{is_masked_leaf, leaf_text}
use Rattle.jfr_mask.specs.Noted.{IsStringIn, text_at}
use Rattle.jfr_mask.proofs.LeafMasks.{string_lies, text_leaf, without_holder}

-- A leaf that is a string is one of the chunk's, if it lies in the chunk.
pub string_in : (p : Parts) (l : LeafAt) → is_string_leaf l.kind ≡ true → LiesIn p l → IsStringIn p (string_at l)
string_in p l k h = record { within = h.within; lies = string_lies p l (slice_range p.bytes l.at (l.at + length l.spelled)) k h.bytes h }

-- The text of a leaf that is a string, read where it is.
pub text_same : (p : Parts) (l : LeafAt) → is_string_leaf l.kind ≡ true → LiesIn p l → text_at p (string_at l) ≡ leaf_text p l
text_same p l k h =
    ap (λ z. leaf_text p (without_holder l z)) h.bytes
    ∙ ap (λ (z : LeafKind). string_text p l.class l.spelled (leaf_key z l.spelled)) (sym (text_leaf l.kind k))

module _ (masked : Option Holder → Bool) (p : Parts) where
  -- A masked leaf is a string.
  pub masked_string : (l : LeafAt) → is_masked_leaf masked l ≡ true → is_string_leaf l.kind ≡ true
  masked_string l m = right_true (masked l.holder) (is_string_leaf l.kind) m

  all_in : (ls : List LeafAt) → AllByRecursion (LiesIn p) ls → AllByRecursion (IsStringIn p) (filter_map (masked_at masked) ls)
  all_in [] h = tt
  all_in (l ∷ ls) h = by_mask (is_masked_leaf masked l) refl (all_in ls h.1)
    where
      by_mask : (b : Bool) → is_masked_leaf masked l ≡ b → AllByRecursion (IsStringIn p) (filter_map (masked_at masked) ls)
          → AllByRecursion (IsStringIn p) (cons_option (if b then long_at l else None) (filter_map (masked_at masked) ls))
      by_mask true m rest = by_length (nat_lt 1 (length l.spelled))
        where
          by_length : (b : Bool) → AllByRecursion (IsStringIn p) (cons_option (if b then Some (string_at l) else None) (filter_map (masked_at masked) ls))
          by_length true = (string_in p l (masked_string l m) h.0, rest)
          by_length false = rest
      by_mask false m rest = rest

  -- Those in a node of a chunk are.
  pub strings_are_in : AreParts p → (n : NodeAt) (v : Value) → IsNode p.classes p.bytes n v → AllByRecursion (IsStringIn p) (strings_in masked p n)
  strings_are_in a n v i = let sound : Sound p.classes = (has_nodes p a).sound in all_in (leaves p.classes p.bytes n) (node_lies p sound p.classes p.bytes n v refl refl i)
