-- A leaf that is a number is no masked string.
use Rattle.std.specs.Prelude.{◌≡◌, ◌≢◌, ℕ, Bool, false, true, ◌&&◌, List, Option, None, if◌then◌else◌}
use Rattle.std.specs.Option.{option_map}
use Rattle.std.proofs.Common.{ap, refl, ◌∙◌}
use Rattle.jfr_layout.specs.declared.kind.Kind.{Kind}
use Rattle.jfr_layout.specs.declared.kind.Kind.TheVariants as kinds
use Rattle.jfr_value.specs.declared.leaf.Holder.{Holder}
use Rattle.jfr_value.specs.Leaves.{LeafAt, leaf_target}
use Rattle.jfr_value.specs.Visits.{IsNumber}
use Rattle.jfr_chunk.specs.Parts.{Parts}
use Rattle.jfr_rewrite.specs.Changed.{changed_by_kind, leaf_plain, plain}
use Rattle.jfr_rewrite.specs.Copying.{leaf_becomes}
use Rattle.jfr_rewrite.proofs.NumberLeaves.{number_key}
use Rattle.jfr_mask.specs.Fields.{is_text}
use Rattle.jfr_mask.specs.Masked.{is_string_leaf, masking, string_bytes, string_text}
use Rattle.jfr_mask.specs.Reaching.{target_left}

number_no_string : (l : LeafAt) → IsNumber l → is_string_leaf l.kind ≡ false
number_no_string l n = ap is_string_leaf n.1 ∙ by_kind n.0 n.2
  where
    by_kind : (kind : Kind) → kind ≢ kinds.Text → is_text kind ≡ false
    by_kind kinds.Text m = absurd (m refl)
    by_kind kinds.Boolean m = refl
    by_kind kinds.Byte m = refl
    by_kind kinds.Char m = refl
    by_kind kinds.Short m = refl
    by_kind kinds.Int m = refl
    by_kind kinds.Long m = refl
    by_kind kinds.Float m = refl
    by_kind kinds.Double m = refl
    by_kind kinds.Composite m = refl

and_none : (a b : Bool) → b ≡ false → (a && b) ≡ false
and_none true b e = e
and_none false b e = refl

module _ (masked : Option Holder → Bool) (l : LeafAt) (n : IsNumber l) where
  pub number_not_masked : (masked l.holder && is_string_leaf l.kind) ≡ false
  number_not_masked = and_none (masked l.holder) (is_string_leaf l.kind) (number_no_string l n)

  pub number_keeps : (show : List ℕ → List ℕ) (p : Parts) → leaf_becomes (masking masked show p) l ≡ l.spelled
  number_keeps show p =
      ap (λ k. (changed_by_kind (masking masked show p) l k).spelled) n.1
      ∙ ap (λ b. (if b then plain l.kind (string_bytes (option_map show (string_text p l.class l.spelled (leaf_plain l).key))) None else leaf_plain l).bytes) number_not_masked

  pub number_target : target_left masked l ≡ None
  number_target = ap (λ b. if b then None else leaf_target l) number_not_masked ∙ ap (option_map (λ key. (l.class, key))) (number_key l n)
