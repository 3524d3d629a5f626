-- Strings if keys are not allowed: only a key is refused, at its kind byte.
use Rattle.std.specs.Prelude.{◌≡◌, ℕ, ◌+◌, ◌<◌, ◌==◌, List, slice_index, nat_lt, true, false, if◌then◌else◌}
use Rattle.std.proofs.Common.{ap, refl, arith}
use Rattle.jfr_base.specs.declared.reason.Reason.TheVariants.{Short, StringKind}
use Rattle.jfr_base.specs.Formats.{checked, refused, run}
use Rattle.jfr_text.specs.Strings.{kind_fault, after_kind, string_format}

same_fault : (kind : ℕ) → (kind ≡ 2 → ⊥) → kind_fault false kind ≡ kind_fault true kind
same_fault kind h = let t : (kind == 2) ≡ false = grind arith in rw t refl

module _ (x : List ℕ) (end at : ℕ) where
  pub keyless_same : (slice_index x at ≡ 2 → ⊥) → run (string_format false) x end at ≡ run (string_format true) x end at
  unfolding run string_format
  keyless_same h = ap (λ o. if nat_lt at end then checked at o (run (after_kind (slice_index x at)) x end (at + 1)) else refused at Short) (same_fault (slice_index x at) h)

  pub keyless_key : at < end → slice_index x at ≡ 2 → run (string_format false) x end at ≡ refused at StringKind
  unfolding run string_format
  keyless_key h e =
      let t : nat_lt at end ≡ true = grind arith in
      rw t (ap (λ k. checked at (kind_fault false k) (run (after_kind k) x end (at + 1))) e)
