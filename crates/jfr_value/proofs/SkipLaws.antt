-- Where an integer ends, whatever its value is.
use Rattle.std.specs.Prelude.{◌≡◌, ℕ, zero, suc, ◌+◌, ◌-◌, ◌<◌, ◌≤◌, ◌⊎◌, List, ◌∷◌, length, slice_range, slice_index, Option, Some, None, Ok, Err, nat_lt, true, false}
use Rattle.std.specs.Option.{option_map}
use Rattle.std.proofs.Common.{ap, arith, refl, subst, sym, ◌∙◌, inl, inr}
use Rattle.jfr_base.specs.declared.integer.Var.{Var}
use Rattle.jfr_base.specs.declared.reason.Reason.TheVariants.{Short}
use Rattle.jfr_base.specs.Integer.{worth_within}
use Rattle.jfr_base.specs.Formats.{Done, Int, after_int, prefix_length, int_at, integer, run, end_or_flaw, unchecked}
use Rattle.jfr_base.proofs.Ends.{ends_by, ends_past}
use Rattle.jfr_base.proofs.Ranges.{range_cons, range_none}
use Rattle.jfr_text.proofs.ReadSteps.{int_there, done_there}
use Rattle.jfr_layout.specs.declared.kind.Kind.{Kind}
use Rattle.jfr_layout.specs.declared.kind.Kind.TheVariants as kinds
use Rattle.jfr_value.specs.Reading.{base_format}

-- What is computed from an integer doesn't change where it ends.
pub int_made : {A : Type 0} (g : ℕ → List ℕ → A) (x : List ℕ) (end at : ℕ) → end_or_flaw (run integer x end at) ≡ end_or_flaw (run (Int unchecked (λ v s. Done (g v s))) x end at)
unfolding run
int_made {A = A} g x end at = by_int (int_at x at end)
  where
    by_int : (o : Option Var) → end_or_flaw (after_int x at unchecked (λ v s p. run (Done v) x end p) o) ≡ end_or_flaw (after_int x at unchecked (λ v s p. run (Done (g v s)) x end p) o)
    by_int None = refl
    by_int (Some v) = refl

pub base_skipped : (kind : Kind) (x : List ℕ) (end at : ℕ) → (kind ≡ kinds.Char) ⊎ ((kind ≡ kinds.Short) ⊎ ((kind ≡ kinds.Int) ⊎ (kind ≡ kinds.Long)))
    → end_or_flaw (run integer x end at) ≡ end_or_flaw (run (base_format kind) x end at)
base_skipped kind x end at h = int_made nothing x end at ∙ ap (λ f. end_or_flaw (run f x end at)) (is_int h)
  where
    nothing : ℕ → List ℕ → Option ℕ
    nothing v s = None

    is_int : (kind ≡ kinds.Char) ⊎ ((kind ≡ kinds.Short) ⊎ ((kind ≡ kinds.Int) ⊎ (kind ≡ kinds.Long))) → Int unchecked (λ v s. Done (nothing v s)) ≡ base_format kind
    is_int (inl e) = ap base_format (sym e)
    is_int (inr (inl e)) = ap base_format (sym e)
    is_int (inr (inr (inl e))) = ap base_format (sym e)
    is_int (inr (inr (inr e))) = ap base_format (sym e)

-- An integer ends after its last group, if that is there.
int_ends : (x : List ℕ) (end at n : ℕ) → prefix_length 8 (slice_range x at end) ≡ Some n → Ok (at + n) ≡ end_or_flaw (run integer x end at)
unfolding run int_at
int_ends x end at n e = ap (λ o. end_or_flaw
    (after_int x at unchecked (λ v s p. run (Done v) x end p) (option_map (λ n. record { value = worth_within 8 (slice_range x at (at + n)); end = at + n }) o))) (sym e)

int_short : (x : List ℕ) (end at : ℕ) → prefix_length 8 (slice_range x at end) ≡ None → Err (record { offset = at; reason = Short }) ≡ end_or_flaw (run integer x end at)
unfolding run int_at
int_short x end at e = ap (λ o. end_or_flaw
    (after_int x at unchecked (λ v s p. run (Done v) x end p) (option_map (λ n. record { value = worth_within 8 (slice_range x at (at + n)); end = at + n }) o))) (sym e)

-- An integer of the bytes ends by an end, too, that it doesn't pass, and by none that it passes.
pub by_end : (x : List ℕ) (at end to : ℕ) → at ≤ end → end ≤ length x → Ok to ≡ end_or_flaw (run integer x (length x) at) → to ≤ end → Ok to ≡ end_or_flaw (run integer x end at)
unfolding run
by_end x at end to h i e l = by_int (int_at x at (length x)) refl e
  where
    by_int : (o : Option Var) → int_at x at (length x) ≡ o → Ok to ≡ end_or_flaw (after_int x at unchecked (λ v s p. run (Done v) x (length x) p) o)
        → Ok to ≡ end_or_flaw (after_int x at unchecked (λ v s p. run (Done v) x end p) (int_at x at end))
    by_int None q e = cc
    by_int (Some v) q e = let g : to ≡ v.end =
        cc in e ∙ ap (λ o. end_or_flaw (after_int x at unchecked (λ v s p. run (Done v) x end p) o)) (sym (ends_by x at end (length x) v h i (omega arith) (omega arith) q (omega arith)))

pub past_end : (x : List ℕ) (at end to : ℕ) → at ≤ end → end ≤ length x → Ok to ≡ end_or_flaw (run integer x (length x) at) → end < to
    → Err (record { offset = at; reason = Short }) ≡ end_or_flaw (run integer x end at)
unfolding run
past_end x at end to h i e l = by_int (int_at x at (length x)) refl e
  where
    by_int : (o : Option Var) → int_at x at (length x) ≡ o → Ok to ≡ end_or_flaw (after_int x at unchecked (λ v s p. run (Done v) x (length x) p) o)
        → Err (record { offset = at; reason = Short }) ≡ end_or_flaw (after_int x at unchecked (λ v s p. run (Done v) x end p) (int_at x at end))
    by_int None q e = cc
    by_int (Some v) q e = let g : to ≡ v.end =
        cc in ap (λ o. end_or_flaw (after_int x at unchecked (λ v s p. run (Done v) x end p) o)) (sym (ends_past x at end (length x) v h i (omega arith) (omega arith) q (omega arith)))

-- What is known between two groups, after `passed` groups of seven bits.
pub record Skipping (x : List ℕ) (at end passed : ℕ) : Type 0 where
  pub room : passed ≤ 8
  pub same : prefix_length 8 (slice_range x at end) ≡ option_map (λ n. passed + n) (prefix_length (8 - passed) (slice_range x (at + passed) end))

pub skip_start : (x : List ℕ) (at end : ℕ) → Skipping x at end 0
skip_start x at end =
    let z : at + 0 ≡ at = omega arith in
    record { room = omega arith; same = rw z (by_front (prefix_length 8 (slice_range x at end))) }
  where
    by_front : (o : Option ℕ) → o ≡ option_map (λ n. 0 + n) o
    by_front None = refl
    by_front (Some n) = ap (λ z. Some z) (omega arith)

-- At a byte that is there.
at_byte : (x : List ℕ) (at end passed : ℕ) → Skipping x at end passed → at + passed < end → end ≤ length x
    → prefix_length 8 (slice_range x at end) ≡ option_map (λ n. passed + n) (prefix_length (8 - passed) (slice_index x (at + passed) ∷ slice_range x (at + (passed + 1)) end))
at_byte x at end passed s l h =
    let z : (at + passed) + 1 ≡ at + (passed + 1) = omega arith in
    s.same ∙ ap (λ y. option_map (λ n. passed + n) (prefix_length (8 - passed) y)) (range_cons x (at + passed) end l (omega arith) ∙ ap (λ y. slice_index x (at + passed) ∷ slice_range x y end) z)

pub skip_next : (x : List ℕ) (at end passed : ℕ) → Skipping x at end passed → passed < 8 → at + passed < end → end ≤ length x → 128 ≤ slice_index x (at + passed) → Skipping x at end (passed + 1)
skip_next x at end passed s m l h b =
    let t : nat_lt (slice_index x (at + passed)) 128 ≡ false = grind arith in
    let g : 8 - passed ≡ suc (8 - (passed + 1)) = omega arith in
    record {
      room = omega arith;
      same = at_byte x at end passed s l h ∙ (ap (λ k. option_map (λ n. passed + n) (prefix_length k (slice_index x (at + passed) ∷ slice_range x (at + (passed + 1)) end))) g
          ∙ rw t (by_front (prefix_length (8 - (passed + 1)) (slice_range x (at + (passed + 1)) end))));
    }
  where
    by_front : (o : Option ℕ) → option_map (λ n. passed + n) (option_map (λ n. suc n) o) ≡ option_map (λ n. passed + 1 + n) o
    by_front None = refl
    by_front (Some n) = ap (λ z. Some z) (omega arith)

-- After bytes that aren't the last group.
pub skip_all : (x : List ℕ) (at end passed : ℕ) → passed ≤ 8 → at + passed ≤ end → end ≤ length x → ((k : ℕ) → k < passed → 128 ≤ slice_index x (at + k)) → Skipping x at end passed
skip_all x at end zero m l h more = skip_start x at end
skip_all x at end (suc n) m l h more =
    let z : n + 1 ≡ suc n = omega arith in
    subst (Skipping x at end) z (skip_next x at end n (skip_all x at end n (omega arith) (omega (arith, l)) h (λ k i. more k (omega arith))) (omega arith) (omega arith) h (more n (omega arith)))

pub skip_end : (x : List ℕ) (at end passed : ℕ) → Skipping x at end passed → at + passed < end → end ≤ length x → (slice_index x (at + passed) < 128) ⊎ (passed ≡ 8)
    → Ok (at + passed + 1) ≡ end_or_flaw (run integer x end at)
skip_end x at end passed s l h t =
    let z : (at + passed) + 1 ≡ at + (passed + 1) = omega arith in
    ap (λ n. Ok n) z ∙ int_ends x end at (passed + 1) (at_byte x at end passed s l h ∙ ap (option_map (λ n. passed + n)) (by_groups (8 - passed) refl t))
  where
    by_groups : (g : ℕ) → 8 - passed ≡ g → (slice_index x (at + passed) < 128) ⊎ (passed ≡ 8) → prefix_length g (slice_index x (at + passed) ∷ slice_range x (at + (passed + 1)) end) ≡ Some 1
    by_groups zero z t = refl
    by_groups (suc k) z (inl b) = let q : nat_lt (slice_index x (at + passed)) 128 ≡ true = grind arith in rw q refl
    by_groups (suc k) z (inr e) = absurd (omega arith)

pub skip_short : (x : List ℕ) (at end passed : ℕ) → Skipping x at end passed → end ≤ at + passed → Err (record { offset = at; reason = Short }) ≡ end_or_flaw (run integer x end at)
skip_short x at end passed s l = int_short x end at (s.same ∙ ap (λ y. option_map (λ n. passed + n) (prefix_length (8 - passed) y)) (range_none x (at + passed) end l))

-- A key by its integer.
pub key_is : (x : List ℕ) (at end : ℕ) (v : Var) → int_at x at end ≡ Some v → run integer x end at ≡ Ok (record { value = v.value; place = v.end })
key_is x at end v e = int_there x end at (λ w s. Done w) v e ∙ done_there x end v.end v.value
