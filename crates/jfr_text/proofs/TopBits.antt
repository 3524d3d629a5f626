-- The top bits of eight bytes, tested in one word.
use Rattle.std.specs.Prelude.{◌≡◌, ◌↔◌, ℕ, zero, suc, ◌+◌, ◌-◌, ◌*◌, ◌/◌, ◌%◌, ◌<◌, ◌≤◌, List, take, drop, slice_index, slice_range, IsTrue, nat_eq, bit_and}
use Rattle.std.specs.Int.{w64, from_le_bytes}
use Rattle.std.proofs.Common.{ap, refl, subst, sym, arith, inl, inr, ◌∙◌}
use Rattle.std.proofs.lemmas.Bool.{cases_lt, eq-eqb, eqb-true}
use Rattle.std.proofs.lemmas.List.{get_or-take, get_or-drop}
use Rattle.std.proofs.lemmas.Nat.{and_block}
use Rattle.std.proofs.lemmas.Nat.Bits.{and_pow}
use Rattle.jfr_text.specs.Spans.{AreShort}

-- The top bits of k bytes.
abbrev tops : ℕ → ℕ
tops zero = 0
tops (suc n) = tops n * 256 + 128

module _ (byte : ℕ → ℕ) (small : (k : ℕ) → byte k < 256) where
  -- The number that bytes spell from the k-th on, the lowest first.
  abbrev word : ℕ → ℕ → ℕ
  word k zero = 0
  word k (suc n) = word (suc k) n * 256 + byte k

  by_byte : (n k : ℕ) → bit_and (word k (suc n)) (tops (suc n)) ≡ bit_and (word (suc k) n) (tops n) * 256 + (byte k / 128 % 2) * 128
  by_byte n k = and_block 8 (word (suc k) n) (tops n) (byte k) 128 (small k) (omega arith)
      ∙ ap (λ t. bit_and (word (suc k) n) (tops n) * 256 + t) (and_pow (byte k) 7)

  none_set : (n k : ℕ) → ((j : ℕ) → k ≤ j → j < k + n → byte j < 128) → bit_and (word k n) (tops n) ≡ 0
  none_set zero k short = refl
  none_set (suc n) k short =
      let here : byte k < 128 = short k (omega arith) (omega arith) in
      by_byte n k ∙ omega (arith, here, none_set n (suc k) (λ j from to. short j (omega arith) (omega arith)))

  all_short : (n k : ℕ) → bit_and (word k n) (tops n) ≡ 0 → (j : ℕ) → k ≤ j → j < k + n → byte j < 128
  all_short zero k none j from to = absurd (omega arith)
  all_short (suc n) k none j from to =
      let sum : bit_and (word (suc k) n) (tops n) * 256 + (byte k / 128 % 2) * 128 ≡ 0 = sym (by_byte n k) ∙ none in
      let here : byte k < 128 = omega (arith, sum, small k) in
      elim (cases_lt k j) [
        | inl later ↦ all_short n (suc k) (omega (arith, sum)) j later (omega arith)
        | inr now ↦ let same : k ≡ j = omega arith in subst (λ i. byte i < 128) same here
      ]

-- Eight bytes at an offset of a list are short exactly if their word has none of their top bits.
module _ (x y : List ℕ) (at w : ℕ) (small : (k : ℕ) → slice_index x k < 256) (holds : y ≡ take 8 (slice_range x at (at + 8))) (is : w ≡ from_le_bytes w64 y) where
  abbrev byte : ℕ → ℕ
  byte k = slice_index x (at + k)

  small_byte : (k : ℕ) → byte k < 256
  small_byte k = small (at + k)

  byte_is : (k : ℕ) → k < 8 → slice_index y k ≡ byte k
  byte_is k h = ap (λ l. slice_index l k) holds ∙ (get_or-take 8 _ k 0 h ∙ (get_or-take (at + 8 - at) (drop at x) k 0 (omega arith) ∙ get_or-drop at x k 0))

  word_is : w ≡ word byte small_byte 0 8
  word_is = omega (
    arith,
    is,
    byte_is 0 (omega arith),
    byte_is 1 (omega arith),
    byte_is 2 (omega arith),
    byte_is 3 (omega arith),
    byte_is 4 (omega arith),
    byte_is 5 (omega arith),
    byte_is 6
        (omega arith),
    byte_is 7 (omega arith),
  )

  tested : bit_and w 0x8080_8080_8080_8080 ≡ bit_and (word byte small_byte 0 8) (tops 8)
  tested = ap (λ n. bit_and n 0x8080_8080_8080_8080) word_is

  pub no_top_bit : IsTrue (nat_eq (bit_and w 0x8080_8080_8080_8080) 0) ↔ AreShort x at (at + 8)
  no_top_bit = (
    λ none. within (all_short byte small_byte 8 0 (sym tested ∙ eqb-true _ 0 none)),
    λ short. eq-eqb _ 0 (tested ∙ none_set byte small_byte 8 0 (λ j from to. short (at + j) (omega arith) (omega arith))),
  )
    where
      within : ((j : ℕ) → 0 ≤ j → j < 0 + 8 → byte j < 128) → AreShort x at (at + 8)
      within short place from to =
          let here : at + (place - at) ≡ place = omega arith in
          subst (λ p. slice_index x p < 128) here (short (place - at) (omega arith) (omega arith))
