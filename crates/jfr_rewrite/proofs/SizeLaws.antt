-- The size of a record that is put in its place.
use Rattle.std.specs.Prelude.{◌≡◌, ℕ, ◌+◌, ◌*◌, ◌-◌, ◌<◌, ◌≤◌, ◌^◌, ◌/◌, ◌%◌, ◌↔◌, List, [], ◌∷◌, ◌++◌, drop, length, set, take, nat_eq, IsTrue, Result, Ok, Err}
use Rattle.std.proofs.Common.{ap, arith, refl, sym, ◌∙◌, subst, inl, inr, append_assoc, length-append}
use Rattle.std.proofs.Math.Nat.{div-lt_iff_lt-mul, div-eq_of_lt}
use Rattle.std.proofs.lemmas.Bool.Decides.{nat_tests}
use Rattle.std.proofs.lemmas.List.{drop-drop, drop-set, length-drop, length-take-le, set-append_right, take-append-drop, take-set}
use Rattle.std.proofs.lemmas.Nat.{pow_pos}
use Rattle.jfr_base.specs.Integer.{FitsIn, spell_in}
use Rattle.jfr_frame.specs.declared.framed.Framed.{Framed}
use Rattle.jfr_output.proofs.Widths.{spelled_fits}
use Rattle.jfr_rewrite.specs.Rewrite.{Rewrite, resized}
use Rattle.jfr_rewrite.specs.Rewritten.{Carries, CarriesTail}
use Rattle.jfr_rewrite.specs.Writing.{Wrote}
use Rattle.jfr_rewrite.specs.declared.fault.WriteFault.{WriteFault}
use Rattle.jfr_rewrite.specs.declared.fault.WriteFault.TheVariants as faults
use Rattle.jfr_rewrite.proofs.Sizes.{in_length}

-- The byte at this place, and those around it.
set_parts : (xs : List ℕ) (i y : ℕ) → i < length xs → set xs i y ≡ take i xs ++ (y ∷ drop (i + 1) xs)
set_parts xs i y h = sym (take-append-drop i (set xs i y)) ∙ (ap (λ z. z ++ drop i (set xs i y)) (take-set xs i y) ∙ ap (λ z. take i xs ++ z) (drop-set xs i y h))

-- A size of one byte, put there.
pub size_put : (xs : List ℕ) (i size : ℕ) → i < length xs → set xs i size ≡ take i xs ++ (spell_in 1 size ++ drop (i + 1) xs)
unfolding spell_in
size_put xs i size h = set_parts xs i size h

-- A size of two bytes, put there.
pub size_put_two : (xs : List ℕ) (i size : ℕ) → i + 2 ≤ length xs → set (set xs i (size % 128 + 128)) (i + 1) (size / 128) ≡ take i xs ++ (spell_in 2 size ++ drop (i + 2) xs)
unfolding spell_in
size_put_two xs i size h =
    let low = size % 128 + 128 in
    let high = size / 128 in
    let rest : List ℕ = drop (i + 1) xs in
    let next : i + 1 - i ≡ 1 = omega arith in
    let after : i + 1 + 1 ≡ i + 2 = omega arith in
    ap (λ z. set z (i + 1) high) (set_parts xs i low (omega (arith, h)))
    ∙ (set-append_right (take i xs) (low ∷ rest) i (i + 1) high (length-take-le i xs (omega (arith, h))) (omega arith)
    ∙ (ap (λ n. take i xs ++ set (low ∷ rest) n high) next
    ∙ ap (λ z. take i xs ++ (low ∷ z)) (set_parts rest 0 high (omega (arith, h, length-drop (i + 1) xs))
    ∙ ap (λ z. high ∷ z) (drop-drop 1 (i + 1) xs ∙ ap (λ n. drop n xs) after))))

-- An integer below a power of two is shifted to 0.
pub fits_is_shifted : (v n : ℕ) → (n ≡ 9 → ⊥) → IsTrue (nat_eq (v / 2 ^ (7 * n)) 0) ↔ FitsIn v n
fits_is_shifted v n other = (λ t. inl (below t), by_fit)
  where
    below : IsTrue (nat_eq (v / 2 ^ (7 * n)) 0) → v < 2 ^ (7 * n)
    below t =
        let e : v / 2 ^ (7 * n) ≡ 0 = grind (arith, nat_tests) in
        let h = (div-lt_iff_lt-mul {k = 2 ^ (7 * n)} {x = v} {y = 1} (pow_pos (7 * n))).0 (omega (arith, e)) in
        omega (arith, h)

    by_fit : FitsIn v n → IsTrue (nat_eq (v / 2 ^ (7 * n)) 0)
    by_fit (inl h) = ap (λ z. nat_eq z 0) (div-eq_of_lt h)
    by_fit (inr e) = absurd (other e)

-- A size that is carried fits.
carries_fits : (w n : ℕ) → Carries w n → FitsIn (w + n) w
carries_fits w n s = subst (FitsIn (w + n)) (in_length w (w + n)) (spelled_fits (spell_in w (w + n)) (w + n) (w + n) s (omega arith))

-- The record from `start` on, after whose old size there is the rest.
module _ (w : Rewrite) (r : Framed) (xs : List ℕ) (start : ℕ) (there : start + (r.type_at - r.at) ≤ length xs) where
  abbrev room : ℕ
  room = r.type_at - r.at

  abbrev rest : List ℕ
  rest = drop (start + room) xs

  rest_length : (len : ℕ) → len ≡ length xs → len - start - room ≡ length rest
  rest_length len l = omega (arith, l, length-drop (start + room) xs)

  width_same : (width len : ℕ) → len ≡ length xs → width ≡ w.width r (len - start - room) → width ≡ w.width r (length rest)
  width_same width len l e = e ∙ ap (w.width r) (rest_length len l)

  pub not_carried : (width len : ℕ) → len ≡ length xs → width ≡ w.width r (len - start - room) → (FitsIn (width + (len - start - room)) width → ⊥) → CarriesTail w r rest → ⊥
  not_carried width len l e unfit carried =
      let f : FitsIn (w.width r (length rest) + length rest) (w.width r (length rest)) = carries_fits (w.width r (length rest)) (length rest) carried in
      unfit (subst (λ z. FitsIn (z + (len - start - room)) z) (sym (width_same width len l e))
      (subst (λ z. FitsIn (w.width r (length rest) + z) (w.width r (length rest))) (sym (rest_length len l)) f))

  longer : (width len : ℕ) (after : List ℕ) → len ≡ length xs → width ≡ w.width r (len - start - room) → 1 ≤ width → after ≡ take start xs ++ resized w r rest → start < length after
  longer width len after l e some h =
      let size : List ℕ = spell_in (w.width r (length rest)) (w.width r (length rest) + length rest) in
      omega (
        arith,
        there,
        some,
        width_same width len l e,
        ap length h,
        length-append (take start xs) (size ++ rest),
        length-append size rest,
        in_length (w.width r (length rest))
            (w.width r (length rest) + length rest),
        length-take-le start xs (omega (arith, there)),
      )

  pub replaced : (width len : ℕ) (after : List ℕ) → len ≡ length xs → width ≡ w.width r (len - start - room) → 1 ≤ width
      → after ≡ take start xs ++ (spell_in width (width + (length xs - start - room)) ++ rest)
      → (after ≡ take start xs ++ resized w r rest) × (start < length after)
  replaced width len after l e some h =
      let q : after ≡ take start xs ++ resized w r rest =
      h ∙ (ap (λ z. take start xs ++ (spell_in width (width + z) ++ rest)) (rest_length (length xs) refl)
      ∙ ap (λ z. take start xs ++ (spell_in z (z + length rest) ++ rest)) (width_same width len l e)) in
      (q, longer width len after l e some q)

  pub stayed : (width len : ℕ) (after : List ℕ) → len ≡ length xs → width ≡ w.width r (len - start - room) → 1 ≤ width → width ≡ room
      → after ≡ take start xs ++ (spell_in width (length xs - start) ++ drop (start + width) xs)
      → (after ≡ take start xs ++ resized w r rest) × (start < length after)
  stayed width len after l e some same h =
      let size : length xs - start ≡ width + (length xs - start - room) = omega (arith, there, same) in
      replaced width len after l e some (h ∙ (ap (λ z. take start xs ++ (spell_in width z ++ drop (start + width) xs)) size
      ∙ ap (λ z. take start xs ++ (spell_in width (width + (length xs - start - room)) ++ drop (start + z) xs)) same))

-- A result of which more is known is one of which less is.
pub wrote_weaker : {A : Type 0} (result : Result A WriteFault) {P Q : A → Type 0} {C D : Type 0} → ((x : A) → P x → Q x) → (D → C) → Wrote result P C → Wrote result Q D
wrote_weaker (Ok x) f g h = f x h
wrote_weaker (Err faults.Memory) f g h = tt
wrote_weaker (Err faults.TooLong) f g h = λ d. h (g d)

front_taken : (old new : List ℕ) → take (length old) (old ++ new) ≡ old
front_taken [] new = refl
front_taken (x ∷ old) new = ap (λ z. x ∷ z) (front_taken old new)

front_dropped : (old new : List ℕ) → drop (length old) (old ++ new) ≡ new
front_dropped [] new = refl
front_dropped (x ∷ old) new = front_dropped old new

both_dropped : (old a t : List ℕ) → drop (length old + length a) (old ++ (a ++ t)) ≡ t
both_dropped old a t =
    let e : length (old ++ a) ≡ length old + length a = length-append old a in
    ap (λ n. drop n (old ++ (a ++ t))) (sym e) ∙ (ap (drop (length (old ++ a))) (sym (append_assoc old a t)) ∙ front_dropped (old ++ a) t)

-- A record with its old size, and a tail, that was appended.
module _ (w : Rewrite) (r : Framed) (old a t o : List ℕ) (start : ℕ) (s : start ≡ length old) (l : length a ≡ r.type_at - r.at) (e : o ≡ old ++ (a ++ t)) where
  pub size_within : start + (r.type_at - r.at) ≤ length o
  size_within = omega (arith, s, l, ap length e, length-append old (a ++ t), length-append a t)

  pub sized_last : {A : Type 0} (result : Result A WriteFault) (last : List ℕ)
      → Wrote result (λ x. (last ≡ take start o ++ resized w r (drop (start + (r.type_at - r.at)) o)) × (start < length last)) (CarriesTail w r (drop (start + (r.type_at - r.at)) o))
      → Wrote result (λ x. (last ≡ old ++ resized w r t) × (length old < length last)) (CarriesTail w r t)
  sized_last result last h =
      let f : take start o ≡ old = ap (λ z. take z o) s ∙ (ap (take (length old)) e ∙ front_taken old (a ++ t)) in
      let d : drop (start + (r.type_at - r.at)) o ≡ t =
      ap (λ z. drop (z + (r.type_at - r.at)) o) s ∙ (ap (λ z. drop (length old + z) o) (sym l) ∙ (ap (drop (length old + length a)) e ∙ both_dropped old a t)) in
      wrote_weaker result (λ x k. (k.0 ∙ (ap (λ z. z ++ resized w r (drop (start + (r.type_at - r.at)) o)) f ∙ ap (λ z. old ++ resized w r z) d), subst (λ z. z < length last) s k.1))
      (λ k. subst (CarriesTail w r) (sym d) k) h
