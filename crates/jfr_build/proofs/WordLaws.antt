-- The words of leaves, byte by byte.
use Rattle.std.specs.Prelude.{◌≡◌, ◌≢◌, ℕ, zero, suc, ◌+◌, ◌*◌, ◌<◌, ◌≤◌, ◌==◌, nat_lt, true, false, List, [], ◌∷◌, ◌++◌, length, drop, Option, Some, None, option_map, option_and_then}
use Rattle.std.specs.Option.{option_to_list}
use Rattle.std.proofs.Common.{ap, arith, get_or, refl, sym, ◌∙◌}
use Rattle.std.proofs.lemmas.Bool.Decides.{nat_tests}
use Rattle.std.proofs.lemmas.List.{append_assoc}
use Rattle.jfr_base.specs.Decimal.{below, decimal_number}
use Rattle.jfr_build.specs.declared.quoted.Quoted.{Quoted}
use Rattle.jfr_build.specs.LeafWords.{digits_of, go_on, hex_byte, hex_bytes, hex_of, byte_before, id_after, quoted_from, quoted_step, signed_of}

test_no : (b mark : ℕ) → (b ≡ mark → ⊥) → (b == mark) ≡ false
test_no b mark h = let n : b ≢ mark = h in grind (arith, nat_tests)

-- Without the mark in front there is no id.
pub no_mark : (mark : ℕ) (w : List ℕ) → ((rest : List ℕ) → w ≡ mark ∷ rest → ⊥) → id_after mark w ≡ None
no_mark mark [] h = refl
no_mark mark (c ∷ cs) h = rw (test_no c mark (λ e. h cs (ap (λ z. z ∷ cs) e))) refl

-- Without a minus in front a number isn't negative.
nothing_spelled : decimal_number [] ≡ None
unfolding decimal_number
nothing_spelled = refl

pub no_minus : (half : ℕ) (w : List ℕ) → ((rest : List ℕ) → w ≡ 45 ∷ rest → ⊥) → signed_of half w ≡ option_and_then (below half) (decimal_number w)
no_minus half [] h = sym (ap (option_and_then (below half)) nothing_spelled)
no_minus half (c ∷ cs) h = rw (test_no c 45 (λ e. h cs (ap (λ z. z ∷ cs) e))) refl

-- The digits of a number, with or without a minus in front.
pub digits_after : (w rest : List ℕ) → w ≡ 45 ∷ rest → rest ≡ digits_of w
digits_after w rest e = sym (ap digits_of e)

pub digits_alone : (w : List ℕ) → ((rest : List ℕ) → w ≡ 45 ∷ rest → ⊥) → w ≡ digits_of w
digits_alone [] h = refl
digits_alone (c ∷ cs) h = rw (test_no c 45 (λ e. h cs (ap (λ z. z ∷ cs) e))) refl

pub below_yes : (half n : ℕ) → n < half → below half n ≡ Some n
below_yes half n l = let t : nat_lt n half ≡ true = grind arith in rw t refl

below_no : (half n : ℕ) → half ≤ n → below half n ≡ None
below_no half n l = let t : nat_lt n half ≡ false = grind arith in rw t refl

pub small_number : (half n : ℕ) (w : List ℕ) → ((rest : List ℕ) → w ≡ 45 ∷ rest → ⊥) → decimal_number w ≡ Some n → n < half → signed_of half w ≡ Some n
small_number half n w h e l = no_minus half w h ∙ (ap (option_and_then (below half)) e ∙ below_yes half n l)

pub large_number : (half n : ℕ) (w : List ℕ) → ((rest : List ℕ) → w ≡ 45 ∷ rest → ⊥) → decimal_number w ≡ Some n → half ≤ n → signed_of half w ≡ None
large_number half n w h e l = no_minus half w h ∙ (ap (option_and_then (below half)) e ∙ below_no half n l)

-- The bytes that were read, before those that are left.
abbrev pub bytes_before : List ℕ → Option (List ℕ) → Option (List ℕ)
bytes_before text left = option_map (λ t. text ++ t) left

pub nothing_before : (o : Option (List ℕ)) → bytes_before [] o ≡ o
nothing_before None = refl
nothing_before (Some t) = refl

twice_before : (xs ys : List ℕ) (o : Option (List ℕ)) → bytes_before xs (option_map (λ t. ys ++ t) o) ≡ bytes_before (xs ++ ys) o
twice_before xs ys None = refl
twice_before xs ys (Some t) = ap (λ z. Some z) (sym (append_assoc xs ys t))

drop_get : (xs : List ℕ) (i : ℕ) → i < length xs → drop i xs ≡ get_or xs i 0 ∷ drop (i + 1) xs
drop_get [] i l = absurd (omega arith)
drop_get (x ∷ xs) zero l = refl
drop_get (x ∷ xs) (suc i) l = let h : suc i + 1 ≡ suc (i + 1) = omega arith in rw h (drop_get xs i (omega arith))

-- One byte of a quoted text.
pub quoted_goes : (text bytes : List ℕ) (state next : Quoted) (i : ℕ) (o : Option ℕ) → i < length bytes → quoted_step state (get_or bytes i 0) ≡ Some (next, o)
    → bytes_before text (quoted_from state (drop i bytes)) ≡ bytes_before (text ++ option_to_list o) (quoted_from next (drop (i + 1) bytes))
quoted_goes text bytes state next i o l e =
    ap (λ z. bytes_before text (quoted_from state z)) (drop_get bytes i l)
    ∙ (ap (λ z. bytes_before text (go_on z (λ next. quoted_from next (drop (i + 1) bytes)))) e
    ∙ twice_before text (option_to_list o) (quoted_from next (drop (i + 1) bytes)))

pub quoted_stops : (text bytes : List ℕ) (state : Quoted) (i : ℕ) → i < length bytes → quoted_step state (get_or bytes i 0) ≡ None → bytes_before text (quoted_from state (drop i bytes)) ≡ None
quoted_stops text bytes state i l e =
    ap (λ z. bytes_before text (quoted_from state z)) (drop_get bytes i l) ∙ ap (λ z. bytes_before text (go_on z (λ next. quoted_from next (drop (i + 1) bytes)))) e

-- One byte of two digits.
two_digits : (bytes : List ℕ) (i j k : ℕ) → j ≡ i + 1 → k ≡ j + 1 → j < length bytes → drop i bytes ≡ get_or bytes i 0 ∷ get_or bytes j 0 ∷ drop k bytes
two_digits bytes i j k p q l =
    let e : drop (i + 1) bytes ≡ drop j bytes = ap (λ n. drop n bytes) (sym p) in
    let f : drop (j + 1) bytes ≡ drop k bytes = ap (λ n. drop n bytes) (sym q) in
    drop_get bytes i (omega arith) ∙ ap (λ z. get_or bytes i 0 ∷ z) (e ∙ (drop_get bytes j l ∙ ap (λ z. get_or bytes j 0 ∷ z) f))

pub hex_goes : (out bytes : List ℕ) (i j k b : ℕ) → j ≡ i + 1 → k ≡ j + 1 → j < length bytes → hex_byte (get_or bytes i 0) (get_or bytes j 0) ≡ Some b
    → bytes_before out (hex_bytes (drop i bytes)) ≡ bytes_before (out ++ b ∷ []) (hex_bytes (drop k bytes))
hex_goes out bytes i j k b p q l e =
    ap (λ z. bytes_before out (hex_bytes z)) (two_digits bytes i j k p q l)
    ∙ (ap (λ z. bytes_before out (byte_before z (hex_bytes (drop k bytes)))) e
    ∙ twice_before out (b ∷ []) (hex_bytes (drop k bytes)))

pub hex_stops : (out bytes : List ℕ) (i j : ℕ) → j ≡ i + 1 → j < length bytes → hex_byte (get_or bytes i 0) (get_or bytes j 0) ≡ None → bytes_before out (hex_bytes (drop i bytes)) ≡ None
hex_stops out bytes i j p l e =
    ap (λ z. bytes_before out (hex_bytes z)) (two_digits bytes i j (j + 1) p refl l) ∙ ap (λ z. bytes_before out (byte_before z (hex_bytes (drop (j + 1) bytes)))) e

none_before : (out : List ℕ) (o : Option (List ℕ)) → bytes_before out o ≡ None → o ≡ None
none_before out None e = refl
none_before out (Some b) e = cc

hex_tests : (n : ℕ) (cs : List ℕ) (c d : ℕ) → c ≡ 48 → d ≡ 120 → length cs ≡ 2 * n → hex_of n (c ∷ d ∷ cs) ≡ hex_bytes cs
hex_tests n cs c d p q l =
    let t : (c == 48) ≡ true = grind (arith, nat_tests) in
    let u : (d == 120) ≡ true = grind (arith, nat_tests) in
    let v : (length cs == 2 * n) ≡ true = grind (arith, nat_tests) in
    rw (t, u, v) refl

pub hex_told : (n : ℕ) (w : List ℕ) → length w ≡ 2 + 2 * n → get_or w 0 0 ≡ 48 → get_or w 1 0 ≡ 120 → hex_of n w ≡ hex_bytes (drop 2 w)
hex_told n [] l p q = absurd (omega (arith, l))
hex_told n (c ∷ []) l p q = absurd (omega (arith, l))
hex_told n (c ∷ d ∷ cs) l p q = hex_tests n cs c d p q (omega (arith, l))

pub hex_none : (n : ℕ) (w out : List ℕ) → length w ≡ 2 + 2 * n → get_or w 0 0 ≡ 48 → get_or w 1 0 ≡ 120 → None ≡ bytes_before out (hex_bytes (drop 2 w)) → hex_of n w ≡ None
hex_none n w out l p q e = hex_told n w l p q ∙ none_before out (hex_bytes (drop 2 w)) (sym e)
