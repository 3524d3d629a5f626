-- Characters that are added to a text.
use Rattle.std.specs.Prelude.{◌≡◌, ℕ, zero, suc, ◌+◌, ◌*◌, ◌<◌, ◌≤◌, true, List, [], ◌∷◌, ◌++◌, IsTrue, nat_lt, replicate, take}
use Rattle.std.specs.List.{list_all}
use Rattle.std.specs.Str.{chars, IsUtf8, IsAscii}
use Rattle.std.proofs.Common.{ap, arith, refl, sym, ◌∙◌}
use Rattle.std.proofs.lemmas.Bool.{and_parts}
use Rattle.std.proofs.lemmas.Bool.Decides.{nat_tests}
use Rattle.std.proofs.lemmas.List.{append_assoc, append-nil, take-replicate}
use Rattle.std.proofs.lemmas.Str.{chars-append, chars-encodes, chars-IsAscii}
use lib.Utf8.{scalar, scalars, encode}

pub grown : (was old new more : List ℕ) → chars old ≡ was → IsUtf8 old → new ≡ old ++ more → chars new ≡ was ++ chars more
grown was old new more v u e = ap chars e ∙ (chars-append old more u ∙ ap (λ z. z ++ chars more) v)

pub grown_plain : (was old new more : List ℕ) → chars old ≡ was → IsUtf8 old → IsAscii more → new ≡ old ++ more → chars new ≡ was ++ more
grown_plain was old new more v u a e = grown was old new more v u e ∙ ap (λ z. was ++ z) (chars-IsAscii more a)

pub plain_ascii : (bs : List ℕ) → IsTrue (list_all (λ b. nat_lt b 128) bs) → IsAscii bs
plain_ascii [] h i = omega arith
plain_ascii (b ∷ bs) h zero = let p = (and_parts (nat_lt b 128) (list_all (λ b. nat_lt b 128) bs) h).0 in grind (arith, nat_tests)
plain_ascii (b ∷ bs) h (suc i) = plain_ascii bs (and_parts (nat_lt b 128) (list_all (λ b. nat_lt b 128) bs) h).1 i

pub grown_char : (was old new : List ℕ) (c : ℕ) → chars old ≡ was → IsUtf8 old → scalar c ≡ true → new ≡ old ++ encode c → chars new ≡ was ++ c ∷ []
grown_char was old new c v u s e =
    let t : scalars (c ∷ []) ≡ true = rw s in
    let one : chars (encode c) ≡ c ∷ [] = ap chars (sym (append-nil (encode c))) ∙ chars-encodes (c ∷ []) t in
    grown was old new (encode c) v u e ∙ ap (λ z. was ++ z) one

-- Two spaces for each level.
abbrev spaces : ℕ → List ℕ
spaces n = replicate n 32

abbrev two : List ℕ
two = 32 ∷ 32 ∷ []

two_more : (m : ℕ) → spaces m ++ two ≡ spaces (suc (suc m))
two_more zero = refl
two_more (suc m) = ap (λ (z : List ℕ). 32 ∷ z) (two_more m)

pub indent_more : (start now : List ℕ) (n : ℕ) → now ≡ start ++ replicate (2 * n) 32 → now ++ 32 ∷ 32 ∷ [] ≡ start ++ replicate (2 * (n + 1)) 32
indent_more start now n e = ap (λ z. z ++ two) e
    ∙ (append_assoc start (spaces (2 * n)) two ∙ ap (λ z. start ++ z) (two_more (2 * n) ∙ (let q : suc (suc (2 * n)) ≡ 2 * (n + 1) = omega arith in ap spaces q)))

pub indent_part : (start now : List ℕ) (n level : ℕ) → n < level → now ≡ start ++ replicate (2 * n) 32 → (k : ℕ) × (now ≡ start ++ take k (replicate (2 * level) 32))
indent_part start now n level less e =
    let bound : 2 * n ≤ 2 * level = omega arith in
    (2 * n, e ∙ ap (λ z. start ++ z) (sym (take-replicate (2 * n) (2 * level) 32 bound)))
