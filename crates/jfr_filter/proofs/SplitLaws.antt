-- A text cut at commas, by its bytes and by its characters.
use Rattle.std.specs.Prelude.{◌≡◌, ℕ, suc, ◌<◌, ◌≤◌, Bool, true, false, ◌||◌, ◌&&◌, ◌==◌, ◌⊎◌, if◌then◌else◌, List, [], ◌∷◌, ◌++◌, length, map}
use Rattle.std.specs.List.{list_any, slice_split, onto_first}
use Rattle.std.specs.Borrow.{Bor}
use Rattle.std.specs.Str.{chars, IsUtf8}
use Rattle.std.proofs.Common.{ap, refl, sym, subst, ◌∙◌, arith, get_or, inl, inr, append-nil, true≢false}
use Rattle.std.proofs.lemmas.Bool.{cases_Bool, eqb-true, and_parts}
use Rattle.std.proofs.lemmas.Str.{inside_one, chars-encodes, encodes-chars, scalars-chars, length-le-encodes}
use lib.Utf8.{scalar, scalars, encode, encodes}
use Rattle.jfr_filter.specs.Patterns.{patterns_in, has_empty_part}

abbrev comma : ℕ → Bool
comma b = b == 44

-- The part before the first cut.
abbrev onto_front : List ℕ → List (List ℕ) → List (List ℕ)
onto_front [] parts = parts
onto_front (x ∷ xs) parts = onto_first x (onto_front xs parts)

split_after : (xs ys : List ℕ) → ((k : ℕ) → k < length xs → comma (get_or xs k 0) ≡ false) → slice_split comma (xs ++ ys) ≡ onto_front xs (slice_split comma ys)
split_after [] ys h = refl
split_after (x ∷ xs) ys h =
    let first : comma x ≡ false = h 0 (omega arith) in
    let rest = split_after xs ys (λ k l. h (suc k) (omega arith)) in
    rw first (ap (onto_first x) rest)

front_part : (xs p : List ℕ) (ps : List (List ℕ)) → onto_front xs (p ∷ ps) ≡ (xs ++ p) ∷ ps
front_part [] p ps = refl
front_part (x ∷ xs) p ps = ap (onto_first x) (front_part xs p ps)

some_part : (cs : List ℕ) → (p : List ℕ) × (ps : List (List ℕ)) × (slice_split comma cs ≡ p ∷ ps)
some_part [] = ([], [], refl)
some_part (c ∷ cs) = by_test (comma c) (some_part cs)
  where
    by_test : (t : Bool) → ((p : List ℕ) × (ps : List (List ℕ)) × (slice_split comma cs ≡ p ∷ ps))
        → (p : List ℕ) × (ps : List (List ℕ)) × ((if t then [] ∷ slice_split comma cs else onto_first c (slice_split comma cs)) ≡ p ∷ ps)
    by_test true r = ([], slice_split comma cs, refl)
    by_test false r = (c ∷ r.0, r.1, ap (onto_first c) r.2)

-- No byte of another character is a comma.
no_comma : (c : ℕ) → comma c ≡ false → (k : ℕ) → k < length (encode c) → comma (get_or (encode c) k 0) ≡ false
no_comma c h k l = by_test (cases_Bool (comma (get_or (encode c) k 0)))
  where
    by_test : ((comma (get_or (encode c) k 0) ≡ true) ⊎ (comma (get_or (encode c) k 0) ≡ false)) → comma (get_or (encode c) k 0) ≡ false
    by_test (inl t) =
        let b : get_or (encode c) k 0 ≡ 44 = eqb-true (get_or (encode c) k 0) 44 t in
        let i : c ≡ get_or (encode c) k 0 = inside_one c [] (encode c) k (sym (append-nil (encode c))) l (omega arith) in
        let e : comma c ≡ true = ap comma (i ∙ b) in
        absurd (true≢false (sym e ∙ h))
    by_test (inr f) = f

-- Cut by bytes, the parts are those that were cut by characters.
split_encodes : (cs : List ℕ) → slice_split comma (encodes cs) ≡ map encodes (slice_split comma cs)
unfolding encode
split_encodes [] = refl
split_encodes (c ∷ cs) = by_test (cases_Bool (comma c)) (split_encodes cs)
  where
    by_test : ((comma c ≡ true) ⊎ (comma c ≡ false)) → slice_split comma (encodes cs) ≡ map encodes (slice_split comma cs)
        → slice_split comma (encodes (c ∷ cs)) ≡ map encodes (slice_split comma (c ∷ cs))
    by_test (inl t) i =
        let e : c ≡ 44 = eqb-true c 44 t in
        subst (λ d. slice_split comma (encodes (d ∷ cs)) ≡ map encodes (slice_split comma (d ∷ cs))) (sym e) (ap (λ z. [] ∷ z) i)
    by_test (inr f) i =
        let p = some_part cs in
        let left : slice_split comma (encode c ++ encodes cs) ≡ (encode c ++ encodes p.0) ∷ map encodes p.1 =
        split_after (encode c) (encodes cs) (no_comma c f) ∙ (ap (onto_front (encode c)) (i ∙ ap (map encodes) p.2) ∙ front_part (encode c) (encodes p.0) (map encodes p.1)) in
        let right : slice_split comma (c ∷ cs) ≡ (c ∷ p.0) ∷ p.1 = rw f (ap (onto_first c) p.2) in
        left ∙ sym (ap (map encodes) right)

abbrev EachScalar : List (List ℕ) → Type 0
EachScalar [] = Unit {0}
EachScalar (p ∷ ps) = (scalars p ≡ true) × EachScalar ps

both : (a b : Bool) → a ≡ true → b ≡ true → (a && b) ≡ true
both a b e f = rw (e, f) refl

parts_scalar : (cs : List ℕ) → scalars cs ≡ true → EachScalar (slice_split comma cs)
parts_scalar [] h = (refl, tt)
parts_scalar (c ∷ cs) h = by_test (comma c) (parts_scalar cs (and_parts (scalar c) (scalars cs) h).1)
  where
    onto : (parts : List (List ℕ)) → scalar c ≡ true → EachScalar parts → EachScalar (onto_first c parts)
    onto [] s e = (both (scalar c) true s refl, tt)
    onto (p ∷ ps) s e = (both (scalar c) (scalars p) s e.0, e.1)

    by_test : (t : Bool) → EachScalar (slice_split comma cs) → EachScalar (if t then [] ∷ slice_split comma cs else onto_first c (slice_split comma cs))
    by_test true e = (refl, e)
    by_test false e = onto (slice_split comma cs) (and_parts (scalar c) (scalars cs) h).0 e

read_back : (parts : List (List ℕ)) → EachScalar parts → map chars (map encodes parts) ≡ parts
read_back [] e = refl
read_back (p ∷ ps) e = ap (λ z. z ∷ map chars (map encodes ps)) (chars-encodes p e.0) ∙ ap (λ z. p ∷ z) (read_back ps e.1)

-- The parts' characters are the parts of the characters.
pub split_chars : (bs : List ℕ) → IsUtf8 bs → map chars (slice_split comma bs) ≡ patterns_in (chars bs)
split_chars bs u =
    ap (λ z. map chars (slice_split comma z)) (sym (encodes-chars bs u))
    ∙ (ap (map chars) (split_encodes (chars bs)) ∙ read_back (slice_split comma (chars bs)) (parts_scalar (chars bs) (scalars-chars bs u)))

abbrev is_empty : List ℕ → Bool
is_empty part = length part == 0

same_empty : (p : List ℕ) → is_empty (encodes p) ≡ is_empty p
same_empty [] = refl
same_empty (c ∷ cs) =
    let l : length (c ∷ cs) ≤ length (encodes (c ∷ cs)) = length-le-encodes (c ∷ cs) in
    let e : is_empty (encodes (c ∷ cs)) ≡ false = some_length (length (encodes (c ∷ cs))) (omega arith) in
    let f : is_empty (c ∷ cs) ≡ false = some_length (length (c ∷ cs)) (omega arith) in
    e ∙ sym f
  where
    some_length : (n : ℕ) → 0 < n → (n == 0) ≡ false
    some_length n h = grind arith

empties : (parts : List (List ℕ)) → list_any is_empty (map encodes parts) ≡ list_any is_empty parts
empties [] = refl
empties (p ∷ ps) = ap (λ b. b || list_any is_empty (map encodes ps)) (same_empty p) ∙ ap (λ b. is_empty p || b) (empties ps)

-- A part is empty by its bytes exactly if it is by its characters.
pub split_empty : (bs : List ℕ) → IsUtf8 bs → list_any is_empty (slice_split comma bs) ≡ has_empty_part (chars bs)
split_empty bs u =
    ap (λ z. list_any is_empty (slice_split comma z)) (sym (encodes-chars bs u))
    ∙ (ap (list_any is_empty) (split_encodes (chars bs)) ∙ empties (slice_split comma (chars bs)))

pub map_now : (parts : List (Bor (List ℕ))) → map (λ part. chars part.now) parts ≡ map chars (map (λ part. part.now) parts)
map_now [] = refl
map_now (p ∷ ps) = ap (λ z. chars p.now ∷ z) (map_now ps)
