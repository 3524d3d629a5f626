-- Patterns without wildcards, and the index of a list of patterns.
use Rattle.std.specs.Prelude.{◌≡◌, ℕ, zero, suc, ◌+◌, Bool, true, false, ◌&&◌, ◌||◌, ◌==◌, cond, List, [], ◌∷◌, ◌++◌, take, slice_get, Some, String}
use Rattle.std.specs.BTreeSet as sorted
use Rattle.std.specs.BTreeSet.{BTreeSet, contains_text}
use Rattle.std.specs.BTreeMap.{is_at}
use Rattle.std.specs.Cmp.Lexicographic.{slice_cmp}
use Rattle.std.specs.List.{list_any}
use Rattle.std.specs.Ordering.{nat_cmp}
use Rattle.std.specs.Str.{bytes_eq, chars, IsUtf8}
use Rattle.std.specs.String.{string_bytes, string_cmp}
use Rattle.std.proofs.Common.{ap, refl, sym, ◌∙◌, arith}
use Rattle.std.proofs.lemmas.Bool.{and_parts}
use Rattle.std.proofs.lemmas.Map.Text.{btree_set_updates_text}
use Rattle.std.proofs.lemmas.Slice.Eq.{bytes_eq-Decides}
use Rattle.std.proofs.lemmas.Str.{encodes-chars}
use lib.Utf8.{encodes}
use Rattle.jfr_filter.specs.Indexes.{any_at, is_match_at}
use Rattle.jfr_filter.specs.Patterns.{glob, has_wildcard}
use Rattle.jfr_filter.proofs.GlobLaws.{first_is, same_bool}

neither : (a b : Bool) → (a || b) ≡ false → (a ≡ false) × (b ≡ false)
neither true b e = cc
neither false b e = (refl, e)

both : (a b : Bool) → a ≡ true → b ≡ true → (a && b) ≡ true
both a b e f = rw (e, f) refl

-- ---- patterns without wildcards

-- The first character is no wildcard, and the others are none.
parts : (p : ℕ) (ps : List ℕ) → has_wildcard (p ∷ ps) ≡ false → ((p == 42) ≡ false) × ((p == 63) ≡ false) × (has_wildcard ps ≡ false)
parts p ps e =
    let outer = neither (p == 42 || p == 63) (has_wildcard ps) e in
    let inner = neither (p == 42) (p == 63) outer.0 in
    (inner.0, inner.1, outer.1)

not_star : (p : ℕ) → (p == 42) ≡ false → p ≡ 42 → ⊥
not_star p e h = grind arith

-- It matches itself.
glob_itself : (p : List ℕ) → has_wildcard p ≡ false → glob p p ≡ true
unfolding glob
glob_itself [] e = refl
glob_itself (c ∷ cs) e =
    let h = parts c cs e in
    let here : (c == 63 || c == c) ≡ true = grind arith in
    first_is c cs (c ∷ cs) (not_star c h.0) ∙ both (c == 63 || c == c) (glob cs cs) here (glob_itself cs h.2)

same_first : (p c : ℕ) → (p == 63) ≡ false → (p == 63 || p == c) ≡ true → p ≡ c
same_first p c e h = grind arith

-- It matches nothing else.
glob_only : (p t : List ℕ) → has_wildcard p ≡ false → glob p t ≡ true → p ≡ t
unfolding glob
glob_only [] [] e g = refl
glob_only [] (c ∷ cs) e g = cc
glob_only (p ∷ ps) [] e g =
    let h = parts p ps e in
    let clash : false ≡ true = sym (first_is p ps [] (not_star p h.0)) ∙ g in
    cc
glob_only (p ∷ ps) (c ∷ cs) e g =
    let h = parts p ps e in
    let both = and_parts (p == 63 || p == c) (glob ps cs) (sym (first_is p ps (c ∷ cs) (not_star p h.0)) ∙ g) in
    ap (λ x. x ∷ ps) (same_first p c h.1 both.0) ∙ ap (λ xs. c ∷ xs) (glob_only ps cs h.2 both.1)

-- It matches a text exactly if their bytes are equal.
exact_glob : (pattern text : List ℕ) → IsUtf8 pattern → IsUtf8 text → has_wildcard (chars pattern) ≡ false → bytes_eq pattern text ≡ glob (chars pattern) (chars text)
exact_glob pattern text u v e = same_bool (bytes_eq pattern text) (glob (chars pattern) (chars text))
    (λ h. ap (λ z. glob (chars pattern) (chars z)) (sym ((bytes_eq-Decides pattern text).0 h)) ∙ glob_itself (chars pattern) e)
    (λ h. (bytes_eq-Decides pattern text).1 (sym (encodes-chars pattern u) ∙ (ap encodes (glob_only (chars pattern) (chars text) e h) ∙ encodes-chars text v)))

-- ---- one pattern more

cond_or : (g s b : Bool) → (cond g true s || b) ≡ ((s || b) || g)
cond_or true true b = refl
cond_or true false true = refl
cond_or true false false = refl
cond_or false true b = refl
cond_or false false true = refl
cond_or false false false = refl

pub exact_added : {Y : Type 0} (pattern text : List ℕ) (old new : BTreeSet (String Y)) (b : Bool) → IsUtf8 pattern → IsUtf8 text → has_wildcard (chars pattern) ≡ false
    → sorted.UpdatesBy string_cmp (λ k. slice_cmp nat_cmp pattern (string_bytes k)) old new true → (contains_text new text || b) ≡ ((contains_text old text || b) || glob (chars pattern) (chars text))
exact_added pattern text old new b u v e up =
    ap (λ z. z || b) (btree_set_updates_text pattern old new true up text)
    ∙ (cond_or (bytes_eq pattern text) (contains_text old text) b ∙ ap (λ z. (contains_text old text || b) || z) (exact_glob pattern text u v e))

or_last : (a b : Bool) → (a || (b || false)) ≡ (a || b)
or_last true b = refl
or_last false true = refl
or_last false false = refl

or_assoc : (a b c : Bool) → (a || (b || c)) ≡ ((a || b) || c)
or_assoc true b c = refl
or_assoc false b c = refl

any_push : {X : Type 0} (f : X → Bool) (xs : List X) (x : X) → list_any f (xs ++ x ∷ []) ≡ (list_any f xs || f x)
any_push f [] x = or_last false (f x)
any_push f (y ∷ ys) x = ap (λ b. f y || b) (any_push f ys x) ∙ or_assoc (f y) (list_any f ys) (f x)

pub glob_added : (patterns : List (List ℕ)) (pattern text : List ℕ) (numbers : List ℕ) (number : ℕ) (b : Bool) → slice_get patterns number ≡ Some pattern
    → (b || any_at patterns text (numbers ++ number ∷ [])) ≡ ((b || any_at patterns text numbers) || glob pattern text)
glob_added patterns pattern text numbers number b e =
    let here : is_match_at patterns text number ≡ glob pattern text = rw e refl in
    ap (λ z. b || z) (any_push (is_match_at patterns text) numbers number ∙ ap (λ z. any_at patterns text numbers || z) here)
    ∙ or_assoc b (any_at patterns text numbers) (glob pattern text)

-- The first ones, and one more.
pub any_take : {X : Type 0} (f : X → Bool) (xs : List X) (i : ℕ) (x : X) → slice_get xs i ≡ Some x → list_any f (take (i + 1) xs) ≡ (list_any f (take i xs) || f x)
any_take f [] i x e = cc
any_take f (y ∷ ys) zero x e = let h : y ≡ x = cc in ap (λ z. z || false) (ap f h) ∙ or_last false (f x)
any_take f (y ∷ ys) (suc i) x e =
    let h : suc i + 1 ≡ suc (i + 1) = omega arith in
    rw h (ap (λ b. f y || b) (any_take f ys i x e) ∙ or_assoc (f y) (list_any f (take i ys)) (f x))

pub nothing_found : {Y : Type 0} (exact : BTreeSet (String Y)) (numbers : List ℕ) (patterns : List (List ℕ)) (text : List ℕ) → sorted.IsEmpty exact → numbers ≡ []
    → (contains_text exact text || any_at patterns (chars text) numbers) ≡ false
nothing_found exact numbers patterns text e f =
    ap (λ keys. list_any (is_at (λ k. slice_cmp nat_cmp text (string_bytes k))) keys || any_at patterns (chars text) numbers) e
    ∙ ap (any_at patterns (chars text)) f
