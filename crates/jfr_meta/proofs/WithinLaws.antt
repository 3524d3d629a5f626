-- A record that is written if there is room for it.
use Rattle.std.specs.Prelude.{◌≡◌, ℕ, ◌+◌, ◌^◌, ◌<◌, ◌≤◌, Bool, true, false, not, ◌&&◌, ◌||◌, nat_lt, nat_le, List, [], ◌∷◌, ◌++◌, length, map, take, Option, Some, None, Result, Ok, Err, IfOk, IfSome, slice_get, if◌then◌else◌}
use Rattle.std.specs.List.{AllByRecursion, list_all, list_any}
use Rattle.std.specs.Str.{chars}
use lib.Utf8.{scalars}
use Rattle.std.proofs.lemmas.Str.{chars-encodes}
use Rattle.std.proofs.Common.{ap, refl, sym, ◌∙◌, arith, length-append}
use Rattle.std.proofs.lemmas.Bool.Decides.{nat_tests}
use Rattle.jfr_base.specs.Integer.{spell_in}
use Rattle.jfr_meta.specs.Attributes.{text_at}
use Rattle.jfr_meta.specs.Trees.{Tree}
use Rattle.jfr_meta.specs.Body.{Body}
use Rattle.jfr_meta.specs.Written.{HasIndices, IsText, body_bytes, depth, record_bytes, table_bytes}
use Rattle.jfr_meta.specs.Slimmed.{first_changed, renumbered, retabled, slim_body, slim_in, slim_root, table_of, uses}
use Rattle.jfr_meta.specs.NewTables.{added, number_in}
use Rattle.jfr_meta.proofs.Judging.{take_next}
use Rattle.jfr_meta.proofs.NewTableLaws.{added_all}
use Rattle.jfr_meta.proofs.Tables.{retabled_below, retabled_depth, slim_depth}

five_bytes : (v : ℕ) → length (spell_in 5 v) ≡ 5
unfolding spell_in
five_bytes v = refl

pub record_measured : (start duration id : ℕ) (strings : List (List ℕ)) (root : Tree) → length (record_bytes start duration id strings root) ≡ 6 + length (body_bytes start duration id strings root)
record_measured start duration id strings root =
    let b = body_bytes start duration id strings root in
    let n = 6 + length b in
    omega (arith, length-append (spell_in 5 n) (0 ∷ b), five_bytes n)

module _ (x : List ℕ) (n room : ℕ) where
  abbrev pub within : Option (List ℕ)
  within = if nat_lt n (2 ^ 29) && nat_le (length x) room then Some x else None

  pub no_room : room < length x → None ≡ within
  no_room h =
      let e : nat_le (length x) room ≡ false = grind (arith, nat_tests) in
      by_test (nat_lt n (2 ^ 29)) (nat_le (length x) room) e
    where
      by_test : (a b : Bool) → b ≡ false → None ≡ (if a && b then Some x else None)
      by_test true true e = cc
      by_test true false e = refl
      by_test false b e = refl

  pub some_room : n < 2 ^ 29 → length x ≤ room → Some x ≡ within
  some_room a h =
      let e : nat_lt n (2 ^ 29) ≡ true = grind (arith, nat_tests) in
      let f : nat_le (length x) room ≡ true = grind (arith, nat_tests) in
      by_test (nat_lt n (2 ^ 29)) (nat_le (length x) room) e f
    where
      by_test : (a b : Bool) → a ≡ true → b ≡ true → Some x ≡ (if a && b then Some x else None)
      by_test true true e f = refl
      by_test true false e f = cc
      by_test false b e f = cc

pub if_ok_some : {T E : Type 0} (P Q : T → Type 0) (r : Result (Option T) E) → ((x : T) → P x → Q x) → IfOk r (λ found. IfSome found P) → IfOk r (λ found. IfSome found Q)
if_ok_some P Q (Ok None) f h = h
if_ok_some P Q (Ok (Some x)) f h = f x h
if_ok_some P Q (Err e) f h = h

-- One member more.
pub any_next : {A : Type 0} (p : A → Bool) (xs : List A) (i : ℕ) (x : A) → slice_get xs i ≡ Some x → (list_any p (take i xs) || p x) ≡ list_any p (take (i + 1) xs)
any_next p xs i x e = sym (ap (list_any p) (take_next xs i x e) ∙ any_append (take i xs))
  where
    any_append : (ys : List _) → list_any p (ys ++ x ∷ []) ≡ (list_any p ys || p x)
    any_append [] = or_false (p x)
      where
        or_false : (b : Bool) → (b || false) ≡ b
        or_false true = refl
        or_false false = refl
    any_append (y ∷ ys) = by_test (p y) (any_append ys)
      where
        by_test : (b : Bool) → list_any p (ys ++ x ∷ []) ≡ (list_any p ys || p x) → (b || list_any p (ys ++ x ∷ [])) ≡ ((b || list_any p ys) || p x)
        by_test true f = refl
        by_test false f = f

pub changed_next : {A : Type 0} (p : A → Bool) (f : A → A) (xs : List A) (i : ℕ) (x : A) → slice_get xs i ≡ Some x
    → first_changed p f (take i xs) ++ (if not (list_any p (take i xs)) && p x then f x else x) ∷ [] ≡ first_changed p f (take (i + 1) xs)
changed_next {A = A} p f xs i x e = sym (ap (first_changed p f) (take_next xs i x e) ∙ changed_append (take i xs))
  where
    one : (b : Bool) → (if b then f x ∷ [] else x ∷ []) ≡ (if b then f x else x) ∷ []
    one true = refl
    one false = refl

    changed_append : (ys : List A) → first_changed p f (ys ++ x ∷ []) ≡ first_changed p f ys ++ (if not (list_any p ys) && p x then f x else x) ∷ []
    changed_append [] = one (p x)
    changed_append (y ∷ ys) = by_test (p y) (changed_append ys)
      where
        by_test : (b : Bool) → first_changed p f (ys ++ x ∷ []) ≡ first_changed p f ys ++ (if not (list_any p ys) && p x then f x else x) ∷ []
            → (if b then f y ∷ (ys ++ x ∷ []) else y ∷ first_changed p f (ys ++ x ∷ [])) ≡ (if b then f y ∷ ys else y ∷ first_changed p f ys) ++ (if not (b || list_any p ys) && p x then f x else x) ∷ []
        by_test true g = refl
        by_test false g = ap (λ z. y ∷ z) g

-- The slim body.
module _ (b : Body) (stays : ℕ → Bool) where
  abbrev left : Tree
  left = slim_root b.strings stays b.root

  pub slim_strings : (words old : List (List ℕ)) → old ≡ [] → words ≡ added old (map (text_at b.strings) (uses left)) → words ≡ (slim_body b stays).strings
  unfolding slim_body table_of
  slim_strings words old n e = e ∙ (ap (λ z. added z (map (text_at b.strings) (uses left))) n ∙ added_all (map (text_at b.strings) (uses left)))

  pub slim_tree_is : (words : List (List ℕ)) (root : Tree) → words ≡ (slim_body b stays).strings → root ≡ renumbered (number_in words b.strings) left → root ≡ (slim_body b stays).root
  unfolding slim_body retabled
  slim_tree_is words root w e = e ∙ ap (λ z. renumbered (number_in z b.strings) left) w

  pub slim_levels : depth (slim_body b stays).root ≤ depth b.root
  unfolding slim_body
  slim_levels = let e = retabled_depth b.strings left in let h = slim_depth b.strings stays b.root in omega arith

  pub slim_below : HasIndices (length (slim_body b stays).strings) (slim_body b stays).root
  unfolding slim_body
  slim_below = retabled_below b.strings left

  pub slim_answer : (words : List (List ℕ)) (root : Tree) (room : ℕ) → words ≡ (slim_body b stays).strings → root ≡ (slim_body b stays).root
      → (if nat_lt (length (table_bytes words root)) (2 ^ 29) && nat_le (length (record_bytes b.start b.duration b.id words root)) room then Some (record_bytes b.start b.duration b.id words root) else None) ≡ slim_in b stays room
  unfolding slim_in slim_body
  slim_answer words root room w r = λ i. (if nat_lt (length (table_bytes (w i) (r i))) (2 ^ 29) && nat_le (length (record_bytes b.start b.duration b.id (w i) (r i))) room then Some
      (record_bytes b.start b.duration b.id (w i) (r i)) else None)

-- The characters of a text are scalars.
pub scalars_of : (cs : List ℕ) → IsText cs → scalars cs ≡ true
scalars_of cs t =
    let ds = t.1.0 in
    let good : scalars ds ≡ true = t.1.1.0 in
    let same : ds ≡ cs = sym (chars-encodes ds good) ∙ (ap chars t.1.1.1 ∙ t.2) in
    ap scalars (sym same) ∙ good

pub all_scalars : (xs : List (List ℕ)) → AllByRecursion IsText xs → list_all scalars xs ≡ true
all_scalars [] a = refl
all_scalars (x ∷ xs) a = ap (λ b. b && list_all scalars xs) (scalars_of x a.0) ∙ all_scalars xs a.1
