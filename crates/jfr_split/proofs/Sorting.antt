-- Lists in byte order with the same elements are equal.
use Rattle.std.proofs.Common.{◌≡◌, ℕ, suc, ◌+◌, ◌<◌, refl, sym, ◌∙◌, ap, subst, Bool, true, false, cond, T, List, [], ◌∷◌, length, map, Less, Equal, Greater, Ordering, String, string_bytes, arith}
use Rattle.std.specs.Ordering.{is_lt, ordering_reverse}
use Rattle.std.specs.Str.{bytes_eq}
use Rattle.std.specs.List.{AllByRecursion, sum_by}
use Rattle.std.specs.List.Sorted.{IsSorted}
use Rattle.std.specs.FinMap.{slice_cmp-IsAntisymmetric, nat_cmp-IsAntisymmetric, is_sorted}
use Rattle.std.specs.FinMap.Entries.{below_all}
use Rattle.std.specs.Cmp.Lexicographic.{nat_list_cmp_total, bytes_decides}
use Rattle.std.specs.String.{string_cmp}
use Rattle.std.specs.declared.alloc.Global.{Global}
use Rattle.std.proofs.Math.ListN.{get_or}
use Rattle.std.proofs.lemmas.List.Sums.{sum_by-cons}
use Rattle.std.proofs.lemmas.List.Sorted.{ranks_by, sorted_far}
use Rattle.jfr_split.proofs.Basics.{first_holds, second_holds}
use Rattle.jfr_split.proofs.Ordered.{order, order_same}

-- None of these is below x.
abbrev NoneBelow : List ℕ → List (List ℕ) → Type 0
NoneBelow x ys = AllByRecursion (λ y. is_lt (order y x) ≡ false) ys

-- None is below one before it.
abbrev pub IsUp : List (List ℕ) → Type 0
IsUp [] = Unit {0}
IsUp (x ∷ xs) = NoneBelow x xs × IsUp xs

-- The lists have the same sums, whatever is summed.
abbrev pub HaveSameSums : List (List ℕ) → List (List ℕ) → Type 0
HaveSameSums xs ys = (f : List ℕ → ℕ) → sum_by f xs ≡ sum_by f ys

abbrev one_at : List ℕ → List ℕ → ℕ
one_at q x = cond (bytes_eq q x) 1 0

one_self : (q : List ℕ) → one_at q q ≡ 1
one_self q = ap (λ (b : Bool). cond b 1 0) ((bytes_decides q q).1 refl)

among_by : (b : Bool) (q x y : List ℕ) (n : ℕ) → bytes_eq q y ≡ b → is_lt (order y x) ≡ false → 0 < cond b 1 0 + n → (0 < n → is_lt (order q x) ≡ false) → is_lt (order q x) ≡ false
among_by true q x y n e l h f = ap (λ (z : List ℕ). is_lt (order z x)) ((bytes_decides q y).0 e) ∙ l
among_by false q x y n e l h f = f (omega (arith, h))

among : (q x : List ℕ) (ys : List (List ℕ)) → NoneBelow x ys → 0 < sum_by (one_at q) ys → is_lt (order q x) ≡ false
among q x [] none h = absurd (omega (arith, h))
among q x (y ∷ ys) none h =
    let k : 0 < one_at q y + sum_by (one_at q) ys = subst (λ (n : ℕ). 0 < n) (sum_by-cons (one_at q) y ys) h in
    among_by (bytes_eq q y) q x y (sum_by (one_at q) ys) refl none.0 k (among q x ys none.1)

-- No member of a rising list is below the first.
least : (q y : List ℕ) (ys : List (List ℕ)) → NoneBelow y ys → 0 < sum_by (one_at q) (y ∷ ys) → is_lt (order q y) ≡ false
least q y ys none h = among q y (y ∷ ys) (ap is_lt (order_same y), none) h

both_ways : (a b : Ordering) → a ≡ ordering_reverse b → is_lt a ≡ false → is_lt b ≡ false → a ≡ Equal
both_ways a Less e f g = cc
both_ways a Equal e f g = e
both_ways a Greater e f g = absurd (less a e f)
  where
    less : (a : Ordering) → a ≡ Less → is_lt a ≡ false → ⊥
    less a e f = cc

same_first : (x y : List ℕ) → is_lt (order x y) ≡ false → is_lt (order y x) ≡ false → x ≡ y
same_first x y f g = slice_cmp-IsAntisymmetric nat_cmp-IsAntisymmetric x y (both_ways (order x y) (order y x) (nat_list_cmp_total.antisymm x y) f g)

some_here : (x : List ℕ) (xs : List (List ℕ)) → 0 < sum_by (one_at x) (x ∷ xs)
some_here x xs = omega (arith, sum_by-cons (one_at x) x xs, one_self x)

none_here : (x : List ℕ) (xs : List (List ℕ)) → sum_by (one_at x) (x ∷ xs) ≡ 0 → ⊥
none_here x xs e = let h = some_here x xs in omega (arith, h, e)

same_tails : (x y : List ℕ) (xs ys : List (List ℕ)) → x ≡ y → HaveSameSums (x ∷ xs) (y ∷ ys) → HaveSameSums xs ys
same_tails x y xs ys e h = λ f.
    let a = sum_by-cons f x xs in
    let b = sum_by-cons f y ys in
    let c : f x ≡ f y = ap f e in
    let d = h f in
    omega (arith, a, b, c, d)

-- Two lists that are up and have the same sums are equal.
pub same_sorted : (xs ys : List (List ℕ)) → IsUp xs → IsUp ys → HaveSameSums xs ys → xs ≡ ys
same_sorted [] [] u v h = refl
same_sorted [] (y ∷ ys) u v h = absurd (none_here y ys (sym (h (one_at y))))
same_sorted (x ∷ xs) [] u v h = absurd (none_here x xs (h (one_at x)))
same_sorted (x ∷ xs) (y ∷ ys) u v h =
    let there : 0 < sum_by (one_at x) (y ∷ ys) = subst (λ (n : ℕ). 0 < n) (h (one_at x)) (some_here x xs) in
    let here : 0 < sum_by (one_at y) (x ∷ xs) = subst (λ (n : ℕ). 0 < n) (sym (h (one_at y))) (some_here y ys) in
    let e : x ≡ y = same_first x y (least x y ys v.0 there) (least y x xs u.0 here) in
    ap (λ (z : List ℕ). z ∷ xs) e ∙ ap (λ (zs : List (List ℕ)). y ∷ zs) (same_sorted xs ys u.1 v.1 (same_tails x y xs ys e h))

-- The bytes of each string.
abbrev pub bytes_of : List (String Global) → List (List ℕ)
bytes_of ss = map (λ s. string_bytes s) ss

each_at : (P : List ℕ → Type 0) (ss : List (String Global)) (d : String Global) → ((k : ℕ) → k < length ss → P (string_bytes (get_or ss k d))) → AllByRecursion P (bytes_of ss)
each_at P [] d h = tt
each_at P (s ∷ ss) d h = (h 0 (omega arith), each_at P ss d (λ k l. h (suc k) (omega (arith, l))))

sorted_tail : (s : String Global) (ss : List (String Global)) → IsSorted string_cmp (s ∷ ss) → IsSorted string_cmp ss
sorted_tail s ss h = λ k d a l.
    let e : suc k + 1 ≡ suc (k + 1) = omega arith in
    subst (λ (i : ℕ). is_lt (string_cmp (get_or (s ∷ ss) i d) (get_or ss k d)) ≡ false) e (h (suc k) d (omega arith) (omega (arith, l)))

-- What a sort of strings leaves is up.
pub up_sorted : (ss : List (String Global)) → IsSorted string_cmp ss → IsUp (bytes_of ss)
up_sorted [] h = tt
up_sorted (s ∷ ss) h = (
  each_at (λ y. is_lt (order y (string_bytes s)) ≡ false) ss s
      (λ k l. sorted_far (λ (x y : String Global). is_lt (string_cmp x y)) (ranks_by nat_list_cmp_total (λ (x : String Global). string_bytes x)) (s ∷ ss) h 0 (suc k) s (omega arith)
      (omega (arith, l))),
  up_sorted ss (sorted_tail s ss h),
)

flip : (a b : Ordering) → b ≡ ordering_reverse a → T (is_lt a) → is_lt b ≡ false
flip Less b e h = ap is_lt e
flip Equal b e h = absurd h
flip Greater b e h = absurd h

none_below : (x : List ℕ) (es : List (List ℕ × List ℕ)) → T (below_all order x es) → NoneBelow x (map (λ e. e.0) es)
none_below x [] h = tt
none_below x (e ∷ es) h = (
  flip (order x e.0) (order e.0 x) (nat_list_cmp_total.antisymm e.0 x) (first_holds (is_lt (order x e.0)) (below_all order x es) h),
  none_below x es
      (second_holds (is_lt (order x e.0)) (below_all order x es) h),
)

-- The keys of a map are up.
pub up_keys : (es : List (List ℕ × List ℕ)) → T (is_sorted order es) → IsUp (map (λ e. e.0) es)
up_keys [] h = tt
up_keys (e ∷ es) h = (none_below e.0 es (first_holds (below_all order e.0 es) (is_sorted order es) h), up_keys es (second_holds (below_all order e.0 es) (is_sorted order es) h))
