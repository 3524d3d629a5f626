-- The used keys of a class are next to each other, and each class has its own numbers.
use Rattle.std.specs.Prelude.{◌≡◌, ◌⊎◌, ℕ, zero, suc, ◌+◌, ◌-◌, ◌≤◌, ◌<◌, Bool, true, List, [], ◌∷◌, ◌++◌, length, map, take, drop, slice_get, slice_range, Some, Contains}
use Rattle.std.proofs.Common.{ap, arith, refl, sym, ◌∙◌, subst, inl, inr}
use Rattle.std.proofs.lemmas.List.{map-append}
use Rattle.std.proofs.lemmas.Option.{slice_get_within}
use Rattle.jfr_worklist.specs.Members.{In}
use Rattle.jfr_worklist.proofs.Members.{contains_in, in_contains, get_in}
use Rattle.jfr_renumber.specs.declared.numbering.UsedKey.{UsedKey}
use Rattle.jfr_renumber.specs.Keys.{group_number}
use Rattle.jfr_renumber.specs.Missing.{Earlier}
use Rattle.jfr_renumber.specs.Numbering.{pair_at, AreKeysOf, ArePairsOf, group_numbers}
use Rattle.jfr_meta.proofs.StayLaws.{in_get}
use Rattle.jfr_renumber.proofs.OrderLaws.{rising_at-map, rising_by}

-- Members of a part.
get_drop : {X : Type 0} (n i : ℕ) (xs : List X) → slice_get (drop n xs) i ≡ slice_get xs (n + i)
get_drop zero i xs = let e : i ≡ 0 + i = omega arith in ap (slice_get xs) e
get_drop (suc n) i [] = none i (suc n + i)
  where
    none : {X : Type 0} (i j : ℕ) → slice_get {X = X} [] i ≡ slice_get [] j
    none i j = refl
get_drop (suc n) i (x ∷ xs) = let e : suc (n + i) ≡ suc n + i = omega arith in get_drop n i xs ∙ ap (slice_get (x ∷ xs)) e

take_get : {X : Type 0} (n i : ℕ) (xs : List X) (x : X) → slice_get (take n xs) i ≡ Some x → (i < n) × (slice_get xs i ≡ Some x)
take_get zero i xs x e = cc
take_get (suc n) i [] x e = cc
take_get (suc n) zero (y ∷ xs) x e = (omega arith, e)
take_get (suc n) (suc i) (y ∷ xs) x e = let r = take_get n i xs x e in (omega (arith, r.0), r.1)

get_take : {X : Type 0} (n i : ℕ) (xs : List X) → i < n → slice_get (take n xs) i ≡ slice_get xs i
get_take zero i xs h = absurd (omega (arith, h))
get_take (suc n) i [] h = refl
get_take (suc n) zero (y ∷ xs) h = refl
get_take (suc n) (suc i) (y ∷ xs) h = get_take n i xs (omega (arith, h))

range_get : {X : Type 0} (xs : List X) (from to i : ℕ) (x : X) → slice_get (slice_range xs from to) i ≡ Some x → (from + i < to) × (slice_get xs (from + i) ≡ Some x)
range_get xs from to i x e = let r = take_get (to - from) i (drop from xs) x e in (omega (arith, r.0), sym (get_drop from i xs) ∙ r.1)

get_range : {X : Type 0} (xs : List X) (from to j : ℕ) → from ≤ j → j < to → slice_get (slice_range xs from to) (j - from) ≡ slice_get xs j
get_range xs from to j h k =
    let e : from + (j - from) ≡ j = omega (arith, h) in
    get_take (to - from) (j - from) (drop from xs) (omega (arith, h, k)) ∙ (get_drop from (j - from) xs ∙ ap (slice_get xs) e)

take_range : {X : Type 0} (xs : List X) (from to : ℕ) → from ≤ to → take to xs ≡ take from xs ++ slice_range xs from to
take_range xs zero to h = let e : to ≡ to - 0 = omega arith in ap (λ n. take n xs) e
take_range xs (suc from) zero h = absurd (omega (arith, h))
take_range [] (suc from) (suc to) h = none (suc to - suc from)
  where
    none : {X : Type 0} (n : ℕ) → [] ≡ take {A = X} n []
    none zero = refl
    none (suc n) = refl
take_range (x ∷ xs) (suc from) (suc to) h =
    let e : to - from ≡ suc to - suc from = omega arith in
    ap (λ z. x ∷ z) (take_range xs from to (omega (arith, h))) ∙ ap (λ n. x ∷ (take from xs ++ take n (drop from xs))) e

-- A class and a key that are before others.
before_class : (k l : UsedKey) → Earlier (pair_at k) (pair_at l) → k.class ≤ l.class
before_class k l (inl a) = omega (arith, a)
before_class k l (inr a) = omega (arith, a.0)

before_key : (k l : UsedKey) → k.class ≡ l.class → Earlier (pair_at k) (pair_at l) → k.key < l.key
before_key k l e (inl a) = absurd (omega (arith, a, e))
before_key k l e (inr a) = a.1

-- A member at a place before the end.
pub some_at : (ks : List UsedKey) (i : ℕ) → i < length ks → (k : UsedKey) × (slice_get ks i ≡ Some k)
some_at [] i h = absurd (omega (arith, h))
some_at (k ∷ ks) zero h = (k, refl)
some_at (k ∷ ks) (suc i) h = some_at ks i (omega (arith, h))

-- No class is on both sides of a place.
abbrev pub Cut : List UsedKey → ℕ → Type 0
Cut ks at = (i j : ℕ) (k l : UsedKey) → i < at → at ≤ j → slice_get ks i ≡ Some k → slice_get ks j ≡ Some l → k.class ≡ l.class → ⊥

-- The keys of a class lie between these two places.
pub record ClassStands (ks : List UsedKey) (from to : ℕ) : Type 0 where
  pub order : from < to
  pub within : to ≤ length ks
  pub same : (f k : UsedKey) (i : ℕ) → slice_get ks from ≡ Some f → from ≤ i → i < to → slice_get ks i ≡ Some k → k.class ≡ f.class
  pub next : (f k : UsedKey) → slice_get ks from ≡ Some f → slice_get ks to ≡ Some k → k.class ≡ f.class → ⊥

module _ (together : ℕ × ℕ → ℕ × ℕ → Bool) (us : List (ℕ × ℕ)) (ks : List UsedKey) (are : ArePairsOf together us ks) (from to : ℕ) (s : ClassStands ks from to) (cut : Cut ks from) (f : UsedKey) (there : slice_get ks from ≡ Some f) where
  either : (a b : ℕ) → (a < b) ⊎ (b ≤ a)
  either a b = grind arith

  equal_or : (a b : ℕ) → a ≤ b → (a ≡ b) ⊎ (a < b)
  equal_or a b h = grind arith

  below_first : (i : ℕ) (k : UsedKey) → i < to → slice_get ks i ≡ Some k → k.class ≤ f.class
  below_first i k h e = by_side (either i from)
    where
      by_side : (i < from) ⊎ (from ≤ i) → k.class ≤ f.class
      by_side (inl a) = before_class k f (rising_at-map pair_at ks i from k f are.rising a e there)
      by_side (inr a) = let q = s.same f k i there a h e in omega (arith, q)

  above_last : (j : ℕ) (l : UsedKey) → to ≤ j → slice_get ks j ≡ Some l → f.class < l.class
  above_last j l h e = by_side (equal_or to j h)
    where
      grows : (m : UsedKey) → slice_get ks to ≡ Some m → f.class < m.class
      grows m g =
          let a = before_class f m (rising_at-map pair_at ks from to f m are.rising s.order there g) in
          by_case (equal_or f.class m.class a)
        where
          by_case : (f.class ≡ m.class) ⊎ (f.class < m.class) → f.class < m.class
          by_case (inl q) = absurd (s.next f m there g (sym q))
          by_case (inr b) = b

      by_side : (to ≡ j) ⊎ (to < j) → f.class < l.class
      by_side (inl q) = grows l (ap (slice_get ks) q ∙ e)
      by_side (inr a) =
          let w : j < length ks = slice_get_within ks j l e in
          let m = some_at ks to (omega (arith, a, w)) in
          let x : f.class < m.0.class = grows m.0 m.1 in
          let y : m.0.class ≤ l.class = before_class m.0 l (rising_at-map pair_at ks to j m.0 l are.rising a m.1 e) in
          omega (arith, x, y)

  pub cut_next : Cut ks to
  cut_next i j k l h g e q c = let a = below_first i k h e in let b = above_last j l g q in absurd (omega (arith, a, b, c))

  abbrev seg : List UsedKey
  seg = slice_range ks from to

  seg_place : (k : UsedKey) → Contains seg k → (i : ℕ) × (from ≤ i) × (i < to) × (slice_get ks i ≡ Some k)
  seg_place k c =
      let g = in_get seg k (contains_in seg k c) in
      let r = range_get ks from to g.0 k g.1 in
      (from + g.0, omega arith, r.0, r.1)

  seg_member : (k : UsedKey) → Contains seg k → Contains ks k
  seg_member k c = let p = seg_place k c in in_contains ks k (get_in ks p.0 k p.3)

  seg_class : (k : UsedKey) → Contains seg k → k.class ≡ f.class
  seg_class k c = let p = seg_place k c in s.same f k p.0 there p.1 p.2 p.3

  -- They are the keys of their class.
  pub class_keys : AreKeysOf together us f.class seg
  class_keys = record {
    rising = rising_by (λ (z : UsedKey). (f.class, z.key)) seg steps;
    used = λ k c. subst (λ z. Contains us (z, k.key)) (seg_class k c) (are.used k (seg_member k c));
    all = λ key c. found key (are.all (f.class, key) c);
    alike = λ k l c d. (
      (λ e. ((are.alike k l (seg_member k c) (seg_member l d)).0 (back k l c d e)).1),
      λ h. on k l c d
          ((are.alike k l (seg_member k c) (seg_member l d)).1 (seg_class k c ∙ sym (seg_class l d), h)),
    );
  }
    where
      steps : (i j : ℕ) (k l : UsedKey) → i < j → slice_get seg i ≡ Some k → slice_get seg j ≡ Some l → Earlier (f.class, k.key) (f.class, l.key)
      steps i j k l h e g =
          let x = range_get ks from to i k e in
          let y = range_get ks from to j l g in
          let a = s.same f k (from + i) there (omega arith) x.0 x.1 in
          let b = s.same f l (from + j) there (omega arith) y.0 y.1 in
          inr (refl, before_key k l (a ∙ sym b) (rising_at-map pair_at ks (from + i) (from + j) k l are.rising (omega (arith, h)) x.1 y.1))

      back : (k l : UsedKey) → Contains seg k → Contains seg l → together (f.class, k.key) (f.class, l.key) ≡ true → together (pair_at k) (pair_at l) ≡ true
      back k l c d e = subst (λ z. together (z, k.key) (pair_at l) ≡ true) (sym (seg_class k c)) (subst (λ z. together (f.class, k.key) (z, l.key) ≡ true) (sym (seg_class l d)) e)

      on : (k l : UsedKey) → Contains seg k → Contains seg l → together (pair_at k) (pair_at l) ≡ true → together (f.class, k.key) (f.class, l.key) ≡ true
      on k l c d e = subst (λ z. together (z, k.key) (f.class, l.key) ≡ true) (seg_class k c) (subst (λ z. together (pair_at k) (z, l.key) ≡ true) (seg_class l d) e)

      found : (key : ℕ) → (k : UsedKey) × Contains ks k × (pair_at k ≡ (f.class, key)) → (k : UsedKey) × Contains seg k × (k.key ≡ key)
      found key (k, c, q) =
          let g = in_get ks k (contains_in ks k c) in
          by_low g.0 g.1 (either g.0 from)
        where
          own : k.class ≡ f.class
          own = ap (λ (z : ℕ × ℕ). z.0) q

          by_high : (i : ℕ) → slice_get ks i ≡ Some k → from ≤ i → (i < to) ⊎ (to ≤ i) → (k : UsedKey) × Contains seg k × (k.key ≡ key)
          by_high i e a (inl b) = (k, in_contains seg k (get_in seg (i - from) k (get_range ks from to i a b ∙ e)), ap (λ (z : ℕ × ℕ). z.1) q)
          by_high i e a (inr b) = absurd (cut_next from i f k s.order b there e (sym own))

          by_low : (i : ℕ) → slice_get ks i ≡ Some k → (i < from) ⊎ (from ≤ i) → (k : UsedKey) × Contains seg k × (k.key ≡ key)
          by_low i e (inl a) = absurd (cut i from k f a (omega arith) e there own)
          by_low i e (inr a) = by_high i e a (either i to)

  abbrev number : UsedKey → ℕ
  number k = group_number together us (pair_at k)

  numbers_same : (xs : List UsedKey) → ((k : UsedKey) → In xs k → k.class ≡ f.class) → group_numbers together us f.class xs ≡ map number xs
  numbers_same [] h = refl
  numbers_same (k ∷ xs) h =
      ap (λ z. group_number together us (z, k.key) ∷ group_numbers together us f.class xs) (sym (h k (inl refl)))
      ∙ ap (λ z. number k ∷ z) (numbers_same xs (λ l i. h l (inr i)))

  -- With the numbers of this class too, all up to its end have theirs.
  pub class_next : (numbers these : List ℕ) → numbers ≡ map number (take from ks) → these ≡ group_numbers together us f.class seg → numbers ++ these ≡ map number (take to ks)
  class_next numbers these a b =
      ap (λ z. z ++ these) a
      ∙ (ap (λ z. map number (take from ks) ++ z) (b ∙ numbers_same seg (λ k i. seg_class k (in_contains seg k i)))
      ∙ (sym (map-append number (take from ks) seg)
      ∙ ap (map number) (sym (take_range ks from to (let o = s.order in omega (arith, o))))))
