-- Key by key, the numbers of the groups so far.
use Rattle.std.specs.Prelude.{◌≡◌, ◌⊎◌, ℕ, suc, ◌+◌, ◌≤◌, ◌<◌, Bool, true, false, List, [], ◌∷◌, ◌++◌, length, map, take, slice_get, Option, Some, None, IfSome, Contains, option_and_then, if◌then◌else◌}
use Rattle.std.specs.Option.{option_map}
use Rattle.std.specs.Str.{bytes_eq}
use Rattle.std.specs.Borrow.{Bor}
use Rattle.std.specs.BTreeMap.{BTreeMap}
use Rattle.std.specs.BTreeMap as tree
use Rattle.std.specs.Cmp.Lexicographic.{slice_cmp}
use Rattle.std.specs.Ordering.{nat_cmp}
use Rattle.std.specs.Map.{lookup}
use Rattle.std.specs.Cmp.{first_so, second_so}
use Rattle.std.proofs.Common.{ap, arith, refl, sym, ◌∙◌, subst, inl, inr}
use Rattle.std.proofs.lemmas.Slice.Eq.{bytes_eq-Decides}
use Rattle.std.proofs.lemmas.List.{take_all}
use Rattle.std.proofs.lemmas.Map.Views.{exact_unsigned_eq}
use Rattle.jfr_worklist.specs.Members.{In}
use Rattle.jfr_worklist.proofs.Members.{contains_in, in_contains, get_in}
use Rattle.jfr_renumber.specs.declared.numbering.UsedKey.{UsedKey}
use Rattle.jfr_renumber.specs.Keys.{count_below, smallest, begins, group_number, Together}
use Rattle.jfr_renumber.specs.Missing.{Earlier, IsRising}
use Rattle.jfr_renumber.specs.Numbering.{number_under, value_of_key, SameValue, AreKeysOf, group_numbers}
use Rattle.jfr_renumber.proofs.KeyLaws.{count_flat, count_this, smallest_least, smallest_most, number_same, group_begins, any_in, Least, least_is}
use Rattle.jfr_meta.proofs.StayLaws.{in_get}
use Rattle.jfr_renumber.proofs.OrderLaws.{rising_at-map}
use Rattle.jfr_layout.proofs.Lists.{map_next}

abbrev Firsts : Type 0
Firsts = BTreeMap (Bor (List ℕ)) ℕ

pub empty_under : (m : Firsts) → tree.IsEmpty m → (q : List ℕ) → number_under m q ≡ None
empty_under m e q = ap (lookup (tree.is_at (λ k. slice_cmp nat_cmp q k.now))) e

-- Of keys of a class, later ones are larger.
abbrev Rising : ℕ → List UsedKey → Type 0
Rising class ks = IsRising (map (λ k. (class, k.key)) ks)

key_rises : (class : ℕ) (ks : List UsedKey) (i j : ℕ) (k l : UsedKey) → Rising class ks → i < j → slice_get ks i ≡ Some k → slice_get ks j ≡ Some l → k.key < l.key
key_rises class ks i j k l r h e f = by_class (rising_at-map (λ (z : UsedKey). (class, z.key)) ks i j k l r h e f)
  where
    by_class : Earlier (class, k.key) (class, l.key) → k.key < l.key
    by_class (inl a) = absurd (omega (arith, a))
    by_class (inr a) = a.1

-- A smaller key comes before.
stands_before : (class : ℕ) (ks : List UsedKey) (i j : ℕ) (k l : UsedKey) → Rising class ks → k.key < l.key → slice_get ks i ≡ Some k → slice_get ks j ≡ Some l → i < j
stands_before class ks i j k l r h e f = by_order (order i j)
  where
    order : (a b : ℕ) → (a < b) ⊎ ((b < a) ⊎ (a ≡ b))
    order a b = grind arith

    by_order : (i < j) ⊎ ((j < i) ⊎ (i ≡ j)) → i < j
    by_order (inl a) = a
    by_order (inr (inl a)) = let b = key_rises class ks j i l k r a f e in absurd (omega arith)
    by_order (inr (inr a)) = let x : slice_get ks j ≡ Some k = subst (λ z. slice_get ks z ≡ Some k) a e in let q : k ≡ l = cc in let p : k.key ≡ l.key =
        ap (λ (z : UsedKey). z.key) q in absurd (omega arith)

-- A number that is kept for the value of a key, if it has one.
abbrev pub Keeps : Option (Bor (List ℕ)) → ℕ → Firsts → Firsts → Type 0
Keeps None next firsts later = later ≡ firsts
Keeps (Some v) next firsts later = (q : List ℕ) → number_under later q ≡ (if bytes_eq v.now q then Some next else number_under firsts q)

pub keeps_of : (o : Option (Bor (List ℕ))) (next : ℕ) (firsts later : Firsts) → IfSome o (λ v. (q : List ℕ) → number_under later q ≡ (if bytes_eq v.now q then Some next else number_under firsts q))
    → (o ≡ None → later ≡ firsts) → Keeps o next firsts later
keeps_of None next firsts later a b = b refl
keeps_of (Some v) next firsts later a b = a

module _ (together : ℕ × ℕ → ℕ × ℕ → Bool) (same : Together together) (us : List (ℕ × ℕ)) (class : ℕ) (ks : List UsedKey) (are : AreKeysOf together us class ks) where
  abbrev test : ℕ → Bool
  test key = begins together us (class, key)

  abbrev number : UsedKey → ℕ
  number k = group_number together us (class, k.key)

  -- A key that begins a group is one of these.
  begins_key : (key : ℕ) → test key ≡ true → (i : ℕ) × (k : UsedKey) × (slice_get ks i ≡ Some k) × (k.key ≡ key)
  begins_key key e =
      let i = any_in together same us us (class, key) (first_so _ _ e) in
      let a = are.all key (in_contains us (class, key) i) in
      let g = in_get ks a.0 (contains_in ks a.0 a.1) in
      (g.0, a.0, g.1, a.2)

  false_if : (b : Bool) → (b ≡ true → ⊥) → b ≡ false
  false_if true h = absurd (h refl)
  false_if false h = refl

  -- Between two keys, and before the first, no group begins.
  none_between : (i : ℕ) (k l : UsedKey) (x : ℕ) → slice_get ks i ≡ Some k → slice_get ks (suc i) ≡ Some l → k.key < x → x < l.key → test x ≡ false
  none_between i k l x e f a b = false_if (test x) (λ t. by_key (begins_key x t))
    where
      by_key : (j : ℕ) × (m : UsedKey) × (slice_get ks j ≡ Some m) × (m.key ≡ x) → ⊥
      by_key (j, m, g, q) =
          let c = stands_before class ks i j k m are.rising (omega arith) e g in
          let d = stands_before class ks j (suc i) m l are.rising (omega arith) g f in
          omega arith

  none_first : (l : UsedKey) (x : ℕ) → slice_get ks 0 ≡ Some l → x < l.key → test x ≡ false
  none_first l x f b = false_if (test x) (λ t. by_key (begins_key x t))
    where
      by_key : (j : ℕ) × (m : UsedKey) × (slice_get ks j ≡ Some m) × (m.key ≡ x) → ⊥
      by_key (j, m, g, q) = let d = stands_before class ks j 0 m l are.rising (omega arith) g f in omega arith

  -- What holds when this many keys have their numbers.
  pub record SoFar (i : ℕ) (firsts : Firsts) (next : ℕ) (numbers : List ℕ) : Type 0 where
    pub numbers_are : numbers ≡ map number (take i ks)
    pub next_is : (k : UsedKey) → slice_get ks i ≡ Some k → next ≡ count_below k.key test
    pub held : (q : List ℕ) (n : ℕ) → number_under firsts q ≡ Some n → (j : ℕ) × (k : UsedKey) × (j < i) × (slice_get ks j ≡ Some k) × (value_of_key k ≡ Some q) × (number k ≡ n)
    pub kept : (j : ℕ) (k : UsedKey) (q : List ℕ) → j < i → slice_get ks j ≡ Some k → value_of_key k ≡ Some q → number_under firsts q ≡ None → ⊥

  -- A key whose value an earlier key has.
  member : (i : ℕ) (k : UsedKey) → slice_get ks i ≡ Some k → Contains ks k
  member i k e = in_contains ks k (get_in ks i k e)

  used_member : (i : ℕ) (k : UsedKey) → slice_get ks i ≡ Some k → In us (class, k.key)
  used_member i k e = contains_in us (class, k.key) (are.used k (member i k e))

  -- It has the number of that, and begins no group.
  pub number_again : (i j : ℕ) (k l : UsedKey) (q : List ℕ) → j < i → slice_get ks i ≡ Some k → slice_get ks j ≡ Some l → value_of_key k ≡ Some q → value_of_key l ≡ Some q
      → (number k ≡ number l) × (test k.key ≡ false)
  number_again i j k l q h e f a b =
      let t : together (class, l.key) (class, k.key) ≡ true = (are.alike l k (member j l f) (member i k e)).1 (inr (record { value = q; here = b; there = a })) in
      let n = number_same together same us (class, l.key) (class, k.key) (used_member j l f) (used_member i k e) t in
      let s = smallest_least together same us (class, k.key) (class, l.key) (used_member j l f) t in
      let o = key_rises class ks j i l k are.rising h f e in
      (sym n, false_if (test k.key) (λ u. (let z : smallest together us (class, k.key) ≡ k.key = exact_unsigned_eq (smallest together us (class, k.key)) k.key (second_so _ _ u) in omega arith)))

  -- A key whose value no earlier one has begins a group, and its number is the number of groups that begin below it.
  pub number_new : (i : ℕ) (k : UsedKey) → slice_get ks i ≡ Some k → ((j : ℕ) (l : UsedKey) (q : List ℕ) → j < i → slice_get ks j ≡ Some l → value_of_key l ≡ Some q → value_of_key k ≡ Some q → ⊥)
      → (smallest together us (class, k.key) ≡ k.key)
  number_new i k e none =
      let l = least_is together same us (class, k.key) in
      by_member l (are.all l.pair.1 (in_contains us (class, l.pair.1) (in_class l)))
    where
      in_class : (l : Least together same us (class, k.key)) → In us (class, l.pair.1)
      in_class l = subst (λ c. In us (c, l.pair.1)) (same.class l.pair (class, k.key) l.together_with) (by_from l.from)
        where
          by_from : ((class, k.key) ≡ l.pair) ⊎ In us l.pair → In us l.pair
          by_from (inl q) = subst (In us) q (used_member i k e)
          by_from (inr j) = j

      order : (a b : ℕ) → (a < b) ⊎ (b ≤ a)
      order a b = grind arith

      by_order : (l : Least together same us (class, k.key)) (m : UsedKey) (j : ℕ) → slice_get ks j ≡ Some m → m.key ≡ l.pair.1 → SameValue m k → (m.key < k.key) ⊎ (k.key ≤ m.key)
          → smallest together us (class, k.key) ≡ k.key
      by_order l m j g q v (inl a) = absurd (none j m v.value (stands_before class ks j i m k are.rising a g e) g v.here v.there)
      by_order l m j g q v (inr a) =
          let b : smallest together us (class, k.key) ≡ l.pair.1 = l.key in
          let d = smallest_most together same us (class, k.key) in
          omega arith

      by_case : (l : Least together same us (class, k.key)) (m : UsedKey) (j : ℕ) → slice_get ks j ≡ Some m → m.key ≡ l.pair.1 → (m.key ≡ k.key) ⊎ SameValue m k
          → smallest together us (class, k.key) ≡ k.key
      by_case l m j g q (inl h) = l.key ∙ (sym q ∙ h)
      by_case l m j g q (inr v) = by_order l m j g q v (order m.key k.key)

      by_member : (l : Least together same us (class, k.key)) → (m : UsedKey) × Contains ks m × (m.key ≡ l.pair.1) → smallest together us (class, k.key) ≡ k.key
      by_member l (m, c, q) =
          let g = in_get ks m (contains_in ks m c) in
          let t : together (class, m.key) (class, k.key) ≡ true =
          subst (λ z. together (class, z) (class, k.key) ≡ true) (sym q)
          (subst (λ z. together (z, l.pair.1) (class, k.key) ≡ true) (same.class l.pair (class, k.key) l.together_with) l.together_with) in
          by_case l m g.0 g.1 q ((are.alike m k c (member i k e)).0 t)

  new_begins : (i : ℕ) (k : UsedKey) → slice_get ks i ≡ Some k → smallest together us (class, k.key) ≡ k.key → (test k.key ≡ true) × (number k ≡ count_below k.key test)
  unfolding group_number
  new_begins i k e q = (subst (λ z. test z ≡ true) q (group_begins together same us (class, k.key) (used_member i k e)), ap (λ m. count_below m test) q)

  -- After a key, up to the next.
  behind : (i : ℕ) (k l : UsedKey) (x : ℕ) → slice_get ks i ≡ Some k → slice_get ks (i + 1) ≡ Some l → k.key < x → x < l.key → test x ≡ false
  behind i k l x e f a b = let q : i + 1 ≡ suc i = omega arith in none_between i k l x e (subst (λ z. slice_get ks z ≡ Some l) q f) a b

  next_above : (i : ℕ) (k l : UsedKey) → slice_get ks i ≡ Some k → slice_get ks (i + 1) ≡ Some l → k.key < l.key
  next_above i k l e f = key_rises class ks i (i + 1) k l are.rising (omega arith) e f

  either : (j i : ℕ) → j < i + 1 → (j < i) ⊎ (i ≡ j)
  either j i h = grind arith

  -- After a key whose value an earlier key has.
  pub again_next : (i : ℕ) (firsts : Firsts) (next : ℕ) (numbers : List ℕ) (k : UsedKey) (n : ℕ) → SoFar i firsts next numbers → slice_get ks i ≡ Some k
      → option_and_then (λ v. number_under firsts v.now) k.value ≡ Some n → SoFar (i + 1) firsts next (numbers ++ n ∷ [])
  again_next i firsts next numbers k n s e known = by_value k.value refl known
    where
      found : (v : Bor (List ℕ)) → k.value ≡ Some v → number_under firsts v.now ≡ Some n
          → (j : ℕ) × (l : UsedKey) × (j < i) × (slice_get ks j ≡ Some l) × (value_of_key l ≡ Some v.now) × (number l ≡ n) → SoFar (i + 1) firsts next (numbers ++ n ∷ [])
      found v q h (j, l, b, g, w, m) =
          let own : value_of_key k ≡ Some v.now = ap (option_map (λ (z : Bor (List ℕ)). z.now)) q in
          let a = number_again i j k l v.now b e g own w in
          record {
            numbers_are = ap (λ z. z ++ n ∷ []) s.numbers_are ∙ (ap (λ z. map number (take i ks) ++ z ∷ []) (sym m ∙ sym a.0) ∙ sym (map_next number ks i k e));
            next_is = λ o f. (s.next_is k e ∙ sym (count_flat test k.key o.key (let z = next_above i k o e f in omega arith) (λ x c d. at_or_behind o f x c d a.1)));
            held = λ p x f. (let y = s.held p x f in (y.0, y.1, (let z = y.2 in omega arith), y.3, y.4, y.5));
            kept = λ p o x b f w z. by_place p o x f w z (either p i b);
          }
        where
          split : (a b : ℕ) → a ≤ b → (a ≡ b) ⊎ (a < b)
          split a b h = grind arith

          by_split : (o : UsedKey) → slice_get ks (i + 1) ≡ Some o → (x : ℕ) → x < o.key → test k.key ≡ false → (k.key ≡ x) ⊎ (k.key < x) → test x ≡ false
          by_split o f x d t (inl q) = subst (λ z. test z ≡ false) q t
          by_split o f x d t (inr c) = behind i k o x e f c d

          at_or_behind : (o : UsedKey) → slice_get ks (i + 1) ≡ Some o → (x : ℕ) → k.key ≤ x → x < o.key → test k.key ≡ false → test x ≡ false
          at_or_behind o f x c d t = by_split o f x d t (split k.key x c)

          by_place : (p : ℕ) (o : UsedKey) (x : List ℕ) → slice_get ks p ≡ Some o → value_of_key o ≡ Some x → number_under firsts x ≡ None → (p < i) ⊎ (i ≡ p) → ⊥
          by_place p o x f w z (inl b) = s.kept p o x b f w z
          by_place p o x f w z (inr r) =
              let same_key : o ≡ k = (let y : slice_get ks p ≡ Some k = subst (λ u. slice_get ks u ≡ Some k) r e in cc) in
              let own : value_of_key o ≡ Some v.now = ap value_of_key same_key ∙ ap (option_map (λ (z : Bor (List ℕ)). z.now)) q in
              let t : x ≡ v.now = (let y : Some x ≡ Some v.now = sym w ∙ own in cc) in
              let clash : None ≡ Some n = sym z ∙ (ap (number_under firsts) t ∙ h) in
              cc

      by_value : (o : Option (Bor (List ℕ))) → k.value ≡ o → option_and_then (λ v. number_under firsts v.now) o ≡ Some n → SoFar (i + 1) firsts next (numbers ++ n ∷ [])
      by_value None q h = cc
      by_value (Some v) q h = found v q h (s.held v.now n h)

  -- After a key that begins a group.
  pub new_next : (i : ℕ) (firsts later : Firsts) (next : ℕ) (numbers : List ℕ) (k : UsedKey) → SoFar i firsts next numbers → slice_get ks i ≡ Some k
      → option_and_then (λ v. number_under firsts v.now) k.value ≡ None
      → Keeps k.value next firsts later → SoFar (i + 1) later (next + 1) (numbers ++ next ∷ [])
  new_next i firsts later next numbers k s e unknown keeps = by_value k.value refl unknown keeps
    where
      no_earlier : (j : ℕ) (l : UsedKey) (q : List ℕ) → j < i → slice_get ks j ≡ Some l → value_of_key l ≡ Some q → value_of_key k ≡ Some q → (o : Option (Bor (List ℕ))) → k.value ≡ o
          → option_and_then (λ v. number_under firsts v.now) o ≡ None → ⊥
      no_earlier j l q b g w own None r u = let z : None ≡ Some q = sym (ap (option_map (λ (z : Bor (List ℕ)). z.now)) r) ∙ own in cc
      no_earlier j l q b g w own (Some v) r u =
          let z : Some v.now ≡ Some q = sym (ap (option_map (λ (z : Bor (List ℕ)). z.now)) r) ∙ own in
          let t : v.now ≡ q = cc in
          s.kept j l q b g w (ap (number_under firsts) (sym t) ∙ u)

      begun : (test k.key ≡ true) × (number k ≡ count_below k.key test)
      begun = new_begins i k e (number_new i k e (λ j l q b g w own. no_earlier j l q b g w own k.value refl unknown))

      own_number : number k ≡ next
      own_number = begun.1 ∙ sym (s.next_is k e)

      numbers_next : numbers ++ next ∷ [] ≡ map number (take (i + 1) ks)
      numbers_next = ap (λ z. z ++ next ∷ []) s.numbers_are ∙ (ap (λ z. map number (take i ks) ++ z ∷ []) (sym own_number) ∙ sym (map_next number ks i k e))

      next_next : (o : UsedKey) → slice_get ks (i + 1) ≡ Some o → next + 1 ≡ count_below o.key test
      next_next o f =
          let h : k.key < o.key = next_above i k o e f in
          let a : count_below o.key test ≡ count_below (suc k.key) test = count_flat test (suc k.key) o.key h (λ x c d. behind i k o x e f c d) in
          let b : count_below (suc k.key) test ≡ suc (count_below k.key test) = count_this test k.key begun.0 in
          let n : next ≡ count_below k.key test = s.next_is k e in
          omega arith

      held_none : later ≡ firsts → (q : List ℕ) (n : ℕ) → number_under later q ≡ Some n → (j : ℕ) × (l : UsedKey) × (j < i + 1) × (slice_get ks j ≡ Some l) × (value_of_key l ≡ Some q) × (number l ≡ n)
      held_none r q n h = let y = s.held q n (ap (λ z. number_under z q) (sym r) ∙ h) in (y.0, y.1, (let z = y.2 in omega arith), y.3, y.4, y.5)

      kept_none : later ≡ firsts → k.value ≡ None → (j : ℕ) (l : UsedKey) (q : List ℕ) → j < i + 1 → slice_get ks j ≡ Some l → value_of_key l ≡ Some q → number_under later q ≡ None → ⊥
      kept_none r v j l q b g w z = by_place (either j i b)
        where
          by_place : (j < i) ⊎ (i ≡ j) → ⊥
          by_place (inl a) = s.kept j l q a g w (ap (λ z. number_under z q) (sym r) ∙ z)
          by_place (inr a) =
              let same_key : l ≡ k = (let y : slice_get ks j ≡ Some k = subst (λ u. slice_get ks u ≡ Some k) a e in cc) in
              let y : None ≡ Some q = sym (ap value_of_key same_key ∙ ap (option_map (λ (z : Bor (List ℕ)). z.now)) v) ∙ w in
              cc

      held_some : (v : Bor (List ℕ)) → k.value ≡ Some v → Keeps (Some v) next firsts later → (q : List ℕ) (n : ℕ) → number_under later q ≡ Some n
          → (j : ℕ) × (l : UsedKey) × (j < i + 1) × (slice_get ks j ≡ Some l) × (value_of_key l ≡ Some q) × (number l ≡ n)
      held_some v r m q n h = by_test (bytes_eq v.now q) refl (sym (m q) ∙ h)
        where
          by_test : (t : Bool) → bytes_eq v.now q ≡ t → (if t then Some next else number_under firsts q) ≡ Some n
              → (j : ℕ) × (l : UsedKey) × (j < i + 1) × (slice_get ks j ≡ Some l) × (value_of_key l ≡ Some q) × (number l ≡ n)
          by_test true t h =
              let x : next ≡ n = (let y : Some next ≡ Some n = h in cc) in
              (i, k, omega arith, e, ap (option_map (λ (z : Bor (List ℕ)). z.now)) r ∙ ap (λ z. Some z) ((bytes_eq-Decides v.now q).0 t), own_number ∙ x)
          by_test false t h = let y = s.held q n h in (y.0, y.1, (let z = y.2 in omega arith), y.3, y.4, y.5)

      kept_some : (v : Bor (List ℕ)) → k.value ≡ Some v → Keeps (Some v) next firsts later → (j : ℕ) (l : UsedKey) (q : List ℕ) → j < i + 1 → slice_get ks j ≡ Some l → value_of_key l ≡ Some q
          → number_under later q ≡ None → ⊥
      kept_some v r m j l q b g w z = by_place (either j i b)
        where
          by_test : (t : Bool) → bytes_eq v.now q ≡ t → (if t then Some next else number_under firsts q) ≡ None → (j < i) → ⊥
          by_test true t h a = cc
          by_test false t h a = s.kept j l q a g w h

          here : (t : Bool) → bytes_eq v.now q ≡ t → v.now ≡ q → (if t then Some next else number_under firsts q) ≡ None → ⊥
          here true t x h = cc
          here false t x h = let y = (bytes_eq-Decides v.now q).1 x in cc

          by_place : (j < i) ⊎ (i ≡ j) → ⊥
          by_place (inl a) = by_test (bytes_eq v.now q) refl (sym (m q) ∙ z) a
          by_place (inr a) =
              let same_key : l ≡ k = (let y : slice_get ks j ≡ Some k = subst (λ u. slice_get ks u ≡ Some k) a e in cc) in
              let y : Some v.now ≡ Some q = sym (ap value_of_key same_key ∙ ap (option_map (λ (z : Bor (List ℕ)). z.now)) r) ∙ w in
              here (bytes_eq v.now q) refl (cc) (sym (m q) ∙ z)

      by_value : (o : Option (Bor (List ℕ))) → k.value ≡ o → option_and_then (λ v. number_under firsts v.now) o ≡ None → Keeps o next firsts later
          → SoFar (i + 1) later (next + 1) (numbers ++ next ∷ [])
      by_value None r u m = record { numbers_are = numbers_next; next_is = next_next; held = held_none m; kept = kept_none m r }
      by_value (Some v) r u m = record { numbers_are = numbers_next; next_is = next_next; held = held_some v r m; kept = kept_some v r m }

  -- At the start.
  pub first_next : (firsts : Firsts) → ((q : List ℕ) → number_under firsts q ≡ None) → SoFar 0 firsts 0 []
  unfolding count_below
  first_next firsts none = record {
    numbers_are = refl;
    next_is = λ k e. sym (count_flat test 0 k.key (omega arith) (λ x c d. none_first k x e d));
    held = λ q n h. (let z : None ≡ Some n = sym (none q) ∙ h in cc);
    kept = λ j k q h e w z. absurd (omega (arith, h));
  }

  -- At the end.
  pub all_numbered : (i : ℕ) (firsts : Firsts) (next : ℕ) (numbers : List ℕ) → SoFar i firsts next numbers → length ks ≤ i → numbers ≡ group_numbers together us class ks
  all_numbered i firsts next numbers s h = s.numbers_are ∙ ap (map number) (take_all i ks h)
