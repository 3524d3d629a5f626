-- Numbers for the strings of two tables.
use Rattle.std.specs.Prelude.{◌≡◌, ℕ, zero, suc, ◌+◌, ◌<◌, ◌≤◌, Bool, true, false, ◌==◌, List, [], ◌∷◌, length, map, get_or, nat_lt, Option, Some, None, is_some}
use Rattle.std.specs.BTreeMap as tree
use Rattle.std.specs.BTreeMap.{BTreeMap, is_at}
use Rattle.std.specs.Borrow.{Bor}
use Rattle.std.specs.Cmp.Lexicographic.{slice_cmp}
use Rattle.std.specs.Map.{lookup}
use Rattle.std.specs.Ordering.{nat_cmp}
use Rattle.std.specs.Str.{bytes_eq, chars, encode_utf8_all, IsUtf8}
use Rattle.std.proofs.Common.{ap, arith, refl, sym, ◌∙◌, subst}
use Rattle.std.proofs.lemmas.List.{get_or_past}
use Rattle.std.proofs.lemmas.Slice.Eq.{bytes_eq-Decides}
use Rattle.jfr_layout.specs.Names.{value_under}
use Rattle.jfr_layout.proofs.Numbered.{number_added, number_each, number_found, number_kept}
use Rattle.jfr_meta.specs.Attributes.{text_at}
use Rattle.jfr_verify.specs.Strings.{AddsText, AreFirsts, AreIndices, AreNumbers, HasText, IsFirst, same_number}

abbrev Firsts : Type 0
Firsts = BTreeMap (Bor (List ℕ)) ℕ

module _ (texts : List (List ℕ)) where
  -- A text that has a number.
  adds_known : (m : Firsts) (i n : ℕ) → value_under m (text_at texts i) ≡ Some n → AddsText texts i m m
  adds_known m i n e = record { indices = λ g h. h; kept = λ x k f. f; here = (n, e) }

  -- A text that has none yet.
  adds_new : (m later : Firsts) (b : List ℕ) (i : ℕ) → IsUtf8 b → chars b ≡ text_at texts i → value_under m (text_at texts i) ≡ None
      → tree.UpdatesBy (λ x y. slice_cmp nat_cmp x.now y.now) (λ k. slice_cmp nat_cmp b k.now) m later (Some i) → AddsText texts i m later
  adds_new m later b i u is e up =
      let none : None ≡ tree.get_by (λ k. slice_cmp nat_cmp b k.now) m = sym e ∙ sym (number_found m b (text_at texts i) u is (tree.get_by (λ k. slice_cmp nat_cmp b k.now) m) refl) in
      record {
        indices = λ g h. number_each m b (text_at texts i) u is later i none up (IsFirst texts) h (record { text = refl; first = λ j s. by_order g j s (nat_lt j i) refl });
        kept = number_kept m b (text_at texts i) u is later i none up;
        here = (i, sym (number_added m b (text_at texts i) u is later i none up));
      }
    where
      by_order : ((j : ℕ) → j < i → HasText texts m j) → (j : ℕ) → text_at texts j ≡ text_at texts i → (t : Bool) → nat_lt j i ≡ t → i ≤ j
      by_order g j s true q = let h = g j (grind (arith, q)) in (let clash : Some h.0 ≡ None = sym h.1 ∙ (ap (value_under m) s ∙ e) in cc)
      by_order g j s false q = grind (arith, q)

  pub adds_some : (m : Firsts) (i : ℕ) (o : Option ℕ) → o ≡ value_under m (text_at texts i) → is_some o ≡ true → AddsText texts i m m
  adds_some m i None e t = cc
  adds_some m i (Some n) e t = adds_known m i n (sym e)

  pub adds_other : (m later : Firsts) (b : List ℕ) (i : ℕ) (o : Option ℕ) → IsUtf8 b → chars b ≡ text_at texts i → o ≡ value_under m (text_at texts i) → is_some o ≡ false
      → tree.UpdatesBy (λ x y. slice_cmp nat_cmp x.now y.now) (λ k. slice_cmp nat_cmp b k.now) m later (Some i) → AddsText texts i m later
  adds_other m later b i None u is e t up = adds_new m later b i u is (sym e) up
  adds_other m later b i (Some n) u is e t up = cc

  -- The strings before this one have numbers.
  pub record FirstsUpTo (count : ℕ) (m : Firsts) : Type 0 where
    pub indices : AreIndices texts m
    pub each : (i : ℕ) → i < count → HasText texts m i

  pub firsts_none : (m : Firsts) → tree.IsEmpty m → FirstsUpTo 0 m
  firsts_none m f = record {
    indices = λ x n g. (let clash : None ≡ Some n = sym (ap (lookup (is_at (λ (k : Bor (List ℕ)). slice_cmp nat_cmp (encode_utf8_all x) k.now))) f) ∙ g in cc);
    each = λ i l. absurd (omega arith);
  }

  pub firsts_next : (count : ℕ) (m later : Firsts) → FirstsUpTo count m → AddsText texts count m later → FirstsUpTo (count + 1) later
  firsts_next count m later f a = record { indices = a.indices f.each f.indices; each = λ i l. by_last i l (i == count) refl }
    where
      by_last : (i : ℕ) → i < count + 1 → (t : Bool) → (i == count) ≡ t → HasText texts later i
      by_last i l true q = let h : count ≡ i = grind (arith, q) in subst (HasText texts later) h a.here
      by_last i l false q = let h = f.each i (grind (arith, q)) in (h.0, a.kept (text_at texts i) h.0 h.1)

  pub firsts_end : (count : ℕ) (m : Firsts) → length texts < count → FirstsUpTo count m → AreFirsts texts m
  firsts_end count m l f = record { indices = f.indices; each = λ i. by_past i (nat_lt i (length texts)) refl }
    where
      past : (i : ℕ) → length texts ≤ i → text_at texts (length texts) ≡ text_at texts i
      past i h = get_or_past texts (length texts) [] (omega arith) ∙ sym (get_or_past texts i [] h)

      by_past : (i : ℕ) (t : Bool) → nat_lt i (length texts) ≡ t → HasText texts m i
      by_past i true q = f.each i (grind (arith, q))
      by_past i false q = let h = f.each (length texts) l in (h.0, ap (value_under m) (sym (past i (grind (arith, q)))) ∙ h.1)

-- The number of a string.
number_is : (number : List ℕ → Option ℕ) (texts : List (List ℕ)) (i : ℕ) → get_or (map number texts) i (number []) ≡ number (text_at texts i)
number_is number [] i = refl
number_is number (x ∷ texts) zero = refl
number_is number (x ∷ texts) (suc i) = number_is number texts i

pub numbers_are : (ones others : List (List ℕ)) (m : Firsts) (of_ones of_others : List (Option ℕ)) (of_empty : Option ℕ) → AreFirsts ones m
    → of_ones ≡ map (value_under m) ones → of_others ≡ map (value_under m) others → of_empty ≡ value_under m [] → AreNumbers ones others of_ones of_others of_empty
numbers_are ones others m of_ones of_others of_empty f a b e i j =
    let p : get_or of_ones i of_empty ≡ value_under m (text_at ones i) = ap (λ z. get_or z i of_empty) a ∙ (ap (get_or (map (value_under m) ones) i) e ∙ number_is (value_under m) ones i) in
    let q : get_or of_others j of_empty ≡ value_under m (text_at others j) = ap (λ z. get_or z j of_empty) b ∙ (ap (get_or (map (value_under m) others) j) e ∙ number_is (value_under m) others j) in
    let h = f.each i in
    ap (λ z. same_number z (get_or of_others j of_empty)) (p ∙ h.1) ∙ (ap (same_number (Some h.0)) q ∙ by_number (text_at ones i) (text_at others j) h.0 h.1 (value_under m (text_at others j)) refl)
  where
    by_test : (x y : List ℕ) (k n : ℕ) → value_under m x ≡ Some k → value_under m y ≡ Some n → (t : Bool) → bytes_eq x y ≡ t → (k == n) ≡ t
    by_test x y k n v w true g = let s : x ≡ y = (bytes_eq-Decides x y).0 g in let z : k ≡ n = (let z : Some k ≡ Some n = sym v ∙ (ap (value_under m) s ∙ w) in cc) in grind (arith, z)
    by_test x y k n v w false g = by_same (k == n) refl
      where
        by_same : (t : Bool) → (k == n) ≡ t → t ≡ false
        by_same false r = refl
        by_same true r =
            let z : k ≡ n = grind (arith, r) in
            let s : x ≡ y = sym (f.indices x k v).text ∙ (ap (text_at ones) z ∙ (f.indices y n w).text) in
            (let clash : true ≡ false = sym ((bytes_eq-Decides x y).1 s) ∙ g in cc)

    by_number : (x y : List ℕ) (k : ℕ) → value_under m x ≡ Some k → (o : Option ℕ) → value_under m y ≡ o → same_number (Some k) o ≡ bytes_eq x y
    by_number x y k v None w = by_equal (bytes_eq x y) refl
      where
        by_equal : (t : Bool) → bytes_eq x y ≡ t → false ≡ t
        by_equal false g = refl
        by_equal true g = (let clash : None ≡ Some k = sym w ∙ (ap (value_under m) (sym ((bytes_eq-Decides x y).0 g)) ∙ v) in cc)
    by_number x y k v (Some n) w = by_test x y k n v w (bytes_eq x y) refl
