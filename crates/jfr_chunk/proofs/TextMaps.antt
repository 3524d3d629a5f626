-- A map in memory from texts, and the finite map with the same values under the bytes of the texts.
use Rattle.std.specs.Prelude.{◌≡◌, ℕ, Bool, true, false, cond, ◌&&◌, T, List, [], ◌∷◌, map, None, Some, String, string_bytes}
use Rattle.std.specs.FinMap as fin
use Rattle.std.specs.FinMap.{FinMap, entries-from_sorted, find, get-from_entries, get-from_sorted, is_sorted, same_map, slice_cmp-IsAntisymmetric, nat_cmp-IsAntisymmetric}
use Rattle.std.specs.Ordering.{is_eq, is_lt, nat_cmp}
use Rattle.std.specs.declared.cmp.Ordering.TheVariants.{Less}
use Rattle.std.specs.Cmp.Lexicographic.{slice_cmp, nat_list_cmp_total}
use Rattle.std.specs.FinMap.Entries.{below_all}
use Rattle.std.specs.List.{AllByRecursion}
use Rattle.std.specs.List.Sorted.{IsStrictlySortedBy}
use Rattle.std.specs.Map.{keys_of, lookup}
use Rattle.std.specs.Str.{bytes_eq}
use Rattle.std.specs.String.{string_cmp}
use Rattle.std.specs.BTreeMap.{BTreeMap, get_by_text, is_at, UpdatesBy}
use Rattle.std.specs.declared.alloc.Global.{Global}
use Rattle.std.proofs.Common.{ap, refl, sym, subst, ◌∙◌}
use Rattle.std.proofs.lemmas.Map.Text.{btree_map_updates_text}

both_true : (a b : Bool) → T a → T b → T (a && b)
both_true true b p q = q
both_true false b p q = p

module _ (V : Type 0) where
  -- The bytes of a text, and its value.
  abbrev by_bytes : String Global × V → List ℕ × V
  by_bytes e = (string_bytes e.0, e.1)

  abbrev values_in : BTreeMap (String Global) V → FinMap (slice_cmp nat_cmp) V
  values_in m = fin.from_entries (map by_bytes m.entries)

  -- A text finds the same among the entries of both.
  found_in : (q : List ℕ) (es : List (String Global × V)) → find (slice_cmp nat_cmp) q (map by_bytes es) ≡ lookup (is_at (λ k. slice_cmp nat_cmp q (string_bytes k))) es
  found_in q [] = refl
  found_in q (e ∷ es) = ap (cond (is_eq (slice_cmp nat_cmp q (string_bytes e.0))) (Some e.1)) (found_in q es)

  -- A value of the map.
  pub get-values_in : (m : BTreeMap (String Global) V) (q : List ℕ) → fin.get (values_in m) q ≡ get_by_text m q
  get-values_in m q = get-from_entries nat_list_cmp_total (map by_bytes m.entries) q ∙ found_in q m.entries

  -- A map without entries has no value.
  pub no_value : (m : BTreeMap (String Global) V) (q : List ℕ) (v : V) → m.entries ≡ [] → fin.get (values_in m) q ≡ Some v → ⊥
  no_value m q v e is = let n : None ≡ Some v = sym (get-values_in m q ∙ ap (lookup (is_at (λ k. slice_cmp nat_cmp q (string_bytes k)))) e) ∙ is in cc

  -- A change at one text.
  pub changed : (m n : BTreeMap (String Global) V) (text : List ℕ) (v : V) → UpdatesBy string_cmp (λ k. slice_cmp nat_cmp text (string_bytes k)) m n (Some v) → (q : List ℕ)
      → fin.get (values_in n) q ≡ cond (bytes_eq text q) (Some v) (fin.get (values_in m) q)
  changed m n text v u q = get-values_in n q ∙ (btree_map_updates_text text m n (Some v) u q ∙ ap (cond (bytes_eq text q) (Some v)) (sym (get-values_in m q)))

  -- Texts that ascend are in the order of the finite map.
  below_texts : (x : String Global) (es : List (String Global × V)) → AllByRecursion (λ y. string_cmp x y ≡ Less) (keys_of es) → T (below_all (slice_cmp nat_cmp) (string_bytes x) (map by_bytes es))
  below_texts x [] h = tt
  below_texts x (e ∷ es) h = both_true _ _ (subst (λ o. T (is_lt o)) (sym h.0) tt) (below_texts x es h.1)

  texts_sorted : (es : List (String Global × V)) → IsStrictlySortedBy string_cmp (keys_of es) → T (is_sorted (slice_cmp nat_cmp) (map by_bytes es))
  unfolding IsStrictlySortedBy
  texts_sorted [] h = tt
  texts_sorted (e ∷ es) h = both_true _ _ (below_texts e.0 es h.0) (texts_sorted es h.1)

  -- The entries of the map, in order.
  pub entries-values_in : (m : BTreeMap (String Global) V) → IsStrictlySortedBy string_cmp (keys_of m.entries) → fin.entries (values_in m) ≡ map by_bytes m.entries
  entries-values_in m h =
      let es : List (List ℕ × V) = map by_bytes m.entries in
      let s = texts_sorted m.entries h in
      let same : values_in m ≡ fin.from_sorted es =
      same_map nat_list_cmp_total (slice_cmp-IsAntisymmetric nat_cmp-IsAntisymmetric) _ _ (λ q. get-from_entries nat_list_cmp_total es q ∙ sym (get-from_sorted (slice_cmp nat_cmp) es q s)) in
      ap fin.entries same ∙ entries-from_sorted (slice_cmp nat_cmp) es s
