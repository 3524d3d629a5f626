-- The used keys in order, each with its value, and the numbers of their groups.
use Rattle.std.specs.Prelude.{◌≡◌, ◌↔◌, ◌⊎◌, ℕ, zero, suc, IfSome, ◌<◌, Bool, true, false, not, is_some, List, [], ◌∷◌, ◌++◌, map, filter, slice_get, take, length, option_to_list, if◌then◌else◌, Contains, ◌+◌, Option, Some, None}
use Rattle.std.specs.Option.{option_map}
use Rattle.std.specs.List.{AllByRecursion, list_any}
use Rattle.std.proofs.Common.{ap, arith, refl, sym, ◌∙◌, subst, inl, inr, append_assoc}
use Rattle.std.proofs.lemmas.List.{length-map, map-append}
use Rattle.jfr_value.specs.Values.{Value}
use Rattle.jfr_value.specs.Nodes.{IsNode, node_bytes}
use Rattle.jfr_pool.specs.declared.entry.EntryAt.{EntryAt}
use Rattle.jfr_pool.specs.Entries.{number_in_force, in_force, entry_node}
use Rattle.jfr_pool.proofs.OneLaws.{last_is}
use Rattle.jfr_chunk.specs.Parts.{Parts, EventAt, AreParts}
use Rattle.jfr_worklist.specs.Marks.{is_marked}
use Rattle.jfr_chunk.specs.Reach.{Used, kept_by, marked, reached_marks, remain}
use Rattle.jfr_chunk.proofs.HasNodesLaws.{has_nodes}
use Rattle.jfr_laws.proofs.Same.{chosen_events}
use Rattle.jfr_chunk.proofs.AllLaws.{all_in, in_filter}
use Rattle.jfr_pool.proofs.ForceLaws.{forced}
use Rattle.jfr_worklist.specs.Members.{In}
use Rattle.jfr_worklist.proofs.Members.{contains_in, in_contains, in_left, in_right, in_cases}
use Rattle.jfr_chunk.proofs.PathLaws.{HasNodes}
use Rattle.jfr_renumber.specs.declared.numbering.UsedKey.{UsedKey}
use Rattle.jfr_chunk.specs.Missing.{is_missing}
use Rattle.jfr_renumber.specs.Missing.{IsRising, flagged}
use Rattle.jfr_renumber.specs.Numbering.{ArePairsOf, HasValue, SameValue, pair_at, pair_numbers}
use Rattle.jfr_renumber.specs.Keys.{Together}
use Rattle.jfr_renumber.specs.Numbers.{number_at, number_of}
use Rattle.jfr_renumber.specs.Renumber.{new_key, new_key_of, pair_of, together, used_keys}
use Rattle.jfr_renumber.proofs.NumberLaws.{any_same, number_given}
use Rattle.jfr_renumber.proofs.OrderLaws.{pair_same}
use Rattle.jfr_renumber.proofs.LawLaws.{kept_nodes}
use Rattle.jfr_renumber.proofs.MissingLaws.{flag_there, flagged_is, flagged_not, marked_up}
use Rattle.jfr_laws.proofs.Listed.{in_map, map_in, passes_in}
use Rattle.jfr_renumber.proofs.TogetherLaws.{Twins, alike_together, together_alike, together_is}
use Rattle.jfr_renumber.proofs.UsedLaws.{in_used, remains_used, used_in, used_remains}

some_value : (p : Parts) (o : Option EntryAt) (v : List ℕ) → Some v ≡ option_map (λ e. node_bytes p.bytes (entry_node e)) o → (e : EntryAt) × (o ≡ Some e) × (v ≡ node_bytes p.bytes (entry_node e))
some_value p None v h = cc
some_value p (Some e) v h = (e, refl, cc)

module _ (p : Parts) where
  same_of_twins : (k l : UsedKey) → HasValue p k → HasValue p l → Twins p (pair_at k) (pair_at l) → SameValue k l
  same_of_twins k l a b t = record {
    value = node_bytes p.bytes (entry_node t.entry);
    here = a ∙ ap (option_map (λ e. node_bytes p.bytes (entry_node e))) t.here;
    there = b ∙ (ap (option_map (λ e. node_bytes p.bytes (entry_node e))) t.there ∙ ap (λ z. Some z) (sym t.bytes));
  }

  twins_of_same : (k l : UsedKey) → HasValue p k → HasValue p l → SameValue k l → Twins p (pair_at k) (pair_at l)
  twins_of_same k l a b s =
      let e = some_value p (in_force p.entries (pair_at k)) s.value (sym s.here ∙ a) in
      let f = some_value p (in_force p.entries (pair_at l)) s.value (sym s.there ∙ b) in
      record { entry = e.0; other = f.0; here = e.1; there = f.1; bytes = sym e.2 ∙ f.2 }

  alike_by : (k l : UsedKey) → HasValue p k → HasValue p l → (together p (pair_at k) (pair_at l) ≡ true) ↔ ((k.class ≡ l.class) × ((k.key ≡ l.key) ⊎ SameValue k l))
  alike_by k l a b = (there, back)
    where
      on : (k.key ≡ l.key) ⊎ Twins p (pair_at k) (pair_at l) → (k.key ≡ l.key) ⊎ SameValue k l
      on (inl e) = inl e
      on (inr t) = inr (same_of_twins k l a b t)

      off : (k.key ≡ l.key) ⊎ SameValue k l → (k.key ≡ l.key) ⊎ Twins p (pair_at k) (pair_at l)
      off (inl e) = inl e
      off (inr s) = inr (twins_of_same k l a b s)

      there : together p (pair_at k) (pair_at l) ≡ true → (k.class ≡ l.class) × ((k.key ≡ l.key) ⊎ SameValue k l)
      there e = let z = together_alike p (pair_at k) (pair_at l) e in (z.0, on z.1)

      back : (k.class ≡ l.class) × ((k.key ≡ l.key) ⊎ SameValue k l) → together p (pair_at k) (pair_at l) ≡ true
      back z = alike_together p (pair_at k) (pair_at l) (z.0, off z.1)

module _ (p : Parts) (s : HasNodes p) (kept : List EventAt) (nodes : (e : EventAt) → In kept e → (v : Value) × IsNode p.classes p.bytes e.node v) where
  abbrev pub all_pairs : List (ℕ × ℕ)
  all_pairs = filter (is_missing p.entries) (used_keys p kept) ++ map pair_of (remain p kept)

  pub pairs_used : (t : ℕ × ℕ) → In all_pairs t → In (used_keys p kept) t
  pairs_used t i = by_side (in_cases (filter (is_missing p.entries) (used_keys p kept)) (map pair_of (remain p kept)) t i)
    where
      by_side : In (filter (is_missing p.entries) (used_keys p kept)) t ⊎ In (map pair_of (remain p kept)) t → In (used_keys p kept) t
      by_side (inl j) = in_filter (is_missing p.entries) (used_keys p kept) t j
      by_side (inr j) =
          let r = map_in pair_of (remain p kept) t j in
          subst (In (used_keys p kept)) r.2 (used_in p s kept nodes (pair_of r.0) (remains_used p s kept nodes r.0 r.1).used)

  pub used_pairs : (t : ℕ × ℕ) → In (used_keys p kept) t → In all_pairs t
  used_pairs t i = by_number (number_in_force p.entries t) refl
    where
      by_number : (o : Option ℕ) → number_in_force p.entries t ≡ o → In all_pairs t
      by_number None e = in_left (filter (is_missing p.entries) (used_keys p kept)) (map pair_of (remain p kept)) t
          (passes_in (is_missing p.entries) (used_keys p kept) t i (ap (λ o. not (is_some o)) e))
      by_number (Some n) e =
          let f = forced p.entries t n e in
          let l = (last_is p.entries t n).0 e in
          let h : l.entry ≡ f.entry = (let x : Some l.entry ≡ Some f.entry = sym l.holds ∙ f.there in cc) in
          let q : pair_of f.entry ≡ t = ap pair_of (sym h) ∙ l.has in
          let r = used_remains p s kept nodes t f.entry (in_used p s kept nodes t i) f.is in
          in_right (filter (is_missing p.entries) (used_keys p kept)) (map pair_of (remain p kept)) t (subst (In (map pair_of (remain p kept))) q (in_map pair_of (remain p kept) f.entry r))

  -- Keys in order, with their values, of just these pairs.
  pub are_pairs : (ps : List (ℕ × ℕ)) (ks : List UsedKey) → IsRising ps → ((t : ℕ × ℕ) → Contains all_pairs t → Contains ps t) → ((t : ℕ × ℕ) → Contains ps t → Contains all_pairs t)
      → map pair_at ks ≡ ps → AllByRecursion (HasValue p) ks → ArePairsOf (together p) (used_keys p kept) ks
  are_pairs ps ks r on off e v = record {
    rising = subst IsRising (sym e) r;
    used = λ k c. in_contains (used_keys p kept) (pair_at k)
        (pairs_used (pair_at k) (contains_in all_pairs (pair_at k) (off (pair_at k) (in_contains ps (pair_at k) (subst (λ z. In z (pair_at k)) e (in_map pair_at ks k (contains_in ks k c)))))));
    all = λ t c. (let j : In ps t = contains_in ps t (on t (in_contains all_pairs t (used_pairs t (contains_in (used_keys p kept) t c)))) in let m = map_in pair_at ks t
        (subst (λ z. In z t) (sym e) j) in (m.0, in_contains ks m.0 m.1, m.2));
    alike = λ k l c d. alike_by p k l (all_in (HasValue p) ks k v (contains_in ks k c)) (all_in (HasValue p) ks l v (contains_in ks l d));
  }

pub numbers_are : (p : Parts) (kept : List EventAt) (ks : List UsedKey) → pair_numbers (together p) (used_keys p kept) ks ≡ map (λ k. new_key p kept (pair_at k)) ks
unfolding new_key
numbers_are p kept ks = refl

-- One more of the entries that are reached.
pub reached_next : (p : Parts) (marks : List Bool) (n : ℕ) (old these next : List (ℕ × ℕ)) (e : EntryAt) (keep : Bool) → n < length marks → is_marked marks n ≡ keep → slice_get p.entries n ≡ Some e
    → these ≡ old ++ map pair_of (marked (take n marks) p.entries) → next ≡ these ++ (if keep then pair_of e ∷ [] else []) → next ≡ old ++ map pair_of (marked (take (n + 1) marks) p.entries)
reached_next p marks n old these next e keep w m g h i =
    let a : List (ℕ × ℕ) = map pair_of (marked (take n marks) p.entries) in
    let f : slice_get marks n ≡ Some keep = flag_there marks n keep w m in
    let u : map pair_of (marked (take (n + 1) marks) p.entries) ≡ a ++ (if keep then pair_of e ∷ [] else []) =
    ap (map pair_of) (marked_up marks p.entries n w) ∙ (map-append pair_of (marked (take n marks) p.entries) (option_to_list (flagged marks p.entries n)) ∙ ap (λ z. a ++ z) (by_keep keep f)) in
    i ∙ (ap (λ z. z ++ (if keep then pair_of e ∷ [] else [])) h ∙ (append_assoc old a (if keep then pair_of e ∷ [] else []) ∙ ap (λ z. old ++ z) (sym u)))
  where
    by_keep : (t : Bool) → slice_get marks n ≡ Some t → map pair_of (option_to_list (flagged marks p.entries n)) ≡ (if t then pair_of e ∷ [] else [])
    by_keep true f = ap (map pair_of) (flagged_is marks p.entries n e f g)
    by_keep false f = ap (map pair_of) (flagged_not marks p.entries n f)

map_map : {A B C : Type 0} (f : B → C) (g : A → B) (xs : List A) → map f (map g xs) ≡ map (λ x. f (g x)) xs
map_map f g [] = refl
map_map f g (x ∷ xs) = ap (λ z. f (g x) ∷ z) (map_map f g xs)

-- The pairs have their new keys as numbers, and all others have none.
pub record IsNumbered (p : Parts) (kept : List EventAt) (ps : List (ℕ × ℕ)) (ns : List ℕ) : Type 0 where
  pub each : (t : ℕ × ℕ) → number_at ps ns t ≡ new_key_of p kept t
  pub count : length ns ≡ length ps

module _ (p : Parts) (a : AreParts p) (flags marks : List Bool) (m : marks ≡ reached_marks p (kept_by p flags)) where
  abbrev kept : List EventAt
  kept = kept_by p flags

  abbrev missing : List (ℕ × ℕ)
  missing = filter (is_missing p.entries) (used_keys p kept)

  abbrev reached : List (ℕ × ℕ)
  reached = map pair_of (remain p kept)

  rest_is : map pair_of (marked marks p.entries) ≡ reached
  unfolding remain
  rest_is = ap (λ z. map pair_of (marked z p.entries)) m

  from_all : (ms l : List (ℕ × ℕ)) → ((t : ℕ × ℕ) → Contains missing t → Contains ms t) → l ≡ ms ++ map pair_of (marked marks p.entries) → (t : ℕ × ℕ) → Contains (missing ++ reached) t → Contains l t
  from_all ms l e f t c = subst (λ z. Contains z t) (sym (f ∙ ap (λ z. ms ++ z) rest_is)) (in_contains (ms ++ reached) t (by_case (in_cases missing reached t (contains_in (missing ++ reached) t c))))
    where
      by_case : In missing t ⊎ In reached t → In (ms ++ reached) t
      by_case (inl i) = in_left ms reached t (contains_in ms t (e t (in_contains missing t i)))
      by_case (inr i) = in_right ms reached t i

  to_all : (ms l : List (ℕ × ℕ)) → ((t : ℕ × ℕ) → Contains ms t → Contains missing t) → l ≡ ms ++ map pair_of (marked marks p.entries) → (t : ℕ × ℕ) → Contains l t → Contains (missing ++ reached) t
  to_all ms l e f t c = in_contains (missing ++ reached) t (by_case (in_cases ms reached t (contains_in (ms ++ reached) t (subst (λ z. Contains z t) (f ∙ ap (λ z. ms ++ z) rest_is) c))))
    where
      by_case : In ms t ⊎ In reached t → In (missing ++ reached) t
      by_case (inl i) = in_left missing reached t (contains_in missing t (e t (in_contains ms t i)))
      by_case (inr i) = in_right missing reached t i

  pub they_are : (ms l ps qs : List (ℕ × ℕ)) (ks js : List UsedKey) → ((t : ℕ × ℕ) → Contains missing t → Contains ms t) → ((t : ℕ × ℕ) → Contains ms t → Contains missing t)
      → l ≡ ms ++ map pair_of (marked marks p.entries) → IsRising ps
      → ((t : ℕ × ℕ) → Contains l t → Contains ps t) → ((t : ℕ × ℕ) → Contains ps t → Contains l t) → qs ≡ ps → map pair_at ks ≡ qs → AllByRecursion (HasValue p) ks → js ≡ ks
      → ArePairsOf (together p) (used_keys p kept) js
  they_are ms l ps qs ks js d e f r on off q b v j =
      subst (ArePairsOf (together p) (used_keys p kept)) (sym j)
      (are_pairs p (has_nodes p a) kept (kept_nodes p a kept (chosen_events p flags)) ps ks r (λ t c. on t (from_all ms l d f t c)) (λ t c. to_all ms l e f t (off t c)) (b ∙ q) v)

  pub used_by : (js ks : List UsedKey) → ArePairsOf (together p) (used_keys p kept) js → js ≡ ks → (t : ℕ × ℕ) → Contains (map pair_at ks) t ↔ Used p kept t
  used_by js ks are j t = subst (λ z. Contains (map pair_at z) t ↔ Used p kept t) j (there, back)
    where
      there : Contains (map pair_at js) t → Used p kept t
      there c =
          let r = map_in pair_at js t (contains_in (map pair_at js) t c) in
          in_used p (has_nodes p a) kept (kept_nodes p a kept (chosen_events p flags)) t
          (subst (In (used_keys p kept)) r.2 (contains_in (used_keys p kept) (pair_at r.0) (are.used r.0 (in_contains js r.0 r.1))))

      back : Used p kept t → Contains (map pair_at js) t
      back u =
          let r = are.all t (in_contains (used_keys p kept) t (used_in p (has_nodes p a) kept (kept_nodes p a kept (chosen_events p flags)) t u)) in
          in_contains (map pair_at js) t (subst (In (map pair_at js)) r.2 (in_map pair_at js r.0 (contains_in js r.0 r.1)))

  -- So the numbers of the pairs are the new keys of all that is used.
  pub all_numbered : (ms l ps qs : List (ℕ × ℕ)) (ks js : List UsedKey) (ns : List ℕ) → ((t : ℕ × ℕ) → Contains missing t → Contains ms t) → ((t : ℕ × ℕ) → Contains ms t → Contains missing t)
      → l ≡ ms ++ map pair_of (marked marks p.entries) → IsRising ps → ((t : ℕ × ℕ) → Contains l t → Contains ps t) → ((t : ℕ × ℕ) → Contains ps t → Contains l t)
      → qs ≡ ps → map pair_at ks ≡ qs → AllByRecursion (HasValue p) ks → js ≡ ks
      → ((test : ℕ × ℕ → ℕ × ℕ → Bool) (us : List (ℕ × ℕ)) → Together test → ArePairsOf test us js → ns ≡ pair_numbers test us js)
      → IsNumbered p kept ps ns
  all_numbered ms l ps qs ks js ns d e f r on off q b v j given =
      let are = they_are ms l ps qs ks js d e f r on off q b v j in
      let pairs : map pair_at js ≡ ps = ap (map pair_at) j ∙ (b ∙ q) in
      let numbers : ns ≡ map (new_key p kept) ps =
      given (together p) (used_keys p kept) (together_is p) are ∙ (numbers_are p kept js ∙ (sym (map_map (new_key p kept) pair_at js) ∙ ap (map (new_key p kept)) pairs)) in
      let same = used_by js js are refl in
      record {
        each = λ t. (let x : number_at ps ns t ≡ (if list_any (λ u. pair_same u t) ps then Some (new_key p kept t) else None) = ap (λ z. number_at ps z t) numbers
            ∙ number_given (new_key p kept) ps t in
            x ∙ ap (λ o. if o then Some (new_key p kept t) else None)
            (any_same ps (used_keys p kept) t
            (λ i. used_in p (has_nodes p a) kept (kept_nodes p a kept (chosen_events p flags)) t ((same t).0 (in_contains (map pair_at js) t (subst (λ z. In z t) (sym pairs) i))))
            (λ i. subst (λ z. In z t) pairs (contains_in (map pair_at js) t ((same t).1 (in_used p (has_nodes p a) kept (kept_nodes p a kept (chosen_events p flags)) t i))))));
        count = ap length numbers ∙ length-map ps (new_key p kept);
      }

entry_there : (es : List EntryAt) (n : ℕ) → n < length es → (e : EntryAt) × (slice_get es n ≡ Some e)
entry_there [] n h = absurd (omega (arith, h))
entry_there (e ∷ es) zero h = (e, refl)
entry_there (e ∷ es) (suc n) h = entry_there es n (omega (arith, h))

pub next_reached : (p : Parts) (es : List EntryAt) (marks : List Bool) (n : ℕ) (old these next : List (ℕ × ℕ)) (t : ℕ × ℕ) (keep : Bool) → es ≡ p.entries → n < length es
    → length marks ≡ length p.entries → keep ≡ is_marked marks n → IfSome (slice_get es n) (λ e. t ≡ pair_of e)
    → these ≡ old ++ map pair_of (marked (take n marks) p.entries) → next ≡ these ++ (if keep then t ∷ [] else []) → next ≡ old ++ map pair_of (marked (take (n + 1) marks) p.entries)
next_reached p es marks n old these next t keep q w l m s h i =
    let e = entry_there es n w in
    let u : t ≡ pair_of e.0 = subst (λ o. IfSome o (λ e. t ≡ pair_of e)) e.1 s in
    let len : length es ≡ length p.entries = ap length q in
    reached_next p marks n old these next e.0 keep (omega (arith, w, l, len)) (sym m) (sym (ap (λ z. slice_get z n) q) ∙ e.1) h (i ∙ ap (λ z. these ++ (if keep then z ∷ [] else [])) u)

pub numbered_of : (p : Parts) (these : List EventAt) (ps : List (ℕ × ℕ)) (ns : List ℕ) → IsNumbered p these ps ns → (t : ℕ × ℕ)
    → number_of (record { pairs = ps; numbers = ns }) t ≡ new_key_of p these t
unfolding number_of
numbered_of p these ps ns n t = n.each t
