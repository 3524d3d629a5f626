-- The ids of the classes of kept events, while they are collected.
use Rattle.std.specs.Prelude.{◌≡◌, ◌↔◌, IsTrue, IsSome, ℕ, ◌+◌, ◌<◌, ◌≤◌, Bool, true, false, ◌&&◌, ◌||◌, ◌==◌, List, [], ◌∷◌, ◌++◌, length, slice_get, take, Option, Some, None, option_map, unwrap_or}
use Rattle.std.specs.List.{list_all, list_any}
use Rattle.std.specs.Option.{option_map_or}
use Rattle.std.proofs.Common.{ap, arith, refl, sym, ◌∙◌, subst}
use Rattle.std.proofs.lemmas.List.{length-take-le, take_all}
use Rattle.std.proofs.lemmas.List.Folds.{list_any-append}
use Rattle.jfr_layout.specs.Classes.{Class, Classes}
use Rattle.jfr_layout.proofs.Lists.{present, take_next}
use Rattle.jfr_chunk.specs.Metas.{Names, used_by, is_described}
use Rattle.jfr_chunk.specs.Parts.{EventAt}
use Rattle.jfr_chunk.specs.Reach.{marked}

-- Marks and members, and one of each more.
marked_more : {X : Type 0} (fs : List Bool) (xs : List X) (f : Bool) (x : X) → length fs ≡ length xs → marked (fs ++ f ∷ []) (xs ++ x ∷ []) ≡ marked fs xs ++ marked (f ∷ []) (x ∷ [])
marked_more [] [] f x h = refl
marked_more [] (y ∷ xs) f x h = absurd (omega arith)
marked_more (g ∷ fs) [] f x h = absurd (omega arith)
marked_more (true ∷ fs) (y ∷ xs) f x h = ap (λ z. y ∷ z) (marked_more fs xs f x (omega arith))
marked_more (false ∷ fs) (y ∷ xs) f x h = marked_more fs xs f x (omega arith)

pub or_false : (b : Bool) → (b || false) ≡ b
or_false true = refl
or_false false = refl

or_assoc : (a b c : Bool) → ((a || b) || c) ≡ (a || (b || c))
or_assoc true b c = refl
or_assoc false b c = refl

-- The described ones among one class more.
pub described_next : (names : Names) (k : Classes) (n : ℕ) (c : Class) (id : ℕ) (old now new : Bool) → slice_get k n ≡ Some c → now ≡ (old || is_described names (take n k) id)
    → new ≡ (now || ((c.id == id) && names c.name)) → new ≡ (old || is_described names (take (n + 1) k) id)
described_next names k n c id old now new g e f =
    f ∙ (ap (λ z. z || ((c.id == id) && names c.name)) e ∙ (or_assoc old (is_described names (take n k) id) ((c.id == id) && names c.name)
    ∙ ap (λ z. old || z) (ap (λ z. is_described names (take n k) id || z) (sym (or_false ((c.id == id) && names c.name)))
    ∙ (sym (list_any-append (λ (d : Class). (d.id == id) && names d.name) (take n k) (c ∷ [])) ∙ ap (λ m. is_described names m id) (sym (take_next k n c g))))))

pub described_end : (names : Names) (k : Classes) (n id : ℕ) → length k ≤ n → is_described names (take n k) id ≡ is_described names k id
described_end names k n id h = ap (λ m. is_described names m id) (take_all n k h)

-- Without names nothing is described.
pub described_none : (names : Names) (k : Classes) (id : ℕ) → ((name : List ℕ) → names name ≡ false) → is_described names k id ≡ false
described_none names [] id f = refl
described_none names (c ∷ k) id f = by_test (c.id == id) (described_none names k id f)
  where
    by_test : (t : Bool) → is_described names k id ≡ false → ((t && names c.name) || is_described names k id) ≡ false
    by_test true h = λ i. f c.name i || h i
    by_test false h = h

-- So the used classes are those of the events.
pub all_used : (names : Names) (k : Classes) (id : ℕ) (used : Bool) → ((name : List ℕ) → names name ≡ false) → used ≡ (used || is_described names k id)
all_used names k id used f = sym (ap (λ z. used || z) (described_none names k id f) ∙ or_false used)

-- No patterns match nothing.
pub no_patterns : (matches : List ℕ → Bool) (o : Option (List (List ℕ))) (t : Bool) → IsTrue t ↔ IsSome o → t ≡ false → option_map_or (list_any matches) o false ≡ false
no_patterns matches None t h e = refl
no_patterns matches (Some x) t h e = let z : t ≡ true = h.1 refl in let y : true ≡ false = sym z ∙ e in cc

-- The kept events before event `n` use this class.
abbrev pub used_before : List Bool → List EventAt → ℕ → ℕ → Bool
used_before fs es n id = used_by (marked (take n fs) (take n es)) id

module _ (fs : List Bool) (es : List EventAt) (same : length fs ≡ length es) where
  kept_next : (n : ℕ) (f : Bool) (e : EventAt) → n < length es → slice_get fs n ≡ Some f → slice_get es n ≡ Some e
      → marked (take (n + 1) fs) (take (n + 1) es) ≡ marked (take n fs) (take n es) ++ marked (f ∷ []) (e ∷ [])
  kept_next n f e h g i =
      let a : length (take n fs) ≡ n = length-take-le n fs (omega arith) in
      let b : length (take n es) ≡ n = length-take-le n es (omega arith) in
      (λ j. marked (take_next fs n f g j) (take_next es n e i j)) ∙ marked_more (take n fs) (take n es) f e (a ∙ sym b)

  used_next : (n : ℕ) (f : Bool) (e : EventAt) (id : ℕ) → n < length es → slice_get fs n ≡ Some f → slice_get es n ≡ Some e →
      used_before fs es (n + 1) id ≡ (used_before fs es n id || used_by (marked (f ∷ []) (e ∷ [])) id)
  used_next n f e id h g i = ap (λ z. used_by z id) (kept_next n f e h g i) ∙ list_any-append (λ (x : EventAt). x.record_of.type_id == id) (marked (take n fs) (take n es)) (marked (f ∷ []) (e ∷ []))

  -- An event that isn't kept uses nothing.
  pub used_skip : (n id : ℕ) → n < length es → unwrap_or (slice_get fs n) false ≡ false → used_before fs es (n + 1) id ≡ used_before fs es n id
  used_skip n id h u =
      let e = present es n h in
      by_flag (slice_get fs n) refl u e.0 e.1
    where
      by_flag : (o : Option Bool) → slice_get fs n ≡ o → unwrap_or o false ≡ false → (e : EventAt) → slice_get es n ≡ Some e → used_before fs es (n + 1) id ≡ used_before fs es n id
      by_flag (Some true) g u e i = cc
      by_flag (Some false) g u e i = used_next n false e id h g i ∙ or_false (used_before fs es n id)
      by_flag None g u e i = let k : n < length fs = omega arith in let f = present fs n k in let z : Some f.0 ≡ None = sym f.1 ∙ g in cc

  -- A kept event uses its class.
  pub used_more : (n id : ℕ) (old new : Bool) → n < length es → unwrap_or (slice_get fs n) false ≡ true → old ≡ used_before fs es n id
      → option_map (λ e. old || (e.record_of.type_id == id)) (slice_get es n) ≡ option_map (λ e. new) (slice_get es n) → new ≡ used_before fs es (n + 1) id
  used_more n id old new h u o c =
      let e = present es n h in
      by_flag (slice_get fs n) refl u e.0 e.1
    where
      by_flag : (w : Option Bool) → slice_get fs n ≡ w → unwrap_or w false ≡ true → (e : EventAt) → slice_get es n ≡ Some e → new ≡ used_before fs es (n + 1) id
      by_flag None g u e i = cc
      by_flag (Some false) g u e i = cc
      by_flag (Some true) g u e i =
          let d : Some (old || (e.record_of.type_id == id)) ≡ Some new = subst (λ x. option_map (λ e. old || (e.record_of.type_id == id)) x ≡ option_map (λ e. new) x) i c in
          let k : (old || (e.record_of.type_id == id)) ≡ new = cc in
          sym k ∙ (ap (λ z. z || (e.record_of.type_id == id)) o ∙ (ap (λ z. used_before fs es n id || z) (sym (or_false (e.record_of.type_id == id))) ∙ sym (used_next n true e id h g i)))

  -- Before the end are all.
  pub used_end : (n id : ℕ) → length es ≤ n → used_before fs es n id ≡ used_by (marked fs es) id
  used_end n id h = (λ j. used_by (marked (take_all n fs (omega arith) j) (take_all n es h j)) id)

-- All events are kept if each flag is set.
pub all_kept : {X : Type 0} (fs : List Bool) (xs : List X) → length fs ≡ length xs → list_all (λ keep. keep) fs ≡ true → marked fs xs ≡ xs
all_kept [] [] h e = refl
all_kept [] (x ∷ xs) h e = absurd (omega arith)
all_kept (f ∷ fs) [] h e = absurd (omega arith)
all_kept (false ∷ fs) (x ∷ xs) h e = cc
all_kept (true ∷ fs) (x ∷ xs) h e = ap (λ z. x ∷ z) (all_kept fs xs (omega arith) e)
