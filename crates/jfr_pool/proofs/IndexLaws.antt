-- The index leads to the entry in force.
use Rattle.std.specs.Prelude.{◌≡◌, ◌≢◌, ◌⊎◌, ℕ, zero, suc, ◌+◌, ◌^◌, ◌<◌, Bool, true, false, cond, ◌&&◌, ◌==◌, nat_lt, List, [], ◌∷◌, ◌++◌, length, Option, Some, None, IsSome, is_some, option_map, if◌then◌else◌, replicate}
use Rattle.std.proofs.Common.{ap, refl, sym, ◌∙◌, inl, inr, subst, get_or, set, length-set}
use Rattle.std.proofs.lemmas.Bool.{cases_eq}
use Rattle.std.proofs.lemmas.List.{get_or-set_same, get_or-set_other}
use Rattle.std.specs.Ordering.{is_eq}
use Rattle.std.specs.BTreeMap.{get, IsEmpty, Updates}
use Rattle.std.specs.Map.{lookup}
use Rattle.jfr_pool.specs.declared.entry.EntryAt.{EntryAt}
use Rattle.jfr_pool.specs.declared.index.Index.{Index}
use Rattle.jfr_pool.specs.declared.index.Slot.{Slot}
use Rattle.jfr_pool.specs.declared.index.TheConstants.{REACH}
use Rattle.jfr_pool.specs.declared.table.Table.{Table}
use Rattle.jfr_pool.specs.Tables.{ordinal_at}
use Rattle.jfr_pool.specs.Entries.{number_in_force}
use Rattle.jfr_pool.specs.Index.{target_cmp, Placed, held, number_in, is_open, slot_at, open_slot_from, home, open_slot, number_at, number_of, Indexes}
use Rattle.jfr_pool.proofs.Targets.{clash, hits, same_target, target_same, eq_target, force_push, force_none, some_push}
use Rattle.jfr_pool.proofs.Seats.{home_same, seat_found, held_numbered, none_of}

abbrev empty : Slot
empty = record { key = 0; class = 0; ordinal = 0 }

no_some : (o : Option ℕ) → o ≡ None → IsSome o → ⊥
no_some None q h = cc
no_some (Some m) q h = cc

get_replicate : {X : Type 0} (n i : ℕ) (x : X) → get_or (replicate n x) i x ≡ x
get_replicate zero i x = refl
get_replicate (suc n) zero x = refl
get_replicate (suc n) (suc i) x = get_replicate n i x

-- If all slots are empty and there are no others, nothing has a number.
pub indexes_none : (by_class : List Table) (index : Index) (n : ℕ) → index.slots.items ≡ replicate n empty → IsEmpty index.others → Indexes by_class index []
indexes_none by_class index n slots o = record {
  leads = λ t p. none_of index t (no_others t) (λ i p q. absurd (differ i p q)) ∙ sym (force_none t);
  in_slots = λ i p q. absurd (differ i p q);
  in_others = λ t q. absurd (no_some (get target_cmp index.others t) (no_others t) q);
}
  where
    no_others : (t : ℕ × ℕ) → get target_cmp index.others t ≡ None
    no_others t = ap (λ (z : List ((ℕ × ℕ) × ℕ)). lookup (λ k. is_eq (target_cmp t k)) z) o

    differ : (i : ℕ) (p : Placed) → held (slot_at index.slots.items i) ≡ Some p → ⊥
    differ i p q = let f : held (slot_at index.slots.items i) ≡ None = ap (λ z. held (slot_at z i)) slots ∙ ap held (get_replicate n i empty) in cc

-- An open slot takes the entry.
module _ (old new : Index) (e : EntryAt) (number place : ℕ) (within : place < length old.slots.items) (slots : new.slots.items ≡ set old.slots.items place (record { key = e.key; class = e.class; ordinal = number + 1 })) (others : new.others ≡ old.others) where
  abbrev placed : Placed
  placed = record { class = e.class; key = e.key; number = number }

  here : held (slot_at new.slots.items place) ≡ Some placed
  here = ap (λ z. held (slot_at z place)) slots ∙ ap held (get_or-set_same old.slots.items place _ empty within) ∙ held_numbered e.class e.key number

  elsewhere : (i : ℕ) → i ≢ place → held (slot_at new.slots.items i) ≡ held (slot_at old.slots.items i)
  elsewhere i h = ap (λ z. held (slot_at z i)) slots ∙ ap held (get_or-set_other old.slots.items place i _ empty h)

  -- The open_slot is open.
  seat_open : (n at : ℕ) → open_slot_from n at old.slots.items (e.class, e.key) ≡ Some place → is_open (held (slot_at old.slots.items place)) (e.class, e.key) ≡ true
  seat_open zero at h = cc
  seat_open (suc n) at h = by_test (is_open (held (slot_at old.slots.items at)) (e.class, e.key)) refl h (seat_open n (at + 1))
    where
      by_test : (b : Bool) → is_open (held (slot_at old.slots.items at)) (e.class, e.key) ≡ b → (if b then Some at else open_slot_from n (at + 1) old.slots.items (e.class, e.key)) ≡ Some place
          → (open_slot_from n (at + 1) old.slots.items (e.class, e.key) ≡ Some place → is_open (held (slot_at old.slots.items place)) (e.class, e.key) ≡ true)
          → is_open (held (slot_at old.slots.items place)) (e.class, e.key) ≡ true
      by_test true f h k = let q : at ≡ place = cc in ap (λ i. is_open (held (slot_at old.slots.items i)) (e.class, e.key)) (sym q) ∙ f
      by_test false f h k = k h

  -- It is still the first.
  seat_stays : (n at : ℕ) → open_slot_from n at old.slots.items (e.class, e.key) ≡ Some place → open_slot_from n at new.slots.items (e.class, e.key) ≡ Some place
  seat_stays zero at h = cc
  seat_stays (suc n) at h = by_place (cases_eq at place) (seat_stays n (at + 1))
    where
      by_test : (b : Bool) → at ≢ place → (if b then Some at else open_slot_from n (at + 1) old.slots.items (e.class, e.key)) ≡ Some place
          → (open_slot_from n (at + 1) old.slots.items (e.class, e.key) ≡ Some place → open_slot_from n (at + 1) new.slots.items (e.class, e.key) ≡ Some place)
          → (if b then Some at else open_slot_from n (at + 1) new.slots.items (e.class, e.key)) ≡ Some place
      by_test true q h k = h
      by_test false q h k = k h

      by_place : ((at ≡ place) ⊎ (at ≢ place)) → (open_slot_from n (at + 1) old.slots.items (e.class, e.key) ≡ Some place → open_slot_from n (at + 1) new.slots.items (e.class, e.key) ≡ Some place)
          → open_slot_from (suc n) at new.slots.items (e.class, e.key) ≡ Some place
      by_place (inl q) k = rw (ap (λ i. held (slot_at new.slots.items i)) q ∙ here, target_same e.class e.key (e.class, e.key) refl) (ap (λ i. Some i) q)
      by_place (inr q) k = rw (elsewhere at q) (by_test (is_open (held (slot_at old.slots.items at)) (e.class, e.key)) q h k)

  -- The numbers of others are still found.
  abbrev Stays : ℕ × ℕ → ℕ → ℕ → ℕ → Type 0
  Stays t m n at = number_at old t (open_slot_from n at old.slots.items t) ≡ Some m → number_at new t (open_slot_from n at new.slots.items t) ≡ Some m

  number_stays : (t : ℕ × ℕ) (m : ℕ) → hits e t ≡ false → is_open (held (slot_at old.slots.items place)) (e.class, e.key) ≡ true → (n at : ℕ) → Stays t m n at
  number_stays t m apart was_open zero at h = ap (λ z. get target_cmp z t) others ∙ h
  number_stays t m apart was_open (suc n) at h = by_place (cases_eq at place) (number_stays t m apart was_open n (at + 1))
    where
      by_test : (b : Bool) → at ≢ place → number_at old t (if b then Some at else open_slot_from n (at + 1) old.slots.items t) ≡ Some m → Stays t m n (at + 1)
          → number_at new t (if b then Some at else open_slot_from n (at + 1) new.slots.items t) ≡ Some m
      by_test true q h k = ap (option_map (λ (p : Placed). p.number)) (elsewhere at q) ∙ h
      by_test false q h k = k h

      by_slot : (slot : Option Placed) → held (slot_at old.slots.items at) ≡ slot → is_open slot (e.class, e.key) ≡ true
          → number_at old t (if is_open slot t then Some at else open_slot_from n (at + 1) old.slots.items t) ≡ Some m → Stays t m n (at + 1)
          → number_at new t (open_slot_from n (at + 1) new.slots.items t) ≡ Some m
      by_slot None f o h k = let g = ap (option_map (λ (p : Placed). p.number)) f in cc
      by_slot (Some p) f o h k =
          let same : (p.class, p.key) ≡ (e.class, e.key) = same_target p.class p.key (e.class, e.key) o in
          let g : is_open (Some p) t ≡ false = ap (λ (z : ℕ × ℕ). (z.0 == t.0) && (z.1 == t.1)) same ∙ apart in
          k (rw g at h)

      by_place : ((at ≡ place) ⊎ (at ≢ place)) → Stays t m n (at + 1) → number_at new t (open_slot_from (suc n) at new.slots.items t) ≡ Some m
      by_place (inl q) k =
          rw (ap (λ i. held (slot_at new.slots.items i)) q ∙ here, apart)
          (by_slot (held (slot_at old.slots.items at)) refl (ap (λ i. is_open (held (slot_at old.slots.items i)) (e.class, e.key)) q ∙ was_open) h k)
      by_place (inr q) k = rw (elsewhere at q) (by_test (is_open (held (slot_at old.slots.items at)) t) q h k)

  homes_stay : (t : ℕ × ℕ) → home new.slots.items t ≡ home old.slots.items t
  homes_stay t = home_same new.slots.items old.slots.items t (ap length slots ∙ length-set old.slots.items place _)

  some_stays : (t : ℕ × ℕ) (m : ℕ) → hits e t ≡ false → is_open (held (slot_at old.slots.items place)) (e.class, e.key) ≡ true → number_of old t ≡ Some m → number_of new t ≡ Some m
  unfolding open_slot
  some_stays t m apart was_open = by_class (nat_lt t.0 (2 ^ 32))
    where
      by_class : (b : Bool) → number_at old t (if b then open_slot_from REACH (home old.slots.items t) old.slots.items t else None) ≡ Some m
          → number_at new t (if b then open_slot_from REACH (home new.slots.items t) new.slots.items t else None) ≡ Some m
      by_class true h = rw (homes_stay t) (number_stays t m apart was_open REACH (home old.slots.items t) h)
      by_class false h = ap (λ z. get target_cmp z t) others ∙ h

  module _ (found : open_slot old.slots.items (e.class, e.key) ≡ Some place) (by_class : List Table) (es : List EntryAt) (h : Indexes by_class old es) where
    own : number_of new (e.class, e.key) ≡ Some number
    unfolding open_slot
    own =
        let f = seat_found old.slots.items (e.class, e.key) place found in
        rw (f.0, homes_stay (e.class, e.key), seat_stays REACH (home old.slots.items (e.class, e.key)) f.1) (ap (option_map (λ (p : Placed). p.number)) here)

    -- A target without an entry isn't in the index.
    nowhere : (t : ℕ × ℕ) → hits e t ≡ false → number_in_force es t ≡ None → number_of new t ≡ None
    nowhere t apart none = none_of new t (ap (λ z. get target_cmp z t) others ∙ no_other (get target_cmp old.others t) refl) no_slot
      where
        no_other : (o : Option ℕ) → get target_cmp old.others t ≡ o → o ≡ None
        no_other None q = refl
        no_other (Some m) q = absurd (no_some (number_in_force es t) none (h.in_others t (subst (λ o. IsSome o) (sym q) refl)))

        no_slot : (i : ℕ) (p : Placed) → held (slot_at new.slots.items i) ≡ Some p → (p.class, p.key) ≢ t
        no_slot i p q same = by_place (cases_eq i place)
          where
            by_place : ((i ≡ place) ⊎ (i ≢ place)) → ⊥
            by_place (inl r) =
                let f : Some placed ≡ Some p = sym here ∙ ap (λ j. held (slot_at new.slots.items j)) (sym r) ∙ q in
                let g : placed ≡ p = cc in
                clash (hits e t) (target_same e.class e.key t (ap (λ (z : Placed). (z.class, z.key)) g ∙ same)) apart
            by_place (inr r) = no_some (number_in_force es t) none (subst (λ z. IsSome (number_in_force es z)) same (h.in_slots i p (sym (elsewhere i r) ∙ q)))

    seated_number : (t : ℕ × ℕ) → ordinal_at by_class t ≡ None → number_of new t ≡ cond (hits e t) (Some number) (number_in_force es t)
    seated_number t out = by_test (hits e t) refl (number_in_force es t) refl
      where
        by_test : (b : Bool) → hits e t ≡ b → (o : Option ℕ) → number_in_force es t ≡ o → number_of new t ≡ cond b (Some number) o
        by_test true f o g = ap (number_of new) (sym (same_target e.class e.key t f)) ∙ own
        by_test false f None g = nowhere t f g
        by_test false f (Some m) g = some_stays t m f (seat_open REACH (home old.slots.items (e.class, e.key)) (seat_found old.slots.items (e.class, e.key) place found).1) (h.leads t out ∙ g)

    pub seated : length es ≡ number → Indexes by_class new (es ++ e ∷ [])
    seated n = record {
      leads = λ t out. seated_number t out ∙ ap (λ m. cond (hits e t) (Some m) (number_in_force es t)) (sym n) ∙ sym (force_push es e t);
      in_slots = λ i p q. by_place i p q (cases_eq i place);
      in_others = λ t q. some_push es e t (inr (h.in_others t (subst (λ z. IsSome (get target_cmp z t)) others q)));
    }
      where
        by_place : (i : ℕ) (p : Placed) → held (slot_at new.slots.items i) ≡ Some p → ((i ≡ place) ⊎ (i ≢ place)) → IsSome (number_in_force (es ++ e ∷ []) (p.class, p.key))
        by_place i p q (inl r) =
            let f : Some placed ≡ Some p = sym here ∙ ap (λ j. held (slot_at new.slots.items j)) (sym r) ∙ q in
            let g : placed ≡ p = cc in
            some_push es e (p.class, p.key) (inl (target_same e.class e.key (p.class, p.key) (ap (λ (z : Placed). (z.class, z.key)) g)))
        by_place i p q (inr r) = some_push es e (p.class, p.key) (inr (h.in_slots i p (sym (elsewhere i r) ∙ q)))

-- If no slot is open, the entry is put among the others.
pub passed : (by_class : List Table) (old new : Index) (e : EntryAt) (number : ℕ) (es : List EntryAt) → open_slot old.slots.items (e.class, e.key) ≡ None → new.slots.items ≡ old.slots.items
    → Updates target_cmp old.others new.others (e.class, e.key) (Some number) → Indexes by_class old es → length es ≡ number → Indexes by_class new (es ++ e ∷ [])
passed by_class old new e number es none slots u h n = record {
  leads = λ t out. passed_number t (open_slot old.slots.items t) refl ∙ ap (cond (hits e t) (Some number)) (h.leads t out) ∙ ap (λ m. cond (hits e t) (Some m) (number_in_force es t)) (sym n)
      ∙ sym (force_push es e t);
  in_slots = λ i p q. some_push es e (p.class, p.key) (inr (h.in_slots i p (ap (λ z. held (slot_at z i)) (sym slots) ∙ q)));
  in_others = λ t q. by_test t (hits e t) refl (subst (λ o. IsSome o) (updated t) q);
}
  where
    updated : (t : ℕ × ℕ) → get target_cmp new.others t ≡ cond (hits e t) (Some number) (get target_cmp old.others t)
    updated t = u.0 t ∙ ap (λ b. cond b (Some number) (get target_cmp old.others t)) (eq_target (e.class, e.key) t)

    passed_number : (t : ℕ × ℕ) (o : Option ℕ) → open_slot old.slots.items t ≡ o → number_of new t ≡ cond (hits e t) (Some number) (number_of old t)
    passed_number t None q = ap (number_at new t) (ap (λ z. open_slot z t) slots ∙ q) ∙ updated t ∙ ap (cond (hits e t) (Some number)) (sym (ap (number_at old t) q))
    passed_number t (Some place) q = by_hit (hits e t) refl
      where
        differ : (o : Option ℕ) → o ≡ None → o ≡ Some place → ⊥
        differ o f g = cc

        by_hit : (b : Bool) → hits e t ≡ b → number_of new t ≡ cond b (Some number) (number_of old t)
        by_hit true f = absurd (differ (open_slot old.slots.items t) (ap (open_slot old.slots.items) (sym (same_target e.class e.key t f)) ∙ none) q)
        by_hit false f = ap (number_at new t) (ap (λ z. open_slot z t) slots ∙ q) ∙ ap (λ z. number_in (slot_at z place)) slots ∙ sym (ap (number_at old t) q)

    by_test : (t : ℕ × ℕ) (b : Bool) → hits e t ≡ b → IsSome (cond b (Some number) (get target_cmp old.others t)) → IsSome (number_in_force (es ++ e ∷ []) t)
    by_test t true f s = some_push es e t (inl f)
    by_test t false f s = some_push es e t (inr (h.in_others t s))

-- An entry that has a place in the direct tables is left out.
pub left_out : (by_class : List Table) (index : Index) (e : EntryAt) (es : List EntryAt) → is_some (ordinal_at by_class (e.class, e.key)) ≡ true → Indexes by_class index es
    → Indexes by_class index (es ++ e ∷ [])
left_out by_class index e es place h = record {
  leads = λ t out. h.leads t out ∙ ap (λ b. cond b (Some (length es)) (number_in_force es t)) (sym (apart t out (hits e t) refl)) ∙ sym (force_push es e t);
  in_slots = λ i p q. some_push es e (p.class, p.key) (inr (h.in_slots i p q));
  in_others = λ t q. some_push es e t (inr (h.in_others t q));
}
  where
    apart : (t : ℕ × ℕ) → ordinal_at by_class t ≡ None → (b : Bool) → hits e t ≡ b → hits e t ≡ false
    apart t out true f = absurd (clash (is_some (ordinal_at by_class t)) (ap (λ z. is_some (ordinal_at by_class z)) (sym (same_target e.class e.key t f)) ∙ place) (ap is_some out))
    apart t out false f = f
