-- What the verdicts on classes say of events.
use Rattle.std.specs.Prelude.{◌≡◌, ◌==◌, ℕ, Bool, true, false, cond, find, length, map, replicate, List, [], ◌∷◌, Option, Some, None, IfSome, IsSome, slice_get, slice_index_or}
use Rattle.std.specs.List.{AllZip, list_all}
use Rattle.std.proofs.Common.{ap, inl, inr, refl, sym, ◌∙◌, subst}
use Rattle.std.proofs.lemmas.Bool.{and_parts}
use Rattle.jfr_filter.specs.Filters.{Given}
use Rattle.jfr_layout.specs.Classes.{Class, Classes, find_class}
use Rattle.jfr_chunk.specs.declared.event.Event.{Event}
use Rattle.jfr_chunk.specs.Chosen.{chosen, is_chosen}
use Rattle.jfr_chunk.specs.Parts.{EventAt, Parts, AreParts, events_of}
use Rattle.jfr_chunk.specs.Indexed.{event_at}
use Rattle.jfr_worklist.specs.Members.{In}
use Rattle.jfr_worklist.proofs.Members.{get_in, in_contains}
use Rattle.jfr_path.specs.declared.verdict.ClassVerdict.{ClassVerdict}
use Rattle.jfr_path.specs.declared.verdict.ClassVerdict.TheVariants.{Asked, Dropped, Kept}
use Rattle.jfr_path.specs.Verdicts.{IsVerdict, IsRightFor, is_kept}
use Rattle.jfr_path.proofs.EventLaws.{event_known}
use Rattle.jfr_path.proofs.ListLaws.{zip_at}

module _ (p : Parts) (parts : AreParts p) (e : Event) (q : slice_get (events_of p) e.number ≡ Some (event_at e)) where
  abbrev listed : In (events_of p) (event_at e)
  listed = get_in (events_of p) e.number (event_at e) q

  -- The class of an event is known.
  pub placed : (k : Classes) → k ≡ p.classes → None ≡ find_class k e.frame.type_id → ⊥
  placed k h n =
      let none : None ≡ find_class p.classes e.frame.type_id = n ∙ ap (λ (z : Classes). find_class z e.frame.type_id) h in
      let x : IsSome {T = Class} None = subst (λ z. IsSome z) (sym none) (event_known p parts (event_at e) listed) in cc

  pub said : (g : Given) (verdicts : List ClassVerdict) (place : ℕ) (other : ClassVerdict) → AllZip (IsVerdict g) p.classes verdicts → slice_get p.classes place ≡ find_class p.classes e.frame.type_id
      → IsRightFor g p (event_at e) (slice_index_or verdicts place other)
  said g verdicts place other all there = by_class (find_class p.classes e.frame.type_id) refl (zip_at (IsVerdict g) p.classes verdicts place other (find_class p.classes e.frame.type_id) all there)
    where
      by_class : (o : Option Class) → find_class p.classes e.frame.type_id ≡ o → IfSome o (λ c. IsVerdict g c (slice_index_or verdicts place other))
          → IsRightFor g p (event_at e) (slice_index_or verdicts place other)
      by_class None n v = absurd (placed p.classes refl (sym n))
      by_class (Some c) n v = v.each p (event_at e) (record { parts = parts; listed = in_contains (events_of p) (event_at e) listed; class = n })

-- Where every class is kept, so is every event.
module _ (g : Given) (p : Parts) (parts : AreParts p) where
  class_kept : (k : Classes) (verdicts : List ClassVerdict) (test : Class → Bool) (c : Class) → AllZip (IsVerdict g) k verdicts → list_all is_kept verdicts ≡ true → find test k ≡ Some c
      → IsVerdict g c Kept
  class_kept [] verdicts test c z a e = cc
  class_kept (d ∷ k) [] test c z a e = absurd z
  class_kept (d ∷ k) (v ∷ verdicts) test c z a e = by_test (test d) refl e (class_kept k verdicts test c z.1 (and_parts (is_kept v) (list_all is_kept verdicts) a).1)
    where
      the_kept : (v : ClassVerdict) → is_kept v ≡ true → v ≡ Kept
      the_kept Kept q = refl
      the_kept Dropped q = cc
      the_kept (Asked times thread) q = cc

      by_test : (b : Bool) → test d ≡ b → cond b (Some d) (find test k) ≡ Some c → (find test k ≡ Some c → IsVerdict g c Kept) → IsVerdict g c Kept
      by_test true q e rest = let h : d ≡ c = cc in subst (λ w. IsVerdict g c w) (the_kept v (and_parts (is_kept v) (list_all is_kept verdicts) a).0) (subst (λ (w : Class). IsVerdict g w v) h z.0)
      by_test false q e rest = rest e

  event_kept : (verdicts : List ClassVerdict) → AllZip (IsVerdict g) p.classes verdicts → list_all is_kept verdicts ≡ true → (e : EventAt) → In (events_of p) e → is_chosen g p e ≡ true
  event_kept verdicts z a e i = by_class (find_class p.classes e.record_of.type_id) refl (event_known p parts e i)
    where
      by_class : (o : Option Class) → find_class p.classes e.record_of.type_id ≡ o → IsSome o → is_chosen g p e ≡ true
      by_class None q s = cc
      by_class (Some c) q s = (class_kept p.classes verdicts (λ c. c.id == e.record_of.type_id) c z a q).each p e (record { parts = parts; listed = in_contains (events_of p) e i; class = q })

  all_true : (es : List EventAt) → ((e : EventAt) → In es e → is_chosen g p e ≡ true) → map (is_chosen g p) es ≡ replicate (length es) true
  all_true [] h = refl
  all_true (e ∷ es) h = ap (λ b. b ∷ map (is_chosen g p) es) (h e (inl refl)) ∙ ap (λ bs. true ∷ bs) (all_true es (λ f i. h f (inr i)))

  pub all_chosen : (verdicts : List ClassVerdict) → AllZip (IsVerdict g) p.classes verdicts → list_all is_kept verdicts ≡ true → chosen g p ≡ replicate (length (events_of p)) true
  all_chosen verdicts z a = all_true (events_of p) (event_kept verdicts z a)
