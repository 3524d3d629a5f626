-- A remaining event is marked as one that is kept.
use Rattle.std.specs.Prelude.{◌≡◌, ℕ, zero, suc, ◌+◌, ◌≤◌, ◌==◌, Bool, true, false, List, [], ◌∷◌, length, slice_get, Some, IsSome}
use Rattle.std.proofs.Common.{inl, inr, ap, arith, refl, sym, subst}
use Rattle.jfr_frame.specs.declared.framed.Framed.{Framed}
use Rattle.jfr_frame.proofs.RecordLaws.{rising_of}
use Rattle.jfr_worklist.specs.Members.{In}
use Rattle.jfr_worklist.proofs.Members.{get_in}
use Rattle.jfr_chunk.specs.Parts.{AreParts, EventAt, Parts, events_of}
use Rattle.jfr_chunk.specs.Reach.{kept_by, marked}
use Rattle.jfr_output.specs.RemainingRecords.{IsKeptEvent}
use Rattle.jfr_output.proofs.CursorLaws.{event_in, event_place, event_stands, events_given}
use Rattle.jfr_output.proofs.OutputRecordLaws.{Rises, rises_given, rises_marked}
use Rattle.jfr_rewrite.proofs.Output.{find_in}
use Rattle.jfr_mask.specs.Reaching.{marked_get}

module _ (X : Type 0) (place : X → ℕ) where
  rises_in : (least : ℕ) (xs : List X) (x : X) → Rises place least xs → In xs x → least ≤ place x
  rises_in least [] x r i = absurd i
  rises_in least (y ∷ ys) x r (inl e) = subst (λ z. least ≤ place z) e r.0
  rises_in least (y ∷ ys) x r (inr i) = let f = r.0 in let l = rises_in (place y + 1) ys x r.1 i in omega (arith, f, l)

  -- No member is twice in a list that rises.
  never_again : (y x : X) (ys : List X) → Rises place (place y + 1) ys → y ≡ x → In ys x → ⊥
  never_again y x ys r e i = let l = rises_in (place y + 1) ys x r i in let s : place y ≡ place x = ap place e in omega (arith, l, s)

  -- One of the marked members of a list that rises is marked by its number.
  marked_number : (least : ℕ) (flags : List Bool) (xs : List X) (number : ℕ) (x : X) → Rises place least xs → In (marked flags xs) x → slice_get xs number ≡ Some x → IsSome (marked_get flags xs number)
  marked_number least [] xs number x r i e = absurd i
  marked_number least (f ∷ fs) [] number x r i e = absurd i
  marked_number least (true ∷ fs) (y ∷ ys) zero x r i e = refl
  marked_number least (true ∷ fs) (y ∷ ys) (suc n) x r (inl h) e = absurd (never_again y x ys r.1 h (get_in ys n x e))
  marked_number least (true ∷ fs) (y ∷ ys) (suc n) x r (inr i) e = marked_number (place y + 1) fs ys n x r.1 i e
  marked_number least (false ∷ fs) (y ∷ ys) zero x r i e =
      let h : y ≡ x = cc in
      let l = rises_in (place y + 1) (marked fs ys) x (rises_marked place (place y + 1) fs ys r.1) i in
      let s : place y ≡ place x = ap place h in
      absurd (omega (arith, l, s))
  marked_number least (false ∷ fs) (y ∷ ys) (suc n) x r i e = marked_number (place y + 1) fs ys n x r.1 i e

pub kept_marked : (p : Parts) → AreParts p → (flags : List Bool) (number : ℕ) (r : Framed) → IsKeptEvent p flags number r → IsSome (marked_get flags (events_of p) number)
unfolding events_of
kept_marked p a flags number r k =
    let f = find_in (λ e. e.record_of.at == r.at) (kept_by p flags) k.event k.there in
    let rises = rises_given event_place (event_in p) (event_stands p) 0 p.records (rising_of p.bytes 0 68 (length p.bytes) p.records (omega arith) a.records) in
    marked_number EventAt event_place 0 flags (events_of p) number k.event (subst (Rises event_place 0) (sym (events_given p p.records)) rises) f.0 k.numbered
