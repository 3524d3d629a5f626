-- Events with equal contents have the same records.
use Rattle.std.specs.Prelude.{◌≡◌, ℕ, zero, suc, List, [], ◌∷◌, slice_get, Some}
use Rattle.std.proofs.Common.{ap, refl, sym, subst, inl, inr}
use Rattle.jfr_frame.specs.Records.{record_bytes}
use Rattle.jfr_layout.specs.Classes.{Agree}
use Rattle.jfr_chunk.specs.Parts.{Parts, EventAt}
use Rattle.jfr_chunk.specs.Meaning.{SameEvent, SameMeaning}
use Rattle.jfr_chunk.specs.Laws.{SameRecords}
use Rattle.jfr_worklist.specs.Members.{In}
use Rattle.jfr_verify.specs.Checks.{contents}

split_cons : {X : Type 0} (x y : X) (xs ys : List X) → x ∷ xs ≡ y ∷ ys → (x ≡ y) × (xs ≡ ys)
split_cons x y xs ys e = (cc, cc)

-- They correspond one to one if the class lists agree on the classes of the second.
pub contents_same : (p q : Parts) (es fs : List EventAt) → ((f : EventAt) → In fs f → Agree p.classes q.classes f.record_of.type_id) → contents p es ≡ contents q fs → SameRecords p q es fs
contents_same p q [] [] a e = tt
contents_same p q [] (f ∷ fs) a e = cc
contents_same p q (e ∷ es) [] a h = cc
contents_same p q (e ∷ es) (f ∷ fs) a h =
    let k = split_cons (e.record_of.type_id, record_bytes p.bytes e.record_of) (f.record_of.type_id, record_bytes q.bytes f.record_of) (contents p es) (contents q fs) h in
    let c : e.record_of.type_id ≡ f.record_of.type_id = ap (λ (z : ℕ × List ℕ). z.0) k.0 in
    let b : record_bytes p.bytes e.record_of ≡ record_bytes q.bytes f.record_of = ap (λ (z : ℕ × List ℕ). z.1) k.0 in
    (record { class = c; bytes = b; agree = subst (Agree p.classes q.classes) (sym c) (a f (inl refl)) }, contents_same p q es fs (λ g i. a g (inr i)) k.1)

-- The event of the input that corresponds to an event of the output.
pub event_before : (p q : Parts) (es fs : List EventAt) (i : ℕ) (f : EventAt) → SameMeaning p q es fs → slice_get fs i ≡ Some f → (e : EventAt) × In es e × SameEvent p q e f
event_before p q [] [] i f m g = cc
event_before p q [] (y ∷ fs) i f m g = absurd m
event_before p q (x ∷ es) [] i f m g = absurd m
event_before p q (x ∷ es) (y ∷ fs) zero f m g = let h : y ≡ f = cc in (x, inl refl, subst (SameEvent p q x) h m.0)
event_before p q (x ∷ es) (y ∷ fs) (suc i) f m g = let r = event_before p q es fs i f m.1 g in (r.0, inr r.1, r.2)
