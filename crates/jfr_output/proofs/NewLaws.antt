-- The new metadata record, by the size of the record that it replaces.
use Rattle.std.specs.Prelude.{◌≡◌, ℕ, Bool, true, false, List, slice_get, Option, Some, None, option_map, Result, Ok, Err, IfOk, IfSome, if◌then◌else◌}
use lib.Utf8.{scalars}
use Rattle.std.specs.List.{AllByRecursion, list_all}
use Rattle.std.proofs.Common.{ap, refl, sym, ◌∙◌}
use Rattle.jfr_frame.specs.declared.framed.Framed.{Framed}
use Rattle.jfr_frame.specs.Records.{IsRecord}
use Rattle.jfr_frame.proofs.RecordLaws.{record_one}
use Rattle.jfr_chunk.specs.Parts.{Parts, EventAt, AreParts, StartsAt, metadata_at}
use Rattle.jfr_layout.specs.Classes.{Classes}
use Rattle.jfr_meta.specs.Body.{Body}
use Rattle.jfr_meta.specs.Held.{stays_of}
use Rattle.jfr_meta.specs.Slimmed.{slim_in}
use Rattle.jfr_meta.specs.Stays.{is_in}
use Rattle.jfr_meta.specs.declared.ids.Ids.{Ids}
use Rattle.jfr_meta.specs.Written.{IsText}
use Rattle.jfr_meta.proofs.WithinLaws.{all_scalars}
use Rattle.jfr_chunk.specs.Metas.{Names, is_used, metadata_size, rebuilt, slim_of, stays_in}
use Rattle.jfr_worklist.proofs.Members.{contains_in}
use Rattle.jfr_chunk.proofs.AllLaws.{all_get, all_in}
use Rattle.jfr_laws.proofs.Premises.{metadata_stands, recorded}
use Rattle.jfr_laws.proofs.AnewLaws.{is_anew}
use Rattle.jfr_laws.proofs.Anews.{size_is}
use Rattle.jfr_output.specs.Metadata.{IsMetadataRecord}

-- Each record of the chunk is one.
pub record_there : (p : Parts) (a : AreParts p) (n : ℕ) (r : Framed) → slice_get p.records n ≡ Some r → IsRecord p.bytes r
record_there p a n r e = all_get (IsRecord p.bytes) p.records n r (recorded p a) e

-- The slim record is the new one, where its strings are texts.
pub slim_is_new : (names : Names) (p : Parts) (kept : List EventAt) (room : ℕ) (o : Option (List ℕ)) → o ≡ slim_in p.body (stays_in names p kept) room
    → IfSome o (λ x. AllByRecursion IsText (slim_of names p kept).strings) → o ≡ rebuilt names p kept room
unfolding rebuilt
slim_is_new names p kept room o e t = by_value (slim_in p.body (stays_in names p kept) room) e o refl t
  where
    nothing : Option (List ℕ)
    nothing = None

    none_either : (b : Bool) → nothing ≡ (if b then nothing else nothing)
    none_either true = refl
    none_either false = refl

    by_value : (w : Option (List ℕ)) → o ≡ w → (u : Option (List ℕ)) → o ≡ u → IfSome u (λ x. AllByRecursion IsText (slim_of names p kept).strings)
        → o ≡ (if list_all scalars (slim_of names p kept).strings then w else None)
    by_value None e u q t = e ∙ none_either (list_all scalars (slim_of names p kept).strings)
    by_value (Some y) e (Some x) q t = e ∙ ap (λ c. if c then Some y else None) (sym (all_scalars (slim_of names p kept).strings t))
    by_value (Some y) e None q t = let z : None ≡ Some y = sym q ∙ e in cc

-- What is new is a metadata record.
pub new_is_record : (names : Names) (p : Parts) (kept : List EventAt) (room : ℕ) (o : Option (List ℕ)) → o ≡ rebuilt names p kept room → IfSome o IsMetadataRecord
new_is_record names p kept room None e = tt
new_is_record names p kept room (Some x) e = record { body = slim_of names p kept; bytes = (is_anew names p kept room x (sym e)).bytes }

-- The classes that stay, by what a set of ids has.
pub stays_are : (names : Names) (p : Parts) (kept : List EventAt) (b : Body) (k : Classes) (used stay : ℕ → Bool) → b ≡ p.body → k ≡ p.classes → ((id : ℕ) → used id ≡ is_used names p kept id)
    → ((id : ℕ) → stay id ≡ stays_of b k used id) → stay ≡ stays_in names p kept
unfolding stays_in
stays_are names p kept b k used stay e f g h = λ i id. (h id ∙ (λ j. stays_of (e j) (f j) (λ x. g x j) id)) i

-- The set of these classes, if there is one.
pub stays_ok : {E : Type 0} (names : Names) (p : Parts) (kept : List EventAt) (b : Body) (k : Classes) (used : ℕ → Bool) (r : Result Ids E) → b ≡ p.body → k ≡ p.classes
    → ((id : ℕ) → used id ≡ is_used names p kept id)
    → IfOk r (λ stay. (id : ℕ) → is_in stay id ≡ stays_of b k used id) → IfOk r (λ stay. (id : ℕ) → is_in stay id ≡ stays_in names p kept id)
stays_ok names p kept b k used (Err e) f g h i = tt
stays_ok names p kept b k used (Ok stay) f g h i = λ id. ap (λ (z : ℕ → Bool). z id) (stays_are names p kept b k used (is_in stay) f g h i)

-- A record that starts where the metadata record does has its size.
pub frame_size : (p : Parts) (a : AreParts p) (r : Framed) → StartsAt p.records (metadata_at p.bytes) 0 r → r.size ≡ metadata_size p
frame_size p a r s =
    let i : IsRecord p.bytes r = all_in (IsRecord p.bytes) p.records r (recorded p a) (contains_in p.records r s.listed) in
    let same : r ≡ a.metadata_record = record_one p.bytes r a.metadata_record i (metadata_stands p a) (s.place ∙ sym a.metadata_there.place) in
    ap (λ (z : Framed). z.size) same ∙ sym (size_is p a)

-- The slim record that a call gives is the new one.
module _ {V E : Type 0} (items : V → List ℕ) (names : Names) (p : Parts) (kept : List EventAt) (room : ℕ) where
  pub slim_found : (r : Result (Option V) E) → IfOk r (λ o. option_map items o ≡ slim_in p.body (stays_in names p kept) room)
      → IfOk r (λ o. IfSome o (λ v. AllByRecursion IsText (slim_of names p kept).strings)) → IfOk r (λ o. option_map items o ≡ rebuilt names p kept room)
  slim_found (Err w) e t = tt
  slim_found (Ok None) e t = slim_is_new names p kept room None e tt
  slim_found (Ok (Some v)) e t = slim_is_new names p kept room (Some (items v)) e t

  pub found_record : (r : Result (Option V) E) → IfOk r (λ o. option_map items o ≡ rebuilt names p kept room) → IfOk r (λ o. IfSome o (λ v. IsMetadataRecord (items v)))
  found_record (Err w) e = tt
  found_record (Ok None) e = tt
  found_record (Ok (Some v)) e = new_is_record names p kept room (Some (items v)) e
