-- No event is the metadata record, or a chained checkpoint.
use Rattle.std.specs.Prelude.{◌≡◌, ℕ, true, false, ◌==◌, List, [], ◌∷◌, Some}
use Rattle.std.specs.List.{AllByRecursion}
use Rattle.std.proofs.Common.{ap, arith, refl, sym, ◌∙◌, subst}
use Rattle.std.proofs.lemmas.Bool.Decides.{nat_tests}
use Rattle.jfr_layout.specs.Classes.{Classes, is_event_class}
use Rattle.jfr_frame.specs.declared.framed.Framed.{Framed}
use Rattle.jfr_frame.specs.Records.{IsRecord}
use Rattle.jfr_frame.proofs.RecordLaws.{record_one}
use Rattle.jfr_chunk.specs.Parts.{Parts, AreParts, metadata_at}
use Rattle.jfr_laws.proofs.Order.{Numbered, numbered_at, found_numbered}
use Rattle.jfr_laws.proofs.Premises.{all_links, IsCheckpoint, recorded, metadata_stands, chained_checkpoints}

-- Types 0 and 1 are no event classes.
pub no_metadata_event : (k : Classes) → is_event_class k 0 ≡ false
unfolding is_event_class
no_metadata_event k = refl

checkpoint_no_event : (k : Classes) → is_event_class k 1 ≡ false
unfolding is_event_class
checkpoint_no_event k = refl

pub no_checkpoint_event : (k : Classes) (r : Framed) → r.type_id ≡ 1 → is_event_class k r.type_id ≡ false
no_checkpoint_event k r e = ap (is_event_class k) e ∙ checkpoint_no_event k

-- A record at the offset of the metadata record or of a chained checkpoint isn't an event.
pub record Quiet (k : Classes) (all : List Numbered) (metadata : ℕ) (r : Framed) : Type 0 where
  pub on_metadata : (r.at == metadata) ≡ true → is_event_class k r.type_id ≡ false
  pub on_chained : (x : Numbered) → numbered_at all r.at ≡ Some x → (is_event_class k r.type_id ≡ false) × (is_event_class k x.1.frame.type_id ≡ false)

module _ (p : Parts) (a : AreParts p) (k : Classes) where
  abbrev pub IsQuiet : Framed → Type 0
  IsQuiet r = Quiet k (all_links p) (metadata_at p.bytes) r

  quiet_record : (r : Framed) → IsRecord p.bytes r → IsQuiet r
  quiet_record r i = record { on_metadata = on_metadata; on_chained = on_chained }
    where
      on_metadata : (r.at == metadata_at p.bytes) ≡ true → is_event_class k r.type_id ≡ false
      on_metadata e =
          let q : r.at ≡ metadata_at p.bytes = grind (arith, nat_tests) in
          let g : r ≡ a.metadata_record = record_one p.bytes r a.metadata_record i (metadata_stands p a) (q ∙ sym a.metadata_there.place) in
          ap (λ (z : Framed). is_event_class k z.type_id) g ∙ (ap (is_event_class k) a.metadata_there.type_is ∙ no_metadata_event k)

      on_chained : (x : Numbered) → numbered_at (all_links p) r.at ≡ Some x → (is_event_class k r.type_id ≡ false) × (is_event_class k x.1.frame.type_id ≡ false)
      on_chained x e =
          let h = found_numbered (IsCheckpoint p.bytes) (all_links p) r.at x (chained_checkpoints p a) e in
          let g : x.1.frame ≡ r = record_one p.bytes x.1.frame r h.0.0 i h.1 in
          let u : is_event_class k x.1.frame.type_id ≡ false = no_checkpoint_event k x.1.frame h.0.1 in
          (subst (λ (z : Framed). is_event_class k z.type_id ≡ false) g u, u)

  quiet_each : (rs : List Framed) → AllByRecursion (IsRecord p.bytes) rs → AllByRecursion IsQuiet rs
  quiet_each [] i = tt
  quiet_each (r ∷ rs) i = (quiet_record r i.0, quiet_each rs i.1)

  pub quiet_records : AllByRecursion IsQuiet p.records
  quiet_records = quiet_each p.records (recorded p a)
