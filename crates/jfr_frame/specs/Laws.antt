-- What holds of the records of every chunk.
use Rattle.std.specs.Prelude.{◌≡◌, ℕ, List, Ok, Err, ◌⊎◌, ◌↔◌}
use Rattle.jfr_base.specs.declared.reason.Reason.TheVariants.{RecordSize}
use Rattle.jfr_frame.specs.declared.framed.Framed.{Framed}
use Rattle.jfr_frame.specs.Records.{AreRecords, FrameFlaw, records_of}

-- Either records cover a chunk or it has a flaw, never both; and there is only one such list of records, or
-- one such flaw.
pub record HasOneFraming (c : List ℕ) : Type 0 where
  pub some : ((rs : List Framed) × AreRecords c rs) ⊎ ((o : ℕ) × FrameFlaw c o)
  pub not_both : (rs : List Framed) (o : ℕ) → AreRecords c rs → FrameFlaw c o → ⊥
  pub one_list : (rs ss : List Framed) → AreRecords c rs → AreRecords c ss → rs ≡ ss
  pub one_flaw : (o p : ℕ) → FrameFlaw c o → FrameFlaw c p → o ≡ p

-- The records of a chunk, or its flaw, are what `records_of` computes.
pub record IsComputed (c : List ℕ) : Type 0 where
  pub records : (rs : List Framed) → AreRecords c rs ↔ (records_of c ≡ Ok rs)
  pub flaw : (o : ℕ) → FrameFlaw c o ↔ (records_of c ≡ Err (record { offset = o; reason = RecordSize }))
