-- The records, computed on the plain chunk, on the chunk of rings and on the one with inert records.
use Rattle.std.specs.Prelude.{◌≡◌, ℕ, List, [], ◌∷◌, Ok, Err, take, true, false}
use Rattle.std.proofs.Common.{refl}
use Rattle.jfr_base.specs.declared.reason.Reason.TheVariants.{RecordSize}
use Rattle.jfr_frame.specs.declared.framed.Framed.{Framed}
use Rattle.jfr_frame.specs.Records.{records_of, starts_at, record_at}
use Rattle.jfr_base.specs.Formats.{int_at}

abbrev framed : ℕ → ℕ → ℕ → ℕ → ℕ → Framed
framed at size type_at type_id body = record { at = at; size = size; type_at = type_at; type_id = type_id; body = body }

abbrev plain : List ℕ
plain =
    70 ∷ 76 ∷ 82 ∷ 0 ∷ 0 ∷ 2 ∷ 0 ∷ 1 ∷ 0 ∷ 0 ∷ 0 ∷ 0 ∷ 0 ∷ 0 ∷ 0 ∷ 103 ∷ 0 ∷ 0 ∷ 0 ∷ 0 ∷
    0 ∷ 0 ∷ 0 ∷ 96 ∷ 0 ∷ 0 ∷ 0 ∷ 0 ∷ 0 ∷ 0 ∷ 0 ∷ 68 ∷ 0 ∷ 0 ∷ 0 ∷ 0 ∷ 0 ∷ 0 ∷ 3 ∷ 232 ∷
    0 ∷ 0 ∷ 0 ∷ 0 ∷ 0 ∷ 0 ∷ 0 ∷ 5 ∷ 0 ∷ 0 ∷ 0 ∷ 0 ∷ 0 ∷ 0 ∷ 0 ∷ 0 ∷ 0 ∷ 0 ∷ 0 ∷ 0 ∷
    59 ∷ 154 ∷ 202 ∷ 0 ∷ 0 ∷ 0 ∷ 0 ∷ 1 ∷ 28 ∷ 0 ∷ 0 ∷ 0 ∷ 1 ∷ 2 ∷ 3 ∷ 4 ∷ 114 ∷ 111 ∷ 111 ∷ 116 ∷
    3 ∷ 8 ∷ 109 ∷ 101 ∷ 116 ∷ 97 ∷ 100 ∷ 97 ∷ 116 ∷ 97 ∷ 0 ∷ 0 ∷ 1 ∷ 1 ∷ 0 ∷ 0 ∷ 7 ∷ 1 ∷ 0 ∷ 0 ∷
    0 ∷ 0 ∷ 0 ∷ []

abbrev rings : List ℕ
rings =
    70 ∷ 76 ∷ 82 ∷ 0 ∷ 0 ∷ 2 ∷ 0 ∷ 1 ∷ 0 ∷ 0 ∷ 0 ∷ 0 ∷ 0 ∷ 0 ∷ 1 ∷ 106 ∷ 0 ∷ 0 ∷ 0 ∷ 0 ∷
    0 ∷ 0 ∷ 1 ∷ 77 ∷ 0 ∷ 0 ∷ 0 ∷ 0 ∷ 0 ∷ 0 ∷ 0 ∷ 68 ∷ 0 ∷ 0 ∷ 0 ∷ 0 ∷ 0 ∷ 0 ∷ 3 ∷ 232 ∷
    0 ∷ 0 ∷ 0 ∷ 0 ∷ 0 ∷ 0 ∷ 0 ∷ 5 ∷ 0 ∷ 0 ∷ 0 ∷ 0 ∷ 0 ∷ 0 ∷ 0 ∷ 0 ∷ 0 ∷ 0 ∷ 0 ∷ 0 ∷
    59 ∷ 154 ∷ 202 ∷ 0 ∷ 0 ∷ 0 ∷ 0 ∷ 1 ∷ 129 ∷ 2 ∷ 0 ∷ 0 ∷ 0 ∷ 1 ∷ 24 ∷ 3 ∷ 4 ∷ 114 ∷ 111 ∷ 111 ∷
    116 ∷ 3 ∷ 8 ∷ 109 ∷ 101 ∷ 116 ∷ 97 ∷ 100 ∷ 97 ∷ 116 ∷ 97 ∷ 3 ∷ 5 ∷ 99 ∷ 108 ∷ 97 ∷ 115 ∷ 115 ∷ 3 ∷ 4 ∷
    110 ∷ 97 ∷ 109 ∷ 101 ∷ 3 ∷ 2 ∷ 105 ∷ 100 ∷ 3 ∷ 9 ∷ 115 ∷ 117 ∷ 112 ∷ 101 ∷ 114 ∷ 84 ∷ 121 ∷ 112 ∷ 101 ∷ 3 ∷
    5 ∷ 102 ∷ 105 ∷ 101 ∷ 108 ∷ 100 ∷ 3 ∷ 12 ∷ 99 ∷ 111 ∷ 110 ∷ 115 ∷ 116 ∷ 97 ∷ 110 ∷ 116 ∷ 80 ∷ 111 ∷ 111 ∷ 108 ∷
    3 ∷ 4 ∷ 116 ∷ 114 ∷ 117 ∷ 101 ∷ 3 ∷ 4 ∷ 108 ∷ 111 ∷ 110 ∷ 103 ∷ 3 ∷ 16 ∷ 106 ∷ 97 ∷ 118 ∷ 97 ∷ 46 ∷ 108 ∷
    97 ∷ 110 ∷ 103 ∷ 46 ∷ 83 ∷ 116 ∷ 114 ∷ 105 ∷ 110 ∷ 103 ∷ 3 ∷ 6 ∷ 116 ∷ 46 ∷ 78 ∷ 111 ∷ 100 ∷ 101 ∷ 3 ∷ 3 ∷
    116 ∷ 46 ∷ 65 ∷ 3 ∷ 3 ∷ 116 ∷ 46 ∷ 66 ∷ 3 ∷ 13 ∷ 106 ∷ 100 ∷ 107 ∷ 46 ∷ 106 ∷ 102 ∷ 114 ∷ 46 ∷ 69 ∷ 118 ∷
    101 ∷ 110 ∷ 116 ∷ 3 ∷ 1 ∷ 53 ∷ 3 ∷ 1 ∷ 54 ∷ 3 ∷ 1 ∷ 55 ∷ 3 ∷ 1 ∷ 56 ∷ 3 ∷ 1 ∷ 57 ∷ 3 ∷ 4 ∷
    110 ∷ 101 ∷ 120 ∷ 116 ∷ 3 ∷ 4 ∷ 116 ∷ 101 ∷ 120 ∷ 116 ∷ 3 ∷ 1 ∷ 110 ∷ 3 ∷ 4 ∷ 110 ∷ 111 ∷ 100 ∷ 101 ∷ 0 ∷
    0 ∷ 1 ∷ 1 ∷ 0 ∷ 5 ∷ 2 ∷ 2 ∷ 3 ∷ 9 ∷ 4 ∷ 15 ∷ 0 ∷ 2 ∷ 2 ∷ 3 ∷ 10 ∷ 4 ∷ 16 ∷ 0 ∷ 2 ∷
    2 ∷ 3 ∷ 11 ∷ 4 ∷ 17 ∷ 2 ∷ 6 ∷ 3 ∷ 3 ∷ 20 ∷ 2 ∷ 17 ∷ 7 ∷ 8 ∷ 0 ∷ 6 ∷ 2 ∷ 3 ∷ 21 ∷ 2 ∷
    16 ∷ 0 ∷ 2 ∷ 3 ∷ 3 ∷ 12 ∷ 4 ∷ 18 ∷ 5 ∷ 14 ∷ 2 ∷ 6 ∷ 2 ∷ 3 ∷ 22 ∷ 2 ∷ 15 ∷ 0 ∷ 6 ∷ 3 ∷
    3 ∷ 23 ∷ 2 ∷ 17 ∷ 7 ∷ 8 ∷ 0 ∷ 2 ∷ 3 ∷ 3 ∷ 13 ∷ 4 ∷ 19 ∷ 5 ∷ 14 ∷ 1 ∷ 6 ∷ 3 ∷ 3 ∷ 23 ∷
    2 ∷ 17 ∷ 7 ∷ 8 ∷ 0 ∷ 5 ∷ 8 ∷ 172 ∷ 2 ∷ 1 ∷ 3 ∷ 9 ∷ 3 ∷ 29 ∷ 1 ∷ 0 ∷ 0 ∷ 0 ∷ 0 ∷ 1 ∷
    7 ∷ 4 ∷ 1 ∷ 2 ∷ 3 ∷ 1 ∷ 112 ∷ 2 ∷ 1 ∷ 3 ∷ 1 ∷ 113 ∷ 3 ∷ 4 ∷ 3 ∷ 1 ∷ 114 ∷ 4 ∷ 3 ∷ 3 ∷
    1 ∷ 115 ∷ []

abbrev inert : List ℕ
inert =
    70 ∷ 76 ∷ 82 ∷ 0 ∷ 0 ∷ 2 ∷ 0 ∷ 1 ∷ 0 ∷ 0 ∷ 0 ∷ 0 ∷ 0 ∷ 0 ∷ 0 ∷ 141 ∷ 0 ∷ 0 ∷ 0 ∷ 0 ∷
    0 ∷ 0 ∷ 0 ∷ 134 ∷ 0 ∷ 0 ∷ 0 ∷ 0 ∷ 0 ∷ 0 ∷ 0 ∷ 106 ∷ 0 ∷ 0 ∷ 0 ∷ 0 ∷ 0 ∷ 0 ∷ 3 ∷ 232 ∷
    0 ∷ 0 ∷ 0 ∷ 0 ∷ 0 ∷ 0 ∷ 0 ∷ 5 ∷ 0 ∷ 0 ∷ 0 ∷ 0 ∷ 0 ∷ 0 ∷ 0 ∷ 0 ∷ 0 ∷ 0 ∷ 0 ∷ 0 ∷
    59 ∷ 154 ∷ 202 ∷ 0 ∷ 0 ∷ 0 ∷ 0 ∷ 1 ∷ 28 ∷ 0 ∷ 0 ∷ 0 ∷ 1 ∷ 2 ∷ 3 ∷ 4 ∷ 114 ∷ 111 ∷ 111 ∷ 116 ∷
    3 ∷ 8 ∷ 109 ∷ 101 ∷ 116 ∷ 97 ∷ 100 ∷ 97 ∷ 116 ∷ 97 ∷ 0 ∷ 0 ∷ 1 ∷ 1 ∷ 0 ∷ 0 ∷ 7 ∷ 1 ∷ 0 ∷ 0 ∷
    0 ∷ 0 ∷ 0 ∷ 3 ∷ 99 ∷ 170 ∷ 28 ∷ 0 ∷ 0 ∷ 0 ∷ 1 ∷ 2 ∷ 3 ∷ 4 ∷ 114 ∷ 111 ∷ 111 ∷ 116 ∷ 3 ∷ 8 ∷
    109 ∷ 101 ∷ 116 ∷ 97 ∷ 100 ∷ 97 ∷ 116 ∷ 97 ∷ 0 ∷ 0 ∷ 1 ∷ 1 ∷ 0 ∷ 0 ∷ 7 ∷ 1 ∷ 0 ∷ 0 ∷ 0 ∷ 0 ∷
    0 ∷ []

abbrev plain_records : List Framed
plain_records = framed 68 28 69 0 70 ∷ framed 96 7 97 1 98 ∷ []

plain_framed : records_of plain ≡ Ok plain_records
unfolding records_of record_at int_at
plain_framed = refl

abbrev rings_records : List Framed
rings_records = framed 68 257 70 0 71 ∷ framed 325 5 326 8 327 ∷ framed 330 3 331 9 332 ∷ framed 333 29 334 1 335 ∷ []

rings_framed : records_of rings ≡ Ok rings_records
unfolding records_of record_at int_at
rings_framed = refl

abbrev inert_records : List Framed
inert_records = framed 68 28 69 0 70 ∷ framed 96 7 97 1 98 ∷ framed 103 3 104 99 105 ∷ framed 106 28 107 0 108 ∷ framed 134 7 135 1 136 ∷ []

inert_framed : records_of inert ≡ Ok inert_records
unfolding records_of record_at int_at
inert_framed = refl

-- Without its last byte, the checkpoint is no longer a record.
plain_cut : records_of (take 102 plain) ≡ Err (record { offset = 96; reason = RecordSize })
unfolding records_of record_at int_at
plain_cut = refl

-- A checkpoint starts there, and no metadata.
checkpoint_starts : starts_at plain_records 96 1 ≡ true
checkpoint_starts = refl

metadata_elsewhere : starts_at plain_records 96 0 ≡ false
metadata_elsewhere = refl

inside_a_record : starts_at plain_records 97 1 ≡ false
inside_a_record = refl
