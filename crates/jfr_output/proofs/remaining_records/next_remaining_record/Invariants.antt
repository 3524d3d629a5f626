use Rattle.std.proofs.Common.{◌≡◌, ◌-◌, ℕ, length, List, Option}
use Rattle.jfr_output.specs.RemainingRecords.{IsCursor, output_records_from}
use Rattle.jfr_output.proofs.remaining_records.next_remaining_record.Given as goal

abbrev pub invariant-records : goal.invariant-records
invariant-records l = record {
  cursor : IsCursor l.chunk l.kept l.cursor;
  same : (new : Option (List ℕ)) → output_records_from new l.chunk l.kept l.fn.cursor ≡ output_records_from new l.chunk l.kept l.cursor;
}

abbrev pub decreases-records : goal.decreases-records
decreases-records l = length l.frames - l.cursor.frame
