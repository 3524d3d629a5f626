-- The output with new keys is the chunk rewritten with them.
use Rattle.std.specs.Prelude.{◌≡◌, ℕ, List, Option, Some, None}
use Rattle.std.proofs.Common.{ap, refl}
use Rattle.jfr_pool.specs.declared.entry.EntryAt.{EntryAt}
use Rattle.jfr_chunk.specs.Parts.{Parts, EventAt}
use Rattle.jfr_chunk.specs.Scrub.{OutputRecord, Whole, Chained, Rebuilt, output_records}
use Rattle.jfr_rewrite.specs.Rewrite.{event_there, rewritten}
use Rattle.jfr_rewrite.specs.Rewrite as rewrite
use Rattle.jfr_rewrite.specs.Rewritten.{IsChangedEntry, IsChangedEvent, OneToOne}
use Rattle.jfr_rewrite.proofs.OneToOneLaws.{each_to}
use Rattle.jfr_renumber.specs.Laws.{RekeyedRecords}
use Rattle.jfr_renumber.specs.Meaning.{AreRekeyedEntries}
use Rattle.jfr_renumber.specs.Rekeyed.{rekeying}
use Rattle.jfr_renumber.specs.Renumber.{assembled_by, new_bytes, whole_bytes, with_keys}

module _ (new : ℕ × ℕ → ℕ) (metadata : Option (List ℕ)) (p : Parts) where
  module _ (kept : List EventAt) (entries : List EntryAt) where
    record_same : (o : OutputRecord) (at : ℕ) (older : Option ℕ) → new_bytes new p kept entries o at older ≡ rewrite.new_bytes (with_keys new metadata) p kept entries o at older
    record_same (Whole r) at older = by_event (event_there kept r)
      where
        by_event : (o : Option EventAt) → whole_bytes new p r o ≡ rewrite.whole_bytes (with_keys new metadata) p r o
        by_event None = refl
        by_event (Some e) = refl
    record_same (Rebuilt r x) at older = refl
    record_same (Chained number l) at older = refl

    pub bytes_same : new_bytes new p kept entries ≡ rewrite.new_bytes (with_keys new metadata) p kept entries
    bytes_same = λ i o at older. record_same o at older i

    pub is_rewritten : assembled_by p (new_bytes new p kept entries) (output_records metadata p kept) ≡ rewritten (with_keys new metadata) p kept entries
    unfolding rewritten
    is_rewritten = ap (λ bytes. assembled_by p bytes (output_records metadata p kept)) bytes_same

  -- Changed entries and events have new keys.
  module _ (q : Parts) where
    pub rekeyed_entries : (es fs : List EntryAt) → OneToOne (IsChangedEntry (with_keys new metadata) p q) es fs → AreRekeyedEntries new p q es fs
    rekeyed_entries es fs h = each_to es fs (λ e f i j c. record { class = c.value.class; key = c.key; checkpoint = c.checkpoint; value = c.value.value }) h

    pub rekeyed_records : (es fs : List EventAt) → OneToOne (IsChangedEvent (rekeying new) p q) es fs → RekeyedRecords new p q es fs
    rekeyed_records es fs h = each_to es fs (λ e f i j c. record { class = c.class; fields = c.fields; rest = c.rest; agree = c.agree }) h
