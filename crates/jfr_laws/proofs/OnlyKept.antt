-- Chunks that agree on all that remains have equal outputs.
use Rattle.std.specs.Prelude.{◌≡◌, ℕ, zero, suc, List, [], ◌∷◌, map, slice_get, Option, Some, None}
use Rattle.std.specs.Option.{option_map_or}
use Rattle.std.proofs.Common.{ap, refl, sym, ◌∙◌}
use Rattle.jfr_base.proofs.AlikeLaws.{Each}
use Rattle.jfr_header.specs.declared.header.Header.{Header}
use Rattle.jfr_value.specs.Nodes.{Both}
use Rattle.jfr_pool.specs.declared.entry.EntryAt.{EntryAt}
use Rattle.jfr_chunk.specs.Parts.{Parts, EventAt, AreParts}
use Rattle.jfr_chunk.specs.Laws.{AreEvents}
use Rattle.jfr_chunk.specs.Reach.{remain}
use Rattle.jfr_chunk.specs.Scrub.{output_records, scrub_with}
use Rattle.jfr_laws.specs.Told.{Told, ToldRecord, rendered, told, told_by, told_pools, told_record}
use Rattle.jfr_laws.specs.SameKept.{SameKept, outlines}
use Rattle.jfr_laws.proofs.KeptPairs.{EventPair, EntryPair, event_pairs, entry_pairs}
use Rattle.jfr_laws.proofs.Outlines.{Spelled, event_in, filled, filled_same, told_filled, unchanged}
use Rattle.jfr_laws.proofs.PoolsAlike.{Related, pools_alike}
use Rattle.jfr_laws.proofs.ToldLaws.{scrub_tells}

each_get : {A B : Type 0} (R : A → B → Type 0) (xs : List A) (ys : List B) (n : ℕ) → Each R xs ys → Both R (slice_get xs n) (slice_get ys n)
each_get R [] [] n e = tt
each_get R [] (y ∷ ys) n e = absurd e
each_get R (x ∷ xs) [] n e = absurd e
each_get R (x ∷ xs) (y ∷ ys) zero e = e.0
each_get R (x ∷ xs) (y ∷ ys) (suc n) e = each_get R xs ys n e.1

abbrev told_of : Header → List ToldRecord → Told
told_of g xs = record { header = g; records = xs }

module _ (slim other : Option (List ℕ)) (p q : Parts) (kept others : List EventAt) (a : AreParts p) (b : AreParts q) (these : AreEvents p kept) (those : AreEvents q others) (g : SameKept slim other p q kept others) where
  abbrev pub Events : EventAt → EventAt → Type 0
  Events = EventPair p q a b slim other kept others these those g

  abbrev pub Entries : EntryAt → EntryAt → Type 0
  Entries = EntryPair p q a b slim other kept others these those g

  pub events : Each Events kept others
  events = event_pairs p q a b slim other kept others these those g

  pub entries : Related Entries (remain p kept) (remain q others)
  entries = entry_pairs p q a b slim other kept others these those g

  -- For any bytes of events and entries that are equal for counterparts.
  module _ (x : Spelled p kept) (y : Spelled q others) (same_event : (e f : EventAt) → Events e f → x.event e ≡ y.event f) (same_entry : (e f : EntryAt) → Entries e f → x.entry e ≡ y.entry f) (es fs : List EntryAt) (each : Related Entries es fs) where
    by_both : (u : Option EventAt) (v : Option EventAt) → Both Events u v → option_map_or x.event u [] ≡ option_map_or y.event v []
    by_both None None r = refl
    by_both None (Some f) r = absurd r
    by_both (Some e) None r = absurd r
    by_both (Some e) (Some f) r = same_event e f r

    event_same : (i : Option ℕ) → event_in x.event kept i ≡ event_in y.event others i
    event_same None = refl
    event_same (Some n) = by_both (slice_get kept n) (slice_get others n) (each_get Events kept others n events)

    pub told_same : told_by x.whole x.entry p es (output_records slim p kept) ≡ told_by y.whole y.entry q fs (output_records other q others)
    told_same = λ i. told_of (g.header i) (records i)
      where
        records : map (told_record x.whole x.entry p es) (output_records slim p kept) ≡ map (told_record y.whole y.entry q fs) (output_records other q others)
        records =
            told_filled slim p a kept these x es
            ∙ (ap (map (filled (event_in x.event kept) (told_pools x.entry es))) g.order
            ∙ (filled_same (event_in x.event kept) (event_in y.event others) (told_pools x.entry es) (told_pools y.entry fs) event_same
            (λ n. pools_alike Entries x.entry y.entry (λ e f r. r.copied.class) (λ e f r. r.copied.checkpoint) same_entry n es fs each) (outlines other q others)
            ∙ sym (told_filled other q b others those y fs)))

  same_told : told slim p kept ≡ told other q others
  unfolding told
  same_told = told_same (unchanged p kept) (unchanged q others) (λ e f r. r.same.bytes) (λ e f r. r.bytes) (remain p kept) (remain q others) entries

  -- The law: the outputs are equal.
  pub same_scrub : scrub_with slim p kept ≡ scrub_with other q others
  same_scrub = scrub_tells slim p kept a ∙ (ap rendered same_told ∙ sym (scrub_tells other q others b))
