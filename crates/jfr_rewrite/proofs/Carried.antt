-- If a width carries every size below 2^30, it carries those of an output below 2^30.
use Rattle.std.specs.Prelude.{◌≡◌, ℕ, ◌+◌, ◌<◌, ◌^◌, List, [], ◌∷◌, ◌++◌, length, Option, None}
use Rattle.std.specs.List.{AllByRecursion, flat_map}
use Rattle.std.proofs.Common.{arith, subst, length-append}
use Rattle.jfr_base.specs.Integer.{spell_in}
use Rattle.jfr_frame.specs.declared.framed.Framed.{Framed}
use Rattle.jfr_pool.specs.declared.entry.EntryAt.{EntryAt}
use Rattle.jfr_chunk.specs.Parts.{Parts, EventAt, metadata_at}
use Rattle.jfr_chunk.specs.Scrub.{OutputRecord, Whole, Chained, Rebuilt, Written, newest_after, output_records, newest_at, moved}
use Rattle.jfr_laws.proofs.Assembled.{headed_size}
use Rattle.jfr_rewrite.specs.Rewrite.{Rewrite, resized, event_tail, chained_tail, whole_bytes, new_bytes, written_by, bytes_by, rewritten, rewritten_records}
use Rattle.jfr_rewrite.specs.Rewritten.{Carries, CarriesTail, CarriesRecord, CarriesAll}

module _ (w : Rewrite) (p : Parts) (kept : List EventAt) (entries : List EntryAt) (each : (r : Framed) (n : ℕ) → n < 2 ^ 30 → Carries (w.width r n) n) where
  abbrev bytes : OutputRecord → ℕ → Option ℕ → List ℕ
  bytes = new_bytes w p kept entries

  abbrev Carried : Written → Type 0
  Carried o = CarriesRecord w p kept entries o.output_record o.at o.newest

  tail_carried : (r : Framed) (tail : List ℕ) → length (resized w r tail) < 2 ^ 30 → CarriesTail w r tail
  tail_carried r tail small = each r (length tail) (omega (arith, small, length-append (spell_in (w.width r (length tail)) (w.width r (length tail) + length tail)) tail))

  record_carried : (o : OutputRecord) (at : ℕ) (older : Option ℕ) → length (bytes o at older) < 2 ^ 30 → CarriesRecord w p kept entries o at older
  record_carried (Whole r) at older small = λ e q. tail_carried e.record_of (event_tail w p e) (subst (λ o. length (whole_bytes w p r o) < 2 ^ 30) q small)
  record_carried (Rebuilt r x) at older small = tt
  record_carried (Chained i l) at older small = tail_carried l.frame (chained_tail w p entries i l at older) small

  all_carried : (ss : List OutputRecord) (at : ℕ) (older : Option ℕ) → length (flat_map (bytes_by bytes) (written_by bytes at older ss)) < 2 ^ 30
      → AllByRecursion Carried (written_by bytes at older ss)
  all_carried [] at older small = tt
  all_carried (o ∷ ss) at older small =
      let more : List ℕ = flat_map (bytes_by bytes) (written_by bytes (at + length (bytes o at older)) (newest_after o at older) ss) in
      let l : length (bytes o at older ++ more) ≡ length (bytes o at older) + length more = length-append (bytes o at older) more in
      (record_carried o at older (omega arith), all_carried ss (at + length (bytes o at older)) (newest_after o at older) (omega arith))

  pub carries_all : length (rewritten w p kept entries) < 2 ^ 30 → CarriesAll w p kept entries
  unfolding rewritten
  carries_all small =
      let ws : List Written = rewritten_records w p kept entries in
      let body : List ℕ = flat_map (bytes_by bytes) ws in
      all_carried (output_records w.metadata p kept) 68 None (omega (arith, small, headed_size p.bytes body (newest_at None ws) (moved ws (metadata_at p.bytes))))
