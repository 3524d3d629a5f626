-- What a chunk becomes with new keys is no longer than what it becomes without them.
use Rattle.std.specs.Prelude.{◌≡◌, ℕ, ◌+◌, ◌^◌, ◌<◌, ◌≤◌, ◌==◌, Bool, List, [], ◌∷◌, length, find, Option, Some, None, is_some}
use Rattle.std.specs.List.{AllByRecursion, flat_map}
use Rattle.std.proofs.Common.{arith, refl, length-append}
use Rattle.jfr_layout.specs.Classes.{Sound}
use Rattle.jfr_header.specs.Fronts as fronts
use Rattle.jfr_frame.specs.Records.{record_bytes}
use Rattle.jfr_pool.specs.declared.entry.EntryAt.{EntryAt}
use Rattle.jfr_chunk.specs.Parts.{Parts, EventAt, AreParts, metadata_at}
use Rattle.jfr_chunk.specs.Reach.{marked, kept_by}
use Rattle.jfr_chunk.specs.Metas.{Names, new_metadata}
use Rattle.jfr_chunk.specs.Scrub.{OutputRecord, Whole, Chained, Rebuilt, assembled, groups_of, header_with, newest_at, moved, output_records, is_kept_or_metadata, written, written_anew}
use Rattle.jfr_chunk.proofs.HasNodesLaws.{has_nodes}
use Rattle.jfr_laws.proofs.Anews.{good_anew}
use Rattle.jfr_laws.proofs.Copied.{record_length}
use Rattle.jfr_laws.proofs.Header.{header_length, whole_small}
use Rattle.jfr_laws.proofs.OutputRecords.{IsOutputRecordIn, chained_bytes}
use Rattle.jfr_laws.proofs.OutputRecords as before
use Rattle.jfr_laws.proofs.Premises.{Ready, ready}
use Rattle.jfr_laws.proofs.Whole.{out_shorter}
use Rattle.jfr_rewrite.specs.Rewrite.{bytes_by, written_by}
use Rattle.jfr_renumber.specs.Renumber.{assembled_by, new_bytes}
use Rattle.jfr_renumber.proofs.Fewer.{Under, checkpoint_short}
use Rattle.jfr_renumber.proofs.Room.{groups_shorter, whole_short}

module _ (names : Names) (p : Parts) (a : AreParts p) (flags : List Bool) (new : ℕ × ℕ → ℕ) (most : (t : ℕ × ℕ) → new t ≤ t.1) (fm ms : List Bool) (u : Under fm ms) where
  abbrev kept : List EventAt
  kept = kept_by p flags

  abbrev ours : List EntryAt
  ours = marked fm p.entries

  abbrev theirs : List EntryAt
  theirs = marked ms p.entries

  abbrev sound : Sound p.classes
  sound = (has_nodes p a).sound

  abbrev write : OutputRecord → ℕ → Option ℕ → List ℕ
  write = new_bytes new p kept ours

  abbrev new_from : ℕ → Option ℕ → List OutputRecord → List ℕ
  new_from at older xs = flat_map (bytes_by write) (written_by write at older xs)

  abbrev old_from : ℕ → Option ℕ → List OutputRecord → List ℕ
  old_from at older xs = before.bytes_from p.bytes theirs at older xs

  body_short : (xs : List OutputRecord) (at other : ℕ) (older elder : Option ℕ) → is_some older ≡ is_some elder → other + length (old_from other elder xs) < 2 ^ 63
      → AllByRecursion (IsOutputRecordIn p.bytes ours p.classes) xs → length (new_from at older xs) ≤ length (old_from other elder xs)
  body_short [] at other older elder e h s = omega arith
  body_short (Whole r ∷ xs) at other older elder e h s =
      let k : ℕ = length (write (Whole r) at older) in
      let m : ℕ = length (record_bytes p.bytes r) in
      let z : m ≡ r.size = record_length p.bytes r s.0 in
      let y : k ≤ r.size = whole_short p a flags new most r s.0 (find (λ e. e.record_of.at == r.at) kept) refl in
      let w = before.whole_length p.bytes theirs r xs other elder in
      let i = body_short xs (at + k) (other + m) older elder e (omega (arith, h, w)) s.1 in
      omega (arith, i, w, length-append (write (Whole r) at older) (new_from (at + k) older xs))
  body_short (Rebuilt r x ∷ xs) at other older elder e h s =
      let w = before.rebuilt_length p.bytes theirs r x xs other elder in
      let i = body_short xs (at + length x) (other + length x) older elder e (omega (arith, h, w)) s.1 in
      omega (arith, i, w, length-append x (new_from (at + length x) older xs))
  body_short (Chained j l ∷ xs) at other older elder e h s =
      let k : ℕ = length (write (Chained j l) at older) in
      let m : ℕ = length (chained_bytes p.bytes theirs other elder j l) in
      let w = before.chained_length p.bytes theirs j l xs other elder in
      let y : k ≤ m = checkpoint_short p sound new most l at other older elder (groups_of ours j) (groups_of theirs j) e (omega (arith, h)) (groups_shorter p a flags new most fm ms u j s.0.1) in
      let i = body_short xs (at + k) (other + m) (Some at) (Some other) refl (omega (arith, h, w)) s.1 in
      omega (arith, i, w, y, length-append (write (Chained j l) at older) (new_from (at + k) (Some at) xs))

  abbrev outs : List OutputRecord
  outs = output_records (new_metadata names p kept) p kept

  pub scrub_short : length (assembled p theirs outs) ≤ length p.bytes
  scrub_short = out_shorter (new_metadata names p kept) p kept ms a (good_anew names p a kept)

  pub no_longer : fronts.Whole p.bytes → length (assembled_by p write outs) ≤ length (assembled p theirs outs)
  no_longer whole =
      let here : List ℕ = new_from 68 None outs in
      let there : List ℕ = old_from 68 None outs in
      let last_here : ℕ = newest_at None (written_by write 68 None outs) in
      let last_there : ℕ = newest_at None (written p.bytes theirs 68 None outs) in
      let metadata_here : ℕ = moved (written_by write 68 None outs) (metadata_at p.bytes) in
      let metadata_there : ℕ = moved (written p.bytes theirs 68 None outs) (metadata_at p.bytes) in
      let hx = header_length p.bytes (68 + length here) last_here metadata_here in
      let hy = header_length p.bytes (68 + length there) last_there metadata_there in
      let x = length-append (header_with p.bytes (68 + length here) last_here metadata_here) here in
      let y = length-append (header_with p.bytes (68 + length there) last_there metadata_there) there in
      let small = whole_small p.bytes whole in
      let is_ready : Ready p ours outs = ready p a (is_kept_or_metadata p kept) (written_anew (new_metadata names p kept) p) (good_anew names p a kept) fm in
      let i = body_short outs 68 68 None None refl (omega (arith, scrub_short, small, hy, y)) is_ready.valid in
      omega (arith, i, hx, hy, x, y)
