-- The output with its header: it is whole, and no longer than the chunk.
use Rattle.std.specs.Prelude.{◌≡◌, ℕ, ◌+◌, ◌^◌, ◌<◌, ◌≤◌, Bool, true, false, ◌==◌, ◌||◌, List, [], ◌∷◌, length, Option, Some, None, if◌then◌else◌}
use Rattle.std.specs.List.{AllByRecursion}
use Rattle.std.proofs.Common.{ap, arith, refl, sym, ◌∙◌}
use Rattle.jfr_base.proofs.HoldLaws.{Holds}
use Rattle.jfr_header.specs.Fronts as fronts
use Rattle.jfr_layout.specs.Classes.{Classes}
use Rattle.jfr_meta.specs.Body.{Body}
use Rattle.jfr_meta.specs.Described.{IsMetadata}
use Rattle.jfr_frame.specs.declared.framed.Framed.{Framed}
use Rattle.jfr_frame.specs.Records.{IsRecord}
use Rattle.jfr_frame.proofs.RecordLaws.{record_one}
use Rattle.jfr_pool.specs.declared.entry.EntryAt.{EntryAt}
use Rattle.jfr_chunk.specs.Parts.{Parts, EventAt, AreParts, metadata_at}
use Rattle.jfr_chunk.specs.Reach.{marked}
use Rattle.jfr_chunk.specs.Scrub.{Written, is_kept_or_metadata, written_anew, output_records, written, newest_at, moved, assembled}
use Rattle.jfr_worklist.proofs.Members.{contains_in}
use Rattle.jfr_chunk.proofs.TestLaws.{is_eq}
use Rattle.jfr_laws.proofs.Order.{Numbered, numbered_at, found_numbered}
use Rattle.jfr_laws.proofs.Header.{whole_small}
use Rattle.jfr_laws.proofs.Assembled.{HeaderLeads, headed_size, headed_held, headed_leads, headed_whole}
use Rattle.jfr_laws.proofs.OutputRecords.{bytes_from}
use Rattle.jfr_laws.proofs.Lengths.{length_back, last_bound, sizes_within}
use Rattle.jfr_laws.proofs.Metadata.{SameBody}
use Rattle.jfr_laws.proofs.Found.{Found, found_back, shown_bytes, shown_frame}
use Rattle.jfr_laws.proofs.Premises.{all_links, IsCheckpoint, GoodAnew, Ready, recorded, metadata_stands, chained_checkpoints, ready}
use Rattle.jfr_laws.proofs.Chosen.{is_kept}

pub only_records : (c : List ℕ) (ts : List Numbered) → AllByRecursion (IsCheckpoint c) ts → AllByRecursion (λ m. IsRecord c m.1.frame) ts
only_records c [] a = tt
only_records c (t ∷ ts) a = (a.0.0, only_records c ts a.1)

pub or_right : (x y : Bool) → y ≡ true → (x || y) ≡ true
or_right true y h = refl
or_right false y h = h

-- No chained checkpoint is at the offset of a record of type 0.
pub no_link_at : (c : List ℕ) (all : List Numbered) (f : Framed) → AllByRecursion (IsCheckpoint c) all → IsRecord c f → f.type_id ≡ 0 → numbered_at all f.at ≡ None
no_link_at c all f a s t = by_find (numbered_at all f.at) refl
  where
    by_find : (o : Option Numbered) → numbered_at all f.at ≡ o → o ≡ None
    by_find None g = refl
    by_find (Some x) g =
        let h = found_numbered (IsCheckpoint c) all f.at x a g in
        let j : x.1.frame ≡ f = record_one c x.1.frame f h.0.0 s h.1 in
        let n : x.1.frame.type_id ≡ f.type_id = ap (λ (z : Framed). z.type_id) j in
        let o : x.1.frame.type_id ≡ 1 = h.0.1 in
        absurd (omega arith)

-- The entries that are left, by marks.
abbrev pub remaining_of : Parts → List Bool → List EntryAt
remaining_of p marks = marked marks p.entries

-- What is written in place of the metadata record, if anything is.
abbrev pub metadata_new : Option (List ℕ) → (p : Parts) → AreParts p → Option (List ℕ)
metadata_new slim p a = written_anew slim p a.metadata_record

pub new_is : (slim : Option (List ℕ)) (p : Parts) (a : AreParts p) → metadata_new slim p a ≡ slim
new_is slim p a = ap (λ t. if t then slim else None) (is_eq a.metadata_record.at (metadata_at p.bytes) a.metadata_there.place)

-- At whichever offset the metadata record of the output is, it is read with these classes, and holds this, but for
-- the places in its tree.
abbrev pub MetadataReads : Option (List ℕ) → (p : Parts) → AreParts p → Body → Classes → Type 0
MetadataReads slim p a held m = (b : List ℕ) (place : ℕ) → Holds b (length b) place (shown_bytes p.bytes (metadata_new slim p a) a.metadata_record) → (body : Body) × IsMetadata b
    (shown_frame p.bytes (metadata_new slim p a) a.metadata_record place) body m × SameBody held body

module _ (slim : Option (List ℕ)) (p : Parts) (kept : List EventAt) (marks : List Bool) where
  -- What is written, and its bytes.
  abbrev pub written_of : List Written
  written_of = written p.bytes (remaining_of p marks) 68 None (output_records slim p kept)

  abbrev pub body_of : List ℕ
  body_of = bytes_from p.bytes (remaining_of p marks) 68 None (output_records slim p kept)

  -- The offsets of the output's last checkpoint and of its metadata record.
  abbrev pub last_of : ℕ
  last_of = newest_at None written_of

  abbrev pub metadata_of : ℕ
  metadata_of = moved written_of (metadata_at p.bytes)

  -- The output is in bytes after a header that leads to it.
  abbrev pub Leading : List ℕ → Type 0
  Leading = HeaderLeads body_of last_of metadata_of

  -- The chunk of it.
  abbrev pub out : List ℕ
  out = assembled p (remaining_of p marks) (output_records slim p kept)

  out_size : length out ≡ 68 + length body_of
  out_size = headed_size p.bytes body_of last_of metadata_of

  module _ (a : AreParts p) (good : GoodAnew p.bytes (written_anew slim p)) where
    pub is_ready : Ready p (remaining_of p marks) (output_records slim p kept)
    is_ready = ready p a (is_kept_or_metadata p kept) (written_anew slim p) good marks

    body_fits : 68 + length body_of ≤ length p.bytes
    body_fits =
        let l = length_back p.bytes (remaining_of p marks) p.classes (output_records slim p kept) 68 None is_ready.valid is_ready.deltas in
        let s = sizes_within p.bytes (all_links p) (is_kept_or_metadata p kept) (written_anew slim p) (only_records p.bytes (all_links p) (chained_checkpoints p a)) p.records 68
        (length p.bytes) a.records in
        omega (arith, l, s)

    pub out_shorter : length out ≤ length p.bytes
    out_shorter = omega (arith, body_fits, out_size)

    -- The metadata record is found if the body is there.
    pub metadata_found : (b : List ℕ) → Holds b (length b) 68 body_of → Found p.bytes (remaining_of p marks) p.classes b a.metadata_record (metadata_new slim p a) 68 written_of
    metadata_found b h =
        let f : Framed = a.metadata_record in
        found_back p.bytes (remaining_of p marks) p.classes b (all_links p) (is_kept_or_metadata p kept) (written_anew slim p) f (metadata_stands p a)
        (no_link_at p.bytes (all_links p) f (chained_checkpoints p a) (metadata_stands p a) a.metadata_there.type_is)
        (or_right (is_kept kept f) (f.at == metadata_at p.bytes) (is_eq f.at (metadata_at p.bytes) a.metadata_there.place))
        p.records 68 None (recorded p a) (contains_in p.records f a.metadata_there.listed) is_ready.valid is_ready.deltas h

    module _ (whole : fronts.Whole p.bytes) where
      small : length p.bytes < 2 ^ 30
      small = whole_small p.bytes whole

      pub out_leading : Leading out
      out_leading =
          let f = metadata_found out (headed_held p.bytes body_of last_of metadata_of) in
          let m : metadata_of ≡ f.place = ap (moved written_of) (sym a.metadata_there.place) ∙ f.leads in
          let w : f.place + length (shown_bytes p.bytes (metadata_new slim p a) a.metadata_record) ≤ length out = f.held.within in
          let l = last_bound p.bytes (remaining_of p marks) (output_records slim p kept) 68 None tt in
          headed_leads p.bytes body_of last_of metadata_of (omega (arith, l, body_fits, small)) (omega (arith, m, w, out_shorter, small))

      pub out_whole : fronts.Whole out
      out_whole = headed_whole p.bytes body_of last_of metadata_of whole (omega (arith, body_fits, small))
