-- The body while it is laid out.
use Rattle.std.specs.Prelude.{◌≡◌, ℕ, ◌+◌, ◌≤◌, Bool, true, false, ◌==◌, List, [], ◌∷◌, ◌++◌, length, take, filter, Option, None, unwrap_or, cond}
use Rattle.std.specs.List.{flat_map, AllByRecursion}
use Rattle.std.proofs.Common.{ap, arith, refl, sym, ◌∙◌, subst, length-append}
use Rattle.std.proofs.lemmas.List.{append-nil}
use Rattle.jfr_pool.specs.declared.entry.EntryAt.{EntryAt}
use Rattle.jfr_header.specs.Headers.{header_of, header_bytes}
use Rattle.jfr_header.specs.declared.header.Header.{Header}
use Rattle.jfr_chunk.specs.Reach.{remain}
use Rattle.jfr_chunk.specs.Parts.{Parts, EventAt, metadata_at}
use Rattle.jfr_chunk.specs.Scrub.{OutputRecord, Written, bytes_of, written_bytes, newest_after, written, newest_at, record_of, moved, output_records, scrub_with}
use Rattle.jfr_output.specs.Positions.{IsBefore, offset_so_far}
use Rattle.jfr_output.proofs.PositionLaws.{newest_next, newest_none, moved_next, or_none, or_place, still_before}
use Rattle.jfr_scrub.specs.Bodies.{Progress, OutputRecordFits, body_with, HasAllRecords}
use Rattle.jfr_scrub.specs.Sizes.{HasRange}
use Rattle.jfr_scrub.specs.Pieces.{OutputSoFar, more}
use Rattle.jfr_scrub.proofs.CheckpointLaws.{more_more}

pub range_filter : (n : ℕ) (t : EntryAt → Bool) (es : List EntryAt) → AllByRecursion (HasRange n) es → AllByRecursion (HasRange n) (filter t es)
range_filter n t [] a = tt
range_filter n t (e ∷ es) a = by_test (t e) (range_filter n t es a.1)
  where
    by_test : (b : Bool) → AllByRecursion (HasRange n) (filter t es) → AllByRecursion (HasRange n) (cond b (e ∷ filter t es) (filter t es))
    by_test true h = (a.0, h)
    by_test false h = h

-- Each that is written fits.
abbrev pub WrittenFits : List ℕ → List EntryAt → Written → Type 0
WrittenFits c remaining w = OutputRecordFits c remaining w.output_record w.at w.newest

-- What is laid out, and what is left.
pub record Going (p : Parts) (remaining : List EntryAt) (all ss : List OutputRecord) (b : Progress) : Type 0 where
  pub chunk : b.output.chunk ≡ p.bytes
  pub output : more b.output (flat_map (written_bytes p.bytes remaining) (written p.bytes remaining b.at b.newest ss)) ≡ record { chunk = p.bytes; bytes = flat_map (written_bytes p.bytes remaining) (written p.bytes remaining 68 None all) }
  pub at : b.at ≡ 68 + length b.output.bytes
  pub newest : newest_at b.newest (written p.bytes remaining b.at b.newest ss) ≡ newest_at None (written p.bytes remaining 68 None all)
  pub metadata : or_place b.metadata (moved (written p.bytes remaining b.at b.newest ss) (metadata_at p.bytes)) ≡ moved (written p.bytes remaining 68 None all) (metadata_at p.bytes)
  pub fits : AllByRecursion (WrittenFits p.bytes remaining) (written p.bytes remaining b.at b.newest ss)
  pub before : IsBefore b.newest b.at
  pub within : 68 + length (flat_map (written_bytes p.bytes remaining) (written p.bytes remaining 68 None all)) ≤ length p.bytes

pub going_none : (p : Parts) (remaining : List EntryAt) (all : List OutputRecord) (b : Progress)
    → b ≡ record { output = record { chunk = p.bytes; bytes = [] }; at = 68; newest = None; metadata = None } →
    AllByRecursion (WrittenFits p.bytes remaining) (written p.bytes remaining 68 None all) → 68 + length
    (flat_map (written_bytes p.bytes remaining) (written p.bytes remaining 68 None all)) ≤ length p.bytes → Going p remaining all all b
going_none p remaining all b e f w = subst (Going p remaining all all) (sym e) (record { chunk = refl; output = refl; at = refl; newest = refl; metadata = refl; fits = f; before = tt; within = w })

-- What is left is no longer than all.
pub going_room : (p : Parts) (remaining : List EntryAt) (all ss : List OutputRecord) (s : OutputRecord) (b : Progress) → Going p remaining all (s ∷ ss) b
    → b.at + length (bytes_of p.bytes remaining s b.at b.newest) ≤ length p.bytes
going_room p remaining all ss s b g =
    let x = bytes_of p.bytes remaining s b.at b.newest in
    let y = flat_map (written_bytes p.bytes remaining) (written p.bytes remaining (b.at + length x) (newest_after s b.at b.newest) ss) in
    let k : length (b.output.bytes ++ (x ++ y)) ≡ length (flat_map (written_bytes p.bytes remaining) (written p.bytes remaining 68 None all)) = ap (λ (z : OutputSoFar). length z.bytes) g.output in
    let l : length (b.output.bytes ++ (x ++ y)) ≡ length b.output.bytes + length (x ++ y) = length-append b.output.bytes (x ++ y) in
    let m : length (x ++ y) ≡ length x + length y = length-append x y in
    let w : 68 + length (flat_map (written_bytes p.bytes remaining) (written p.bytes remaining 68 None all)) ≤ length p.bytes = g.within in
    let a : b.at ≡ 68 + length b.output.bytes = g.at in
    omega arith

pub going_next : (p : Parts) (remaining : List EntryAt) (all ss : List OutputRecord) (s : OutputRecord) (b next : Progress) (m : ℕ) → Going p remaining all (s ∷ ss) b → m ≡ metadata_at p.bytes
    → next ≡ body_with remaining m b s → 1 ≤ length (bytes_of p.bytes remaining s b.at b.newest) → Going p remaining all ss next
going_next p remaining all ss s b next m g e n k =
    let c = g.chunk in
    let same : next ≡ record {
      output = more b.output (bytes_of p.bytes remaining s b.at b.newest);
      at = b.at + length
          (bytes_of p.bytes remaining s b.at b.newest);
      newest = newest_after s b.at b.newest;
      metadata = offset_so_far b.metadata ((record_of s).at == metadata_at p.bytes) b.at;
    } =
    n ∙ (λ i. record {
      output = more b.output (bytes_of (c i) remaining s b.at b.newest);
      at = b.at + length
          (bytes_of (c i) remaining s b.at b.newest);
      newest = newest_after s b.at b.newest;
      metadata = offset_so_far b.metadata ((record_of s).at == e i) b.at;
    }) in
    subst (Going p remaining all ss) (sym same) (going k)
  where
    going : 1 ≤ length (bytes_of p.bytes remaining s b.at b.newest) →
        Going p remaining all ss (record {
          output = more b.output (bytes_of p.bytes remaining s b.at b.newest);
          at = b.at + length
              (bytes_of p.bytes remaining s b.at b.newest);
          newest = newest_after s b.at b.newest;
          metadata = offset_so_far b.metadata ((record_of s).at == metadata_at p.bytes) b.at;
        })
    going k =
        let x = bytes_of p.bytes remaining s b.at b.newest in
        let y = flat_map (written_bytes p.bytes remaining) (written p.bytes remaining (b.at + length x) (newest_after s b.at b.newest) ss) in
        let w : Written = record { output_record = s; at = b.at; newest = b.newest } in
        let ws = written p.bytes remaining (b.at + length x) (newest_after s b.at b.newest) ss in
        let l : length (b.output.bytes ++ x) ≡ length b.output.bytes + length x = length-append b.output.bytes x in
        let a : b.at ≡ 68 + length b.output.bytes = g.at in
        record {
          chunk = g.chunk;
          output = more_more b.output x y ∙ g.output;
          at = omega arith;
          newest = sym (newest_next b.newest w ws) ∙ g.newest;
          metadata = sym (moved_next b.metadata w ws (metadata_at p.bytes)) ∙ g.metadata;
          fits = g.fits.1;
          before = still_before s b.at (b.at + length x) b.newest g.before (omega arith);
          within = g.within;
        }

pub going_all : (p : Parts) (remaining : List EntryAt) (all ss : List OutputRecord) (b : Progress) → Going p remaining all ss b → ss ≡ [] → HasAllRecords p remaining all b
going_all p remaining all ss b g e = done (subst (λ z. Going p remaining all z b) e g)
  where
    done : Going p remaining all [] b → HasAllRecords p remaining all b
    done g =
        let o : b.output ≡ record { chunk = p.bytes; bytes = flat_map (written_bytes p.bytes remaining) (written p.bytes remaining 68 None all) } =
        (λ i. record { chunk = b.output.chunk; bytes = sym (append-nil b.output.bytes) i }) ∙ g.output in
        let l : length b.output.bytes ≡ length (flat_map (written_bytes p.bytes remaining) (written p.bytes remaining 68 None all)) = ap (λ (z : OutputSoFar). length z.bytes) o in
        let a : b.at ≡ 68 + length b.output.bytes = g.at in
        let w : 68 + length (flat_map (written_bytes p.bytes remaining) (written p.bytes remaining 68 None all)) ≤ length p.bytes = g.within in
        record {
          output = o;
          at = omega arith;
          newest = sym (newest_none b.newest) ∙ g.newest;
          metadata = sym (or_none b.metadata) ∙ g.metadata;
          within = omega arith;
        }

-- The header before the body is what the chunk becomes.
pub laid_all : (new : Option (List ℕ)) (p : Parts) (kept : List EventAt) (remaining : List EntryAt) (b : Progress) (h : Header) (front joined : List ℕ) → remaining ≡ remain p kept
    → HasAllRecords p remaining (output_records new p kept) b → h ≡ header_of (take 68 p.bytes) →
    front ≡ header_bytes (record h { size = b.at; pools = unwrap_or b.newest 0; metadata = unwrap_or b.metadata 0 }) → joined ≡ front ++ b.output.bytes → joined ≡ scrub_with new p kept
unfolding scrub_with
laid_all new p kept remaining b h front joined l i e f j =
    let k : HasAllRecords p (remain p kept) (output_records new p kept) b = subst (λ z. HasAllRecords p z (output_records new p kept) b) l i in
    let bytes = ap (λ (z : OutputSoFar). z.bytes) k.output in
    j ∙ (ap (λ z. z ++ b.output.bytes) f ∙ (λ n. header_bytes (record (e n) { size = k.at n; pools = k.newest n; metadata = k.metadata n }) ++ bytes n))
