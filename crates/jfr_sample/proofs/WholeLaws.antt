-- A sample is one whole chunk, put together of its parts.
use Rattle.std.proofs.Common.{◌≡◌, ℕ, ◌+◌, ◌*◌, ◌≤◌, List, ◌++◌, length, take, drop, sym, ◌∙◌, ap, arith, length-append, append_assoc}
use Rattle.std.proofs.Math.Seq.{take-append_seam, drop-append_seam}
use Rattle.jfr_header.specs.Headers.{header_bytes}
use Rattle.jfr_header.specs.Made.{made_header}
use Rattle.jfr_sample.specs.Metadata.{metadata}
use Rattle.jfr_sample.specs.Sample.{before_checkpoint, events_to, checkpoint, sample_of}
use Rattle.jfr_sample.proofs.Lengths.{length-metadata, events-le, checkpoint-le}

-- The sample with blank bytes in place of the header.
abbrev pub filled : List ℕ → ℕ → ℕ → List ℕ
filled blank seed events = blank ++ metadata ++ events_to seed events events ++ checkpoint events

-- It is added part by part.
pub filled_by : (blank first second chunk : List ℕ) (seed events : ℕ) → first ≡ blank ++ metadata → second ≡ first ++ events_to seed events events → chunk ≡ second ++ checkpoint events
    → chunk ≡ filled blank seed events
filled_by blank first second chunk seed events a b c = c ∙ ap (λ (l : List ℕ). l ++ checkpoint events) (b ∙ ap (λ (l : List ℕ). l ++ events_to seed events events) a)

-- How long that is.
length-filled : (blank : List ℕ) (seed events : ℕ) → length blank ≡ 68 → length (filled blank seed events) ≡ 68 + length (before_checkpoint seed events) + length (checkpoint events)
length-filled blank seed events is =
    omega (
      arith,
      length-append (blank ++ metadata ++ events_to seed events events) (checkpoint events),
      length-append (blank ++ metadata)
          (events_to seed events events),
      length-append blank metadata,
      length-append metadata (events_to seed events events),
    )

pub filled-ge : (blank : List ℕ) (seed events : ℕ) → length blank ≡ 68 → 68 ≤ length (filled blank seed events)
filled-ge blank seed events is = omega (arith, length-filled blank seed events is)

pub filled-le : (blank : List ℕ) (seed events : ℕ) → length blank ≡ 68 → 1 ≤ events → events ≤ 1000000 → length (filled blank seed events) ≤ 339 + 26 * events
filled-le blank seed events is some most =
    omega (arith, length-filled blank seed events is, length-append metadata (events_to seed events events), length-metadata, events-le seed events events some most most, checkpoint-le events most)

-- With its header it is the sample.
pub made_of : (blank : List ℕ) (seed events pools : ℕ) → length blank ≡ 68 → pools ≡ length (blank ++ metadata ++ events_to seed events events)
    → header_bytes (made_header (length (filled blank seed events)) pools) ++ drop 68 (filled blank seed events) ≡ sample_of seed events
unfolding sample_of
made_of blank seed events pools is at =
    let before : List ℕ = before_checkpoint seed events in
    let size : length (filled blank seed events) ≡ 68 + length before + length (checkpoint events) = length-filled blank seed events is in
    let place : pools ≡ 68 + length before =
    omega (arith, at, length-append (blank ++ metadata) (events_to seed events events), length-append blank metadata, length-append metadata (events_to seed events events)) in
    let whole : filled blank seed events ≡ blank ++ (before ++ checkpoint events) =
    ap (λ (l : List ℕ). l ++ checkpoint events) (append_assoc blank metadata (events_to seed events events)) ∙ append_assoc blank before (checkpoint events) in
    let rest : drop 68 (filled blank seed events) ≡ before ++ checkpoint events =
    ap (drop 68) whole ∙ ap (λ (n : ℕ). drop n (blank ++ (before ++ checkpoint events))) (sym is) ∙ drop-append_seam blank (before ++ checkpoint events) in
    ap (λ (n : ℕ). header_bytes (made_header n pools) ++ drop 68 (filled blank seed events)) size
    ∙ ap (λ (n : ℕ). header_bytes (made_header (68 + length before + length (checkpoint events)) n) ++ drop 68 (filled blank seed events)) place
    ∙ ap (λ (l : List ℕ). header_bytes (made_header (68 + length before + length (checkpoint events)) (68 + length before)) ++ l) rest
    ∙ sym (append_assoc (header_bytes (made_header (68 + length before + length (checkpoint events)) (68 + length before))) before (checkpoint events))

-- Bytes overwritten by the same number of others.
pub written_over : (count : ℕ) (new old : List ℕ) → count ≡ length old → length new ≡ length old → take count (new ++ drop (length new) old) ≡ new
written_over count new old is same = ap (λ (n : ℕ). take n (new ++ drop (length new) old)) (is ∙ sym same) ∙ take-append_seam new (drop (length new) old)
