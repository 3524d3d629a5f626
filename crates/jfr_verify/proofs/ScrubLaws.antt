-- The scrubs of a recording's chunks are a recording of these chunks.
use Rattle.std.specs.Prelude.{◌≡◌, ◌+◌, ◌^◌, ◌<◌, ◌≤◌, ℕ, Bool, true, false, List, [], ◌∷◌, ◌++◌, take, drop, length, map, nat_le, None, Ok}
use Rattle.std.specs.List.{AllByRecursion, flat_map}
use Rattle.std.proofs.Common.{ap, arith, refl, sym, ◌∙◌, subst}
use Rattle.std.proofs.Math.Seq.{drop-append_seam}
use Rattle.jfr_base.specs.declared.reason.Reason.TheVariants.{NoChunk, TooLong}
use Rattle.jfr_filter.specs.Filters.{Given}
use Rattle.jfr_header.specs.Cuts.{Cuts, cut, joined, AreCut}
use Rattle.jfr_header.specs.Fronts.{Bad, End, Chunk, Whole, flaw_at, front}
use Rattle.jfr_header.proofs.CutLaws.{Begins, are_cut, cut_is, front_begins}
use Rattle.jfr_header.proofs.Steps.{front_long, front_none, whole_front}
use Rattle.jfr_chunk.specs.Chosen.{chosen, kept_of}
use Rattle.jfr_chunk.specs.Metas.{Names}
use Rattle.jfr_chunk.specs.Parts.{Parts, AreParts}
use Rattle.jfr_chunk.specs.Refusal.{read_parts}
use Rattle.jfr_chunk.proofs.ChainAnswers.{is_computed}
use Rattle.jfr_laws.specs.Laws.{IsKept}
use Rattle.jfr_laws.proofs.Scrubbed.{scrubbed_kept}
use Rattle.jfr_verify.specs.Receipts.{receipt_of}
use Rattle.jfr_verify.specs.Recordings.{read_on, recording_from, recording_of}
use Rattle.jfr_verify.specs.Streams.{AreScrubbed, receipts}
use Rattle.jfr_verify.specs.Verdicts.{output_of, receipt_by, receipt_for}
use Rattle.jfr_verify.proofs.RecordingLaws.{is_read}

-- ---- one chunk after another

no_bytes : (d : List ℕ) → Whole d → take (length d) [] ≡ d → ⊥
no_bytes [] v k = let l : 68 ≤ 0 = v.long in omega arith
no_bytes (a ∷ more) v k = cc

-- A chunk that is cut from the front starts below byte 2^40.
begins_early : (rest c : List ℕ) (start : ℕ) (first : Bool) → front rest start first ≡ Chunk c → Whole c → start < 2 ^ 40
begins_early rest c start first e w = by_order (nat_le (2 ^ 40) start) refl
  where
    some : (y : List ℕ) → y ≡ rest → 0 < length y
    some [] q = absurd (no_bytes c w (subst (λ z. Begins z (Chunk c)) (sym q) (subst (Begins rest) e (front_begins rest start first))).1)
    some (a ∷ more) q = omega arith

    by_order : (t : Bool) → nat_le (2 ^ 40) start ≡ t → start < 2 ^ 40
    by_order true h =
        let k : 2 ^ 40 ≤ start = grind arith in
        let f : Bad (flaw_at 0 TooLong) ≡ Chunk c = sym (front_long rest start first (some rest refl) k) ∙ e in
        cc
    by_order false h = grind arith

nothing_is_the_end : (start : ℕ) → front [] start false ≡ End
unfolding front
nothing_is_the_end start = refl

no_end : (x : List ℕ) (start : ℕ) → front x start true ≡ End → ⊥
no_end x start e =
    let none : x ≡ [] = subst (Begins x) e (front_begins x start true) in
    let f : Bad (flaw_at 0 NoChunk) ≡ End = sym (front_none start) ∙ ap (λ (l : List ℕ). front l start true) (sym none) ∙ e in
    cc

abbrev bytes_of : List Parts → List (List ℕ)
bytes_of ps = map (λ p. p.bytes) ps

-- The scrubs of chunks, and the receipts that are written for them.
record Made (names : Names) (g : Given) (ps : List Parts) : Type 0 where
  outputs : List Parts
  scrubbed : AreScrubbed names g ps outputs
  bytes : flat_map (output_of names g) ps ≡ joined (bytes_of outputs)
  receipted : flat_map (receipt_for names g) ps ≡ receipts outputs
  read : (n : ℕ) → recording_from n (bytes_of outputs) None ≡ record { parts = outputs; refusal = None }
  whole : AllByRecursion (λ p. Whole p.bytes) outputs
  cuts : (rest : List ℕ) (start later : ℕ) (first : Bool) → start ≤ later → AreCut (bytes_of ps) None rest later first → AreCut (bytes_of outputs) None (joined (bytes_of outputs)) start false

read_output : (names : Names) (g : Given) (p : Parts) (k : IsKept names p (kept_of g p)) → read_parts (output_of names g p) ≡ Ok k.parts
read_output names g p k = ((is_computed (output_of names g p) k.whole.long).parts k.parts).0 (k.bytes, k.valid)

make_one : (names : Names) (g : Given) (p : Parts) (ps : List Parts) → Whole p.bytes → AreParts p → IsKept names p (kept_of g p) → Made names g ps → Made names g (p ∷ ps)
make_one names g p ps w a k m =
    let q : Parts = k.parts in
    let read : read_parts q.bytes ≡ Ok q = ap read_parts k.bytes ∙ read_output names g p k in
    let whole : Whole q.bytes = subst Whole (sym k.bytes) k.whole in
    let size : length q.bytes ≤ length p.bytes = subst (λ (z : List ℕ). length z ≤ length p.bytes) (sym k.bytes) k.size in
    record {
      outputs = q ∷ m.outputs;
      scrubbed = (a, (k, refl), m.scrubbed);
      bytes = ap (λ (z : List ℕ). z ++ flat_map (output_of names g) ps) (sym k.bytes) ∙ ap (λ (z : List ℕ). q.bytes ++ z) m.bytes;
      receipted = ap (λ (z : List ℕ). z ++ flat_map (receipt_for names g) ps) (ap receipt_by (read_output names g p k)) ∙ ap (λ (z : List ℕ). receipt_of q ++ z) m.receipted;
      read = λ n. ap (λ z. read_on n z (recording_from (n + 1) (bytes_of m.outputs) None)) read ∙ ap (read_on n (Ok q)) (m.read (n + 1));
      whole = (whole, m.whole);
      cuts = λ rest start later first h c. (
        whole_front q.bytes (joined (bytes_of m.outputs)) start false whole (let early : later < 2 ^ 40 = begins_early rest p.bytes later first c.0 w in omega (arith, h, early)),
        subst (λ z. AreCut (bytes_of m.outputs) None z (start + length q.bytes) false) (sym (drop-append_seam q.bytes (joined (bytes_of m.outputs))))
            (m.cuts (drop (length p.bytes) rest) (start + length q.bytes) (later + length p.bytes) false (omega (arith, h, size)) c.1),
      );
    }

make : (names : Names) (g : Given) (ps : List Parts) → AllByRecursion (λ p. Whole p.bytes) ps → AllByRecursion AreParts ps → Made names g ps
make names g [] w a = record {
  outputs = [];
  scrubbed = tt;
  bytes = refl;
  receipted = refl;
  read = λ n. refl;
  whole = tt;
  cuts = λ rest start later first h c. nothing_is_the_end start;
}
make names g (p ∷ ps) w a = make_one names g p ps w.0 a.0 (scrubbed_kept names p a.0 (chosen g p) w.0) (make names g ps w.1 a.1)

-- The outputs, joined, are cut into just these chunks.
cut_outputs : (qs : List Parts) → AllByRecursion (λ p. Whole p.bytes) qs → AreCut (bytes_of qs) None (joined (bytes_of qs)) 0 false → (qs ≡ [] → ⊥)
    → cut (joined (bytes_of qs)) 0 true ≡ record { chunks = bytes_of qs; flaw = None }
cut_outputs [] w a h = absurd (h refl)
cut_outputs (q ∷ qs) w a h = cut_is (bytes_of (q ∷ qs)) None (joined (bytes_of (q ∷ qs))) 0 true (whole_front q.bytes (joined (bytes_of qs)) 0 true w.0 (omega arith), a.1)

some_outputs : (names : Names) (g : Given) (ps qs : List Parts) → AreScrubbed names g ps qs → qs ≡ [] → ps ≡ []
some_outputs names g [] qs s e = refl
some_outputs names g (p ∷ ps) [] s e = absurd s
some_outputs names g (p ∷ ps) (q ∷ qs) s e = cc

-- The scrubs of a recording's chunks, joined, are read as just these.
pub record MadeOf (names : Names) (g : Given) (x : List ℕ) : Type 0 where
  pub outputs : List Parts
  pub scrubbed : AreScrubbed names g (recording_of x).parts outputs
  pub receipted : flat_map (receipt_for names g) (recording_of x).parts ≡ receipts outputs
  pub read : recording_of (flat_map (output_of names g) (recording_of x).parts) ≡ record { parts = outputs; refusal = None }

pub made_of : (names : Names) (g : Given) (x : List ℕ) → (recording_of x).refusal ≡ None → MadeOf names g x
unfolding recording_of
made_of names g x e =
    let ps : List Parts = (recording_of x).parts in
    let r = is_read x in
    let m = make names g ps r.whole r.parts in
    let whole : cut x 0 true ≡ record { chunks = bytes_of ps; flaw = None } = r.all e in
    let cuts : AreCut (bytes_of ps) None x 0 true = subst (λ (k : Cuts). AreCut k.chunks k.flaw x 0 true) whole (are_cut x 0 true) in
    let some : m.outputs ≡ [] → ⊥ = λ h. no_end x 0 (subst (λ (z : List Parts). AreCut (bytes_of z) None x 0 true) (some_outputs names g ps m.outputs m.scrubbed h) cuts) in
    let made : cut (joined (bytes_of m.outputs)) 0 true ≡ record { chunks = bytes_of m.outputs; flaw = None } = cut_outputs m.outputs m.whole (m.cuts x 0 0 true (omega arith) cuts) some in
    record {
      outputs = m.outputs;
      scrubbed = m.scrubbed;
      receipted = m.receipted;
      read = ap recording_of m.bytes ∙ ap (λ (k : Cuts). recording_from 1 k.chunks k.flaw) made ∙ m.read 1;
    }
