-- The verdict on three files, read one after another.
use Rattle.std.specs.Prelude.{◌≡◌, ◌^◌, ◌<◌, ◌≤◌, ℕ, List, length, Vec, Option, Some, None, Ok, Err, IfSome, IsSomeAnd, IsTrue}
use Rattle.std.specs.FinMap as fin
use Rattle.std.specs.declared.alloc.Global.{Global}
use Rattle.std.proofs.Common.{ap, refl, sym, ◌∙◌, subst}
use Rattle.jfr_filter.specs.Filters.{Given}
use Rattle.jfr_outside.specs.Counts.{Rose}
use Rattle.jfr_outside.specs.World.{Files, World, State, IfKnown, file, shut}
use Rattle.jfr_header.specs.Taking.{IsKept}
use Rattle.jfr_file.specs.Files.{FileRead}
use Rattle.jfr_file.specs.declared.file.FileFault.{FileFault}
use Rattle.jfr_file.specs.declared.file.FileFault.TheVariants as files
use Rattle.jfr_chunk.specs.Parts.{Parts}
use Rattle.jfr_verify.specs.Comparing.{InputRead}
use Rattle.jfr_verify.specs.Faults.{Counted, Counts, after_receipts}
use Rattle.jfr_verify.specs.Outputs.{AreOutputs, IsOutputFault, OutputRead}
use Rattle.jfr_verify.specs.Recordings.{recording_of}
use Rattle.jfr_verify.specs.Verdicts.{AllVerified, AreScrubs, ComparedWith, HasNoVerdict, IfDecided, IfVerified, IsVerifiedOrMemory, LacksOne, VerdictIn, long, refused, compared, three}
use Rattle.jfr_verify.specs.declared.doubt.Doubt.TheVariants.{ReceiptLong, OutRefused, ChunksDiffer, ClassesDiffer, EventsDiffer, EntriesDiffer, EntryMissing, ReceiptBad}
use Rattle.jfr_verify.specs.declared.verdict.Verdict.{Verdict}
use Rattle.jfr_verify.specs.declared.verdict.Verdict.TheVariants.{Verified, Doubted, Refused, ReadFault, Memory}
use Rattle.jfr_verify.proofs.RecordingLaws.{from_some}
use Rattle.jfr_verify.proofs.VerdictLaws.{lacks_one, none_without_input, none_without_output, none_without_receipts, one_verdict, scrubs_verified, verified_all}

-- A file is the same if all files are.
same_file : (name : List ℕ) (w v : World) → v.files ≡ w.files → file v name ≡ file w name
same_file name w v e = ap (λ (f : Files). fin.get f name) e

shut_kept : (w v : World) → v ≡ shut w → IsKept w v
shut_kept w v e = (ap (λ (z : World). z.files) e, ap (λ (z : World). z.output) e)

kept_on : (w v u : World) → IsKept w v → IsKept v u → IsKept w u
kept_on w v u p q = (q.0 ∙ p.0, q.1 ∙ p.1)

map_some : (P Q : World → Type 0) (o : Option World) → ((w : World) → P w → Q w) → IfSome o P → IfSome o Q
map_some P Q None f h = tt
map_some P Q (Some w) f h = f w h

module _ (g : Given) (input output receipt : List ℕ) where
  -- The receipts could not be read.
  receipts_failed : (fault : FileFault) (x : Verdict) (w v : World) → x ≡ after_receipts fault → FileRead receipt (2 ^ 40) (Err fault) w v → VerdictIn g input output receipt x w v
  receipts_failed files.TooLong x w v e h =
      let r = from_some (file w receipt) (λ b. 2 ^ 40 ≤ length b) h.0 in
      subst (λ z. VerdictIn g input output receipt z w v) (sym e) (shut_kept w v h.1, long r.0 r.1 r.2 refl)
  receipts_failed files.Failed x w v e h = subst (λ z. VerdictIn g input output receipt z w v) (sym e) (h.1, tt)
  receipts_failed files.Memory x w v e h = subst (λ z. VerdictIn g input output receipt z w v) (sym e) (h, tt)

  pub no_receipts : (fault : FileFault) (x : Verdict) (b a : Option World) → x ≡ after_receipts fault → IfKnown b a (FileRead receipt (2 ^ 40) (Err fault))
      → IfKnown b a (VerdictIn g input output receipt x)
  no_receipts fault x None a e t = tt
  no_receipts fault x (Some w) None e t = absurd t
  no_receipts fault x (Some w) (Some v) e t = receipts_failed fault x w v e t

  -- The output could not be read to its end.
  output_failed : (r : Vec ℕ Global) (x : Verdict) (w v u : World) → length r.items < 2 ^ 40 → FileRead receipt (2 ^ 40) (Ok r) w v → IsKept v u → IsOutputFault x (file v output)
      → VerdictIn g input output receipt x w u
  output_failed r (Verified n) w v u s h k o = absurd o
  output_failed r (Doubted chunk OutRefused) w v u s h k o =
      let y = from_some (file v output) (λ z. IsSomeAnd (recording_of z).refusal (λ f. f.chunk ≡ chunk)) o in
      let f = from_some (recording_of y.0).refusal (λ z. z.chunk ≡ chunk) y.2 in
      let first = shut_kept w v h.1 in (
        kept_on w v u first k,
        refused (record { bytes = r.items; is = h.0; short = s }) (record { bytes = y.0; is = sym (same_file output w v first.0) ∙ y.1 }) f.0 f.1
            (ap (λ m. Doubted m OutRefused) (sym f.2)),
      )
  output_failed r (Doubted chunk ReceiptLong) w v u s h k o = absurd o
  output_failed r (Doubted chunk ChunksDiffer) w v u s h k o = absurd o
  output_failed r (Doubted chunk ClassesDiffer) w v u s h k o = absurd o
  output_failed r (Doubted chunk EventsDiffer) w v u s h k o = absurd o
  output_failed r (Doubted chunk EntriesDiffer) w v u s h k o = absurd o
  output_failed r (Doubted chunk EntryMissing) w v u s h k o = absurd o
  output_failed r (Doubted chunk ReceiptBad) w v u s h k o = absurd o
  output_failed r (Refused f) w v u s h k o = absurd o
  output_failed r ReadFault w v u s h k o = (kept_on w v u (shut_kept w v h.1) k, tt)
  output_failed r Memory w v u s h k o = (kept_on w v u (shut_kept w v h.1) k, tt)

  pub no_output : (r : Vec ℕ Global) (x : Verdict) (b a d : Option World) → length r.items < 2 ^ 40 → IfKnown b a (FileRead receipt (2 ^ 40) (Ok r)) → IfKnown a d (OutputRead output (Err x))
      → IfKnown b d (VerdictIn g input output receipt x)
  no_output r x None a d s t o = tt
  no_output r x (Some w) None d s t o = absurd t
  no_output r x (Some w) (Some v) None s t o = absurd o
  no_output r x (Some w) (Some v) (Some u) s t o = output_failed r x w v u s t o.0 o.1

  decided : (x : Verdict) (P Q : Type 0) → (P → Q) → IfDecided x P → IfDecided x Q
  decided (Verified n) P Q f h = f h
  decided (Doubted chunk doubt) P Q f h = f h
  decided (Refused r) P Q f h = f h
  decided ReadFault P Q f h = tt
  decided Memory P Q f h = tt

  -- The input was compared.
  pub input_compared : (r : Vec ℕ Global) (bs : Vec (Vec ℕ Global) Global) (x : Verdict) (b a d e : Option World) → length r.items < 2 ^ 40 → IfKnown b a (FileRead receipt (2 ^ 40) (Ok r))
      → IfKnown a d (OutputRead output (Ok bs))
      → ((qs : List Parts) → AreOutputs bs.items qs → IfKnown d e (InputRead g input qs r.items x)) → IfKnown b e (VerdictIn g input output receipt x)
  input_compared r bs x None a d e s t o i = tt
  input_compared r bs x (Some w) None d e s t o i = absurd t
  input_compared r bs x (Some w) (Some v) None e s t o i = absurd o
  input_compared r bs x (Some w) (Some v) (Some u) e s t o i =
      by_output (from_some (file v output) (λ z. ((recording_of z).refusal ≡ None) × AreOutputs bs.items (recording_of z).parts) o.1)
    where
      first : IsKept w v
      first = shut_kept w v t.1

      by_input : (y : List ℕ) → file v output ≡ Some y → (recording_of y).refusal ≡ None → (e : Option World) → IfKnown (Some u) e (InputRead g input (recording_of y).parts r.items x)
          → IfKnown (Some w) e (VerdictIn g input output receipt x)
      by_input y is whole None i = absurd i
      by_input y is whole (Some z) i = (
        kept_on w u z (kept_on w v u first o.0) i.0,
        decided x _ _ (λ f.
            let a = from_some (file u input) (λ b. ComparedWith g (recording_of b) (recording_of y).parts r.items 0 x) f in
            compared (record { bytes = r.items; is = t.0; short = s }) (record { bytes = y; is = sym (same_file output w v first.0) ∙ is }) whole a.0
            (sym (same_file input w u (o.0.0 ∙ first.0)) ∙ a.1) a.2) i.1,
      )

      by_output : (y : List ℕ) × (file v output ≡ Some y) × (((recording_of y).refusal ≡ None) × AreOutputs bs.items (recording_of y).parts) → IfKnown (Some w) e (VerdictIn g input output receipt x)
      by_output y = by_input y.0 y.1 y.2.0 e (i (recording_of y.0).parts y.2.1)

  -- All chunks are verified.
  pub told_verified : (x : Verdict) (b a : Option World) → IfKnown b a (VerdictIn g input output receipt x) → IfVerified x (λ n. IfSome b (λ w. AllVerified g (three input output receipt w) n))
  told_verified (Verified n) None a t = tt
  told_verified (Verified n) (Some w) None t = absurd t
  told_verified (Verified n) (Some w) (Some v) t = verified_all g (three input output receipt w) n t.1
  told_verified (Doubted chunk doubt) b a t = tt
  told_verified (Refused r) b a t = tt
  told_verified ReadFault b a t = tt
  told_verified Memory b a t = tt

  -- A scrub is verified.
  fine_of : (x : Verdict) (m n : ℕ) (w v : World) → Counted x m n → VerdictIn g input output receipt x w v → AreScrubs g (three input output receipt w) → (Rose m n → ⊥) → IsVerifiedOrMemory x
  fine_of (Verified k) m n w v c t s r = tt
  fine_of (Doubted chunk doubt) m n w v c t s r = let e = one_verdict g (three input output receipt w) (Doubted chunk doubt) (Verified _) t.1 (scrubs_verified g (three input output receipt w) s) in cc
  fine_of (Refused f) m n w v c t s r = let e = one_verdict g (three input output receipt w) (Refused f) (Verified _) t.1 (scrubs_verified g (three input output receipt w) s) in cc
  fine_of ReadFault m n w v c t s r = absurd (r c.1)
  fine_of Memory m n w v c t s r = tt

  pub told_fine : (x : Verdict) (a b : State) → Counts x a b → IfKnown a.contents b.contents (VerdictIn g input output receipt x)
      → IfSome a.contents (λ w. AreScrubs g (three input output receipt w) → (Rose a.read_faults b.read_faults → ⊥) → IsVerifiedOrMemory x)
  told_fine x a b c t = by_told a.contents b.contents t
    where
      by_told : (s z : Option World) → IfKnown s z (VerdictIn g input output receipt x)
          → IfSome s (λ w. AreScrubs g (three input output receipt w) → (Rose a.read_faults b.read_faults → ⊥) → IsVerifiedOrMemory x)
      by_told None z t = tt
      by_told (Some w) None t = absurd t
      by_told (Some w) (Some v) t = fine_of x a.read_faults b.read_faults w v c.reads t

  -- On a steady place no verdict is right after a read fault: the receipts don't exist,
  abbrev NoneIn : World → Type 0
  NoneIn w = HasNoVerdict g (three input output receipt w)

  pub lacks_receipts : (fault : FileFault) (x : Verdict) (b : Option World) → x ≡ after_receipts fault → x ≡ ReadFault → (fault ≡ files.Failed → IfSome b (λ w. file w receipt ≡ None))
      → IfSome b NoneIn
  lacks_receipts files.TooLong x b e f n = let k : Doubted 0 ReceiptLong ≡ ReadFault = sym e ∙ f in cc
  lacks_receipts files.Failed x b e f n = map_some (λ w. file w receipt ≡ None) NoneIn b (λ w h. none_without_receipts g (three input output receipt w) h) (n refl)
  lacks_receipts files.Memory x b e f n = let k : Memory ≡ ReadFault = sym e ∙ f in cc

  -- or the output doesn't,
  pub lacks_output : (r : Vec ℕ Global) (b a : Option World) → length r.items < 2 ^ 40 → IfKnown b a (FileRead receipt (2 ^ 40) (Ok r)) → IfSome a (λ v. file v output ≡ None) → IfSome b NoneIn
  lacks_output r None a s t n = tt
  lacks_output r (Some w) None s t n = absurd t
  lacks_output r (Some w) (Some v) s t n =
      none_without_output g (three input output receipt w) (record { bytes = r.items; is = t.0; short = s }) (sym (same_file output w v (shut_kept w v t.1).0) ∙ n)

  -- or the input doesn't.
  pub lacks_input : (r : Vec ℕ Global) (bs : Vec (Vec ℕ Global) Global) (b a d : Option World) → length r.items < 2 ^ 40 → IfKnown b a (FileRead receipt (2 ^ 40) (Ok r))
      → IfKnown a d (OutputRead output (Ok bs)) → IfSome d (λ u. file u input ≡ None) → IfSome b NoneIn
  lacks_input r bs None a d s t o n = tt
  lacks_input r bs (Some w) None d s t o n = absurd t
  lacks_input r bs (Some w) (Some v) None s t o n = absurd o
  lacks_input r bs (Some w) (Some v) (Some u) s t o n =
      by_output (from_some (file v output) (λ z. ((recording_of z).refusal ≡ None) × AreOutputs bs.items (recording_of z).parts) o.1)
    where
      by_output : (y : List ℕ) × (file v output ≡ Some y) × (((recording_of y).refusal ≡ None) × AreOutputs bs.items (recording_of y).parts) → NoneIn w
      by_output y =
          let first = shut_kept w v t.1 in
          none_without_input g (three input output receipt w) (record { bytes = r.items; is = t.0; short = s }) (record { bytes = y.0; is = sym (same_file output w v first.0) ∙ y.1 }) y.2.0
          (sym (same_file input w u (o.0.0 ∙ first.0)) ∙ n)

  -- So one of the files doesn't exist.
  pub lacks_file : (x : Verdict) (a : State) → (IsTrue a.steady → x ≡ ReadFault → IfSome a.contents NoneIn) → IsTrue a.steady → x ≡ ReadFault
      → IfSome a.contents (λ w. LacksOne (three input output receipt w))
  lacks_file x a h s e = map_some NoneIn (λ w. LacksOne (three input output receipt w)) a.contents (λ w n. lacks_one g (three input output receipt w) n) (h s e)
