-- What building a file leaves.
use Rattle.std.specs.Prelude.{◌≡◌, ◌≢◌, ℕ, Bool, true, List, [], ◌++◌, Vec, Option, None, Some, option_map, IsSome, IfSome, Result, Ok, Err, unwrap_or}
use Rattle.std.specs.FinMap as fin
use Rattle.std.specs.declared.alloc.Global.{Global}
use Rattle.std.proofs.Common.{ap, refl, sym, ◌∙◌, subst}
use Rattle.jfr_outside.specs.World.{World, State, IfKnown, file}
use Rattle.jfr_outside.specs.Counts.{Rose}
use Rattle.jfr_outside.proofs.HeldLaws.{is_there}
use Rattle.jfr_header.specs.Taking.{IsKept, IfContentsKnown}
use Rattle.jfr_header.specs.declared.ending.Ending.{Ending}
use Rattle.jfr_header.specs.declared.ending.Ending.TheVariants as endings
use Rattle.jfr_header.proofs.Steps.{chain_known}
use Rattle.jfr_plan.specs.Ends.{command_end}
use Rattle.jfr_plan.specs.Effects.{Snapshot, without_sink, done, no_sink, snapshot, writes}
use Rattle.jfr_plan.specs.Rules.{Goes, File}
use Rattle.jfr_plan.specs.Outcomes.{Outcome, Counted, Unchanged, Tallied}
use Rattle.jfr_plan.specs.Clauses.{CanCreate, IsAfterTask, Ran}
use Rattle.jfr_plan.specs.Parts.{PartOutcome, PartWorld, PlaceCounts, IsPlaceAfter, WriteRises}
use Rattle.jfr_plan.proofs.Clauses.{Cans, NeverHalts, none_breaks, ran}
use Rattle.jfr_plan.proofs.Leaving.{by_write, counted_after}
use Rattle.jfr_build.specs.declared.ending.BuildEnding.{BuildEnding}
use Rattle.jfr_build.specs.declared.ending.BuildEnding.TheVariants.{Done, Refused, ReadFault, WriteFault, Memory}
use Rattle.jfr_build.specs.Accepted.{IsBuiltOf}
use Rattle.jfr_build.specs.Builds.{Build, build_of}
use Rattle.jfr_build.specs.Endings.{after_write}
use Rattle.jfr_build.specs.Streams.{Builds, IfNotRefused, IsDecided, IsUnread, ByChunk, ByRefusal, ForMemory, TextBuilt, TextCounts, building, builds, plan_by}

-- The files and the open output are unchanged, so nothing was done.
same_stand : (w v : World) → IsKept w v → snapshot v None ≡ snapshot w None
same_stand w v k = ap (λ f. record { files = f; output = v.output; text = None; sound = true }) k.0 ∙ ap (λ o. record { files = w.files; output = o; text = None; sound = true }) k.1

not_both : (o : Option (List ℕ)) → o ≡ None → IsSome o → ⊥
not_both None e h = cc
not_both (Some x) e h = cc

-- A steady place that has the text gives no read fault.
never_halts : (text out : List ℕ) → NeverHalts (builds text out)
never_halts text out x y can h = by_told y.place.contents
    (subst (λ (t : Option World). IfKnown t y.place.contents (λ w v. (snapshot v y.sink.written ≡ snapshot w x.sink.written) × IsUnread x.place.steady text w v)) can.contents h)
  where
    by_told : (t : Option World) → IfKnown (Some can.world) t (λ w v. (snapshot v y.sink.written ≡ snapshot w x.sink.written) × IsUnread x.place.steady text w v) → ⊥
    by_told None k = absurd k
    by_told (Some v) k = not_both (file can.world text) (k.1.0 can.steady) can.there

-- What is known of the world before follows from what is known of both.
if_before : (t u : Option World) (P : World → World → Type 0) (F : World → Type 0) → IfKnown t u P → ((w v : World) → P w v → F w) → IfSome t F
if_before None u P F h f = tt
if_before (Some w) None P F h f = absurd h
if_before (Some w) (Some v) P F h f = f w v h

-- The text from which something was built.
text_of : (text : Option (List ℕ)) (b : Build) → option_map build_of text ≡ Some b → (bytes : List ℕ) × (text ≡ Some bytes) × (build_of bytes ≡ b)
text_of None b e = cc
text_of (Some bytes) b e = (bytes, refl, cc)

-- The ending of a write.
abbrev written_ending : Result (Unit {0}) Ending → Ending
written_ending (Ok x) = endings.Done
written_ending (Err e) = e

-- A file that was written has its bytes.
file_written : (out bytes : List ℕ) (w u : World) → snapshot u None ≡ done (writes out bytes) (snapshot w None) → file u out ≡ Some bytes
file_written out bytes w u e =
    ap (λ (s : Snapshot). fin.get s.files out) e
    ∙ (is_there (fin.insert w.files out []) out (unwrap_or (fin.get (fin.insert w.files out []) out) [] ++ bytes)
    ∙ ap (λ (o : Option (List ℕ)). Some (unwrap_or o [] ++ bytes)) (is_there w.files out []))

-- A new file can be written if no output is open.
can_write : (out bytes : List ℕ) (w : World) → file w out ≡ None → w.output ≡ None → Cans (writes out bytes) (snapshot w None)
can_write out bytes w new closed = ((λ c. not_both w.output closed (c new)), ((λ c. cc), ((λ c. cc), tt)))

module _ (text out : List ℕ) (a : State) where
  -- The text was built, and the chunk was written, or not.
  module _ (chunk : Vec ℕ Global) (r : Result (Unit {0}) Ending) (b c : State) (read : IfContentsKnown a b (TextBuilt a.steady text (Ok chunk))) (counts : Counted Unchanged Unchanged Unchanged (without_sink a) (without_sink b))
      (wrote : IsPlaceAfter (writes out chunk.items) r b c) (counted : PlaceCounts r b c) where
    abbrev OfText : World → World → Type 0
    OfText w v = (option_map build_of (file w text) ≡ Some (Ok chunk.items)) × IsKept w v

    abbrev Halts : World → World → Snapshot → Snapshot → Type 0
    Halts w u s t = (t ≡ s) × IsUnread a.steady text w u

    abbrev Stood : Result (Unit {0}) Ending → World → World → Type 0
    Stood r w u = PartOutcome a.steady (Goes (writes out chunk.items)) r (snapshot w None) (snapshot u None)

    abbrev Counts : Result (Unit {0}) Ending → Type 0
    Counts r = Counted Unchanged (WriteRises r) Unchanged (without_sink a) (without_sink c)

    all : Counts r
    all = counted_after Unchanged (WriteRises r) Unchanged (without_sink a) (without_sink b) (without_sink c) counts (counted no_sink)

    -- A claim on the result of the write, by cases.
    by_result : (P : Result (Unit {0}) Ending → Type 0) → ((x : Unit {0}) → P (Ok x)) → P (Err endings.WriteFault) → P (Err endings.Memory) → P r
    by_result P ok failed memory = by_write P r a.write_faults c.write_faults all.1 ok failed memory

    -- What is there after the write, from what is known of the text and of the write.
    chained : (R : World → World → Type 0) → ((w u : World) → option_map build_of (file w text) ≡ Some (Ok chunk.items) → Stood r w u → R w u) → IfKnown a.contents c.contents R
    chained R f =
        chain_known a.contents b.contents c.contents OfText (PartWorld a.steady (Goes (writes out chunk.items)) r None None) R read
        (subst (λ (st : Bool). IfKnown b.contents c.contents (PartWorld st (Goes (writes out chunk.items)) r None None)) counts.3 (wrote no_sink))
        (λ w v u p q. f w u p.0 (subst (λ (s : Snapshot). PartOutcome a.steady (Goes (writes out chunk.items)) r s (snapshot u None)) (same_stand w v p.1) q.1))

    outcome : (w u : World) → Stood r w u → Outcome a.steady (plan_by out (Some (Ok chunk.items))) (Halts w u) (command_end (written_ending r)) (snapshot w None) (snapshot u None)
    outcome w u = by_result (λ r. Stood r w u → Outcome a.steady (plan_by out (Some (Ok chunk.items))) (Halts w u) (command_end (written_ending r)) (snapshot w None) (snapshot u None))
        (λ x h. record { end = refl; holds = h.1 }) (λ h. h) (λ h. h)

    leaves : IsAfterTask (builds text out) (command_end (written_ending r)) (without_sink a) (without_sink c)
    leaves =
        chained (λ w u. Outcome a.steady (building out (file w text)) (Halts w u) (command_end (written_ending r)) (snapshot w None) (snapshot u None))
        (λ w u p q. subst (λ (o : Option Build). Outcome a.steady (plan_by out o) (Halts w u) (command_end (written_ending r)) (snapshot w None) (snapshot u None)) (sym p) (outcome w u q))

    tallies : Tallied File (command_end (written_ending r)) (without_sink a) (without_sink c)
    tallies = by_result (λ r. Counts r → Tallied File (command_end (written_ending r)) (without_sink a) (without_sink c)) (λ x k. (tt, k)) (λ k. k) (λ k. k) all

    pub chunk_ran : IfNotRefused (after_write r) (λ e. Ran (builds text out) e (without_sink a) (without_sink c))
    chunk_ran =
        by_result (λ r. Ran (builds text out) (written_ending r) (without_sink a) (without_sink c) → IfNotRefused (after_write r) (λ e. Ran (builds text out) e (without_sink a) (without_sink c)))
        (λ x h. h) (λ h. h) (λ h. h)
        (ran (builds text out) (written_ending r) (without_sink a) (without_sink c) (never_halts text out) leaves tallies)

    pub chunk_built : ((bytes chunk : List ℕ) → build_of bytes ≡ Ok chunk → IsBuiltOf bytes chunk) → after_write r ≡ Done → IfContentsKnown a c (Builds text out)
    chunk_built accepted e = chained (Builds text out) (λ w u p q. built w u (text_of (file w text) (Ok chunk.items) p) (wrote_all w u e q))
      where
        wrote_all : (w u : World) → after_write r ≡ Done → Stood r w u → snapshot u None ≡ done (writes out chunk.items) (snapshot w None)
        wrote_all w u = by_result (λ r. after_write r ≡ Done → Stood r w u → snapshot u None ≡ done (writes out chunk.items) (snapshot w None)) (λ x e h. h.1) (λ e h. cc) (λ e h. cc)

        built : (w u : World) → ((bytes : List ℕ) × (file w text ≡ Some bytes) × (build_of bytes ≡ Ok chunk.items)) → snapshot u None ≡ done (writes out chunk.items) (snapshot w None)
            → Builds text out w u
        built w u t d = record { bytes = t.0; read = t.1; chunk = chunk.items; exact = t.2; written = file_written out chunk.items w u d; built = accepted t.0 chunk.items t.2 }

    pub chunk_decided : (Rose a.write_faults c.write_faults → ⊥) → IfSome a.contents (λ w. IsDecided (file w text) (after_write r))
    chunk_decided quiet =
        by_result (λ r. Counts r → IfSome a.contents (λ w. IsDecided (file w text) (after_write r)))
        (λ x k. if_before a.contents b.contents OfText (λ w. IsDecided (file w text) Done) read (λ w v p. ByChunk chunk.items p.0 refl))
        (λ k. absurd (quiet k.1.1))
        (λ k. if_before a.contents b.contents OfText (λ w. IsDecided (file w text) Memory) read (λ w v p. ForMemory refl)) all

    pub chunk_writes : CanCreate out a → (after_write r ≢ WriteFault) × (c.write_faults ≡ a.write_faults)
    chunk_writes can =
        by_result (λ r. IfKnown a.contents c.contents (Stood r) → Counts r → (after_write r ≢ WriteFault) × (c.write_faults ≡ a.write_faults))
        (λ x h k. ((λ e. cc), k.1))
        (λ h k. absurd (failed c.contents (subst (λ (t : Option World). IfKnown t c.contents (Stood (Err endings.WriteFault))) can.contents h)))
        (λ h k. ((λ e. cc), k.1))
        (chained (Stood r) (λ w u p q. q)) all
      where
        failed : (t : Option World) → IfKnown (Some can.world) t (Stood (Err endings.WriteFault)) → ⊥
        failed None h = absurd h
        failed (Some u) h = none_breaks (writes out chunk.items) h.first h.rest h.failed (snapshot can.world None) (can_write out chunk.items can.world can.new can.closed) h.parts (h.cause can.steady)

    -- The text was read before, so what follows is no read fault.
    pub chunk_reads : (after_write r ≢ ReadFault) × (c.read_faults ≡ a.read_faults)
    chunk_reads = (by_result (λ r. after_write r ≢ ReadFault) (λ x e. cc) (λ e. cc) (λ e. cc), all.0)

  -- The text wasn't read, or it is refused.
  module _ (b : State) where
    pub text_decided : (e : BuildEnding) → IfContentsKnown a b (TextBuilt a.steady text (Err e)) → TextCounts {T = Vec ℕ Global} (Err e) a b → (Rose a.read_faults b.read_faults → ⊥)
        → IfSome a.contents (λ w. IsDecided (file w text) e)
    text_decided Done h k quiet = absurd k
    text_decided (Refused line reason) h k quiet =
        if_before a.contents b.contents (TextBuilt a.steady text (Err (Refused line reason))) (λ w. IsDecided (file w text) (Refused line reason)) h (λ w v p. ByRefusal line reason p.0 refl)
    text_decided ReadFault h k quiet = absurd (quiet k.0.1)
    text_decided WriteFault h k quiet = absurd k
    text_decided Memory h k quiet = if_before a.contents b.contents IsKept (λ w. IsDecided (file w text) Memory) h (λ w v p. ForMemory refl)
