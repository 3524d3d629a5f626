-- The chunks of an output are read one by one.
use Rattle.std.specs.Prelude.{◌≡◌, ◌+◌, ℕ, List, [], ◌∷◌, ◌++◌, Vec, Option, Some, None, option_map, Ok, Err, IfSome, IsSome}
use Rattle.std.specs.declared.alloc.Global.{Global}
use Rattle.std.proofs.Common.{ap, arith, append-nil, refl, sym, ◌∙◌, subst, false}
use Rattle.jfr_base.specs.declared.flaw.Flaw.{Flaw}
use Rattle.jfr_base.specs.declared.flaw.Refusal.{Refusal}
use Rattle.jfr_base.specs.declared.flaw.ReadFault as readings
use Rattle.jfr_base.specs.declared.flaw.ReadFault.TheVariants as faults
use Rattle.jfr_pool.specs.Faults.{TellsFlaw}
use Rattle.jfr_verify.specs.Faults.{AreSame, after_output}
use Rattle.jfr_outside.specs.World.{World, State, IfKnown, file, opened}
use Rattle.jfr_header.specs.Cutters.{Cutter}
use Rattle.jfr_header.specs.Fronts as fronts
use Rattle.jfr_header.specs.Fronts.{Whole}
use Rattle.jfr_header.specs.Nexts.{Found, GaveChunk, Refuses, at_chunk}
use Rattle.jfr_chunk.specs.Parts.{Parts}
use Rattle.jfr_chunk.specs.Refusal.{read_parts}
use Rattle.jfr_verify.specs.Outputs.{AllWhole, AreOutputs, IsAdded, OpenedIn, OutputRead}
use Rattle.jfr_verify.specs.Recordings.{Recording, read_on, recording_of, unread_recording, HasUnread}
use Rattle.jfr_verify.specs.declared.doubt.Doubt.TheVariants.{OutRefused}
use Rattle.jfr_verify.specs.declared.verdict.Verdict.{Verdict}
use Rattle.jfr_verify.specs.declared.verdict.Verdict.TheVariants.{Verified, Doubted, Refused, ReadFault, Memory}
use Rattle.jfr_verify.proofs.RecordingLaws.{after_parts, from_some, some_at, next_left, end_left, refused_left, map_left, one_more, opened_left}

pub outputs_more : (bs : List (Vec ℕ Global)) (qs : List Parts) (b : Vec ℕ Global) (q : Parts) → AreOutputs bs qs → read_parts b.items ≡ Ok q → AreOutputs (bs ++ b ∷ []) (qs ++ q ∷ [])
outputs_more [] [] b q a e = (e, tt)
outputs_more [] (r ∷ qs) b q a e = absurd a
outputs_more (c ∷ bs) [] b q a e = absurd a
outputs_more (c ∷ bs) (r ∷ qs) b q a e = (a.0, outputs_more bs qs b q a.1 e)

whole_one : (bs : List (Vec ℕ Global)) (b : Vec ℕ Global) → AllWhole bs → Whole b.items → AllWhole (bs ++ b ∷ [])
whole_one [] b a w = (w, tt)
whole_one (c ∷ bs) b a w = (a.0, whole_one bs b a.1 w)

pub whole_more : (bytes : List ℕ) (bs cs : List (Vec ℕ Global)) → IsAdded bytes bs cs → Whole bytes → AllWhole bs → AllWhole cs
whole_more bytes bs cs k w a = subst AllWhole (sym k.items) (whole_one bs k.chunk a (subst Whole (sym k.is) w))

-- These chunks of the output were kept, and a cutter has the others left.
pub record Keeping (name : List ℕ) (bs : List (Vec ℕ Global)) (c : Cutter) (w v : World) : Type 0 where
  pub bytes : List ℕ
  pub file_is : file w name ≡ Some bytes
  pub parts : List Parts
  pub outputs : AreOutputs bs parts
  pub left : HasUnread c (λ k. recording_of bytes ≡ after_parts parts k) w v

there : (o : Option (List ℕ)) → IsSome o → (x : List ℕ) × (o ≡ Some x)
there None h = cc
there (Some x) h = (x, refl)

-- A file that was opened is at its start.
pub opened_at : (name : List ℕ) (c : Cutter) (w : World) → c.start ≡ 0 → c.number ≡ 1 → c.given ≡ false → IsSome (file w name) → OpenedIn name (Ok c) w (opened name w)
opened_at name c w s n g h =
    let x = there (file w name) h in
    some_at (file w name) x.0 (λ y. HasUnread c (λ k. recording_of y ≡ k) w (opened name w)) x.1 (opened_left c x.0 name w s n g x.1)

-- So it is on a place whose files contracts may see.
pub open_told : (name : List ℕ) (c : Cutter) (b a : Option World) → c.start ≡ 0 → c.number ≡ 1 → c.given ≡ false → IfSome b (λ w. IsSome (file w name)) → a ≡ option_map (opened name) b
    → IfKnown b a (OpenedIn name (Ok c))
open_told name c None a s n g h e = tt
open_told name c (Some w) a s n g h e = subst (λ (o : Option World). IfKnown (Some w) o (OpenedIn name (Ok c))) (sym e) (opened_at name c w s n g h)

-- A file that could not be opened.
pub not_opened : (name : List ℕ) (e : Verdict) (w v : World) → OpenedIn name (Err e) w v → OutputRead name (Err e) w v
not_opened name (Verified n) w v h = absurd h
not_opened name (Doubted chunk doubt) w v h = absurd h
not_opened name (Refused r) w v h = absurd h
not_opened name ReadFault w v h = (h, tt)
not_opened name Memory w v h = (h, tt)

pub keep_start : (name : List ℕ) (bs : List (Vec ℕ Global)) (c : Cutter) (w v : World) → bs ≡ [] → OpenedIn name (Ok c) w v → Keeping name bs c w v
keep_start name bs c w v e o =
    let x = from_some (file w name) (λ y. HasUnread c (λ k. recording_of y ≡ k) w v) o in
    record { bytes = x.0; file_is = x.1; parts = []; outputs = subst (λ z. AreOutputs z []) (sym e) tt; left = x.2 }

module _ (name : List ℕ) (bs : List (Vec ℕ Global)) (c d : Cutter) (w v u : World) (k : Keeping name bs c w v) where
  pub keep_next : (cs : List (Vec ℕ Global)) (bytes : List ℕ) → bytes ≡ d.bytes → GaveChunk c d → Found c (fronts.Chunk d.bytes) d.bytes v u → IsAdded bytes bs cs → Keeping name cs d w u
  keep_next cs bytes same gave n a =
      let h = next_left c d (λ z. recording_of k.bytes ≡ after_parts k.parts z) w v u k.left gave n in
      let read : read_parts d.bytes ≡ Ok a.parts = ap read_parts (sym same) ∙ a.read in
      record {
        bytes = k.bytes;
        file_is = k.file_is;
        parts = k.parts ++ a.parts ∷ [];
        outputs = subst (λ z. AreOutputs z (k.parts ++ a.parts ∷ [])) (sym a.items) (outputs_more bs k.parts a.chunk a.parts k.outputs (ap read_parts a.is ∙ a.read));
        left = map_left d _ _ w u (λ z e. one_more c.number k.parts a.parts k.bytes z (e ∙ ap (λ r. after_parts k.parts (read_on c.number r z)) read)) h;
      }

  pub keep_end : (made : Vec (Vec ℕ Global) Global) → made.items ≡ bs → Found c fronts.End [] v u → OutputRead name (Ok made) w u
  keep_end made same n =
      let h = end_left c d (λ z. recording_of k.bytes ≡ after_parts k.parts z) w v u k.left n in
      let parts : (recording_of k.bytes).parts ≡ k.parts = ap (λ (z : Recording). z.parts) h.1 ∙ append-nil k.parts in (
        h.0,
        some_at (file w name) k.bytes _ k.file_is
            (ap (λ (z : Recording). z.refusal) h.1, subst (λ z. AreOutputs made.items z) (sym parts) (subst (λ z. AreOutputs z k.parts) (sym same) k.outputs)),
      )

  pub keep_refused : (r : Refusal) → r.chunk ≡ c.number → Refuses c r v u → OutputRead name (Err (Doubted r.chunk OutRefused)) w u
  keep_refused r e n =
      let h = refused_left c d (λ z. recording_of k.bytes ≡ after_parts k.parts z) w v u k.left r e n in
      (h.0, some_at (file w name) k.bytes _ k.file_is (some_at (recording_of k.bytes).refusal r (λ z. z.chunk ≡ r.chunk) (ap (λ (z : Recording). z.refusal) h.1) refl))

  keep_flawed : (flaw : Flaw) (bytes : List ℕ) (number : ℕ) → bytes ≡ d.bytes → number + 1 ≡ d.number → GaveChunk c d → Found c (fronts.Chunk d.bytes) d.bytes v u → read_parts bytes ≡ Err flaw
      → OutputRead name (Err (Doubted number OutRefused)) w u
  keep_flawed flaw bytes number same e gave n read =
      let h = next_left c d (λ z. recording_of k.bytes ≡ after_parts k.parts z) w v u k.left gave n in
      let fails : read_parts d.bytes ≡ Err flaw = ap read_parts (sym same) ∙ read in
      let at : number ≡ c.number = let f : d.number ≡ c.number + 1 = gave.number in omega (arith, e, f) in
      let refusal : (recording_of k.bytes).refusal ≡ Some (at_chunk c.number flaw) =
      ap (λ (z : Recording). z.refusal) (h.claim ∙ ap (λ r. after_parts k.parts (read_on c.number r (unread_recording d h.unread))) fails) in
      (h.same, some_at (file w name) k.bytes _ k.file_is (some_at (recording_of k.bytes).refusal (at_chunk c.number flaw) (λ z. z.chunk ≡ number) refusal (sym at)))

  -- The chunk isn't kept.
  pub keep_stopped : (fault : readings.ReadFault) (x : Verdict) (bytes : List ℕ) (number : ℕ) → x ≡ after_output number fault → bytes ≡ d.bytes → number + 1 ≡ d.number → GaveChunk c d
      → Found c (fronts.Chunk d.bytes) d.bytes v u → TellsFlaw (read_parts bytes) fault → OutputRead name (Err x) w u
  keep_stopped (faults.Flawed flaw) x bytes number is same e gave n read = subst (λ z. OutputRead name (Err z) w u) (sym is) (keep_flawed flaw bytes number same e gave n read)
  keep_stopped faults.Memory x bytes number is same e gave n read = subst (λ z. OutputRead name (Err z) w u) (sym is) ((n.took.files ∙ k.left.same.0, n.took.output ∙ k.left.same.1), tt)

-- Counts that stay over two calls.
pub same_on : (a b c : State) → AreSame a b → AreSame b c → AreSame a c
same_on a b c p q = record { reads = q.reads ∙ p.reads; writes = q.writes ∙ p.writes; same = q.same ∙ p.same }
