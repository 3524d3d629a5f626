-- The chunks of an input are compared one by one.
use Rattle.std.specs.Prelude.{◌≡◌, ◌+◌, ℕ, drop, List, [], ◌∷◌, Vec, Option, Some, None, Result, Ok, Err, IfSome}
use Rattle.std.specs.declared.alloc.Global.{Global}
use Rattle.std.proofs.Common.{ap, arith, refl, sym, ◌∙◌, subst}
use Rattle.jfr_base.specs.declared.flaw.Flaw.{Flaw}
use Rattle.jfr_base.specs.declared.flaw.Refusal.{Refusal}
use Rattle.jfr_filter.specs.Filters.{Given}
use Rattle.jfr_outside.specs.World.{World, State, IfKnown, file}
use Rattle.jfr_header.specs.Cutters.{Cutter}
use Rattle.jfr_header.specs.Fronts as fronts
use Rattle.jfr_header.specs.Nexts.{Found, GaveChunk, Refuses}
use Rattle.jfr_chunk.specs.Chosen.{kept_of}
use Rattle.jfr_chunk.specs.Parts.{Parts}
use Rattle.jfr_chunk.specs.Refusal.{read_parts}
use Rattle.jfr_chunk.specs.declared.buffers.Buffers.{Buffers}
use Rattle.jfr_verify.specs.Checked.{Answered, Checked}
use Rattle.jfr_verify.specs.Comparing.{HasOutputs, IfStopped, InputRead, Steps}
use Rattle.jfr_verify.specs.Faults.{AreSame, Counted, Counts, after_check}
use Rattle.jfr_verify.specs.Outputs.{AreOutputs, OpenedIn}
use Rattle.jfr_verify.specs.Recordings.{Recording, read_on, recording_of, unread_recording, HasUnread}
use Rattle.jfr_verify.specs.Verdicts.{ComparedWith, IfDecided}
use Rattle.jfr_verify.specs.declared.comparer.Comparer.{Comparer}
use Rattle.jfr_verify.specs.declared.doubt.CheckFault.{CheckFault}
use Rattle.jfr_verify.specs.declared.doubt.CheckFault.TheVariants as checks
use Rattle.jfr_verify.specs.declared.verdict.Verdict.{Verdict}
use Rattle.jfr_verify.specs.declared.verdict.Verdict.TheVariants.{Verified, Doubted, Refused, ReadFault, Memory}
use Rattle.jfr_verify.proofs.RecordingLaws.{from_some, some_at, next_left, end_left, refused_left, map_left}

-- ---- a pair

-- What comparing an input with the outputs and receipts that are left ends with.
abbrev pub Stops : Given → Result Parts Flaw → List Parts → List ℕ → ℕ → Verdict → Type 0
Stops g next qs r n x = IfStopped x ((k : Recording) → ComparedWith g (read_on (n + 1) next k) qs r n x)

-- The first output that is left, and those after it.
pub record Taken (b : Vec ℕ Global) (bs : List (Vec ℕ Global)) (qs : List Parts) : Type 0 where
  pub first : Parts
  pub read : read_parts b.items ≡ Ok first
  pub later : List Parts
  pub all : qs ≡ first ∷ later
  pub outputs : AreOutputs bs later

pub take_one : (b : Vec ℕ Global) (bs cs : List (Vec ℕ Global)) (qs : List Parts) → cs ≡ b ∷ bs → AreOutputs cs qs → Taken b bs qs
take_one b bs cs qs e a = of_cons qs (subst (λ z. AreOutputs z qs) e a)
  where
    of_cons : (qs : List Parts) → AreOutputs (b ∷ bs) qs → Taken b bs qs
    of_cons [] a = absurd a
    of_cons (q ∷ qs) a = record { first = q; read = a.0; later = qs; all = refl; outputs = a.1 }

same_parts : (x y : Parts) (r : Result Parts Flaw) → r ≡ Ok x → r ≡ Ok y → x ≡ y
same_parts x y r e f = let h : ◌≡◌ {A = Result Parts Flaw} (Ok x) (Ok y) = sym e ∙ f in cc

-- A pair is accepted.
pub pair_passes : (g : Given) (p q : Parts) (b : Vec ℕ Global) (bs : List (Vec ℕ Global)) (qs : List Parts) (r : List ℕ) (n m : ℕ) (bytes : List ℕ) → bytes ≡ b.items → (t : Taken b bs qs)
    → read_parts bytes ≡ Ok q → Checked p q (kept_of g p) r (Ok m)
    → (k : Recording) (y : Verdict) → ComparedWith g k t.later (drop m r) (n + 1) y → ComparedWith g (read_on (n + 1) (Ok p) k) qs r n y
pair_passes g p q b bs qs r n m bytes s t e c k y h =
    let same : q ≡ t.first = same_parts q t.first (read_parts bytes) e (ap read_parts s ∙ t.read) in
    subst (λ z. ComparedWith g (read_on (n + 1) (Ok p) k) z r n y) (sym t.all) (Ok m, subst (λ z. Checked p z (kept_of g p) r (Ok m)) same c, h)

-- There is a doubt about a pair.
pub pair_fails : (g : Given) (p q : Parts) (b : Vec ℕ Global) (bs : List (Vec ℕ Global)) (qs : List Parts) (r : List ℕ) (n number : ℕ) (fault : CheckFault) (bytes : List ℕ) → number ≡ n + 1
    → bytes ≡ b.items → Taken b bs qs → read_parts bytes ≡ Ok q → Answered p q (kept_of g p) r (Err fault) → Stops g (Ok p) qs r n (after_check number fault)
pair_fails g p q b bs qs r n number (checks.Doubt d) bytes at s t e c = λ k.
    let same : q ≡ t.first = same_parts q t.first (read_parts bytes) e (ap read_parts s ∙ t.read) in
    subst (λ z. ComparedWith g (read_on (n + 1) (Ok p) k) z r n (Doubted number d)) (sym t.all) (Err d, subst (λ z. Checked p z (kept_of g p) r (Err d)) same c, ap (λ m. Doubted m d) at)
pair_fails g p q b bs qs r n number checks.Memory bytes at s t e c = tt

-- The rooms don't matter.
pub steps_in : (r : Result (Unit {0}) Verdict) (n : ℕ) (next other : Result Parts Flaw) (qs : List Parts) (a b : Comparer) (i j : Buffers) → other ≡ next
    → Steps r n next qs (record a { input_buffers = i }) b → Steps r n other qs a (record b { input_buffers = j })
steps_in (Ok x) n next other qs a b i j e h = subst (λ z. Steps (Ok x) n z qs a (record b { input_buffers = j })) (sym e) h
steps_in (Err x) n next other qs a b i j e h = subst (λ z. Steps (Err x) n z qs a (record b { input_buffers = j })) (sym e) h

-- ---- the input

-- The verdict on the chunks that a cutter has left, with the outputs and receipts that a comparer has left, is
-- that on all.
pub record Going (name : List ℕ) (g : Given) (qs : List Parts) (r : List ℕ) (s : Comparer) (c : Cutter) (w v : World) : Type 0 where
  pub bytes : List ℕ
  pub file_is : file w name ≡ Some bytes
  pub count : ℕ
  pub number : c.number ≡ count + 1
  pub later : List Parts
  pub outputs : HasOutputs s later
  pub left : HasUnread c (λ k. (y : Verdict) → ComparedWith g k later s.receipts.now count y → ComparedWith g (recording_of bytes) qs r 0 y) w v

pub start : (name : List ℕ) (g : Given) (qs : List Parts) (r : List ℕ) (s : Comparer) (c : Cutter) (w v : World) → s.receipts.now ≡ r → HasOutputs s qs → c.number ≡ 1 → OpenedIn name (Ok c) w v
    → Going name g qs r s c w v
start name g qs r s c w v same h n o =
    let x = from_some (file w name) (λ y. HasUnread c (λ k. recording_of y ≡ k) w v) o in
    record {
      bytes = x.0;
      file_is = x.1;
      count = 0;
      number = n;
      later = qs;
      outputs = h;
      left = map_left c _ _ w v (λ k e y d. subst (λ z. ComparedWith g z qs r 0 y) (sym e) (subst (λ z. ComparedWith g k qs z 0 y) same d)) x.2;
    }

decided : (x : Verdict) (Claim : Type 0) → Claim → IfDecided x Claim
decided (Verified n) Claim h = h
decided (Doubted chunk doubt) Claim h = h
decided (Refused r) Claim h = h
decided ReadFault Claim h = tt
decided Memory Claim h = tt

stopped : (x : Verdict) (P Q : Type 0) → (P → Q) → IfStopped x P → IfDecided x Q
stopped (Verified n) P Q f h = f h
stopped (Doubted chunk doubt) P Q f h = f h
stopped (Refused r) P Q f h = f h
stopped ReadFault P Q f h = absurd h
stopped Memory P Q f h = tt

module _ (name : List ℕ) (qs : List Parts) (r : List ℕ) (s : Comparer) (c d : Cutter) (w v u : World) where
  -- The cutter gave a chunk, and it was compared.
  go_on : (z : Comparer) (x : Unit {0}) (bytes : List ℕ) (number : ℕ) → bytes ≡ d.bytes → number + 1 ≡ d.number → GaveChunk c d → Found c (fronts.Chunk d.bytes) d.bytes v u
      → ((n : ℕ) (qs : List Parts) → number ≡ n + 1 → HasOutputs s qs → Steps (Ok x) n (read_parts bytes) qs s z) → Going name s.filter.now qs r s c w v → Going name s.filter.now qs r z d w u
  go_on z x bytes number same at gave n steps k =
      let h = next_left c d _ w v u k.left gave n in
      let here : c.number ≡ k.count + 1 = k.number in
      let more : d.number ≡ c.number + 1 = gave.number in
      let t = subst (λ b. Steps (Ok x) k.count (read_parts b) k.later s z) same (steps k.count k.later (omega (arith, at, here, more)) k.outputs) in
      record {
        bytes = k.bytes;
        file_is = k.file_is;
        count = k.count + 1;
        number = more ∙ ap (λ m. m + 1) here;
        later = t.0;
        outputs = t.1;
        left = map_left d _ _ w u (λ y f a b. f a (subst (λ m. ComparedWith s.filter.now (read_on m (read_parts d.bytes) y) k.later s.receipts.now k.count a) (sym here) (t.2 y a b))) h;
      }

  -- The comparison of a chunk ended it.
  go_stopped : (z : Comparer) (x : Verdict) (bytes : List ℕ) (number : ℕ) → bytes ≡ d.bytes → number + 1 ≡ d.number → GaveChunk c d → Found c (fronts.Chunk d.bytes) d.bytes v u
      → ((n : ℕ) (qs : List Parts) → number ≡ n + 1 → HasOutputs s qs → Steps (Err x) n (read_parts bytes) qs s z) → Going name s.filter.now qs r s c w v → InputRead s.filter.now name qs r x w u
  go_stopped z x bytes number same at gave n steps k =
      let h = next_left c d _ w v u k.left gave n in
      let rest : Recording = unread_recording d h.unread in
      let here : c.number ≡ k.count + 1 = k.number in
      let more : d.number ≡ c.number + 1 = gave.number in
      let t = subst (λ b. Steps (Err x) k.count (read_parts b) k.later s z) same (steps k.count k.later (omega (arith, at, here, more)) k.outputs) in (
        h.same,
        stopped x _ _ (λ f. some_at (file w name) k.bytes (λ a. ComparedWith s.filter.now (recording_of a) qs r 0 x) k.file_is
            (h.claim x (subst (λ m. ComparedWith s.filter.now (read_on m (read_parts d.bytes) rest) k.later s.receipts.now k.count x) (sym here) (f rest)))) t,
      )

  -- The input ended.
  go_end : (x : Verdict) (count : ℕ) → count + 1 ≡ d.number → d.number ≡ c.number → Found c fronts.End [] v u
      → ((qs : List Parts) → HasOutputs s qs → ComparedWith s.filter.now (record { parts = []; refusal = None }) qs s.receipts.now count x) → Going name s.filter.now qs r s c w v
      → InputRead s.filter.now name qs r x w u
  go_end x count at same n ends k =
      let h = end_left c d _ w v u k.left n in
      let here : c.number ≡ k.count + 1 = k.number in
      let e : count ≡ k.count = omega (arith, at, same, here) in (
        h.0,
        decided x _ (some_at (file w name) k.bytes (λ a. ComparedWith s.filter.now (recording_of a) qs r 0 x) k.file_is
            (h.1 x (subst (λ m. ComparedWith s.filter.now (record { parts = []; refusal = None }) k.later s.receipts.now m x) e (ends k.later k.outputs)))),
      )

  -- What follows is refused.
  go_refused : (f : Refusal) → f.chunk ≡ c.number → Refuses c f v u → Going name s.filter.now qs r s c w v → InputRead s.filter.now name qs r (Refused f) w u
  go_refused f e n k =
      let h = refused_left c d _ w v u k.left f e n in
      (h.0, some_at (file w name) k.bytes (λ a. ComparedWith s.filter.now (recording_of a) qs r 0 (Refused f)) k.file_is (h.1 (Refused f) refl))

  module _ (g : Given) (same_filter : s.filter.now ≡ g) where
    pub on_next : (z : Comparer) (x : Unit {0}) (bytes : List ℕ) (number : ℕ) → bytes ≡ d.bytes → number + 1 ≡ d.number → GaveChunk c d → Found c (fronts.Chunk d.bytes) d.bytes v u
        → ((n : ℕ) (qs : List Parts) → number ≡ n + 1 → HasOutputs s qs → Steps (Ok x) n (read_parts bytes) qs s z) → Going name g qs r s c w v → Going name g qs r z d w u
    on_next z x bytes number same at gave n steps k = subst (λ y. Going name y qs r s c w v → Going name y qs r z d w u) same_filter (go_on z x bytes number same at gave n steps) k

    pub on_stopped : (z : Comparer) (x : Verdict) (bytes : List ℕ) (number : ℕ) → bytes ≡ d.bytes → number + 1 ≡ d.number → GaveChunk c d → Found c (fronts.Chunk d.bytes) d.bytes v u
        → ((n : ℕ) (qs : List Parts) → number ≡ n + 1 → HasOutputs s qs → Steps (Err x) n (read_parts bytes) qs s z) → Going name g qs r s c w v → InputRead g name qs r x w u
    on_stopped z x bytes number same at gave n steps k = subst (λ y. Going name y qs r s c w v → InputRead y name qs r x w u) same_filter (go_stopped z x bytes number same at gave n steps) k

    pub on_end : (x : Verdict) (count : ℕ) → count + 1 ≡ d.number → d.number ≡ c.number → Found c fronts.End [] v u
        → ((qs : List Parts) → HasOutputs s qs → ComparedWith s.filter.now (record { parts = []; refusal = None }) qs s.receipts.now count x) → Going name g qs r s c w v → InputRead g name qs r x w u
    on_end x count at same n ends k = subst (λ y. Going name y qs r s c w v → InputRead y name qs r x w u) same_filter (go_end x count at same n ends) k

    pub on_refused : (f : Refusal) → f.chunk ≡ c.number → Refuses c f v u → Going name g qs r s c w v → InputRead g name qs r (Refused f) w u
    on_refused f e n k = subst (λ y. Going name y qs r s c w v → InputRead y name qs r (Refused f) w u) same_filter (go_refused f e n) k

-- The input is open.
pub open_left : (name : List ℕ) (c : Cutter) (w v : World) → OpenedIn name (Ok c) w v → HasUnread c (λ k. Unit {0}) w v
open_left name c w v o =
    let x = from_some (file w name) (λ y. HasUnread c (λ k. recording_of y ≡ k) w v) o in
    map_left c _ _ w v (λ k e. tt) x.2

-- A read doesn't fail.
pub never_fails : (b a : Option World) (c : Cutter) (P : World → Type 0) → IfKnown b a (HasUnread c (λ k. Unit {0})) → IfSome a (λ v. v.input ≡ None) → IfSome b P
never_fails None a c P t h = tt
never_fails (Some w) None c P t h = absurd t
never_fails (Some w) (Some v) c P t h = let e : Some t.unread ≡ None = sym t.input ∙ h in cc

-- The counts don't change without a read fault.
counted : (x : Verdict) (n m : ℕ) → (x ≡ ReadFault → ⊥) → m ≡ n → Counted x n m
counted (Verified k) n m h e = e
counted (Doubted chunk doubt) n m h e = e
counted (Refused r) n m h e = e
counted ReadFault n m h e = absurd (h refl)
counted Memory n m h e = e

pub counts_same : (x : Verdict) (a b : State) → (x ≡ ReadFault → ⊥) → AreSame a b → Counts x a b
counts_same x a b h k = record { reads = counted x a.read_faults b.read_faults h k.reads; writes = k.writes; same = k.same }
