-- What a call promises of each of its answers follows from what it leaves and from the counts.
use Rattle.std.proofs.Common.{IsSome, IfSome, ◌≡◌, ◌≢◌, ℕ, ◌<◌, refl, sym, subst, List, [], ◌∷◌, ◌++◌, length, ◌+◌, Option, None, Some, arith}
use Rattle.jfr_base.specs.declared.flaw.Flaw.{Flaw}
use Rattle.jfr_outside.specs.World.{World, IfKnown, file}
use Rattle.jfr_outside.specs.Counts.{Rose}
use Rattle.jfr_header.specs.declared.ending.Ending.{Ending}
use Rattle.jfr_header.specs.declared.ending.Ending.TheVariants.{Done, Refused, ReadFault, WriteFault, TooManyParts, MaskTooLong, Memory}
use Rattle.jfr_plan.specs.Ends as ends
use Rattle.jfr_plan.specs.Ends.{End, CommandEnd, Ends, NotRead, NotWritten, RanOut, command_end}
use Rattle.jfr_plan.specs.Effects.{Outside, Effect, Create, Append, Snapshot, snapshot, done, apply, effects, Cannot}
use Rattle.jfr_plan.specs.Rules.{Rule, Walk, Target, File, Parts, Masked, Text, walk, walk_on, cut_after, plan_after, plan_in}
use Rattle.jfr_plan.specs.Outcomes.{After, HaltedIn, AllDone, Breaks, Unchanged, CountedWrite, Tallied}
use Rattle.jfr_plan.specs.Makes.{making, asks_made}
use Rattle.jfr_plan.specs.Clauses.{Task, over, IsAfterTask, Halted, IsPlanned, ByPlan, ForMemory, IsComplete, write_count, Ran, CanCreate}

written_reads : (target : Target) (a b : Outside) → CountedWrite target a b → b.place.read_faults ≡ a.place.read_faults
written_reads File a b t = t.0
written_reads Parts a b t = t.0
written_reads Masked a b t = t.0
written_reads Text a b t = t.0

written_rose : (target : Target) (a b : Outside) → CountedWrite target a b → Rose (write_count target a) (write_count target b)
written_rose File a b t = t.1.1
written_rose Parts a b t = t.1.1
written_rose Masked a b t = t.1.1
written_rose Text a b t = t.2.1

kept_writes : (target : Target) (a b : Outside) → Unchanged a.place.write_faults b.place.write_faults → Unchanged a.sink.faults b.sink.faults → write_count target b ≡ write_count target a
kept_writes File a b p q = p
kept_writes Parts a b p q = p
kept_writes Masked a b p q = p
kept_writes Text a b p q = q

-- If the count of read faults is larger, the ending is a read fault.
pub reads_clause : (target : Target) (e : Ending) (a b : Outside) → Tallied target (command_end e) a b → (e ≡ ReadFault → ⊥) → b.place.read_faults ≡ a.place.read_faults
reads_clause target Done a b t n = t.1.0
reads_clause target (Refused r) a b t n = t.1.0
reads_clause target ReadFault a b t n = absurd (n refl)
reads_clause target WriteFault a b t n = written_reads target a b t
reads_clause target TooManyParts a b t n = t.1.0
reads_clause target (MaskTooLong k) a b t n = t.1.0
reads_clause target Memory a b t n = t.0

pub no_read_passed : (target : Target) (e : Ending) (a b : Outside) → Tallied target (command_end e) a b → a.place.read_faults < b.place.read_faults → e ≡ ReadFault
no_read_passed target Done a b t h = absurd (omega (arith, t.1.0, h))
no_read_passed target (Refused r) a b t h = absurd (omega (arith, t.1.0, h))
no_read_passed target ReadFault a b t h = refl
no_read_passed target WriteFault a b t h = absurd (let k = written_reads target a b t in omega (arith, k, h))
no_read_passed target TooManyParts a b t h = absurd (omega (arith, t.1.0, h))
no_read_passed target (MaskTooLong k) a b t h = absurd (omega (arith, t.1.0, h))
no_read_passed target Memory a b t h = absurd (omega (arith, t.0, h))

-- If the count of write faults is larger, the ending is a write fault.
pub writes_clause : (target : Target) (e : Ending) (a b : Outside) → Tallied target (command_end e) a b → (e ≡ WriteFault → ⊥) → write_count target b ≡ write_count target a
writes_clause target Done a b t n = kept_writes target a b t.1.1 t.1.2
writes_clause target (Refused r) a b t n = kept_writes target a b t.1.1 t.1.2
writes_clause target ReadFault a b t n = kept_writes target a b t.1 t.2
writes_clause target WriteFault a b t n = absurd (n refl)
writes_clause target TooManyParts a b t n = kept_writes target a b t.1.1 t.1.2
writes_clause target (MaskTooLong k) a b t n = kept_writes target a b t.1.1 t.1.2
writes_clause target Memory a b t n = kept_writes target a b t.1 t.2

no_less : (n m : ℕ) → m ≡ n → n < m → ⊥
no_less n m e h = omega (arith, e, h)

pub no_write_passed : (target : Target) (e : Ending) (a b : Outside) → Tallied target (command_end e) a b → write_count target a < write_count target b → e ≡ WriteFault
no_write_passed target Done a b t h = absurd (no_less (write_count target a) (write_count target b) (kept_writes target a b t.1.1 t.1.2) h)
no_write_passed target (Refused r) a b t h = absurd (no_less (write_count target a) (write_count target b) (kept_writes target a b t.1.1 t.1.2) h)
no_write_passed target ReadFault a b t h = absurd (no_less (write_count target a) (write_count target b) (kept_writes target a b t.1 t.2) h)
no_write_passed target WriteFault a b t h = refl
no_write_passed target TooManyParts a b t h = absurd (no_less (write_count target a) (write_count target b) (kept_writes target a b t.1.1 t.1.2) h)
no_write_passed target (MaskTooLong k) a b t h = absurd (no_less (write_count target a) (write_count target b) (kept_writes target a b t.1.1 t.1.2) h)
no_write_passed target Memory a b t h = absurd (no_less (write_count target a) (write_count target b) (kept_writes target a b t.1 t.2) h)

-- A fault is counted.
pub read_rose : (target : Target) (e : Ending) (a b : Outside) → Tallied target (command_end e) a b → e ≡ ReadFault → Rose a.place.read_faults b.place.read_faults
read_rose target e a b t is = let k : Tallied target NotRead a b = subst (λ (y : Ending). Tallied target (command_end y) a b) is t in k.0.1

pub write_rose : (target : Target) (e : Ending) (a b : Outside) → Tallied target (command_end e) a b → e ≡ WriteFault → Rose (write_count target a) (write_count target b)
write_rose target e a b t is = written_rose target a b (subst (λ (y : Ending). Tallied target (command_end y) a b) is t)

-- Only parts are too many.
parts_clause : (target : Target) (e : Ending) (a b : Outside) → Tallied target (command_end e) a b → e ≡ TooManyParts → target ≡ Parts
parts_clause target e a b t is = let k : Tallied target (Ends ends.TooMany) a b = subst (λ (y : Ending). Tallied target (command_end y) a b) is t in k.0

-- Only a masked chunk is too long.
masks_clause : (target : Target) (e : Ending) (a b : Outside) → Tallied target (command_end e) a b → (n : ℕ) → e ≡ MaskTooLong n → target ≡ Masked
masks_clause target e a b t n is = let k : Tallied target (Ends (ends.TooLong n)) a b = subst (λ (y : Ending). Tallied target (command_end y) a b) is t in k.0

written_steady : (target : Target) (a b : Outside) → CountedWrite target a b → b.place.steady ≡ a.place.steady
written_steady File a b t = t.3
written_steady Parts a b t = t.3
written_steady Masked a b t = t.3
written_steady Text a b t = t.3

-- A steady place stays steady.
pub same_clause : (target : Target) (ended : CommandEnd) (a b : Outside) → Tallied target ended a b → b.place.steady ≡ a.place.steady
same_clause target (Ends e) a b t = t.1.3
same_clause target NotRead a b t = t.3
same_clause target NotWritten a b t = written_steady target a b t
same_clause target RanOut a b t = t.3

before_of : (b a : Option World) (P : World → World → Type 0) (F : World → Type 0) → IfKnown b a P → ((w v : World) → P w v → F w) → IfSome b F
before_of None a P F t f = tt
before_of (Some w) None P F t f = absurd t
before_of (Some w) (Some v) P F t f = f w v t

if_all : (b : Option World) (F : World → Type 0) → ((w : World) → F w) → IfSome b F
if_all None F f = tt
if_all (Some w) F f = f w

-- The plan's end, or out of memory.
complete_clause : (k : Task) (ended : CommandEnd) (a b : Outside) → IsAfterTask k ended a b → Tallied k.target ended a b → IsComplete k ended a b
complete_clause k (Ends e) a b t c = λ p q. before_of a.place.contents b.place.contents (λ w v. AllDone (k.plan w) e (snapshot w a.sink.written) (snapshot v b.sink.written))
    (λ w. IsPlanned (Ends e) (k.plan w).end) t (λ w v h. ByPlan e refl h.end)
complete_clause k NotRead a b t c = λ p q. absurd (p c.0.1)
complete_clause k NotWritten a b t c = λ p q. absurd (q (written_rose k.target a b c))
complete_clause k RanOut a b t c = λ p q. if_all a.place.contents (λ w. IsPlanned RanOut (k.plan w).end) (λ w. ForMemory refl)

some_none : (o : Option (List ℕ)) → o ≡ None → IsSome o → ⊥
some_none None e h = cc
some_none (Some x) e h = cc

told_at : (b : Option World) (w : World) (F : World → Type 0) → b ≡ Some w → IfSome b F → F w
told_at b w F e h = let k : IfSome (Some w) F = subst (λ (o : Option World). IfSome o F) e h in k

-- Where all can be read, no read fault leaves anything.
abbrev pub NeverHalts : Task → Type 0
NeverHalts k = (a b : Outside) → k.Readable a.place → Halted k a b → ⊥

-- All that a call promises follows from what it leaves and from the counts.
pub ran : (k : Task) (e : Ending) (a b : Outside) → NeverHalts k → IsAfterTask k (command_end e) a b → Tallied k.target (command_end e) a b → Ran k e a b
ran k e a b never t c =
    let by : (x : Ending) → e ≡ x → IsAfterTask k (command_end x) a b = λ x is. subst (λ (y : Ending). IsAfterTask k (command_end y) a b) is t in
    let no : k.Readable a.place → e ≡ ReadFault → ⊥ = λ can is. never a b can (by ReadFault is) in
    record {
      contents = t;
      counts = c;
      done = by Done;
      refused = λ r. by (Refused r);
      halted = by ReadFault;
      broken = by WriteFault;
      memory = by Memory;
      too_long = λ n. by (MaskTooLong n);
      read_fault = read_rose k.target e a b c;
      write_fault = write_rose k.target e a b c;
      no_read_passed = no_read_passed k.target e a b c;
      no_write_passed = no_write_passed k.target e a b c;
      complete = complete_clause k (command_end e) a b t c;
      parts = parts_clause k.target e a b c;
      masks = masks_clause k.target e a b c;
      can_read = λ can. (no can, reads_clause k.target e a b c (no can));
      same = same_clause k.target (command_end e) a b c;
    }

-- A steady place that has the file gives no read fault.
never_halts : (r : Rule) (input : List ℕ) → NeverHalts (over r input)
never_halts r input a b c h =
    let none = told_at a.place.contents c.world (λ w. file w input ≡ None) c.contents
    (before_of a.place.contents b.place.contents (λ w v. HaltedIn a.place.steady r [] (file w input) v.input (snapshot w a.sink.written) (snapshot v b.sink.written)) (λ w. file w input ≡ None) h
    (λ w v z. z.1 c.steady)) in
    some_none (file c.world input) none c.there

-- A rule over one input.
pub ran_over : (r : Rule) (input : List ℕ) (e : Ending) (a b : Outside) → After r [] input (command_end e) a b → Tallied r.target (command_end e) a b → Ran (over r input) e a b
ran_over r input e a b t c = ran (over r input) e a b (never_halts r input) t c

-- The effects can be done one after another.
abbrev pub Cans : List Effect → Snapshot → Type 0
Cans [] s = Unit {0}
Cans (e ∷ es) s = (Cannot e s → ⊥) × Cans es (apply e s)

same_cons : (a b : Effect) (x y : List Effect) → ◌≡◌ {A = List Effect} (a ∷ x) (b ∷ y) → (a ≡ b) × (x ≡ y)
same_cons a b x y e = (cc, cc)

no_nil : (a : Effect) (x y : List Effect) → ◌≡◌ {A = List Effect} [] (x ++ a ∷ y) → ⊥
no_nil a [] y e = cc
no_nil a (b ∷ x) y e = cc

pub none_breaks : (all before rest : List Effect) (e : Effect) (s : Snapshot) → Cans all s → all ≡ before ++ e ∷ rest → Cannot e (done before s) → ⊥
none_breaks [] before rest e s c p k = no_nil e before rest p
none_breaks (a ∷ all) [] rest e s c p k = c.0 (subst (λ (y : Effect). Cannot y s) (sym (same_cons a e all rest p).0) k)
none_breaks (a ∷ all) (b ∷ before) rest e s c p k =
    let q = same_cons a b all (before ++ e ∷ rest) p in
    none_breaks all before rest e (apply a s) c.1 q.1 (subst (λ (y : Effect). Cannot e (done before (apply y s))) (sym q.0) k)

opened_some : (s : Snapshot) (n : List ℕ) → s.output ≡ Some n → s.output ≡ None → ⊥
opened_some s n e f = cc

walks_on : (k : Option Flaw) (m n : List ℕ) (number : ℕ) (s : Snapshot) (later : Walk) → s.output ≡ Some n → ((t : Snapshot) → t.output ≡ Some n → Cans (effects later.steps) t)
    → Cans (effects (walk_on (asks_made k number m) number later).steps) s
walks_on (Some f) m n number s later o h = tt
walks_on None m n number s later o h = (opened_some s n o, h (apply (Append m) s) o)

cans_walk : (k : List ℕ → Option Flaw) (m : List ℕ → List ℕ) (output n : List ℕ) (before cs : List (List ℕ)) (flaw : Option Flaw) (s : Snapshot) → s.output ≡ Some n
    → Cans (effects (walk (making output k m) before cs flaw).steps) s
cans_walk k m output n before [] None s o = (opened_some s n o, tt)
cans_walk k m output n before [] (Some f) s o = tt
cans_walk k m output n before (c ∷ cs) flaw s o =
    walks_on (k c) (m c) n (length before + 1) s (walk (making output k m) (before ++ c ∷ []) cs flaw) o (λ t p. cans_walk k m output n (before ++ c ∷ []) cs flaw t p)

cans_plan : (k : List ℕ → Option Flaw) (m : List ℕ → List ℕ) (output : List ℕ) (x : Option (List ℕ)) (s : Snapshot) → (Cannot (Create output) s → ⊥)
    → Cans (effects (plan_after (making output k m) [] x).steps) s
cans_plan k m output None s h = tt
cans_plan k m output (Some x) s h = (h, cans_walk k m output output [] (cut_after [] x).chunks (cut_after [] x).flaw (apply (Create output) s) refl)

no_write_fault : (k : List ℕ → Option Flaw) (m : List ℕ → List ℕ) (input output : List ℕ) (e : Ending) (a b : Outside) → CanCreate output a.place
    → After (making output k m) [] input (command_end e) a b → e ≡ WriteFault → ⊥
no_write_fault k m input output e a b c t is =
    let r = making output k m in
    let h : After r [] input NotWritten a b = subst (λ (y : Ending). After r [] input (command_end y) a b) is t in
    told_at a.place.contents c.world (λ w. (file w output ≡ None) → (w.output ≡ None) → ⊥) c.contents
    (before_of a.place.contents b.place.contents (λ w v. Breaks a.place.steady (effects (plan_in r input w).steps) (snapshot w a.sink.written) (snapshot v b.sink.written))
    (λ w. (file w output ≡ None) → (w.output ≡ None) → ⊥) h
    (λ w v z new none. none_breaks (effects (plan_in r input w).steps) z.first z.rest z.failed (snapshot w a.sink.written)
    (cans_plan k m output (file w input) (snapshot w a.sink.written) (λ y. some_none w.output none (y new))) z.parts (z.cause c.steady)))
    c.new c.closed

-- A steady place without an open output gives no write fault for a new name.
pub can_create : (k : List ℕ → Option Flaw) (m : List ℕ → List ℕ) (input output : List ℕ) (e : Ending) (a b : Outside) → After (making output k m) [] input (command_end e) a b
    → Tallied File (command_end e) a b → CanCreate output a.place → (e ≢ WriteFault) × (b.place.write_faults ≡ a.place.write_faults)
can_create k m input output e a b t c can =
    let no = no_write_fault k m input output e a b can t in
    (no, writes_clause File e a b c no)
