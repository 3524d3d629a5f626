-- What a call promises for each of its answers.
use Rattle.std.specs.Prelude.{◌≡◌, ◌≢◌, ◌<◌, ℕ, Bool, List, [], Option, None, Some, IsTrue, IsSome, IfSome}
use Rattle.jfr_base.specs.declared.flaw.Refusal.{Refusal}
use Rattle.jfr_outside.specs.World.{World, State, IfKnown, file}
use Rattle.jfr_outside.specs.Counts.{Rose}
use Rattle.jfr_header.specs.declared.ending.Ending.{Ending}
use Rattle.jfr_header.specs.declared.ending.Ending.TheVariants as ending
use Rattle.jfr_plan.specs.Ends.{End, Fine, Refused, TooLong, CommandEnd, Ends, RanOut, command_end}
use Rattle.jfr_plan.specs.Effects.{Outside, Plan, Snapshot, snapshot, effects}
use Rattle.jfr_plan.specs.Rules.{Rule, Target, File, Parts, Masked, Text, plan_in}
use Rattle.jfr_plan.specs.Outcomes.{Outcome, AllDone, SomeDone, Breaks, HaltedIn, Tallied}

-- What a call has to do: its plan, given the files of the place; the state after a read fault, on a steady
-- place or on another; when all of its input can be read; and what it writes to.
pub record Task : Type 1 where
  pub plan : World → Plan
  pub Halts : Bool → World → World → Snapshot → Snapshot → Type 0
  pub Readable : State → Type 0
  pub target : Target

-- The place is steady, and the file is there.
pub record CanRead (input : List ℕ) (s : State) : Type 0 where
  pub steady : IsTrue s.steady
  pub world : World
  pub contents : s.contents ≡ Some world
  pub there : IsSome (file world input)

-- A rule over the one input of this name.
abbrev pub over : Rule → List ℕ → Task
over r input = record {
  plan = plan_in r input;
  Halts = λ steady w v. HaltedIn steady r [] (file w input) v.input;
  Readable = CanRead input;
  target = r.target;
}

-- If the place's files are known, the claim holds of them and of the text written, before and after a call.
abbrev pub IfFilesKnown : Outside → Outside → (World → World → Snapshot → Snapshot → Type 0) → Type 0
IfFilesKnown a b P = IfKnown a.place.contents b.place.contents (λ w v. P w v (snapshot w a.sink.written) (snapshot v b.sink.written))

-- The state after a task, for each way in which it can end.
abbrev pub IsAfterTask : Task → CommandEnd → Outside → Outside → Type 0
IsAfterTask k ended a b = IfFilesKnown a b (λ w v. Outcome a.place.steady (k.plan w) (k.Halts a.place.steady w v) ended)

-- The plan has this end, and all its effects are done.
abbrev pub Ended : Task → End → Outside → Outside → Type 0
Ended k e a b = IfFilesKnown a b (λ w v. AllDone (k.plan w) e)

-- A read failed: over one input exactly the effects whose need is met are done.
abbrev pub Halted : Task → Outside → Outside → Type 0
Halted k a b = IfFilesKnown a b (k.Halts a.place.steady)

-- A prefix of the effects is done, and a prefix of the bytes of the next one, which failed.
abbrev pub Broken : Task → Outside → Outside → Type 0
Broken k a b = IfFilesKnown a b (λ w v. Breaks a.place.steady (effects (k.plan w).steps))

-- A prefix of the effects is done.
abbrev pub Partly : Task → Outside → Outside → Type 0
Partly k a b = IfFilesKnown a b (λ w v. SomeDone (effects (k.plan w).steps))

-- The command ended with the plan's end, or because memory ran out.
pub data IsPlanned (ended : CommandEnd) (o : Option End) : Type 0 where
  ByPlan : (e : End) → ended ≡ Ends e → o ≡ Some e → IsPlanned ended o
  ForMemory : ended ≡ RanOut → IsPlanned ended o

-- The count of write faults for a command with this target.
abbrev pub write_count : Target → Outside → ℕ
write_count File a = a.place.write_faults
write_count Parts a = a.place.write_faults
write_count Masked a = a.place.write_faults
write_count Text a = a.sink.faults

-- If the place's files are known and neither count rose, the command ended with the plan's end, or memory ran
-- out.
abbrev pub IsComplete : Task → CommandEnd → Outside → Outside → Type 0
IsComplete k ended a b =
    (Rose a.place.read_faults b.place.read_faults → ⊥)
    → (Rose (write_count k.target a) (write_count k.target b) → ⊥)
    → IfSome a.place.contents (λ w. IsPlanned ended (k.plan w).end)

-- What a call that carries out a task promises, by its answer.
pub record Ran (task : Task) (result : Ending) (before after : Outside) : Type 0 where
  -- The state after the call, and which counts rose, by the answer.
  pub contents : IsAfterTask task (command_end result) before after
  pub counts : Tallied task.target (command_end result) before after
  -- The state after each answer, if the place's files are known.
  pub done : result ≡ ending.Done → Ended task Fine before after
  pub refused : (r : Refusal) → result ≡ ending.Refused r → Ended task (Refused r) before after
  pub halted : result ≡ ending.ReadFault → Halted task before after
  pub broken : result ≡ ending.WriteFault → Broken task before after
  pub memory : result ≡ ending.Memory → Partly task before after
  pub too_long : (n : ℕ) → result ≡ ending.MaskTooLong n → Ended task (TooLong n) before after
  -- A fault is the answer only if it was counted, and a counted fault is never ignored.
  pub read_fault : result ≡ ending.ReadFault → Rose before.place.read_faults after.place.read_faults
  pub write_fault : result ≡ ending.WriteFault → Rose (write_count task.target before) (write_count task.target after)
  pub no_read_passed : before.place.read_faults < after.place.read_faults → result ≡ ending.ReadFault
  pub no_write_passed : write_count task.target before < write_count task.target after → result ≡ ending.WriteFault
  -- Without a fault the answer is the plan's end, or memory ran out. Only parts can be too many, and only a
  -- masked chunk can be too long.
  pub complete : IsComplete task (command_end result) before after
  pub parts : result ≡ ending.TooManyParts → task.target ≡ Parts
  pub masks : (n : ℕ) → result ≡ ending.MaskTooLong n → task.target ≡ Masked
  -- No read fails if all of the input can be read. A steady place stays steady.
  pub can_read : task.Readable before.place → (result ≢ ending.ReadFault) × (after.place.read_faults ≡ before.place.read_faults)
  pub same : after.place.steady ≡ before.place.steady

-- The place is steady, no file has the name, and no output is open.
pub record CanCreate (output : List ℕ) (s : State) : Type 0 where
  pub steady : IsTrue s.steady
  pub world : World
  pub contents : s.contents ≡ Some world
  pub new : file world output ≡ None
  pub closed : world.output ≡ None
