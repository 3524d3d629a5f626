-- The state after each ending, and the counts of faults that rose.
use Rattle.std.specs.Prelude.{◌≡◌, ℕ, ◌+◌, ◌<◌, ◌≤◌, Bool, true, IsTrue, IfSome, List, ◌∷◌, ◌++◌, length, take, drop, Option, None, Some}
use Rattle.jfr_outside.specs.World.{World, IfKnown, file}
use Rattle.jfr_outside.specs.Counts.{Rose}
use Rattle.jfr_header.specs.Fronts.{reach}
use Rattle.jfr_header.specs.Nexts.{is_header}
use Rattle.jfr_base.specs.declared.flaw.Flaw.{Flaw}
use Rattle.jfr_header.specs.Cuts.{Cuts, joined, whole_in}
use Rattle.jfr_plan.specs.Ends.{End, Fine, Refused, TooMany, TooLong, CommandEnd, Ends, NotRead, NotWritten, RanOut}
use Rattle.jfr_plan.specs.Effects.{Outside, Effect, Plan, Snapshot, snapshot, done, broken, effects, keep_met, Cannot}
use Rattle.jfr_plan.specs.Rules.{Rule, Target, File, Parts, Masked, Text, AllGo, cut_after, plan_after}

-- The plan has this end, and all its effects are done.
pub record AllDone (plan : Plan) (e : End) (s t : Snapshot) : Type 0 where
  pub end : plan.end ≡ Some e
  pub holds : t ≡ done (effects plan.steps) s

-- A prefix of these effects is done.
pub record SomeDone (all : List Effect) (s t : Snapshot) : Type 0 where
  pub first : List Effect
  pub rest : List Effect
  pub parts : all ≡ first ++ rest
  pub holds : t ≡ done first s

-- A prefix of these effects is done, and the next one failed after a number of its bytes. On a steady place
-- there was a cause.
pub record Breaks (steady : Bool) (all : List Effect) (s t : Snapshot) : Type 0 where
  pub first : List Effect
  pub failed : Effect
  pub rest : List Effect
  pub bytes : ℕ
  pub parts : all ≡ first ++ failed ∷ rest
  pub holds : t ≡ broken bytes failed (done first s)
  pub cause : IsTrue steady → Cannot failed (done first s)

-- The state after a command with this plan, for each end. `halted` describes that after a read fault.
abbrev pub Outcome : Bool → Plan → (Snapshot → Snapshot → Type 0) → CommandEnd → Snapshot → Snapshot → Type 0
Outcome steady plan halted (Ends e) s t = AllDone plan e s t
Outcome steady plan halted NotRead s t = halted s t
Outcome steady plan halted NotWritten s t = Breaks steady (effects plan.steps) s t
Outcome steady plan halted RanOut s t = SomeDone (effects plan.steps) s t

-- The number of whole chunks in these first bytes of a file.
abbrev pub held_count : List (List ℕ) → List ℕ → List ℕ → ℕ
held_count earlier x taken = whole_in (length taken) (cut_after earlier x).chunks

-- The whole chunks in these first bytes of a file.
abbrev pub held : List (List ℕ) → List ℕ → List ℕ → List (List ℕ)
held earlier x taken = take (held_count earlier x taken) (cut_after earlier x).chunks

-- The effects whose needs are met by the whole chunks in these first bytes of a file.
abbrev pub met_effects : Rule → List (List ℕ) → List ℕ → List ℕ → List Effect
met_effects r earlier x taken = effects (keep_met (Some (length earlier + held_count earlier x taken)) (plan_after r earlier (Some x)).steps)

-- If a chunk is refused for its header, n is less than the length of the chunks before it plus that of a
-- header.
abbrev pub IsBelowHeader : Cuts → ℕ → Flaw → Type 0
IsBelowHeader cuts n flaw = is_header flaw.reason ≡ true → n < length (joined cuts.chunks) + 68

-- The state after a read fault with the input open. The bytes `taken` are those that were read. An effect is
-- done exactly if the whole chunks in these bytes meet its need. The command did not end at any of these
-- chunks. After them fewer bytes were taken than the next chunk has, and fewer than 68 bytes of a chunk that
-- is refused for its header.
pub record NeedsMet (r : Rule) (earlier : List (List ℕ)) (x left : List ℕ) (s t : Snapshot) : Type 0 where
  pub taken : List ℕ
  pub parts : x ≡ taken ++ left
  pub holds : t ≡ done (met_effects r earlier x taken) s
  pub go : AllGo r earlier (held earlier x taken)
  pub short : length taken < length (joined (held earlier x taken)) + reach (drop (length (joined (held earlier x taken))) x)
  pub header : IfSome (cut_after earlier x).flaw (IsBelowHeader (cut_after earlier x) (length taken))

-- The effects done are those whose needs are met, given the file, if it exists, and what is left of the open
-- input. Without an open input nothing is done.
abbrev pub MetIn : Rule → List (List ℕ) → Option (List ℕ) → Option (List ℕ) → Snapshot → Snapshot → Type 0
MetIn r earlier file None s t = t ≡ s
MetIn r earlier None (Some left) s t = ⊥
MetIn r earlier (Some x) (Some left) s t = NeedsMet r earlier x left s t

-- The state after a read fault. On a steady place it means that the file doesn't exist.
abbrev pub HaltedIn : Bool → Rule → List (List ℕ) → Option (List ℕ) → Option (List ℕ) → Snapshot → Snapshot → Type 0
HaltedIn steady r earlier file left s t = MetIn r earlier file left s t × (IsTrue steady → file ≡ None)

-- The state after a command over one input, given the file that is the input and what is left of it.
abbrev pub OutcomeIn : Bool → Rule → List (List ℕ) → Option (List ℕ) → Option (List ℕ) → CommandEnd → Snapshot → Snapshot → Type 0
OutcomeIn steady r earlier file left ended s t = Outcome steady (plan_after r earlier file) (HaltedIn steady r earlier file left) ended s t

-- The state of the world after a command over the input with this name, given the one before.
abbrev pub OutcomeOf : Bool → Rule → List (List ℕ) → List ℕ → Option (List ℕ) → Option (List ℕ) → CommandEnd → World → World → Type 0
OutcomeOf steady r earlier input text text' ended w v = OutcomeIn steady r earlier (file w input) v.input ended (snapshot w text) (snapshot v text')

-- The state after a command over the input with this name, whose chunks come after those of earlier files.
abbrev pub After : Rule → List (List ℕ) → List ℕ → CommandEnd → Outside → Outside → Type 0
After r earlier input ended a b = IfKnown a.place.contents b.place.contents (OutcomeOf a.place.steady r earlier input a.sink.written b.sink.written ended)

-- The count is unchanged.
abbrev pub Unchanged : ℕ → ℕ → Type 0
Unchanged before now = now ≡ before

-- The count is larger, or is saturated and isn't smaller.
abbrev pub Rises : ℕ → ℕ → Type 0
Rises before now = (before ≤ now) × Rose before now

-- The relations between old and new counts of read faults, of write faults of the place, and of faults of the
-- sink. The place is steady or not as before.
abbrev pub Counted : (ℕ → ℕ → Type 0) → (ℕ → ℕ → Type 0) → (ℕ → ℕ → Type 0) → Outside → Outside → Type 0
Counted Reads Writes Texts a b = Reads a.place.read_faults b.place.read_faults × Writes a.place.write_faults b.place.write_faults × Texts a.sink.faults
    b.sink.faults × (b.place.steady ≡ a.place.steady)

-- A command with this target may have this end: only one that writes parts can write too many, and only one
-- that masks can find a chunk too long.
abbrev pub MayEnd : Target → End → Type 0
MayEnd target Fine = Unit {0}
MayEnd target (Refused r) = Unit {0}
MayEnd target TooMany = target ≡ Parts
MayEnd target (TooLong n) = target ≡ Masked

-- Only the count of write faults for this target rose.
abbrev pub CountedWrite : Target → Outside → Outside → Type 0
CountedWrite File a b = Counted Unchanged Rises Unchanged a b
CountedWrite Parts a b = Counted Unchanged Rises Unchanged a b
CountedWrite Masked a b = Counted Unchanged Rises Unchanged a b
CountedWrite Text a b = Counted Unchanged Unchanged Rises a b

-- The counts that rose, for each end: a fault is counted, and no fault is ignored.
abbrev pub Tallied : Target → CommandEnd → Outside → Outside → Type 0
Tallied target (Ends e) a b = MayEnd target e × Counted Unchanged Unchanged Unchanged a b
Tallied target NotRead a b = Counted Rises Unchanged Unchanged a b
Tallied target NotWritten a b = CountedWrite target a b
Tallied target RanOut a b = Counted Unchanged Unchanged Unchanged a b
