-- What calls over many files promise of each of their answers.
use Rattle.std.specs.Prelude.{◌≡◌, ℕ, Bool, true, false, IsTrue, IsSome, List, ◌++◌, Option, None, Some}
use Rattle.std.specs.List.{filter_map, list_any, AllByRecursion}
use Rattle.jfr_outside.specs.World.{World, State, Files, IfKnown, file}
use Rattle.jfr_plan.specs.Ends.{CommandEnd}
use Rattle.jfr_plan.specs.Effects.{Effect, Create, Finish, Plan, Snapshot, Outside, snapshot, done, effects}
use Rattle.jfr_plan.specs.Rules.{Rule, File, plan_in}
use Rattle.jfr_plan.specs.Outcomes.{Outcome}
use Rattle.jfr_plan.specs.Clauses.{Task}
use Rattle.jfr_split.specs.Joins.{assembling}

-- The name of the file that an effect creates, if it creates one.
abbrev pub created_name : Effect → Option (List ℕ)
created_name (Create name) = Some name
created_name _ = None

-- The names of the files that these effects create.
abbrev pub created_names : List Effect → List (List ℕ)
created_names es = filter_map created_name es

-- The place is steady, no file has a name that the plan over this input creates, and no output is open.
pub record CanCreateAll (r : Rule) (input : List ℕ) (s : State) : Type 0 where
  pub steady : IsTrue s.steady
  pub world : World
  pub contents : s.contents ≡ Some world
  pub new : AllByRecursion (λ name. file world name ≡ None) (created_names (effects (plan_in r input world).steps))
  pub closed : world.output ≡ None

-- Whether an effect finishes the output.
abbrev pub is_finish : Effect → Bool
is_finish Finish = true
is_finish _ = false

-- A read failed, on a place that isn't steady. The first of these effects are done, and the output isn't
-- finished.
pub record Unfinished (steady : Bool) (all : List Effect) (s t : Snapshot) : Type 0 where
  pub first : List Effect
  pub rest : List Effect
  pub parts : all ≡ first ++ rest
  pub unfinished : list_any is_finish first ≡ false
  pub holds : t ≡ done first s
  pub cause : IsTrue steady → ⊥

-- The state after a command over many files with this plan, for each end.
abbrev pub FilesOutcome : Bool → Plan → CommandEnd → Snapshot → Snapshot → Type 0
FilesOutcome steady plan ended s t = Outcome steady plan (Unfinished steady (effects plan.steps)) ended s t

-- The state after a command over many files, if they are known. They determine the plan.
abbrev pub AfterFiles : (Files → Plan) → CommandEnd → Outside → Outside → Type 0
AfterFiles plan ended a b = IfKnown a.place.contents b.place.contents (λ w v. FilesOutcome a.place.steady (plan w.files) ended (snapshot w a.sink.written) (snapshot v b.sink.written))

-- A folder's files are joined to an output. Each file that is listed is there to be read.
abbrev pub joins : List ℕ → List ℕ → Task
joins folder output = record {
  plan = λ w. assembling folder output w.files;
  Halts = λ steady w v. Unfinished steady (effects (assembling folder output w.files).steps);
  Readable = λ s. IsTrue s.steady × IsSome s.contents;
  target = File;
}
