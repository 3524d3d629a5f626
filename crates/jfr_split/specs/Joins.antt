-- The command `assemble`, which joins the chunks of a folder's files.
use Rattle.std.specs.Prelude.{◌≡◌, ℕ, List, [], ◌∷◌, ◌++◌, map, Option, Some}
use Rattle.std.specs.List.{AllByRecursion}
use Rattle.std.specs.FinMap as fin
use Rattle.jfr_base.specs.declared.reason.Reason.TheVariants.{NoChunk}
use Rattle.jfr_outside.specs.World.{World, Files, file}
use Rattle.jfr_header.specs.Fronts.{flaw_at}
use Rattle.jfr_plan.specs.Ends.{End, Fine, refused}
use Rattle.jfr_plan.specs.Effects.{Create, Append, Finish, Nothing, AtEnd, needing, Plan}
use Rattle.jfr_plan.specs.Rules.{Rule, Goes, File, cut_after, plan_after}
use Rattle.jfr_split.specs.Names.{is_joined}

-- The rule for one file: each of its chunks is appended.
abbrev pub adding : Rule
adding = record {
  opens = [];
  asks = λ before c. Goes (Append c ∷ []);
  ends = λ before. [];
  target = File;
}

-- A plan with this end, followed by the next plan if the end is a good one.
abbrev pub then_by : Option End → Plan → Plan → Plan
then_by (Some Fine) p later = record { steps = p.steps ++ later.steps; end = later.end }
then_by _ p later = p

-- A plan, followed by the next plan if it ends well.
abbrev pub plan_then : Plan → Plan → Plan
plan_then p later = then_by p.end p later

-- The plan that appends the chunks of these files and finishes the output. Chunk numbers and offsets continue
-- from one file to the next.
abbrev pub joining : List (List ℕ) → List (List ℕ) → Plan
joining earlier [] = record { steps = needing AtEnd (Finish ∷ []); end = Some Fine }
joining earlier (x ∷ xs) = plan_then (plan_after adding earlier (Some x)) (joining (earlier ++ (cut_after earlier x).chunks) xs)

-- The plan for these files; without any file the recording is refused.
abbrev pub joining_all : List (List ℕ) → Plan
joining_all [] = record { steps = []; end = Some (refused 1 (flaw_at 0 NoChunk)) }
joining_all (x ∷ xs) = joining [] (x ∷ xs)

-- The files of a folder whose names end in `.jfr`, in byte order of their names.
abbrev pub files_in : List ℕ → Files → Files
files_in folder files = fin.retain_keys files (is_joined folder)

-- The plan of the command: the output is created, the chunks of each of the folder's files are appended, and
-- the output is finished.
abbrev pub assembling : List ℕ → List ℕ → Files → Plan
assembling folder output files = record {
  steps = needing Nothing (Create output ∷ []) ++ (joining_all (fin.values (files_in folder files))).steps;
  end = (joining_all (fin.values (files_in folder files))).end;
}

-- The output is open, and each of these files exists, with these contents, and isn't the output.
pub record CanJoin (output : List ℕ) (names contents : List (List ℕ)) (w : World) : Type 0 where
  pub opened : w.output ≡ Some output
  pub apart : AllByRecursion (λ name. name ≡ output → ⊥) names
  pub held : map (file w) names ≡ map (λ x. Some x) contents
