-- What `build_stream` does with a text file and an output file.
use Rattle.std.specs.Prelude.{◌≡◌, ⊤, ℕ, ◌^◌, Bool, IsTrue, List, [], Vec, Option, None, Some, option_map, Result, Ok, Err}
use Rattle.std.specs.declared.alloc.Global.{Global}
use Rattle.jfr_outside.specs.World.{World, State, file}
use Rattle.jfr_header.specs.Taking.{IfContentsKnown, IsKept}
use Rattle.jfr_header.specs.declared.ending.Ending.{Ending}
use Rattle.jfr_header.specs.declared.ending.Ending.TheVariants as endings
use Rattle.jfr_file.specs.Files.{Stopped}
use Rattle.jfr_plan.specs.Ends.{Fine}
use Rattle.jfr_plan.specs.Effects.{AtEnd, Plan, without_sink, needing, writes}
use Rattle.jfr_plan.specs.Rules.{File}
use Rattle.jfr_plan.specs.Outcomes.{Counted, Unchanged, Rises}
use Rattle.jfr_plan.specs.Clauses.{CanRead, Task}
use Rattle.jfr_build.specs.declared.reason.BuildReason.{BuildReason}
use Rattle.jfr_build.specs.declared.ending.BuildEnding.{BuildEnding}
use Rattle.jfr_build.specs.declared.ending.BuildEnding.TheVariants.{Done, Refused, ReadFault, WriteFault, Memory}
use Rattle.jfr_build.specs.Builds.{Build, build_of, refused}
use Rattle.jfr_build.specs.Accepted.{IsBuiltOf}

-- The plan for what is built of a text, if there is one: the chunk is written. A text that is refused has no
-- effect and no end; the refusal is the answer.
abbrev pub plan_by : List ℕ → Option Build → Plan
plan_by out None = record { steps = []; end = None }
plan_by out (Some (Ok chunk)) = record { steps = needing AtEnd (writes out chunk); end = Some Fine }
plan_by out (Some (Err refusal)) = record { steps = []; end = None }

-- The plan for the text in a file, if the file exists.
abbrev pub building : List ℕ → Option (List ℕ) → Plan
building out text = plan_by out (option_map build_of text)

-- The text in a file wasn't read, for which a steady place has a cause. Fewer bytes were taken than make a text
-- too long.
abbrev pub IsUnread : Bool → List ℕ → World → World → Type 0
IsUnread steady text w v = (IsTrue steady → file w text ≡ None) × Stopped (2 ^ 30) (file w text) v.input

-- The text in a file is built, and the chunk is written to the output.
abbrev pub builds : List ℕ → List ℕ → Task
builds text out = record {
  plan = λ w. building out (file w text);
  Halts = λ steady w v s t. (t ≡ s) × IsUnread steady text w v;
  Readable = CanRead text;
  target = File;
}

-- If the ending isn't a refusal, this holds of it.
abbrev pub IfNotRefused : BuildEnding → (Ending → Type 0) → Type 0
IfNotRefused Done P = P endings.Done
IfNotRefused (Refused line reason) P = ⊤
IfNotRefused ReadFault P = P endings.ReadFault
IfNotRefused WriteFault P = P endings.WriteFault
IfNotRefused Memory P = P endings.Memory

-- If the ending is a refusal, this holds of its line and reason.
abbrev pub IfRefused : BuildEnding → (ℕ → BuildReason → Type 0) → Type 0
IfRefused (Refused line reason) P = P line reason
IfRefused _ P = ⊤

-- The file exists, and its text is refused for this line and reason.
abbrev pub IsRefusedText : Option (List ℕ) → ℕ → BuildReason → Type 0
IsRefusedText text line reason = option_map build_of text ≡ Some (refused line reason)

-- A text is refused: the files and the open output are unchanged, and no fault was counted.
pub record Refuses (text : List ℕ) (line : ℕ) (reason : BuildReason) (a b : State) : Type 0 where
  pub text_is : IfContentsKnown a b (λ w v. IsRefusedText (file w text) line reason × IsKept w v)
  pub counts : Counted Unchanged Unchanged Unchanged (without_sink a) (without_sink b)

-- The output has the chunk that is built of the text: a chunk that is accepted, with exactly the classes, the
-- events and the constants of the lines.
pub record Builds (text out : List ℕ) (w v : World) : Type 0 where
  pub bytes : List ℕ
  pub read : file w text ≡ Some bytes
  pub chunk : List ℕ
  pub exact : build_of bytes ≡ Ok chunk
  pub written : file v out ≡ Some chunk
  pub built : IsBuiltOf bytes chunk

-- The ending is the one that the text decides, or memory ran out.
pub data IsDecided (text : Option (List ℕ)) (ending : BuildEnding) : Type 0 where
  ByChunk : (chunk : List ℕ) → option_map build_of text ≡ Some (Ok chunk) → ending ≡ Done → IsDecided text ending
  ByRefusal : (line : ℕ) → (reason : BuildReason) → IsRefusedText text line reason → ending ≡ Refused line reason → IsDecided text ending
  ForMemory : ending ≡ Memory → IsDecided text ending

-- What is known of the text after it was read and built, or after this failed.
abbrev pub TextBuilt : Bool → List ℕ → Result (Vec ℕ Global) BuildEnding → World → World → Type 0
TextBuilt steady text (Ok chunk) w v = (option_map build_of (file w text) ≡ Some (Ok chunk.items)) × IsKept w v
TextBuilt steady text (Err (Refused line reason)) w v = IsRefusedText (file w text) line reason × IsKept w v
TextBuilt steady text (Err ReadFault) w v = IsUnread steady text w v × IsKept w v
TextBuilt steady text (Err Memory) w v = IsKept w v
TextBuilt steady text (Err Done) w v = ⊥
TextBuilt steady text (Err WriteFault) w v = ⊥

-- The count of read faults rises if a read failed, and no other count changes.
abbrev pub TextCounts : {T : Type 0} → Result T BuildEnding → State → State → Type 0
TextCounts (Ok x) a b = Counted Unchanged Unchanged Unchanged (without_sink a) (without_sink b)
TextCounts (Err (Refused line reason)) a b = Counted Unchanged Unchanged Unchanged (without_sink a) (without_sink b)
TextCounts (Err ReadFault) a b = Counted Rises Unchanged Unchanged (without_sink a) (without_sink b)
TextCounts (Err Memory) a b = Counted Unchanged Unchanged Unchanged (without_sink a) (without_sink b)
TextCounts (Err Done) a b = ⊥
TextCounts (Err WriteFault) a b = ⊥
