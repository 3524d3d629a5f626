-- What the command `mask` does with files, and what its output is.
use Rattle.std.specs.Prelude.{◌≡◌, ℕ, ◌<◌, ◌^◌, Bool, true, false, IsTrue, nat_le, List, [], ◌∷◌, length, Option, None, Some, IfSome, if◌then◌else◌, ⊤}
use Rattle.jfr_outside.specs.World.{State, World, file}
use Rattle.jfr_header.specs.Cuts.{cut, joined}
use Rattle.jfr_filter.specs.Filters.{Given, describes}
use Rattle.jfr_plan.specs.Ends.{TooLong}
use Rattle.jfr_plan.specs.Effects.{Plan, Snapshot}
use Rattle.jfr_plan.specs.Rules.{Masked, Rule, plan_in}
use Rattle.jfr_plan.specs.Outcomes.{HaltedIn}
use Rattle.jfr_plan.specs.Clauses.{CanCreate, CanRead, Task}
use Rattle.jfr_chunk.specs.Chosen.{kept_of}
use Rattle.jfr_chunk.specs.Parts.{AreParts, Parts}
use Rattle.jfr_chunk.specs.Refusal.{refusal_of}
use Rattle.jfr_output.specs.Recordings.{AreChunksOf, before_refused}
use Rattle.jfr_mask.specs.Headline.{IsMasked}
use Rattle.jfr_mask.specs.MaskOf.{Masking, mask_of}
use Rattle.jfr_mask.specs.Pseudonyms.{is_known, lines_of}
use Rattle.jfr_mask.specs.Recordings.{dictionary_over, dictionary_with, masking_rule, table_lines}

-- What the command is given: a filter, the patterns of the masked fields and of those that aren't, and the names of the
-- input, of the output, of the file of known texts, and of the table.
pub record MaskWork : Type 0 where
  pub filter : Given
  pub strings : List (List ℕ)
  pub except : List (List ℕ)
  pub known : Option (List ℕ)
  pub table : Option (List ℕ)
  pub input : List ℕ
  pub output : List ℕ

-- The masking with these known texts, and its rule.
abbrev pub masking_with : MaskWork → (List ℕ → Bool) → Masking
masking_with k known = record { strings = k.strings; except = k.except; known = known; described = describes k.filter }

abbrev pub rule_with : MaskWork → (List ℕ → Bool) → Rule
rule_with k known = masking_rule k.filter (masking_with k known) k.output k.table

-- The texts that a file of these bytes makes known, and those that are known without a file: none.
abbrev pub known_in : List ℕ → List ℕ → Bool
known_in bytes t = is_known (lines_of bytes) t

abbrev pub none_known : List ℕ → Bool
none_known t = false

-- The plan, given the file of known texts, if it exists: nothing is done if it doesn't exist, or has 2^30 bytes.
abbrev pub plan_knowing : MaskWork → Option (List ℕ) → World → Plan
plan_knowing k None w = record { steps = []; end = None }
plan_knowing k (Some bytes) w = if nat_le (2 ^ 30) (length bytes) then record { steps = []; end = Some (TooLong 0) } else plan_in (rule_with k (known_in bytes)) k.input w

-- The plan, given the name of the file of known texts, if there is one.
abbrev pub plan_named : MaskWork → Option (List ℕ) → World → Plan
plan_named k None w = plan_in (rule_with k none_known) k.input w
plan_named k (Some name) w = plan_knowing k (file w name) w

abbrev pub mask_plan : MaskWork → World → Plan
mask_plan k w = plan_named k k.known w

-- These texts are known: those of the file with this name, below 2^30 bytes, or none without a name.
abbrev pub AreKnown : Option (List ℕ) → World → (List ℕ → Bool) → Type 0
AreKnown None w known = known ≡ none_known
AreKnown (Some name) w known = (bytes : List ℕ) × (file w name ≡ Some bytes) × (length bytes < 2 ^ 30) × (known ≡ known_in bytes)

-- The state after a read fault. Either the file of known texts wasn't read, and nothing is done; on a steady place it
-- doesn't exist. Or its texts are known, and the fault came later, over the input.
pub data MaskHalted (steady : Bool) (k : MaskWork) (w v : World) (s t : Snapshot) : Type 0 where
  AtKnown : (name : List ℕ) → k.known ≡ Some name → t ≡ s → (IsTrue steady → file w name ≡ None) → MaskHalted steady k w v s t
  AtInput : (known : List ℕ → Bool) → AreKnown k.known w known → HaltedIn steady (rule_with k known) [] (file w k.input) v.input s t → MaskHalted steady k w v s t

-- The input can be read, and so can the file of known texts, if there is one.
pub record CanReadBoth (k : MaskWork) (s : State) : Type 0 where
  pub input : CanRead k.input s
  pub known : IfSome k.known (λ name. CanRead name s)

-- The output and the table, if there is one, can be created, and have different names.
pub record CanCreateBoth (k : MaskWork) (s : State) : Type 0 where
  pub output : CanCreate k.output s
  pub table : IfSome k.table (λ name. CanCreate name s × (k.output ≡ name → ⊥))

abbrev pub mask_task : MaskWork → Task
mask_task k = record {
  plan = mask_plan k;
  Halts = λ steady w v. MaskHalted steady k w v;
  Readable = CanReadBoth k;
  target = Masked;
}

-- The chunk c has parts, and b is its masked chunk, given the dictionary before it: a chunk that is accepted, has
-- exactly the events that the filter keeps and the entries that they reach, and means the same but for masked strings.
pub record IsMaskedOutput (g : Given) (m : Masking) (d : List (List ℕ)) (c b : List ℕ) : Type 0 where
  pub parts : Parts
  pub bytes : parts.bytes ≡ c
  pub valid : AreParts parts
  pub becomes : b ≡ mask_of m d parts (kept_of g parts)
  pub masked : IsMasked m d parts (kept_of g parts)

-- These are the masked chunks of the chunks, one for each, in order. The dictionary goes on from chunk to chunk.
abbrev pub AreMaskedOutputs : Given → Masking → List (List ℕ) → List (List ℕ) → List (List ℕ) → Type 0
AreMaskedOutputs g m d [] [] = ⊤
AreMaskedOutputs g m d (c ∷ cs) (b ∷ bs) = IsMaskedOutput g m d c b × AreMaskedOutputs g m (dictionary_with g m d c) cs bs
AreMaskedOutputs g m d [] (b ∷ bs) = ⊥
AreMaskedOutputs g m d (c ∷ cs) [] = ⊥

-- The bytes y are the masked chunks of the chunks of the recording x before the first that is refused: a recording of
-- exactly these chunks.
pub record IsMaskOf (g : Given) (m : Masking) (x y : List ℕ) : Type 0 where
  pub results : List (List ℕ)
  pub outputs : AreMaskedOutputs g m [] (before_refused refusal_of (cut x 0 true).chunks) results
  pub bytes : y ≡ joined results
  pub chunks : AreChunksOf results y

-- The output file has the masked recording of the input.
pub record Masks (k : MaskWork) (w v : World) : Type 0 where
  pub known : List ℕ → Bool
  pub are_known : AreKnown k.known w known
  pub recording : List ℕ
  pub read : file w k.input ≡ Some recording
  pub written : List ℕ
  pub holds : file v k.output ≡ Some written
  pub made : IsMaskOf k.filter (masking_with k known) recording written

-- The table, if one was asked for, has a line for each masked text of the recording, in the order of their numbers.
pub record WritesTable (k : MaskWork) (w v : World) : Type 0 where
  pub known : List ℕ → Bool
  pub are_known : AreKnown k.known w known
  pub recording : List ℕ
  pub read : file w k.input ≡ Some recording
  pub holds : IfSome k.table (λ name. file v name ≡ Some (joined (table_lines 1 (dictionary_over k.filter (masking_with k known) [] (cut recording 0 true).chunks))))
