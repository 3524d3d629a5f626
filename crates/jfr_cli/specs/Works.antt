-- What each order asks to be done.
use Rattle.std.specs.Prelude.{◌≡◌, ℕ, List, [], ◌∷◌, ◌++◌, Bool, true, false, IsTrue, IsSome, Option, None, Some, option_map, unwrap_or, ⊤, codes, encode_utf8_all}
use Rattle.std.specs.Fmt.{decimal}
use Rattle.jfr_outside.specs.World.{World, State, SinkState, IfKnown, file}
use Rattle.jfr_filter.specs.Filters.{Given}
use Rattle.jfr_plan.specs.Ends.{Fine, Refused, CommandEnd, Ends, NotRead, NotWritten, RanOut}
use Rattle.jfr_plan.specs.Effects.{Outside, Write, Nothing, AtEnd, Plan, Snapshot, snapshot, effects, needing}
use Rattle.jfr_plan.specs.Rules.{Rule, Target, File, Parts, Masked, Text, plan_in}
use Rattle.jfr_plan.specs.Outcomes.{AllDone, Breaks, HaltedIn, SomeDone}
use Rattle.jfr_plan.specs.Clauses.{CanRead, CanCreate}
use Rattle.jfr_scrub.specs.Scrubs.{scrubbing}
use Rattle.jfr_renumber.specs.Renumbers.{renumbering}
use Rattle.jfr_mask.specs.Commands.{CanCreateBoth, CanReadBoth, MaskHalted, MaskWork, mask_plan}
use Rattle.jfr_split.specs.Splits.{splitting}
use Rattle.jfr_split.specs.Joins.{assembling}
use Rattle.jfr_split.specs.Clauses.{Unfinished, CanCreateAll}
use Rattle.jfr_show.specs.Texts.{newline}
use Rattle.jfr_verify.specs.declared.verdict.Verdict.{Verdict}
use Rattle.jfr_verify.specs.declared.verdict.Verdict.TheVariants.{Verified}
use Rattle.jfr_verify.specs.declared.verdict.Verdict.TheVariants as verdicts
use Rattle.jfr_verify.specs.Verdicts.{HasNoVerdict, VerdictOf, three}
use Rattle.jfr_receipt.specs.Receipting.{receipting}
use Rattle.jfr_build.specs.Streams.{IsUnread, building}
use Rattle.jfr_report.specs.Reports.{printing, summing, describing, folding}
use Rattle.jfr_report.specs.Demo.{sampled}
use Rattle.jfr_words.specs.declared.order.Order.{Order}
use Rattle.jfr_words.specs.declared.order.Order.TheVariants as orders
use Rattle.jfr_words.specs.Words.{file_name}

-- The work of an order: a rule over one recording, the files of a folder joined to an output, a plan that
-- needs no file, a check of three files with a filter (the input, the output and its receipts), the building of
-- a text file and an output, or the masking of a recording.
pub data Work : Type 0 where
  Over : Rule → List ℕ → Work
  Joins : List ℕ → List ℕ → Work
  Planned : Plan → Work
  Checks : Given → List ℕ → List ℕ → List ℕ → Work
  Builds : List ℕ → List ℕ → Work
  Masks : MaskWork → Work

-- The sample's text is written.
abbrev pub sample_plan : List ℕ → Plan
sample_plan text = record { steps = needing Nothing (Write (encode_utf8_all text) ∷ []); end = Some Fine }

-- The rule of a scrub whose output keeps the keys of constants, or numbers them anew.
abbrev pub scrub_rule : Given → Bool → List ℕ → Rule
scrub_rule g false output = scrubbing g output
scrub_rule g true output = renumbering g output

-- The line if all chunks of an output are verified.
abbrev pub verified_line : ℕ → List ℕ
verified_line count = codes "verified " ++ (decimal count ++ newline)

-- The plan of a check with this verdict: if all chunks are verified, their number is written. The plan of a
-- doubt has no end; the doubt is the answer.
abbrev pub verdict_plan : Verdict → Plan
verdict_plan (Verified count) = record { steps = needing AtEnd (Write (verified_line count) ∷ []); end = Some Fine }
verdict_plan (verdicts.Refused r) = record { steps = []; end = Some (Refused r) }
verdict_plan _ = record { steps = []; end = None }

-- The masking of a recording, by what the order says.
abbrev pub mask_work : Given → List (List ℕ) → Option (List (List ℕ)) → Option (List ℕ) → Option (List ℕ) → List ℕ → List ℕ → MaskWork
mask_work g strings except known table input output = record {
  filter = g;
  strings = strings;
  except = unwrap_or except [];
  known = option_map file_name known;
  table = option_map file_name table;
  input = file_name input;
  output = file_name output;
}

-- The work of an order.
abbrev pub work_of : Order → Work
work_of (orders.Print g depth json file) = Over (printing g depth json) (file_name file)
work_of (orders.Summary json file) = Over (summing json) (file_name file)
work_of (orders.Metadata json file) = Over (describing json) (file_name file)
work_of (orders.Scrub g renumber input output) = Over (scrub_rule g renumber (file_name output)) (file_name input)
work_of (orders.Disassemble file rule) = Over (splitting rule (file_name file)) (file_name file)
work_of (orders.Assemble folder output) = Joins (file_name folder) (file_name output)
work_of (orders.Sample seed events) = Planned (sample_plan (sampled seed events))
work_of (orders.Receipt g input receipt) = Over (receipting g (file_name receipt)) (file_name input)
work_of (orders.Verify g input output receipt) = Checks g (file_name input) (file_name output) (file_name receipt)
work_of (orders.Stacks g file) = Over (folding g) (file_name file)
work_of (orders.Build text output) = Builds (file_name text) (file_name output)
work_of (orders.Mask g strings except known table input output) = Masks (mask_work g strings except known table input output)

-- The claim holds of the plan of the work, given the files of a place. A check has the plan of its verdict, of
-- which there is at most one. The plan of a text that is refused has no end; the refusal is the answer.
abbrev pub Plans : Work → World → (Plan → Type 0) → Type 0
Plans (Over r input) w P = P (plan_in r input w)
Plans (Joins folder output) w P = P (assembling folder output w.files)
Plans (Planned p) w P = P p
Plans (Checks g input output receipt) w P = (x : Verdict) × VerdictOf g (three input output receipt w) x × P (verdict_plan x)
Plans (Builds text output) w P = P (building output (file w text))
Plans (Masks k) w P = P (mask_plan k w)

-- The target of the work: a file, parts, a masked recording, or text.
abbrev pub target_of : Work → Target
target_of (Over r input) = r.target
target_of (Joins folder output) = File
target_of (Planned p) = Text
target_of (Checks g input output receipt) = Text
target_of (Builds text output) = File
target_of (Masks k) = Masked

-- The state after a read fault. It can't happen if no file is read, and nothing was done yet in a check or a
-- build. Over a steady place a check has one only if no verdict is right.
abbrev pub HaltsAs : Bool → Work → World → World → Snapshot → Snapshot → Type 0
HaltsAs steady (Over r input) w v s t = HaltedIn steady r [] (file w input) v.input s t
HaltsAs steady (Joins folder output) w v s t = Unfinished steady (effects (assembling folder output w.files).steps) s t
HaltsAs steady (Planned p) w v s t = ⊥
HaltsAs steady (Checks g input output receipt) w v s t = (t ≡ s) × (IsTrue steady → HasNoVerdict g (three input output receipt w))
HaltsAs steady (Builds text output) w v s t = (t ≡ s) × IsUnread steady text w v
HaltsAs steady (Masks k) w v s t = MaskHalted steady k w v s t

-- The state after memory ran out: the first effects are done. A check has only one, which is its last step.
abbrev pub StopsAs : Work → World → Snapshot → Snapshot → Type 0
StopsAs (Over r input) w s t = SomeDone (effects (plan_in r input w).steps) s t
StopsAs (Joins folder output) w s t = SomeDone (effects (assembling folder output w.files).steps) s t
StopsAs (Planned p) w s t = SomeDone (effects p.steps) s t
StopsAs (Checks g input output receipt) w s t = t ≡ s
StopsAs (Builds text output) w s t = SomeDone (effects (building output (file w text)).steps) s t
StopsAs (Masks k) w s t = SomeDone (effects (mask_plan k w).steps) s t

-- The text on the output sink, for work that writes text.
abbrev pub text_on : Target → SinkState → Option (List ℕ)
text_on Text s = s.written
text_on File s = None
text_on Parts s = None
text_on Masked s = None

-- A claim about the states before and after the work, if the files of the place are known. Work that reads no
-- file does the same to the text whatever the files are.
abbrev pub IfFilesKnown : Work → Outside → Outside → (World → World → Snapshot → Snapshot → Type 0) → Type 0
IfFilesKnown (Planned p) a b P = (w : World) → P w w (snapshot w a.sink.written) (snapshot w b.sink.written)
IfFilesKnown k a b P = IfKnown a.place.contents b.place.contents (λ w v. P w v (snapshot w (text_on (target_of k) a.sink)) (snapshot v (text_on (target_of k) b.sink)))

-- The state after the work, for each way in which it ended.
abbrev pub WorkOutcome : Bool → Work → CommandEnd → World → World → Snapshot → Snapshot → Type 0
WorkOutcome steady k (Ends e) w v s t = Plans k w (λ p. AllDone p e s t)
WorkOutcome steady k NotRead w v s t = HaltsAs steady k w v s t
WorkOutcome steady k NotWritten w v s t = Plans k w (λ p. Breaks steady (effects p.steps) s t)
WorkOutcome steady k RanOut w v s t = StopsAs k w s t

abbrev pub IsAfterWork : Work → CommandEnd → Outside → Outside → Type 0
IsAfterWork k ended a b = IfFilesKnown k a b (WorkOutcome a.place.steady k ended)

-- Only work that writes text writes to the output sink.
abbrev pub KeepsSink : Target → SinkState → SinkState → Type 0
KeepsSink Text a b = ⊤
KeepsSink File a b = b ≡ a
KeepsSink Parts a b = b ≡ a
KeepsSink Masked a b = b ≡ a

-- Work that reads no file leaves the place unchanged.
abbrev pub KeepsPlace : Work → State → State → Type 0
KeepsPlace (Over r input) a b = ⊤
KeepsPlace (Joins folder output) a b = ⊤
KeepsPlace (Planned p) a b = b ≡ a
KeepsPlace (Checks g input output receipt) a b = ⊤
KeepsPlace (Builds text output) a b = ⊤
KeepsPlace (Masks k) a b = ⊤

-- The place is steady, and the three files of a check exist.
pub record CanCheck (input output receipt : List ℕ) (s : State) : Type 0 where
  pub steady : IsTrue s.steady
  pub world : World
  pub contents : s.contents ≡ Some world
  pub has_input : IsSome (file world input)
  pub has_output : IsSome (file world output)
  pub has_receipt : IsSome (file world receipt)

-- The place is steady, and the files that the work reads exist. In a folder it reads only files that exist.
abbrev pub CanReadAll : Work → State → Type 0
CanReadAll (Over r input) a = CanRead input a
CanReadAll (Joins folder output) a = IsTrue a.steady × IsSome a.contents
CanReadAll (Planned p) a = ⊤
CanReadAll (Checks g input output receipt) a = CanCheck input output receipt a
CanReadAll (Builds text output) a = CanRead text a
CanReadAll (Masks k) a = CanReadBoth k a

-- The place is steady, no output is open, and the names that the order creates are new. Never true for an
-- order that writes text, whose write faults are those of the output stream.
abbrev pub CanCreateFor : Order → State → Type 0
CanCreateFor (orders.Scrub g renumber input output) a = CanCreate (file_name output) a
CanCreateFor (orders.Disassemble file rule) a = CanCreateAll (splitting rule (file_name file)) (file_name file) a
CanCreateFor (orders.Assemble folder output) a = CanCreate (file_name output) a
CanCreateFor (orders.Print g depth json file) a = ⊥
CanCreateFor (orders.Summary json file) a = ⊥
CanCreateFor (orders.Metadata json file) a = ⊥
CanCreateFor (orders.Sample seed events) a = ⊥
CanCreateFor (orders.Receipt g input receipt) a = CanCreate (file_name receipt) a
CanCreateFor (orders.Verify g input output receipt) a = ⊥
CanCreateFor (orders.Stacks g file) a = ⊥
CanCreateFor (orders.Build text output) a = CanCreate (file_name output) a
CanCreateFor (orders.Mask g strings except known table input output) a = CanCreateBoth (mask_work g strings except known table input output) a
