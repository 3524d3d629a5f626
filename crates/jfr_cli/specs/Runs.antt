-- What the program does and returns.
use Rattle.std.specs.Prelude.{◌≡◌, ◌≢◌, ℕ, true, false, List, Option, None, Some, option_map, IfSome, Ok, Err, ⊤}
use Rattle.jfr_base.specs.declared.flaw.Refusal.{Refusal}
use Rattle.jfr_outside.specs.World.{World, State, SinkState, IfKnown, file}
use Rattle.jfr_outside.specs.Counts.{Rose}
use Rattle.jfr_header.specs.declared.ending.Ending.{Ending}
use Rattle.jfr_header.specs.declared.ending.Ending.TheVariants as ending
use Rattle.jfr_filter.specs.Filters.{Given}
use Rattle.jfr_plan.specs.Ends.{End, Fine, Refused, TooMany, TooLong, Ends, NotWritten, RanOut, command_end}
use Rattle.jfr_plan.specs.Ends as command_ends
use Rattle.jfr_plan.specs.Effects.{Outside}
use Rattle.jfr_plan.specs.Rules.{plan_in}
use Rattle.jfr_plan.specs.Outcomes.{Unchanged, Rises, Counted, Tallied}
use Rattle.jfr_plan.specs.Clauses.{write_count}
use Rattle.jfr_output.specs.Recordings.{IsByPlan}
use Rattle.jfr_scrub.specs.Headline.{Scrubs}
use Rattle.jfr_renumber.specs.Headline.{Renumbers}
use Rattle.jfr_mask.specs.Commands.{mask_plan}
use Rattle.jfr_mask.specs.Commands as masks
use Rattle.jfr_words.specs.declared.order.Order.{Order}
use Rattle.jfr_words.specs.declared.order.Order.TheVariants as orders
use Rattle.jfr_words.specs.Words.{order_of, file_name}
use Rattle.jfr_split.specs.Joins.{assembling}
use Rattle.jfr_verify.specs.declared.doubt.Doubt.{Doubt}
use Rattle.jfr_verify.specs.declared.verdict.Verdict.{Verdict}
use Rattle.jfr_verify.specs.declared.verdict.Verdict.TheVariants as verdicts
use Rattle.jfr_verify.specs.Verdicts.{AllVerified, Three, VerdictOf, three}
use Rattle.jfr_build.specs.declared.reason.BuildReason.{BuildReason}
use Rattle.jfr_build.specs.Builds as builds
use Rattle.jfr_build.specs.Builds.{build_of}
use Rattle.jfr_build.specs.Streams as streams
use Rattle.jfr_build.specs.Streams.{IsRefusedText}
use Rattle.jfr_cli.specs.Works.{Work, Over, Joins, Planned, Checks, Builds, Masks, mask_work, work_of, target_of, IfFilesKnown, IsAfterWork, KeepsSink, KeepsPlace, CanReadAll, CanCreateFor}
use Rattle.jfr_cli.specs.declared.answer.Answer.{Answer}
use Rattle.jfr_cli.specs.declared.answer.Answer.TheVariants as answers
use Rattle.jfr_cli.specs.Answers.{doubt_line, long_line, refusal_line, unbuilt_line, IsLineWritten}

-- If a masking ends as its plan does, the output is the masked recording; if it ends well, the table has the texts.
pub record WroteMasks (k : masks.MaskWork) (e : Ending) (a b : State) : Type 0 where
  pub output : IsByPlan e → IfKnown a.contents b.contents (masks.Masks k)
  pub table : e ≡ ending.Done → IfKnown a.contents b.contents (masks.WritesTable k)

-- If a scrub ends as its plan does, the output is the scrub of the input, or its renumbering; if a masking does, it
-- is the masked recording. If a check ends well, each chunk of the output is verified; if a build does, the output
-- has the chunk of the text.
abbrev pub Wrote : Order → Ending → State → State → Type 0
Wrote (orders.Scrub g false input output) e a b = IsByPlan e → IfKnown a.contents b.contents (Scrubs g (file_name input) (file_name output))
Wrote (orders.Scrub g true input output) e a b = IsByPlan e → IfKnown a.contents b.contents (Renumbers g (file_name input) (file_name output))
Wrote (orders.Print g depth json file) e a b = ⊤
Wrote (orders.Summary json file) e a b = ⊤
Wrote (orders.Metadata json file) e a b = ⊤
Wrote (orders.Disassemble file rule) e a b = ⊤
Wrote (orders.Assemble folder output) e a b = ⊤
Wrote (orders.Sample seed events) e a b = ⊤
Wrote (orders.Receipt g input receipt) e a b = ⊤
Wrote (orders.Verify g input output receipt) e a b = e ≡ ending.Done → IfSome a.contents (λ w. (count : ℕ) × AllVerified g (three (file_name input) (file_name output) (file_name receipt) w) count)
Wrote (orders.Stacks g file) e a b = ⊤
Wrote (orders.Build text output) e a b = e ≡ ending.Done → IfKnown a.contents b.contents (streams.Builds (file_name text) (file_name output))
Wrote (orders.Mask g strings except known table input output) e a b = WroteMasks (mask_work g strings except known table input output) e a b

-- The verdict of the check is a doubt about a chunk.
abbrev pub IsInDoubt : Work → ℕ → Doubt → World → Type 0
IsInDoubt (Checks g input output receipt) chunk doubt w = VerdictOf g (three input output receipt w) (verdicts.Doubted chunk doubt)
IsInDoubt _ chunk doubt w = ⊥

-- The work is a check.
abbrev pub IsCheck : Work → Type 0
IsCheck (Checks g input output receipt) = ⊤
IsCheck _ = ⊥

-- A check has a doubt about a chunk. The files, the open output and the output sink are as before, and no fault
-- was counted.
pub record Doubts (k : Work) (chunk : ℕ) (doubt : Doubt) (a b : Outside) : Type 0 where
  pub check : IsCheck k
  pub verdict : IfFilesKnown k a b (λ w v s t. IsInDoubt k chunk doubt w × (t ≡ s))
  pub sink : b.sink ≡ a.sink
  pub counts : Counted Unchanged Unchanged Unchanged a b

-- The work is the building of a text that is refused for this line and reason.
abbrev pub IsUnbuilding : Work → ℕ → BuildReason → World → Type 0
IsUnbuilding (Builds text output) line reason w = IsRefusedText (file w text) line reason
IsUnbuilding _ line reason w = ⊥

-- The work is the building of a text.
abbrev pub IsBuild : Work → Type 0
IsBuild (Builds text output) = ⊤
IsBuild _ = ⊥

-- A text is refused. The files, the open output and the output sink are as before, and no fault was counted.
pub record Unbuilds (k : Work) (line : ℕ) (reason : BuildReason) (a b : Outside) : Type 0 where
  pub build : IsBuild k
  pub refused : IfFilesKnown k a b (λ w v s t. IsUnbuilding k line reason w × (t ≡ s))
  pub sink : b.sink ≡ a.sink
  pub counts : Counted Unchanged Unchanged Unchanged a b

-- A check writes text only if it ends well, or tries to.
abbrev pub KeepsText : Work → Ending → SinkState → SinkState → Type 0
KeepsText (Checks g input output receipt) (ending.Refused refusal) a b = b ≡ a
KeepsText (Checks g input output receipt) ending.ReadFault a b = b ≡ a
KeepsText _ e a b = ⊤

-- The state and the counts of faults after an order, for each ending.
pub record Carries (o : Order) (e : Ending) (a b : Outside) : Type 0 where
  pub leaves : IsAfterWork (work_of o) (command_end e) a b
  pub counts : Tallied (target_of (work_of o)) (command_end e) a b
  pub sink : KeepsSink (target_of (work_of o)) a.sink b.sink
  pub text : KeepsText (work_of o) e a.sink b.sink
  pub place : KeepsPlace (work_of o) a.place b.place
  pub wrote : Wrote o e a.place b.place
  pub can_read : CanReadAll (work_of o) a.place → e ≢ ending.ReadFault
  pub can_create : CanCreateFor o a.place → e ≢ ending.WriteFault

-- The state and the counts after an order with this answer.
abbrev pub CarriesTo : Order → Answer → Outside → Outside → Type 0
CarriesTo o answers.Usage a b = ⊥
CarriesTo o (answers.Ended end) a b = Carries o end a b
CarriesTo o (answers.Doubted chunk doubt) a b = Doubts (work_of o) chunk doubt a b
CarriesTo o (answers.Unbuilt line reason) a b = Unbuilds (work_of o) line reason a b

-- The words aren't an order and nothing is done; or memory ran out while they were read, and nothing is done;
-- or they are an order, which is carried out.
pub data Obeys (words : List (List ℕ)) (answer : Answer) (a b : Outside) : Type 0 where
  NoOrder : order_of words ≡ None → answer ≡ answers.Usage → b ≡ a → Obeys words answer a b
  NotRead : answer ≡ answers.Ended ending.Memory → b ≡ a → Obeys words answer a b
  CarriedOut : (o : Order) → order_of words ≡ Some o → CarriesTo o answer a b → Obeys words answer a b

-- The words are an order, and this holds of it.
abbrev pub Under : List (List ℕ) → (Order → Type 0) → Type 0
Under words P = (o : Order) × (order_of words ≡ Some o) × P o

-- The plan has this end, and all its effects are done.
abbrev pub WorkEnded : Work → End → Outside → Outside → Type 0
WorkEnded k e a b = IsAfterWork k (Ends e) a b

-- A read failed. For one recording exactly the effects whose needs were met are done; for a folder's files
-- the first effects are.
abbrev pub WorkHalted : Work → Outside → Outside → Type 0
WorkHalted k a b = IsAfterWork k command_ends.NotRead a b

-- The first effects are done, and of the next, which failed, a prefix of its bytes.
abbrev pub WorkBroken : Work → Outside → Outside → Type 0
WorkBroken k a b = IsAfterWork k NotWritten a b

-- The first effects are done.
abbrev pub WorkPartly : Work → Outside → Outside → Type 0
WorkPartly k a b = IsAfterWork k RanOut a b

-- The state after memory ran out: the first effects are done; or all of them; or those that are done after a
-- read fault; or, if the count of write faults rose, the first ones and a prefix of the next one's bytes.
pub data IsPartlyDone (k : Work) (a b : Outside) : Type 0 where
  Prefix : WorkPartly k a b → IsPartlyDone k a b
  Whole : (e : End) → WorkEnded k e a b → IsPartlyDone k a b
  Met : WorkHalted k a b → IsPartlyDone k a b
  Torn : Rose (write_count (target_of k) a) (write_count (target_of k) b) → WorkBroken k a b → IsPartlyDone k a b

-- At most one count of faults rose: that of reads, that of writes to the place, or that of writes to the
-- output sink.
pub data CountsOnce (a b : Outside) : Type 0 where
  NoneRose : Counted Unchanged Unchanged Unchanged a b → CountsOnce a b
  ReadsRose : Counted Rises Unchanged Unchanged a b → CountsOnce a b
  WritesRose : Counted Unchanged Rises Unchanged a b → CountsOnce a b
  TextsRose : Counted Unchanged Unchanged Rises a b → CountsOnce a b

-- The status of a plan's end.
abbrev pub status_of_end : End → ℕ
status_of_end Fine = 0
status_of_end (Refused r) = 2
status_of_end TooMany = 6
status_of_end (TooLong n) = 9

-- The status is that of the plan's end, or memory ran out.
pub data IsPlannedStatus (end : Option End) (answer : ℕ) : Type 0 where
  ByEnd : (e : End) → end ≡ Some e → answer ≡ status_of_end e → IsPlannedStatus end answer
  ByMemory : answer ≡ 5 → IsPlannedStatus end answer

-- The status of a verdict.
abbrev pub status_of_verdict : Verdict → ℕ
status_of_verdict (verdicts.Verified count) = 0
status_of_verdict (verdicts.Doubted chunk doubt) = 7
status_of_verdict (verdicts.Refused r) = 2
status_of_verdict verdicts.ReadFault = 3
status_of_verdict verdicts.Memory = 5

-- The status is that of the verdict on these files, or memory ran out.
pub data IsVerdictStatus (g : Given) (t : Three) (answer : ℕ) : Type 0 where
  ByVerdict : (x : Verdict) → VerdictOf g t x → answer ≡ status_of_verdict x → IsVerdictStatus g t answer
  ForMemory : answer ≡ 5 → IsVerdictStatus g t answer

-- The status is that of what is built of the text in a file, or memory ran out.
pub data IsBuildStatus (text : Option (List ℕ)) (answer : ℕ) : Type 0 where
  ByChunk : (chunk : List ℕ) → option_map build_of text ≡ Some (Ok chunk) → answer ≡ 0 → IsBuildStatus text answer
  ByRefusal : (refusal : builds.Refusal) → option_map build_of text ≡ Some (Err refusal) → answer ≡ 8 → IsBuildStatus text answer
  OutOfMemory : answer ≡ 5 → IsBuildStatus text answer

-- The status is the one with which the work ends if nothing fails, or memory ran out.
abbrev pub HasStatus : Work → ℕ → World → Type 0
HasStatus (Over r input) answer w = IsPlannedStatus (plan_in r input w).end answer
HasStatus (Joins folder output) answer w = IsPlannedStatus (assembling folder output w.files).end answer
HasStatus (Planned p) answer w = IsPlannedStatus p.end answer
HasStatus (Checks g input output receipt) answer w = IsVerdictStatus g (three input output receipt w) answer
HasStatus (Builds text output) answer w = IsBuildStatus (file w text) answer
HasStatus (Masks k) answer w = IsPlannedStatus (mask_plan k w).end answer

-- The check has a doubt, and the line says so.
pub record IsDoubted (k : Work) (a b : Outside) (e f : SinkState) : Type 0 where
  pub chunk : ℕ
  pub doubt : Doubt
  pub doubts : Doubts k chunk doubt a b
  pub said : IsLineWritten (doubt_line chunk doubt) e f

-- A text is refused, and the line says so.
pub record IsUnbuilt (k : Work) (a b : Outside) (e f : SinkState) : Type 0 where
  pub line : ℕ
  pub reason : BuildReason
  pub unbuilds : Unbuilds k line reason a b
  pub said : IsLineWritten (unbuilt_line line reason) e f

-- A chunk of the recording is refused: this is the plan's end, all its effects are done, and the line says
-- so.
pub record IsRefused (k : Work) (a b : Outside) (e f : SinkState) : Type 0 where
  pub refusal : Refusal
  pub ended : WorkEnded k (Refused refusal) a b
  pub said : IsLineWritten (refusal_line refusal) e f

-- A masked chunk would be too long: this is the plan's end, all its effects are done, and the line says so.
pub record IsTooLong (k : Work) (a b : Outside) (e f : SinkState) : Type 0 where
  pub chunk : ℕ
  pub ended : WorkEnded k (TooLong chunk) a b
  pub said : IsLineWritten (long_line chunk) e f
