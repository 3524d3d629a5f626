-- The separate clauses of the top call, from the one that has all cases.
use Rattle.std.specs.Prelude.{◌≡◌, ◌<◌, ◌≤◌, ◌⊎◌, ℕ, List, [], length, true, false, Option, None, Some, IfSome, Ok, Err, option_map}
use Rattle.std.proofs.Common.{ap, arith, refl, sym, ◌∙◌, subst, inl, inr}
use Rattle.jfr_outside.specs.World.{World, State, SinkState, IfKnown, file}
use Rattle.jfr_outside.specs.Counts.{Rose}
use Rattle.jfr_base.specs.declared.flaw.Refusal.{Refusal}
use Rattle.jfr_header.specs.declared.ending.Ending.{Ending}
use Rattle.jfr_header.specs.declared.ending.Ending.TheVariants.{Done, Refused, ReadFault, WriteFault, TooManyParts, MaskTooLong, Memory}
use Rattle.jfr_filter.specs.Filters.{Given}
use Rattle.jfr_plan.specs.Ends.{End, Fine, command_end}
use Rattle.jfr_plan.specs.Ends as ends
use Rattle.jfr_plan.specs.Effects.{Effect, Outside, Snapshot, effects, snapshot}
use Rattle.jfr_plan.specs.Rules.{Target, File, Parts, Masked, Text, plan_in}
use Rattle.jfr_plan.specs.Outcomes.{Counted, Unchanged, SomeDone, AllDone, Tallied}
use Rattle.jfr_plan.specs.Clauses.{write_count}
use Rattle.jfr_plan.proofs.Clauses as plan
use Rattle.jfr_output.specs.Recordings.{IsByPlan}
use Rattle.jfr_scrub.specs.Headline.{Scrubs}
use Rattle.jfr_renumber.specs.Headline.{Renumbers}
use Rattle.jfr_mask.specs.Commands.{mask_plan}
use Rattle.jfr_mask.specs.Commands as masks
use Rattle.jfr_words.specs.declared.order.Order.{Order}
use Rattle.jfr_words.specs.declared.order.Order.TheVariants as orders
use Rattle.jfr_words.specs.Words.{order_of, file_name}
use Rattle.jfr_split.specs.Joins.{assembling}
use Rattle.jfr_verify.specs.declared.doubt.Doubt.{Doubt}
use Rattle.jfr_verify.specs.declared.verdict.Verdict.{Verdict}
use Rattle.jfr_verify.specs.declared.verdict.Verdict.TheVariants as verdicts
use Rattle.jfr_verify.specs.Recordings.{recording_of}
use Rattle.jfr_verify.specs.Verdicts.{AllVerified, AreScrubs, HasOneVerdict, HasVerifiedScrubs, Three, VerdictOf, three}
use Rattle.jfr_build.specs.declared.reason.BuildReason.{BuildReason}
use Rattle.jfr_build.specs.Builds.{Build, build_of}
use Rattle.jfr_build.specs.Streams as streams
use Rattle.jfr_build.specs.Streams.{IsRefusedText, building, plan_by}
use Rattle.jfr_cli.specs.Works.{Work, Over, Joins, Planned, Checks, Builds, Masks, mask_work, Plans, StopsAs, work_of, verdict_plan, target_of, text_on, IfFilesKnown, IsAfterWork, KeepsSink, KeepsPlace, CanReadAll, CanCreateFor}
use Rattle.jfr_cli.specs.declared.answer.Answer.{Answer}
use Rattle.jfr_cli.specs.declared.answer.Answer.TheVariants as answer_kinds
use Rattle.jfr_cli.specs.Answers.{status_of, line_of, answer_status, answer_line, doubt_line, unbuilt_line, usage_line, read_line, write_line, memory_line, parts_line, IsAnswered, Fully, IsLineWritten, IsMemoryLineWritten}
use Rattle.jfr_cli.specs.Answers as answers
use Rattle.jfr_cli.proofs.Leaving.{known_by}
use Rattle.jfr_cli.proofs.Counting.{none_rose, tallied_once, text_leaves, place_passed, sink_passed, writes_stay}
use Rattle.jfr_cli.specs.Runs.{Carries, Obeys, NoOrder, NotRead, CarriedOut, Under, WorkEnded, WorkHalted, WorkBroken, IsPartlyDone, Prefix, Whole, Met, Torn, CarriesTo, CountsOnce, Doubts, HasStatus, KeepsText, WorkPartly, IsCheck, IsDoubted, IsUnbuilt, IsTooLong, IsVerdictStatus, Unbuilds, ByEnd, ByMemory, status_of_end, status_of_verdict, IsRefused}
use Rattle.jfr_cli.specs.Runs as runs

-- The state after an ending, if memory ran out for its line.
partly : (k : Work) (end : Ending) (a b : Outside) → IsAfterWork k (command_end end) a b → Tallied (target_of k) (command_end end) a b → IsPartlyDone k a b
partly k Done a b l t = Whole Fine l
partly k (Refused x) a b l t = Whole (ends.Refused x) l
partly k TooManyParts a b l t = Whole ends.TooMany l
partly k (MaskTooLong n) a b l t = Whole (ends.TooLong n) l
partly k ReadFault a b l t = Met l
partly k WriteFault a b l t = Torn (plan.write_rose (target_of k) WriteFault a b t refl) l
partly k Memory a b l t = Prefix l

-- Nothing is done.
unchanged : (k : Work) (a : Outside) → IsPartlyDone k a a
unchanged k a = Prefix (by_work k)
  where
    nothing : (es : List Effect) (s : Snapshot) → SomeDone es s s
    nothing es s = record { first = []; rest = es; parts = refl; holds = refl }

    same : (t : Option World) (P : World → World → Type 0) → ((w : World) → P w w) → IfKnown t t P
    same None P h = tt
    same (Some w) P h = h w

    by_work : (k : Work) → WorkPartly k a a
    by_work (Over r input) = same a.place.contents (λ w v. StopsAs (Over r input) w (snapshot w (text_on r.target a.sink)) (snapshot v (text_on r.target a.sink)))
        (λ w. nothing (effects (plan_in r input w).steps) (snapshot w (text_on r.target a.sink)))
    by_work (Joins folder output) = same a.place.contents (λ w v. StopsAs (Joins folder output) w (snapshot w None) (snapshot v None))
        (λ w. nothing (effects (assembling folder output w.files).steps) (snapshot w None))
    by_work (Planned p) = λ w. nothing (effects p.steps) (snapshot w a.sink.written)
    by_work (Checks g input output receipt) = same a.place.contents (λ w v. snapshot v a.sink.written ≡ snapshot w a.sink.written) (λ w. refl)
    by_work (Masks k) = same a.place.contents (λ w v. StopsAs (Masks k) w (snapshot w None) (snapshot v None)) (λ w. nothing (effects (mask_plan k w).steps) (snapshot w None))
    by_work (Builds text output) = same a.place.contents (λ w v. StopsAs (Builds text output) w (snapshot w None) (snapshot v None))
        (λ w. nothing (effects (building output (file w text)).steps) (snapshot w None))

-- A doubt changes nothing.
doubt_partly : (k : Work) (chunk : ℕ) (doubt : Doubt) (a b : Outside) → Doubts k chunk doubt a b → IsPartlyDone k a b
doubt_partly (Over r input) chunk doubt a b d = absurd d.check
doubt_partly (Joins folder output) chunk doubt a b d = absurd d.check
doubt_partly (Planned p) chunk doubt a b d = absurd d.check
doubt_partly (Checks g input output receipt) chunk doubt a b d =
    Prefix
    (known_by a.place.contents b.place.contents (λ w v. VerdictOf g (three input output receipt w) (verdicts.Doubted chunk doubt) × (snapshot v b.sink.written ≡ snapshot w a.sink.written))
    (λ w v. snapshot v b.sink.written ≡ snapshot w a.sink.written) d.verdict
    (λ w v x. x.1))
doubt_partly (Builds text output) chunk doubt a b d = absurd d.check
doubt_partly (Masks k) chunk doubt a b d = absurd d.check

-- A refused text changes nothing.
refusal_partly : (k : Work) (line : ℕ) (reason : BuildReason) (a b : Outside) → Unbuilds k line reason a b → IsPartlyDone k a b
refusal_partly (Over r input) line reason a b d = absurd d.build
refusal_partly (Joins folder output) line reason a b d = absurd d.build
refusal_partly (Planned p) line reason a b d = absurd d.build
refusal_partly (Checks g input output receipt) line reason a b d = absurd d.build
refusal_partly (Masks k) line reason a b d = absurd d.build
refusal_partly (Builds text output) line reason a b d =
    Prefix
    (known_by a.place.contents b.place.contents (λ w v. IsRefusedText (file w text) line reason × (snapshot v None ≡ snapshot w None))
    (λ w v. SomeDone (effects (building output (file w text)).steps) (snapshot w None) (snapshot v None)) d.refused
    (λ w v x. record { first = []; rest = effects (building output (file w text)).steps; parts = refl; holds = x.1 }))

-- If memory ran out, any end may be planned.
five : {r : ℕ} {e f : SinkState} {line : Option (List ℕ)} → IsAnswered 5 line r e f → r ≡ 5
five (Fully p q) = p
five (answers.ForMemory p q) = p

any_end : {r : ℕ} (t : Option World) (k : Work) → r ≡ 5 → IfSome t (HasStatus k r)
any_end None k p = tt
any_end (Some w) (Over r input) p = ByMemory p
any_end (Some w) (Joins folder output) p = ByMemory p
any_end (Some w) (Planned plan) p = ByMemory p
any_end (Some w) (Checks g input output receipt) p = runs.ForMemory p
any_end (Some w) (Builds text output) p = runs.OutOfMemory p
any_end (Some w) (Masks k) p = ByMemory p

-- Which endings have a status.
done_status : (e : Ending) → status_of e ≡ 0 → e ≡ Done
done_status Done h = refl
done_status (Refused x) h = absurd (omega (arith, h))
done_status ReadFault h = absurd (omega (arith, h))
done_status WriteFault h = absurd (omega (arith, h))
done_status Memory h = absurd (omega (arith, h))
done_status TooManyParts h = absurd (omega (arith, h))
done_status (MaskTooLong n) h = absurd (omega (arith, h))

read_status : (e : Ending) → status_of e ≡ 3 → e ≡ ReadFault
read_status Done h = absurd (omega (arith, h))
read_status (Refused x) h = absurd (omega (arith, h))
read_status ReadFault h = refl
read_status WriteFault h = absurd (omega (arith, h))
read_status Memory h = absurd (omega (arith, h))
read_status TooManyParts h = absurd (omega (arith, h))
read_status (MaskTooLong n) h = absurd (omega (arith, h))

write_status : (e : Ending) → status_of e ≡ 4 → e ≡ WriteFault
write_status Done h = absurd (omega (arith, h))
write_status (Refused x) h = absurd (omega (arith, h))
write_status ReadFault h = absurd (omega (arith, h))
write_status WriteFault h = refl
write_status Memory h = absurd (omega (arith, h))
write_status TooManyParts h = absurd (omega (arith, h))
write_status (MaskTooLong n) h = absurd (omega (arith, h))

parts_status : (e : Ending) → status_of e ≡ 6 → e ≡ TooManyParts
parts_status Done h = absurd (omega (arith, h))
parts_status (Refused x) h = absurd (omega (arith, h))
parts_status ReadFault h = absurd (omega (arith, h))
parts_status WriteFault h = absurd (omega (arith, h))
parts_status Memory h = absurd (omega (arith, h))
parts_status TooManyParts h = refl
parts_status (MaskTooLong n) h = absurd (omega (arith, h))

long_status : (e : Ending) → status_of e ≡ 9 → (n : ℕ) × (e ≡ MaskTooLong n)
long_status Done h = absurd (omega (arith, h))
long_status (Refused x) h = absurd (omega (arith, h))
long_status ReadFault h = absurd (omega (arith, h))
long_status WriteFault h = absurd (omega (arith, h))
long_status Memory h = absurd (omega (arith, h))
long_status TooManyParts h = absurd (omega (arith, h))
long_status (MaskTooLong n) h = (n, refl)

refused_status : (e : Ending) → status_of e ≡ 2 → (r : Refusal) × (e ≡ Refused r)
refused_status Done h = absurd (omega (arith, h))
refused_status (Refused x) h = (x, refl)
refused_status ReadFault h = absurd (omega (arith, h))
refused_status WriteFault h = absurd (omega (arith, h))
refused_status Memory h = absurd (omega (arith, h))
refused_status TooManyParts h = absurd (omega (arith, h))
refused_status (MaskTooLong n) h = absurd (omega (arith, h))

-- What was carried out, if the status isn't that of a usage error or of running out of memory.
record Obeyed (ws : List (List ℕ)) (status : ℕ) (a b : Outside) (e f : SinkState) : Type 0 where
  pub order : Order
  pub is : order_of ws ≡ Some order
  pub end : Ending
  pub carries : Carries order end a b
  pub status_is : status_of end ≡ status
  pub said : answers.IsAnyLineWritten (line_of end) e f

from_told : (t s : Option World) (P : World → World → Type 0) (Q : World → Type 0) → IfKnown t s P → ((w v : World) → P w v → Q w) → IfSome t Q
from_told None s P Q h f = tt
from_told (Some w) None P Q h f = absurd h
from_told (Some w) (Some v) P Q h f = f w v h

from_files : (k : Work) (a b : Outside) (P : World → World → Snapshot → Snapshot → Type 0) (Q : World → Type 0) → IfFilesKnown k a b P
    → ((w v : World) → P w v (snapshot w (text_on (target_of k) a.sink)) (snapshot v (text_on (target_of k) b.sink)) → Q w) → IfSome a.place.contents Q
from_files (Over r input) a b P Q h f = from_told a.place.contents b.place.contents (λ w v. P w v (snapshot w (text_on r.target a.sink)) (snapshot v (text_on r.target b.sink))) Q h f
from_files (Joins folder output) a b P Q h f = from_told a.place.contents b.place.contents (λ w v. P w v (snapshot w None) (snapshot v None)) Q h f
from_files (Checks g input output receipt) a b P Q h f = from_told a.place.contents b.place.contents (λ w v. P w v (snapshot w a.sink.written) (snapshot v b.sink.written)) Q h f
from_files (Builds text output) a b P Q h f = from_told a.place.contents b.place.contents (λ w v. P w v (snapshot w None) (snapshot v None)) Q h f
from_files (Masks k) a b P Q h f = from_told a.place.contents b.place.contents (λ w v. P w v (snapshot w None) (snapshot v None)) Q h f
from_files (Planned p) a b P Q h f = by_told a.place.contents
  where
    by_told : (t : Option World) → IfSome t Q
    by_told None = tt
    by_told (Some w) = f w w (h w)

-- The status of a verdict whose plan has this end.
verdict_end : (x : Verdict) (e : End) → (verdict_plan x).end ≡ Some e → status_of_verdict x ≡ status_of_end e
verdict_end (verdicts.Verified n) Fine h = refl
verdict_end (verdicts.Verified n) (ends.Refused r) h = cc
verdict_end (verdicts.Verified n) ends.TooMany h = cc
verdict_end (verdicts.Verified n) (ends.TooLong m) h = cc
verdict_end (verdicts.Refused r) Fine h = cc
verdict_end (verdicts.Refused r) (ends.Refused q) h = refl
verdict_end (verdicts.Refused r) ends.TooMany h = cc
verdict_end (verdicts.Refused r) (ends.TooLong m) h = cc
verdict_end (verdicts.Doubted chunk doubt) e h = cc
verdict_end verdicts.ReadFault e h = cc
verdict_end verdicts.Memory e h = cc

-- A text whose plan has an end is built, and the end is that of success.
built_end : (text output : List ℕ) (w : World) (r : ℕ) (x : End) → r ≡ status_of_end x → (building output (file w text)).end ≡ Some x → HasStatus (Builds text output) r w
built_end text output w r x p h = by_build (option_map build_of (file w text)) refl h
  where
    by_build : (o : Option Build) → option_map build_of (file w text) ≡ o → (plan_by output o).end ≡ Some x → HasStatus (Builds text output) r w
    by_build None e h = cc
    by_build (Some (Err refusal)) e h = cc
    by_build (Some (Ok chunk)) e h = runs.ByChunk chunk e (p ∙ ap status_of_end (fine x h))
      where
        fine : (x : End) → ◌≡◌ {A = Option End} (Some Fine) (Some x) → x ≡ Fine
        fine Fine h = refl
        fine (ends.Refused q) h = cc
        fine ends.TooMany h = cc
        fine (ends.TooLong n) h = cc

-- The ending is the plan's, and its status is answered.
planned : (k : Work) (a b : Outside) (r : ℕ) (x : End) → r ≡ status_of_end x → WorkEnded k x a b → IfSome a.place.contents (HasStatus k r)
planned k a b r x p h = from_files k a b (λ w v s t. Plans k w (λ q. AllDone q x s t)) (HasStatus k r) h
    (λ w v. by_work k w (snapshot w (text_on (target_of k) a.sink)) (snapshot v (text_on (target_of k) b.sink)))
  where
    by_work : (k : Work) (w : World) (s t : Snapshot) → Plans k w (λ q. AllDone q x s t) → HasStatus k r w
    by_work (Over rule input) w s t d = ByEnd x d.end p
    by_work (Joins folder output) w s t d = ByEnd x d.end p
    by_work (Masks k) w s t d = ByEnd x d.end p
    by_work (Planned q) w s t d = ByEnd x d.end p
    by_work (Checks g input output receipt) w s t d = runs.ByVerdict d.0 d.1 (p ∙ sym (verdict_end d.0 x d.2.end))
    by_work (Builds text output) w s t d = built_end text output w r x p d.end

-- A doubt is the verdict of a check.
doubted_status : (k : Work) (chunk : ℕ) (doubt : Doubt) (a b : Outside) (r : ℕ) → r ≡ 7 → Doubts k chunk doubt a b → IfSome a.place.contents (HasStatus k r)
doubted_status (Over rule input) chunk doubt a b r p d = absurd d.check
doubted_status (Joins folder output) chunk doubt a b r p d = absurd d.check
doubted_status (Planned q) chunk doubt a b r p d = absurd d.check
doubted_status (Checks g input output receipt) chunk doubt a b r p d =
    from_told a.place.contents b.place.contents (λ w v. VerdictOf g (three input output receipt w) (verdicts.Doubted chunk doubt) × (snapshot v b.sink.written ≡ snapshot w a.sink.written))
    (HasStatus (Checks g input output receipt) r) d.verdict
    (λ w v x. runs.ByVerdict (verdicts.Doubted chunk doubt) x.0 p)
doubted_status (Builds text output) chunk doubt a b r p d = absurd d.check
doubted_status (Masks k) chunk doubt a b r p d = absurd d.check

-- A refusal is what is built of a text.
unbuilt_status : (k : Work) (line : ℕ) (reason : BuildReason) (a b : Outside) (r : ℕ) → r ≡ 8 → Unbuilds k line reason a b → IfSome a.place.contents (HasStatus k r)
unbuilt_status (Over rule input) line reason a b r p d = absurd d.build
unbuilt_status (Joins folder output) line reason a b r p d = absurd d.build
unbuilt_status (Planned q) line reason a b r p d = absurd d.build
unbuilt_status (Checks g input output receipt) line reason a b r p d = absurd d.build
unbuilt_status (Masks k) line reason a b r p d = absurd d.build
unbuilt_status (Builds text output) line reason a b r p d =
    from_told a.place.contents b.place.contents (λ w v. IsRefusedText (file w text) line reason × (snapshot v None ≡ snapshot w None)) (HasStatus (Builds text output) r) d.refused
    (λ w v x. runs.ByRefusal (record { line = line; reason = reason }) x.0 p)

complete_by : (k : Work) (end : Ending) (a b : Outside) (r : ℕ) (e f : SinkState) → IsAnswered (status_of end) (line_of end) r e f → IsAfterWork k (command_end end) a b
    → Tallied (target_of k) (command_end end) a b
    → (Rose a.place.read_faults b.place.read_faults → ⊥) → (Rose (write_count (target_of k) a) (write_count (target_of k) b) → ⊥) → IfSome a.place.contents (HasStatus k r)
complete_by k end a b r e f (answers.ForMemory p q) l t no_read no_write = any_end a.place.contents k p
complete_by k Done a b r e f (Fully p q) l t no_read no_write = planned k a b r Fine p l
complete_by k (Refused x) a b r e f (Fully p q) l t no_read no_write = planned k a b r (ends.Refused x) p l
complete_by k TooManyParts a b r e f (Fully p q) l t no_read no_write = planned k a b r ends.TooMany p l
complete_by k (MaskTooLong n) a b r e f (Fully p q) l t no_read no_write = planned k a b r (ends.TooLong n) p l
complete_by k ReadFault a b r e f (Fully p q) l t no_read no_write = absurd (no_read (plan.read_rose (target_of k) ReadFault a b t refl))
complete_by k WriteFault a b r e f (Fully p q) l t no_read no_write = absurd (no_write (plan.write_rose (target_of k) WriteFault a b t refl))
complete_by k Memory a b r e f (Fully p q) l t no_read no_write = any_end a.place.contents k p

-- The line of an ending with status 5 is the one for running out of memory.
no_room_said : (end : Ending) (e f : SinkState) → status_of end ≡ 5 → answers.IsAnyLineWritten (line_of end) e f → IsMemoryLineWritten e f
no_room_said Done e f h q = absurd (omega (arith, h))
no_room_said (Refused x) e f h q = absurd (omega (arith, h))
no_room_said ReadFault e f h q = absurd (omega (arith, h))
no_room_said WriteFault e f h q = absurd (omega (arith, h))
no_room_said Memory e f h q = answers.Line q
no_room_said TooManyParts e f h q = absurd (omega (arith, h))
no_room_said (MaskTooLong n) e f h q = absurd (omega (arith, h))

order_same : (ws : List (List ℕ)) (o p : Order) → order_of ws ≡ Some o → order_of ws ≡ Some p → o ≡ p
order_same ws o p e f = cc

module _ (ws : List (List ℕ)) (n : ℕ) (a b : Outside) (e f : SinkState) (x : Obeyed ws n a b e f) (end : Ending) (is : x.end ≡ end) where
  -- The state, the counts and the line after an order, if its ending is known.
  left : IsAfterWork (work_of x.order) (command_end end) a b
  left = subst (λ z. IsAfterWork (work_of x.order) (command_end z) a b) is x.carries.leaves

  counted : Tallied (target_of (work_of x.order)) (command_end end) a b
  counted = subst (λ z. Tallied (target_of (work_of x.order)) (command_end z) a b) is x.carries.counts

  said_by : answers.IsAnyLineWritten (line_of end) e f
  said_by = subst (λ z. answers.IsAnyLineWritten (line_of z) e f) is x.said

-- A fault that was counted ended the work, and its status is answered.
passed : (r n : ℕ) (end x : Ending) (e f : SinkState) → n ≡ status_of end → x ≡ end → IsAnswered (status_of x) (line_of x) r e f → (r ≡ n) ⊎ (r ≡ 5)
passed r n end x e f m is (Fully p q) = inl (p ∙ (ap status_of is ∙ sym m))
passed r n end x e f m is (answers.ForMemory p q) = inr p

not_less : (n m : ℕ) → m ≡ n → n < m → ⊥
not_less n m k l = omega (arith, k, l)

-- An ending that isn't a fault isn't answered as one.
not_read : (r : ℕ) (e f : SinkState) (end : Ending) → (end ≡ ReadFault → ⊥) → IsAnswered (status_of end) (line_of end) r e f → r ≡ 3 → ⊥
not_read r e f end n (Fully p q) h = n (read_status end (sym p ∙ h))
not_read r e f end n (answers.ForMemory p q) h = omega (arith, p, h)

not_write : (r : ℕ) (e f : SinkState) (end : Ending) → (end ≡ WriteFault → ⊥) → IsAnswered (status_of end) (line_of end) r e f → r ≡ 4 → ⊥
not_write r e f end n (Fully p q) h = n (write_status end (sym p ∙ h))
not_write r e f end n (answers.ForMemory p q) h = omega (arith, p, h)

keeps_sink : (t : Target) (s z : SinkState) → z ≡ s → KeepsSink t s z
keeps_sink Text s z h = tt
keeps_sink File s z h = h
keeps_sink Parts s z h = h
keeps_sink Masked s z h = h

keeps_place : (k : Work) (s z : State) → z ≡ s → KeepsPlace k s z
keeps_place (Over rule input) s z h = tt
keeps_place (Joins folder output) s z h = tt
keeps_place (Planned p) s z h = h
keeps_place (Checks g input output receipt) s z h = tt
keeps_place (Builds text output) s z h = tt
keeps_place (Masks k) s z h = tt

check_sink : (k : Work) (s z : SinkState) → IsCheck k → KeepsSink (target_of k) s z
check_sink (Over rule input) s z c = absurd c
check_sink (Joins folder output) s z c = absurd c
check_sink (Planned p) s z c = absurd c
check_sink (Checks g input output receipt) s z c = tt
check_sink (Builds text output) s z c = absurd c
check_sink (Masks k) s z c = absurd c

check_place : (k : Work) (s z : State) → IsCheck k → KeepsPlace k s z
check_place (Over rule input) s z c = absurd c
check_place (Joins folder output) s z c = absurd c
check_place (Planned p) s z c = absurd c
check_place (Checks g input output receipt) s z c = tt
check_place (Builds text output) s z c = absurd c
check_place (Masks k) s z c = absurd c

build_place : (k : Work) (s z : State) → runs.IsBuild k → KeepsPlace k s z
build_place (Over rule input) s z c = absurd c
build_place (Joins folder output) s z c = absurd c
build_place (Planned p) s z c = absurd c
build_place (Checks g input output receipt) s z c = absurd c
build_place (Builds text output) s z c = tt
build_place (Masks k) s z c = absurd c

-- The status of an ending is at most 6, or 9.
ending_status : (x : Ending) → (status_of x ≤ 6) ⊎ (status_of x ≡ 9)
ending_status Done = inl (omega arith)
ending_status (Refused r) = inl (omega arith)
ending_status ReadFault = inl (omega arith)
ending_status WriteFault = inl (omega arith)
ending_status Memory = inl (omega arith)
ending_status TooManyParts = inl (omega arith)
ending_status (MaskTooLong n) = inr refl

-- It isn't that of a doubt or of a text that is refused.
no_judgement : (x : Ending) → 7 ≤ status_of x → status_of x ≤ 8 → ⊥
no_judgement x low high = by_status (ending_status x)
  where
    by_status : (status_of x ≤ 6) ⊎ (status_of x ≡ 9) → ⊥
    by_status (inl h) = omega (arith, h, low)
    by_status (inr h) = omega (arith, h, high)

most_status : (x : Ending) → status_of x ≤ 9
most_status x = by_status (ending_status x)
  where
    by_status : (status_of x ≤ 6) ⊎ (status_of x ≡ 9) → status_of x ≤ 9
    by_status (inl h) = omega (arith, h)
    by_status (inr h) = omega (arith, h)

by_plan : (end : Ending) → (status_of end ≡ 0) ⊎ (status_of end ≡ 2) → IsByPlan end
by_plan Done h = tt
by_plan (Refused y) h = tt
by_plan ReadFault (inl h) = absurd (omega (arith, h))
by_plan ReadFault (inr h) = absurd (omega (arith, h))
by_plan WriteFault (inl h) = absurd (omega (arith, h))
by_plan WriteFault (inr h) = absurd (omega (arith, h))
by_plan TooManyParts (inl h) = absurd (omega (arith, h))
by_plan (MaskTooLong n) (inl h) = absurd (omega (arith, h))
by_plan TooManyParts (inr h) = absurd (omega (arith, h))
by_plan (MaskTooLong n) (inr h) = absurd (omega (arith, h))
by_plan Memory (inl h) = absurd (omega (arith, h))
by_plan Memory (inr h) = absurd (omega (arith, h))

-- A doubt, or a text that is refused, with its status: nothing was done, and no fault was counted.
pub record Judged (o : Order) (status : ℕ) (a b : Outside) : Type 0 where
  pub low : 7 ≤ status
  pub high : status ≤ 8
  pub partly_done : IsPartlyDone (work_of o) a b
  pub counts : Counted Unchanged Unchanged Unchanged a b
  pub sink : KeepsSink (target_of (work_of o)) a.sink b.sink
  pub place : KeepsPlace (work_of o) a.place b.place
  pub has_status : IfSome a.place.contents (HasStatus (work_of o) status)

judged_doubt : (o : Order) (chunk : ℕ) (doubt : Doubt) (a b : Outside) → Doubts (work_of o) chunk doubt a b → Judged o 7 a b
judged_doubt o chunk doubt a b d = record {
  low = omega arith;
  high = omega arith;
  partly_done = doubt_partly (work_of o) chunk doubt a b d;
  counts = d.counts;
  sink = check_sink (work_of o) a.sink b.sink d.check;
  place = check_place (work_of o) a.place b.place d.check;
  has_status = doubted_status (work_of o) chunk doubt a b 7 refl d;
}

judged_refusal : (o : Order) (line : ℕ) (reason : BuildReason) (a b : Outside) → Unbuilds (work_of o) line reason a b → Judged o 8 a b
judged_refusal o line reason a b d = record {
  low = omega arith;
  high = omega arith;
  partly_done = refusal_partly (work_of o) line reason a b d;
  counts = d.counts;
  sink = keeps_sink (target_of (work_of o)) a.sink b.sink d.sink;
  place = build_place (work_of o) a.place b.place d.build;
  has_status = unbuilt_status (work_of o) line reason a b 8 refl d;
}

-- The words are a usage error and nothing is done; or memory ran out while they were read, and nothing is
-- done; or they are an order, which is carried out. The status and the line are those of the ending, of the
-- doubt or of the text's refusal.
pub data Answers (words : List (List ℕ)) (answer : ℕ) (a b : Outside) (e f : SinkState) : Type 0 where
  Usage : order_of words ≡ None → b ≡ a → IsAnswered 1 (Some usage_line) answer e f → Answers words answer a b e f
  Unread : b ≡ a → IsAnswered 5 (Some memory_line) answer e f → Answers words answer a b e f
  Carried : (o : Order) → order_of words ≡ Some o → (end : Ending) → Carries o end a b → IsAnswered (status_of end) (line_of end) answer e f → Answers words answer a b e f
  Stayed : (o : Order) → order_of words ≡ Some o → (x : Answer) → CarriesTo o x a b → Judged o (answer_status x) a b → IsAnswered (answer_status x) (answer_line x) answer e f
      → Answers words answer a b e f

pub answers_by : (words : List (List ℕ)) (x : Answer) (answer : ℕ) (a b : Outside) (e f : SinkState) → Obeys words x a b → IsAnswered (answer_status x) (answer_line x) answer e f
    → Answers words answer a b e f
answers_by words x answer a b e f (NoOrder o is s) t = Usage o s (subst (λ x. IsAnswered (answer_status x) (answer_line x) answer e f) is t)
answers_by words x answer a b e f (NotRead is s) t = Unread s (subst (λ x. IsAnswered (answer_status x) (answer_line x) answer e f) is t)
answers_by words answer_kinds.Usage answer a b e f (CarriedOut o known c) t = absurd c
answers_by words (answer_kinds.Ended end) answer a b e f (CarriedOut o known c) t = Carried o known end c t
answers_by words (answer_kinds.Doubted chunk doubt) answer a b e f (CarriedOut o known c) t = Stayed o known (answer_kinds.Doubted chunk doubt) c (judged_doubt o chunk doubt a b c) t
answers_by words (answer_kinds.Unbuilt line reason) answer a b e f (CarriedOut o known c) t = Stayed o known (answer_kinds.Unbuilt line reason) c (judged_refusal o line reason a b c) t

-- The status of such an answer is its own, or 5 if memory ran out.
not_stayed : {o : Order} {r : ℕ} {a b : Outside} {e f : SinkState} (x : Answer) → Judged o (answer_status x) a b → IsAnswered (answer_status x) (answer_line x) r e f → (7 ≤ r → r ≤ 8 → ⊥)
    → (r ≡ 5 → ⊥) → ⊥
not_stayed x j (Fully p q) no_judgement room = no_judgement (omega (arith, j.low, p)) (omega (arith, j.high, p))
not_stayed x j (answers.ForMemory p q) no_judgement room = room p

module _ {ws : List (List ℕ)} {r : ℕ} {a b : Outside} {e f : SinkState} where
  obeyed : Answers ws r a b e f → (n : ℕ) → r ≡ n → (n ≡ 1 → ⊥) → (n ≡ 5 → ⊥) → (7 ≤ n → n ≤ 8 → ⊥) → Obeyed ws n a b e f
  obeyed (Usage o s (Fully p q)) n h no_usage room small = absurd (no_usage (sym h ∙ p))
  obeyed (Usage o s (answers.ForMemory p q)) n h no_usage room small = absurd (room (sym h ∙ p))
  obeyed (Unread s t) n h no_usage room small = absurd (room (sym h ∙ five t))
  obeyed (Carried o is end c (answers.ForMemory p q)) n h no_usage room small = absurd (room (sym h ∙ p))
  obeyed (Carried o is end c (Fully p q)) n h no_usage room small = record { order = o; is = is; end = end; carries = c; status_is = sym p ∙ h; said = q }
  obeyed (Stayed o is x d j t) n h no_usage room small = absurd (not_stayed x j t (λ y z. small (omega (arith, h, y)) (omega (arith, h, z))) (λ m. room (sym h ∙ m)))

  pub usage_told : Answers ws r a b e f → r ≡ 1 → (order_of ws ≡ None) × IsLineWritten usage_line e f
  usage_told (Usage o s (Fully p q)) h = (o, q)
  usage_told (Usage o s (answers.ForMemory p q)) h = absurd (omega (arith, p, h))
  usage_told (Unread s t) h = absurd (omega (arith, five t, h))
  usage_told (Carried o is end c (answers.ForMemory p q)) h = absurd (omega (arith, p, h))
  usage_told (Carried o is end c (Fully p q)) h = absurd (never end (sym p ∙ h))
    where
      never : (x : Ending) → status_of x ≡ 1 → ⊥
      never Done k = omega (arith, k)
      never (Refused x) k = omega (arith, k)
      never ReadFault k = omega (arith, k)
      never WriteFault k = omega (arith, k)
      never Memory k = omega (arith, k)
      never TooManyParts k = omega (arith, k)
      never (MaskTooLong n) k = omega (arith, k)
  usage_told (Stayed o is x d j t) h = absurd (not_stayed x j t (λ y z. omega (arith, h, y, z)) (λ m. omega (arith, m, h)))

  pub usage_only : Answers ws r a b e f → order_of ws ≡ None → (r ≡ 1) ⊎ (r ≡ 5)
  usage_only (Usage o s (Fully p q)) h = inl p
  usage_only (Usage o s (answers.ForMemory p q)) h = inr p
  usage_only (Unread s t) h = inr (five t)
  usage_only (Carried o is end c t) h = cc
  usage_only (Stayed o is x d j t) h = cc

  pub untouched : Answers ws r a b e f → order_of ws ≡ None → b ≡ a
  untouched (Usage o s t) h = s
  untouched (Unread s t) h = s
  untouched (Carried o is end c t) h = cc
  untouched (Stayed o is x d j t) h = cc

  pub done_told : Answers ws r a b e f → r ≡ 0 → Under ws (λ o. WorkEnded (work_of o) Fine a b) × (f ≡ e)
  done_told x h =
      let k = obeyed x 0 h (λ z. omega (arith, z)) (λ z. omega (arith, z)) (λ y z. omega (arith, y, z)) in
      let d = done_status k.end k.status_is in
      ((k.order, k.is, left ws 0 a b e f k Done d), said_by ws 0 a b e f k Done d)

  pub refused_told : Answers ws r a b e f → r ≡ 2 → Under ws (λ o. IsRefused (work_of o) a b e f)
  refused_told x h =
      let k = obeyed x 2 h (λ z. omega (arith, z)) (λ z. omega (arith, z)) (λ y z. omega (arith, y, z)) in
      let d = refused_status k.end k.status_is in
      (k.order, k.is, record { refusal = d.0; ended = left ws 2 a b e f k (Refused d.0) d.1; said = said_by ws 2 a b e f k (Refused d.0) d.1 })

  pub halted_told : Answers ws r a b e f → r ≡ 3 → Under ws (λ o. WorkHalted (work_of o) a b) × IsLineWritten read_line e f × Rose a.place.read_faults b.place.read_faults
  halted_told x h =
      let k = obeyed x 3 h (λ z. omega (arith, z)) (λ z. omega (arith, z)) (λ y z. omega (arith, y, z)) in
      let d = read_status k.end k.status_is in
      ((k.order, k.is, left ws 3 a b e f k ReadFault d), said_by ws 3 a b e f k ReadFault d, plan.read_rose (target_of (work_of k.order)) ReadFault a b (counted ws 3 a b e f k ReadFault d) refl)

  pub broken_told : Answers ws r a b e f → r ≡ 4
      → Under ws (λ o. WorkBroken (work_of o) a b) × IsLineWritten write_line e f × Under ws (λ o. Rose (write_count (target_of (work_of o)) a) (write_count (target_of (work_of o)) b))
  broken_told x h =
      let k = obeyed x 4 h (λ z. omega (arith, z)) (λ z. omega (arith, z)) (λ y z. omega (arith, y, z)) in
      let d = write_status k.end k.status_is in (
        (k.order, k.is, left ws 4 a b e f k WriteFault d),
        said_by ws 4 a b e f k WriteFault d,
        (k.order, k.is, plan.write_rose (target_of (work_of k.order)) WriteFault a b (counted ws 4 a b e f k WriteFault d) refl),
      )

  pub parts_told : Answers ws r a b e f → r ≡ 6 → Under ws (λ o. WorkEnded (work_of o) ends.TooMany a b) × IsLineWritten parts_line e f
  parts_told x h =
      let k = obeyed x 6 h (λ z. omega (arith, z)) (λ z. omega (arith, z)) (λ y z. omega (arith, y, z)) in
      let d = parts_status k.end k.status_is in
      ((k.order, k.is, left ws 6 a b e f k TooManyParts d), said_by ws 6 a b e f k TooManyParts d)

  pub only_parts : Answers ws r a b e f → r ≡ 6 → Under ws (λ o. target_of (work_of o) ≡ Parts)
  only_parts x h =
      let k = obeyed x 6 h (λ z. omega (arith, z)) (λ z. omega (arith, z)) (λ y z. omega (arith, y, z)) in
      let c = counted ws 6 a b e f k TooManyParts (parts_status k.end k.status_is) in
      (k.order, k.is, c.0)

  -- A masked chunk would be too long.
  pub long_told : Answers ws r a b e f → r ≡ 9 → Under ws (λ o. IsTooLong (work_of o) a b e f)
  long_told x h =
      let k = obeyed x 9 h (λ z. omega (arith, z)) (λ z. omega (arith, z)) (λ y z. omega (arith, y, z)) in
      let d = long_status k.end k.status_is in
      (k.order, k.is, record { chunk = d.0; ended = left ws 9 a b e f k (MaskTooLong d.0) d.1; said = said_by ws 9 a b e f k (MaskTooLong d.0) d.1 })

  pub only_masks : Answers ws r a b e f → r ≡ 9 → Under ws (λ o. target_of (work_of o) ≡ Masked)
  only_masks x h =
      let k = obeyed x 9 h (λ z. omega (arith, z)) (λ z. omega (arith, z)) (λ y z. omega (arith, y, z)) in
      let d = long_status k.end k.status_is in
      let c = counted ws 9 a b e f k (MaskTooLong d.0) d.1 in
      (k.order, k.is, c.0)

  pub memory_told : Answers ws r a b e f → r ≡ 5 → (o : Order) → order_of ws ≡ Some o → IsPartlyDone (work_of o) a b
  memory_told (Usage p s t) h o is = cc
  memory_told (Unread s t) h o is = subst (λ z. IsPartlyDone (work_of o) a z) (sym s) (unchanged (work_of o) a)
  memory_told (Carried p known end c t) h o is = subst (λ z. IsPartlyDone (work_of z) a b) (order_same ws p o known is) (partly (work_of p) end a b c.leaves c.counts)
  memory_told (Stayed p known x d j t) h o is = subst (λ z. IsPartlyDone (work_of z) a b) (order_same ws p o known is) j.partly_done

  pub memory_line_written : Answers ws r a b e f → r ≡ 5 → IsMemoryLineWritten e f
  memory_line_written (Usage o s (Fully p q)) h = absurd (omega (arith, p, h))
  memory_line_written (Usage o s (answers.ForMemory p q)) h = q
  memory_line_written (Unread s (Fully p q)) h = answers.Line q
  memory_line_written (Unread s (answers.ForMemory p q)) h = q
  memory_line_written (Carried o is end c (answers.ForMemory p q)) h = q
  memory_line_written (Carried o is end c (Fully p q)) h = no_room_said end e f (sym p ∙ h) q
  memory_line_written (Stayed o is x d j (answers.ForMemory p q)) h = q
  memory_line_written (Stayed o is x d j (Fully p q)) h = absurd (omega (arith, j.low, p, h))

  pub doubted_told : Answers ws r a b e f → r ≡ 7 → Under ws (λ o. IsDoubted (work_of o) a b e f)
  doubted_told (Usage o s (Fully p q)) h = absurd (omega (arith, p, h))
  doubted_told (Usage o s (answers.ForMemory p q)) h = absurd (omega (arith, p, h))
  doubted_told (Unread s t) h = absurd (omega (arith, five t, h))
  doubted_told (Carried o is end c (Fully p q)) h = absurd (no_judgement end (omega (arith, p, h)) (omega (arith, p, h)))
  doubted_told (Carried o is end c (answers.ForMemory p q)) h = absurd (omega (arith, p, h))
  doubted_told (Stayed o is (answer_kinds.Doubted chunk doubt) d j (Fully p q)) h = (o, is, record { chunk = chunk; doubt = doubt; doubts = d; said = q })
  doubted_told (Stayed o is (answer_kinds.Unbuilt line reason) d j (Fully p q)) h = absurd (omega (arith, p, h))
  doubted_told (Stayed o is (answer_kinds.Ended end) d j (Fully p q)) h = absurd (no_judgement end j.low j.high)
  doubted_told (Stayed o is answer_kinds.Usage d j (Fully p q)) h = absurd d
  doubted_told (Stayed o is x d j (answers.ForMemory p q)) h = absurd (omega (arith, p, h))

  pub unbuilt_told : Answers ws r a b e f → r ≡ 8 → Under ws (λ o. IsUnbuilt (work_of o) a b e f)
  unbuilt_told (Usage o s (Fully p q)) h = absurd (omega (arith, p, h))
  unbuilt_told (Usage o s (answers.ForMemory p q)) h = absurd (omega (arith, p, h))
  unbuilt_told (Unread s t) h = absurd (omega (arith, five t, h))
  unbuilt_told (Carried o is end c (Fully p q)) h = absurd (no_judgement end (omega (arith, p, h)) (omega (arith, p, h)))
  unbuilt_told (Carried o is end c (answers.ForMemory p q)) h = absurd (omega (arith, p, h))
  unbuilt_told (Stayed o is (answer_kinds.Unbuilt line reason) d j (Fully p q)) h = (o, is, record { line = line; reason = reason; unbuilds = d; said = q })
  unbuilt_told (Stayed o is (answer_kinds.Doubted chunk doubt) d j (Fully p q)) h = absurd (omega (arith, p, h))
  unbuilt_told (Stayed o is (answer_kinds.Ended end) d j (Fully p q)) h = absurd (no_judgement end j.low j.high)
  unbuilt_told (Stayed o is answer_kinds.Usage d j (Fully p q)) h = absurd d
  unbuilt_told (Stayed o is x d j (answers.ForMemory p q)) h = absurd (omega (arith, p, h))

  pub statuses : Answers ws r a b e f → r ≤ 9
  statuses (Usage o s (Fully p q)) = omega (arith, p)
  statuses (Usage o s (answers.ForMemory p q)) = omega (arith, p)
  statuses (Unread s t) = omega (arith, five t)
  statuses (Carried o is end c (answers.ForMemory p q)) = omega (arith, p)
  statuses (Carried o is end c (Fully p q)) = omega (arith, most_status end, p)
  statuses (Stayed o is x d j (answers.ForMemory p q)) = omega (arith, p)
  statuses (Stayed o is x d j (Fully p q)) = omega (arith, j.high, p)

  pub no_read_passed : Answers ws r a b e f → a.place.read_faults < b.place.read_faults → (r ≡ 3) ⊎ (r ≡ 5)
  no_read_passed (Usage o s t) l = absurd (not_less a.place.read_faults b.place.read_faults (ap (λ (z : Outside). z.place.read_faults) s) l)
  no_read_passed (Unread s t) l = inr (five t)
  no_read_passed (Carried o is end c t) l = passed r 3 ReadFault end e f refl (plan.no_read_passed (target_of (work_of o)) end a b c.counts l) t
  no_read_passed (Stayed o is x d j t) l = absurd (not_less a.place.read_faults b.place.read_faults j.counts.0 l)

  pub no_write_passed : Answers ws r a b e f → a.place.write_faults < b.place.write_faults → (r ≡ 4) ⊎ (r ≡ 5)
  no_write_passed (Usage o s t) l = absurd (not_less a.place.write_faults b.place.write_faults (ap (λ (z : Outside). z.place.write_faults) s) l)
  no_write_passed (Unread s t) l = inr (five t)
  no_write_passed (Carried o is end c t) l = passed r 4 WriteFault end e f refl (place_passed (target_of (work_of o)) end a b c.counts l) t
  no_write_passed (Stayed o is x d j t) l = absurd (not_less a.place.write_faults b.place.write_faults j.counts.1 l)

  pub no_text_passed : Answers ws r a b e f → a.sink.faults < b.sink.faults → (r ≡ 4) ⊎ (r ≡ 5)
  no_text_passed (Usage o s t) l = absurd (not_less a.sink.faults b.sink.faults (ap (λ (z : Outside). z.sink.faults) s) l)
  no_text_passed (Unread s t) l = inr (five t)
  no_text_passed (Carried o is end c t) l = passed r 4 WriteFault end e f refl (sink_passed (target_of (work_of o)) end a b c.counts l) t
  no_text_passed (Stayed o is x d j t) l = absurd (not_less a.sink.faults b.sink.faults j.counts.2 l)

  pub one_count : Answers ws r a b e f → CountsOnce a b
  one_count (Usage o s t) = runs.NoneRose (none_rose a b s)
  one_count (Unread s t) = runs.NoneRose (none_rose a b s)
  one_count (Carried o is end c t) = tallied_once (target_of (work_of o)) (command_end end) a b c.counts
  one_count (Stayed o is x d j t) = runs.NoneRose j.counts

  pub text_writes : Answers ws r a b e f → (o : Order) → order_of ws ≡ Some o → target_of (work_of o) ≡ Text → b.place.write_faults ≡ a.place.write_faults
  text_writes (Usage p s t) o is text = cc
  text_writes (Unread s t) o is text = ap (λ (z : Outside). z.place.write_faults) s
  text_writes (Carried p known end c t) o is text =
      let target = ap (λ z. target_of (work_of z)) (order_same ws p o known is) ∙ text in
      text_leaves (command_end end) a b (subst (λ z. Tallied z (command_end end) a b) target c.counts)
  text_writes (Stayed p known x d j t) o is text = j.counts.1

  pub same_told : Answers ws r a b e f → b.place.steady ≡ a.place.steady
  same_told (Usage o s t) = ap (λ (z : Outside). z.place.steady) s
  same_told (Unread s t) = ap (λ (z : Outside). z.place.steady) s
  same_told (Carried o is end c t) = plan.same_clause (target_of (work_of o)) (command_end end) a b c.counts
  same_told (Stayed o is x d j t) = j.counts.3

  pub complete : Answers ws r a b e f → (o : Order) → order_of ws ≡ Some o → (Rose a.place.read_faults b.place.read_faults → ⊥)
      → (Rose (write_count (target_of (work_of o)) a) (write_count (target_of (work_of o)) b) → ⊥) → IfSome a.place.contents (HasStatus (work_of o) r)
  complete (Usage p s t) o is h i = cc
  complete (Unread s t) o is h i = any_end a.place.contents (work_of o) (five t)
  complete (Carried p known end c t) o is h i =
      let same = order_same ws p o known is in
      subst (λ z. IfSome a.place.contents (HasStatus (work_of z) r)) same
      (complete_by (work_of p) end a b r e f t c.leaves c.counts h (subst (λ z. Rose (write_count (target_of (work_of z)) a) (write_count (target_of (work_of z)) b) → ⊥) (sym same) i))
  complete (Stayed p known x d j (Fully m q)) o is h i =
      subst (λ z. IfSome a.place.contents (HasStatus (work_of z) r)) (order_same ws p o known is) (subst (λ n. IfSome a.place.contents (HasStatus (work_of p) n)) (sym m) j.has_status)
  complete (Stayed p known x d j (answers.ForMemory m q)) o is h i = any_end a.place.contents (work_of o) m

  pub can_read : Answers ws r a b e f → (o : Order) → order_of ws ≡ Some o → CanReadAll (work_of o) a.place → (r ≡ 3 → ⊥) × (b.place.read_faults ≡ a.place.read_faults)
  can_read (Usage p s t) o is can = cc
  can_read (Unread s t) o is can = ((λ h. omega (arith, five t, h)), ap (λ (z : Outside). z.place.read_faults) s)
  can_read (Carried p known end c t) o is can =
      let n = c.can_read (subst (λ z. CanReadAll (work_of z) a.place) (sym (order_same ws p o known is)) can) in
      (not_read r e f end n t, plan.reads_clause (target_of (work_of p)) end a b c.counts n)
  can_read (Stayed p known x d j t) o is can = ((λ h. not_stayed x j t (λ y z. omega (arith, h, y, z)) (λ m. omega (arith, m, h))), j.counts.0)

  pub can_create : Answers ws r a b e f → (o : Order) → order_of ws ≡ Some o → CanCreateFor o a.place → (r ≡ 4 → ⊥) × (b.place.write_faults ≡ a.place.write_faults)
  can_create (Usage p s t) o is can = cc
  can_create (Unread s t) o is can = ((λ h. omega (arith, five t, h)), ap (λ (z : Outside). z.place.write_faults) s)
  can_create (Carried p known end c t) o is can =
      let n = c.can_create (subst (λ z. CanCreateFor z a.place) (sym (order_same ws p o known is)) can) in
      (not_write r e f end n t, writes_stay (target_of (work_of p)) end a b c.counts n)
  can_create (Stayed p known x d j t) o is can = ((λ h. not_stayed x j t (λ y z. omega (arith, h, y, z)) (λ m. omega (arith, m, h))), j.counts.1)

  pub sink_told : Answers ws r a b e f → (o : Order) → order_of ws ≡ Some o → KeepsSink (target_of (work_of o)) a.sink b.sink
  sink_told (Usage p s t) o is = cc
  sink_told (Unread s t) o is = keeps_sink (target_of (work_of o)) a.sink b.sink (ap (λ (z : Outside). z.sink) s)
  sink_told (Carried p known end c t) o is = subst (λ z. KeepsSink (target_of (work_of z)) a.sink b.sink) (order_same ws p o known is) c.sink
  sink_told (Stayed p known x d j t) o is = subst (λ z. KeepsSink (target_of (work_of z)) a.sink b.sink) (order_same ws p o known is) j.sink

  pub place_told : Answers ws r a b e f → (o : Order) → order_of ws ≡ Some o → KeepsPlace (work_of o) a.place b.place
  place_told (Usage p s t) o is = cc
  place_told (Unread s t) o is = keeps_place (work_of o) a.place b.place (ap (λ (z : Outside). z.place) s)
  place_told (Carried p known end c t) o is = subst (λ z. KeepsPlace (work_of z) a.place b.place) (order_same ws p o known is) c.place
  place_told (Stayed p known x d j t) o is = subst (λ z. KeepsPlace (work_of z) a.place b.place) (order_same ws p o known is) j.place

  -- A check with status 2 or 3 writes no text.
  pub text_told : Answers ws r a b e f → (r ≡ 2) ⊎ (r ≡ 3) → (g : Given) (i o p : List ℕ) → order_of ws ≡ Some (orders.Verify g i o p) → b.sink ≡ a.sink
  text_told x (inl h) g i o p is =
      let k = obeyed x 2 h (λ z. omega (arith, z)) (λ z. omega (arith, z)) (λ y z. omega (arith, y, z)) in
      let d = refused_status k.end k.status_is in
      subst (λ z. KeepsText (work_of z) (Refused d.0) a.sink b.sink) (order_same ws k.order (orders.Verify g i o p) k.is is)
      (subst (λ z. KeepsText (work_of k.order) z a.sink b.sink) d.1 k.carries.text)
  text_told x (inr h) g i o p is =
      let k = obeyed x 3 h (λ z. omega (arith, z)) (λ z. omega (arith, z)) (λ y z. omega (arith, y, z)) in
      subst (λ z. KeepsText (work_of z) ReadFault a.sink b.sink) (order_same ws k.order (orders.Verify g i o p) k.is is)
      (subst (λ z. KeepsText (work_of k.order) z a.sink b.sink) (read_status k.end k.status_is) k.carries.text)

  -- What an order wrote that ended as its plan does.
  wrote_told : Answers ws r a b e f → (r ≡ 0) ⊎ (r ≡ 2) → (k : Order) → order_of ws ≡ Some k → (end : Ending) × IsByPlan end × runs.Wrote k end a.place b.place
  wrote_told (Usage p s t) h k is = cc
  wrote_told (Unread s t) (inl h) k is = absurd (omega (arith, five t, h))
  wrote_told (Unread s t) (inr h) k is = absurd (omega (arith, five t, h))
  wrote_told (Stayed p known x d j t) (inl h) k is = absurd (not_stayed x j t (λ y z. omega (arith, h, y, z)) (λ m. omega (arith, m, h)))
  wrote_told (Stayed p known x d j t) (inr h) k is = absurd (not_stayed x j t (λ y z. omega (arith, h, y, z)) (λ m. omega (arith, m, h)))
  wrote_told (Carried p known end c (answers.ForMemory m q)) (inl h) k is = absurd (omega (arith, m, h))
  wrote_told (Carried p known end c (answers.ForMemory m q)) (inr h) k is = absurd (omega (arith, m, h))
  wrote_told (Carried p known end c (Fully m q)) h k is = (end, by_plan end (planned_status m h), subst (λ z. runs.Wrote z end a.place b.place) (order_same ws p k known is) c.wrote)
    where
      planned_status : r ≡ status_of end → (r ≡ 0) ⊎ (r ≡ 2) → (status_of end ≡ 0) ⊎ (status_of end ≡ 2)
      planned_status m (inl h) = inl (sym m ∙ h)
      planned_status m (inr h) = inr (sym m ∙ h)

  pub headline_told : Answers ws r a b e f → (r ≡ 0) ⊎ (r ≡ 2) → (g : Given) (i o : List ℕ) → order_of ws ≡ Some (orders.Scrub g false i o)
      → IfKnown a.place.contents b.place.contents (Scrubs g (file_name i) (file_name o))
  headline_told x h g i o is = let w = wrote_told x h (orders.Scrub g false i o) is in w.2 w.1

  pub renumbered_told : Answers ws r a b e f → (r ≡ 0) ⊎ (r ≡ 2) → (g : Given) (i o : List ℕ) → order_of ws ≡ Some (orders.Scrub g true i o)
      → IfKnown a.place.contents b.place.contents (Renumbers g (file_name i) (file_name o))
  renumbered_told x h g i o is = let w = wrote_told x h (orders.Scrub g true i o) is in w.2 w.1

  pub masked_told : Answers ws r a b e f → (r ≡ 0) ⊎ (r ≡ 2) → (g : Given) (s : List (List ℕ)) (x : Option (List (List ℕ))) (k t : Option (List ℕ)) (i o : List ℕ)
      → order_of ws ≡ Some (orders.Mask g s x k t i o)
      → IfKnown a.place.contents b.place.contents (masks.Masks (mask_work g s x k t i o))
  masked_told answered h g s x k t i o is = let w = wrote_told answered h (orders.Mask g s x k t i o) is in w.2.output w.1

  pub table_told : Answers ws r a b e f → r ≡ 0 → (g : Given) (s : List (List ℕ)) (x : Option (List (List ℕ))) (k t : Option (List ℕ)) (i o : List ℕ) → order_of ws ≡ Some (orders.Mask g s x k t i o)
      → IfKnown a.place.contents b.place.contents (masks.WritesTable (mask_work g s x k t i o))
  table_told answered h g s x k t i o is =
      let d = obeyed answered 0 h (λ z. omega (arith, z)) (λ z. omega (arith, z)) (λ y z. omega (arith, y, z)) in
      let w = subst (λ z. runs.Wrote z d.end a.place b.place) (order_same ws d.order (orders.Mask g s x k t i o) d.is is) d.carries.wrote in
      w.table (done_status d.end d.status_is)

  pub verified_told : Answers ws r a b e f → r ≡ 0 → (g : Given) (i o p : List ℕ) → order_of ws ≡ Some (orders.Verify g i o p)
      → IfSome a.place.contents (λ w. (count : ℕ) × AllVerified g (three (file_name i) (file_name o) (file_name p) w) count)
  verified_told x h g i o p is =
      let k = obeyed x 0 h (λ z. omega (arith, z)) (λ z. omega (arith, z)) (λ y z. omega (arith, y, z)) in
      let w = subst (λ z. runs.Wrote z k.end a.place b.place) (order_same ws k.order (orders.Verify g i o p) k.is is) k.carries.wrote in
      w (done_status k.end k.status_is)

  pub built_told : Answers ws r a b e f → r ≡ 0 → (text output : List ℕ) → order_of ws ≡ Some (orders.Build text output)
      → IfKnown a.place.contents b.place.contents (streams.Builds (file_name text) (file_name output))
  built_told x h text output is =
      let k = obeyed x 0 h (λ z. omega (arith, z)) (λ z. omega (arith, z)) (λ y z. omega (arith, y, z)) in
      let w = subst (λ z. runs.Wrote z k.end a.place b.place) (order_same ws k.order (orders.Build text output) k.is is) k.carries.wrote in
      w (done_status k.end k.status_is)

  pub scrubs_told : ((g : Given) (t : Three) → HasOneVerdict g t) → ((g : Given) (t : Three) → HasVerifiedScrubs g t) → Answers ws r a b e f → (g : Given) (i o p : List ℕ)
      → order_of ws ≡ Some (orders.Verify g i o p)
      → (Rose a.place.read_faults b.place.read_faults → ⊥) → (Rose a.sink.faults b.sink.faults → ⊥)
      → IfSome a.place.contents (λ w. AreScrubs g (three (file_name i) (file_name o) (file_name p) w) → (r ≡ 0) ⊎ (r ≡ 5))
  scrubs_told one verified x g i o p is reads texts = by_told a.place.contents (complete x (orders.Verify g i o p) is reads texts)
    where
      by_status : (t : Three) → IsVerdictStatus g t r → AreScrubs g t → (r ≡ 0) ⊎ (r ≡ 5)
      by_status t (runs.ForMemory m) scrubs = inr m
      by_status t (runs.ByVerdict v is m) scrubs = inl (m ∙ ap status_of_verdict (one g t v (verdicts.Verified (length (recording_of scrubs.input).parts)) is (verified g t scrubs)))

      by_told : (t : Option World) → IfSome t (HasStatus (Checks g (file_name i) (file_name o) (file_name p)) r)
          → IfSome t (λ w. AreScrubs g (three (file_name i) (file_name o) (file_name p) w) → (r ≡ 0) ⊎ (r ≡ 5))
      by_told None h = tt
      by_told (Some w) h = by_status (three (file_name i) (file_name o) (file_name p) w) h
