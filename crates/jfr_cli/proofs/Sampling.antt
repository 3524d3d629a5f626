-- The sample's text on the output sink.
use Rattle.std.specs.Prelude.{◌≡◌, ◌≢◌, ℕ, List, [], Err, encode_utf8_all}
use Rattle.std.proofs.Common.{ap, refl}
use Rattle.jfr_outside.specs.World.{State, SinkState, IsAfterAppend, added}
use Rattle.jfr_outside.specs.Counts.{Counts}
use Rattle.jfr_outside.specs.declared.fault.Fault.{Fault}
use Rattle.jfr_outside.specs.declared.fault.Fault.TheVariants as faults
use Rattle.jfr_header.specs.declared.ending.Ending.{Ending}
use Rattle.jfr_header.specs.declared.ending.Ending.TheVariants.{Done, Refused, ReadFault, WriteFault, TooManyParts, MaskTooLong, Memory}
use Rattle.jfr_header.specs.Endings.{after_write}
use Rattle.jfr_plan.specs.Ends.{CommandEnd, command_end}
use Rattle.jfr_plan.specs.Effects.{Plan, Write, outside, snapshot, effects}
use Rattle.jfr_plan.specs.Rules.{Text}
use Rattle.jfr_plan.specs.Outcomes.{Tallied}
use Rattle.jfr_report.specs.Demo.{sampled}
use Rattle.jfr_words.specs.declared.order.Order.TheVariants.{Sample}
use Rattle.jfr_cli.specs.Texts.{IsWritten}
use Rattle.jfr_cli.specs.Works.{sample_plan, work_of, IsAfterWork}
use Rattle.jfr_cli.specs.Runs.{Carries}

module _ (seed events : ℕ) (a : State) (s z : SinkState) where
  abbrev plan : Plan
  plan = sample_plan (sampled seed events)

  abbrev Leaving : CommandEnd → Type 0
  Leaving ended = IsAfterWork (work_of (Sample seed events)) ended (outside a s) (outside a z)

  carries : (e : Ending) → e ≢ ReadFault → Leaving (command_end e) → Tallied Text (command_end e) (outside a s) (outside a z) → Carries (Sample seed events) e (outside a s) (outside a z)
  carries e n l t = record { leaves = l; counts = t; sink = tt; text = tt; place = refl; wrote = tt; can_read = λ can. n; can_create = λ can. absurd can }

  abbrev text : List ℕ
  text = encode_utf8_all (sampled seed events)

  -- The text was written, or a part of it, or nothing.
  pub carries_sample : (e : Ending) → IsWritten text e s z → Carries (Sample seed events) e (outside a s) (outside a z)
  carries_sample Done w = carries Done (λ h. cc) (λ v. record { end = refl; holds = ap (snapshot v) w.0 }) (tt, (refl, refl, w.1, refl))
  carries_sample WriteFault w =
      carries WriteFault (λ h. cc) (λ v. record { first = []; failed = Write text; rest = []; bytes = w.0.0; parts = refl; holds = ap (snapshot v) w.0.1; cause = λ h. tt }) (refl, refl, w.1, refl)
  carries_sample Memory w = carries Memory (λ h. cc) (λ v. record { first = []; rest = effects plan.steps; parts = refl; holds = ap (snapshot v) w.0 }) (refl, refl, w.1, refl)
  carries_sample (Refused r) w = absurd w
  carries_sample ReadFault w = absurd w
  carries_sample TooManyParts w = absurd w
  carries_sample (MaskTooLong k) w = absurd w

-- What a write of a text leaves, by its ending.
pub written_by : (bytes : List ℕ) (fault : Fault) (e : Ending) (s z : SinkState) → e ≡ after_write fault → IsAfterAppend {T = Unit {0}} (Err fault) s.written z.written bytes added
    → Counts {T = Unit {0}} (Err fault) s.faults z.faults → IsWritten bytes e s z
written_by bytes faults.Failed e s z after contents counts = rw after (contents, counts)
written_by bytes faults.Memory e s z after contents counts = rw after (contents, counts)
