-- What a build leaves.
use Rattle.std.specs.Prelude.{◌≡◌, ◌≢◌, ℕ, Bool, List, None}
use Rattle.std.proofs.Common.{refl, sym, subst}
use Rattle.jfr_outside.specs.World.{World, State, SinkState, IfKnown, file}
use Rattle.jfr_header.specs.declared.ending.Ending.{Ending}
use Rattle.jfr_header.specs.declared.ending.Ending.TheVariants as ending
use Rattle.jfr_header.specs.Taking.{IsKept}
use Rattle.jfr_plan.specs.Ends.{CommandEnd, Ends, NotRead, NotWritten, RanOut, command_end}
use Rattle.jfr_plan.specs.Effects.{Snapshot, without_sink, outside, snapshot}
use Rattle.jfr_plan.specs.Outcomes.{Outcome}
use Rattle.jfr_plan.specs.Clauses.{CanCreate, Ran}
use Rattle.jfr_build.specs.declared.reason.BuildReason.{BuildReason}
use Rattle.jfr_build.specs.Streams as streams
use Rattle.jfr_build.specs.Streams.{IsRefusedText, IsUnread, Refuses, building, builds}
use Rattle.jfr_words.specs.declared.order.Order.TheVariants as orders
use Rattle.jfr_words.specs.Words.{file_name}
use Rattle.jfr_cli.specs.Works.{Builds, WorkOutcome}
use Rattle.jfr_cli.specs.Runs.{Carries, Unbuilds}
use Rattle.jfr_cli.proofs.Checking.{stand_kept}
use Rattle.jfr_cli.proofs.Counting.{lifted}
use Rattle.jfr_cli.proofs.Leaving.{known_by}

left_build : (text output : List ℕ) (steady : Bool) (ended : CommandEnd) (w v : World) (s t : Snapshot)
    → Outcome steady (building output (file w text)) (λ s t. (t ≡ s) × IsUnread steady text w v) ended s t → WorkOutcome steady (Builds text output) ended w v s t
left_build text output steady (Ends e) w v s t h = h
left_build text output steady NotRead w v s t h = h
left_build text output steady NotWritten w v s t h = h
left_build text output steady RanOut w v s t h = h

-- The call was given the names t and o of the order's files.
module _ (text output t o : List ℕ) (a b : State) (s : SinkState) (is_text : t ≡ file_name text) (is_output : o ≡ file_name output) where
  -- A claim about the names that were given, of the files of the order.
  renamed : (P : List ℕ → List ℕ → Type 0) → P t o → P (file_name text) (file_name output)
  renamed P p = subst (λ x. P x (file_name output)) is_text (subst (λ x. P t x) is_output p)

  carried : (e : Ending) → Ran (builds t o) e (without_sink a) (without_sink b) → (e ≡ ending.Done → IfKnown a.contents b.contents (streams.Builds t o))
      → (CanCreate (file_name output) a → e ≢ ending.WriteFault) → Carries (orders.Build text output) e (outside a s) (outside b s)
  carried e known wrote create =
      let ran = renamed (λ x y. Ran (builds x y) e (without_sink a) (without_sink b)) known in
      record {
        leaves =
            known_by a.contents b.contents (λ w v. Outcome a.steady (building (file_name output) (file w (file_name text))) (λ s t. (t ≡ s) × IsUnread a.steady (file_name text) w v) (command_end e)
            (snapshot w None) (snapshot v None))
            (λ w v. WorkOutcome a.steady (Builds (file_name text) (file_name output)) (command_end e) w v (snapshot w None) (snapshot v None)) ran.contents
            (λ w v. left_build (file_name text) (file_name output) a.steady (command_end e) w v (snapshot w None) (snapshot v None));
        counts = lifted (command_end e) a b s ran.counts;
        sink = refl;
        text = tt;
        place = tt;
        wrote = λ is. renamed (λ x y. IfKnown a.contents b.contents (streams.Builds x y)) (wrote is);
        can_read = λ can. (ran.can_read can).0;
        can_create = create;
      }

  pub build_done : Ran (builds t o) ending.Done (without_sink a) (without_sink b) → IfKnown a.contents b.contents (streams.Builds t o)
      → Carries (orders.Build text output) ending.Done (outside a s) (outside b s)
  build_done ran wrote = carried ending.Done ran (λ is. wrote) (λ can. (λ is. cc))

  pub build_halted : Ran (builds t o) ending.ReadFault (without_sink a) (without_sink b) → Carries (orders.Build text output) ending.ReadFault (outside a s) (outside b s)
  build_halted ran = carried ending.ReadFault ran (λ is. cc) (λ can. (λ is. cc))

  pub build_broken : Ran (builds t o) ending.WriteFault (without_sink a) (without_sink b) → (CanCreate o a → ⊥) → Carries (orders.Build text output) ending.WriteFault (outside a s) (outside b s)
  build_broken ran never = carried ending.WriteFault ran (λ is. cc) (λ can. absurd (never (subst (λ x. CanCreate x a) (sym is_output) can)))

  pub build_short : Ran (builds t o) ending.Memory (without_sink a) (without_sink b) → Carries (orders.Build text output) ending.Memory (outside a s) (outside b s)
  build_short ran = carried ending.Memory ran (λ is. cc) (λ can. (λ is. cc))

  -- The text is refused.
  pub build_refused : (line : ℕ) (reason : BuildReason) → Refuses t line reason a b → Unbuilds (Builds (file_name text) (file_name output)) line reason (outside a s) (outside b s)
  build_refused line reason known =
      let r = renamed (λ x y. Refuses x line reason a b) known in
      record {
        build = tt;
        refused =
            known_by a.contents b.contents (λ w v. IsRefusedText (file w (file_name text)) line reason × IsKept w v)
            (λ w v. IsRefusedText (file w (file_name text)) line reason × (snapshot v None ≡ snapshot w None)) r.text_is
            (λ w v h. (h.0, stand_kept w v None None h.1 refl));
        sink = refl;
        counts = (r.counts.0, r.counts.1, refl, r.counts.3);
      }
