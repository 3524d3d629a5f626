-- What a masking that ends as its plan does has written.
use Rattle.std.specs.Prelude.{◌≡◌, ◌^◌, ℕ, Bool, true, false, nat_le, List, [], length, Option, Some, None, if◌then◌else◌}
use Rattle.std.proofs.Common.{arith, refl, subst, sym}
use Rattle.jfr_base.specs.declared.flaw.Refusal.{Refusal}
use Rattle.jfr_outside.specs.World.{IfKnown, State, World, file}
use Rattle.jfr_header.specs.declared.ending.Ending.{Ending}
use Rattle.jfr_header.specs.declared.ending.Ending.TheVariants as ending
use Rattle.jfr_plan.specs.Ends.{End, Fine, Refused, TooLong, TooMany}
use Rattle.jfr_plan.specs.Effects.{snapshot, without_sink}
use Rattle.jfr_plan.specs.Rules.{plan_after, plan_in}
use Rattle.jfr_plan.specs.Outcomes.{AllDone}
use Rattle.jfr_plan.specs.Clauses.{Ended}
use Rattle.jfr_output.specs.Recordings.{IsByPlan}
use Rattle.jfr_mask.specs.Commands.{AreKnown, MaskWork, Masks, WritesTable, known_in, mask_plan, mask_task, masking_with, none_known, plan_knowing, plan_named, rule_with}
use Rattle.jfr_mask.specs.RecordingLaws.{recording_masked}
use Rattle.jfr_mask.proofs.HeadlineLaws.{EachIsMasked}
use Rattle.jfr_mask.proofs.MaskedFile.{IsByChunks, made}
use Rattle.jfr_mask.proofs.MaskedOutput.{is_mask_of}

module _ (k : MaskWork) (w v : World) (p q : Option (List ℕ)) (e : End) where
  -- All effects of the plan are done, so the texts that are known are.
  pub record Known : Type 0 where
    pub known : List ℕ → Bool
    pub are : AreKnown k.known w known
    pub recording : List ℕ
    pub read : file w k.input ≡ Some recording
    pub ended : AllDone (plan_after (rule_with k known) [] (Some recording)) e (snapshot w p) (snapshot v q)

  module _ (known : List ℕ → Bool) (are : AreKnown k.known w known) where
    by_input : (o : Option (List ℕ)) → file w k.input ≡ o → AllDone (plan_after (rule_with k known) [] o) e (snapshot w p) (snapshot v q) → Known
    by_input None is d = absurd (none_ends d.end)
      where
        none_ends : ◌≡◌ {A = Option End} None (Some e) → ⊥
        none_ends h = cc
    by_input (Some x) is d = record { known = known; are = are; recording = x; read = is; ended = d }

    over_input : AllDone (plan_in (rule_with k known) k.input w) e (snapshot w p) (snapshot v q) → Known
    over_input d = by_input (file w k.input) refl d

  by_long : (name bytes : List ℕ) → k.known ≡ Some name → file w name ≡ Some bytes → (t : Bool) → nat_le (2 ^ 30) (length bytes) ≡ t → IsByChunks e
      → AllDone (if t then record { steps = []; end = Some (TooLong 0) } else plan_in (rule_with k (known_in bytes)) k.input w) e (snapshot w p) (snapshot v q) → Known
  by_long name bytes is there true long by d = absurd (not_long e by d.end)
    where
      not_long : (x : End) → IsByChunks x → ◌≡◌ {A = Option End} (Some (TooLong 0)) (Some x) → ⊥
      not_long Fine b h = cc
      not_long (Refused r) b h = cc
      not_long TooMany b h = b
      not_long (TooLong n) b h = b
  by_long name bytes is there false long by d =
      over_input (known_in bytes) (subst (λ o. AreKnown o w (known_in bytes)) (sym is) (bytes, there, grind arith, refl)) d

  by_file : (name : List ℕ) → k.known ≡ Some name → (o : Option (List ℕ)) → file w name ≡ o → IsByChunks e → AllDone (plan_knowing k o w) e (snapshot w p) (snapshot v q) → Known
  by_file name is None there by d = absurd (none_ends d.end)
    where
      none_ends : ◌≡◌ {A = Option End} None (Some e) → ⊥
      none_ends h = cc
  by_file name is (Some bytes) there by d = by_long name bytes is there (nat_le (2 ^ 30) (length bytes)) refl by d

  by_name : (o : Option (List ℕ)) → k.known ≡ o → IsByChunks e → AllDone (plan_named k o w) e (snapshot w p) (snapshot v q) → Known
  by_name None is by d = over_input none_known (subst (λ o. AreKnown o w none_known) (sym is) refl) d
  by_name (Some name) is by d = by_file name is (file w name) refl by d

  pub known_by : IsByChunks e → AllDone (mask_plan k w) e (snapshot w p) (snapshot v q) → Known
  known_by by d = by_name k.known refl by d

-- The output is the masked recording.
masks_by : EachIsMasked → (k : MaskWork) (w v : World) (p q : Option (List ℕ)) (e : End) → IsByChunks e → AllDone (mask_plan k w) e (snapshot w p) (snapshot v q) → Masks k w v
masks_by each k w v p q e by d =
    let h = known_by k w v p q e by d in
    let m = masking_with k h.known in
    let f = made k.filter m k.output k.table h.recording w v p q e by h.ended in
    record {
      known = h.known;
      are_known = h.are;
      recording = h.recording;
      read = h.read;
      written = recording_masked k.filter m h.recording;
      holds = f.holds;
      made = is_mask_of each k.filter m h.recording f.fit;
    }

-- The table has the texts.
table_by : (k : MaskWork) (w v : World) (p q : Option (List ℕ)) → AllDone (mask_plan k w) Fine (snapshot w p) (snapshot v q) → WritesTable k w v
table_by k w v p q d =
    let h = known_by k w v p q Fine tt d in
    let f = made k.filter (masking_with k h.known) k.output k.table h.recording w v p q Fine tt h.ended in
    record { known = h.known; are_known = h.are; recording = h.recording; read = h.read; holds = f.in_table refl }

told : (b a : Option World) (P Q : World → World → Type 0) → IfKnown b a P → ((w v : World) → P w v → Q w v) → IfKnown b a Q
told None a P Q t f = tt
told (Some w) None P Q t f = t
told (Some w) (Some v) P Q t f = f w v t

module _ (each : EachIsMasked) (k : MaskWork) (a b : State) where
  ended_masks : (e : End) → IsByChunks e → Ended (mask_task k) e (without_sink a) (without_sink b) → IfKnown a.contents b.contents (Masks k)
  ended_masks e by d = told a.contents b.contents (λ w v. AllDone (mask_plan k w) e (snapshot w None) (snapshot v None)) (Masks k) d (λ w v h. masks_by each k w v None None e by h)

  pub headline : (e : Ending) → (e ≡ ending.Done → Ended (mask_task k) Fine (without_sink a) (without_sink b))
      → ((r : Refusal) → e ≡ ending.Refused r → Ended (mask_task k) (Refused r) (without_sink a) (without_sink b)) → IsByPlan e → IfKnown a.contents b.contents (Masks k)
  headline ending.Done d r h = ended_masks Fine tt (d refl)
  headline (ending.Refused x) d r h = ended_masks (Refused x) tt (r x refl)
  headline ending.ReadFault d r h = absurd h
  headline ending.WriteFault d r h = absurd h
  headline ending.TooManyParts d r h = absurd h
  headline (ending.MaskTooLong n) d r h = absurd h
  headline ending.Memory d r h = absurd h

pub writes_table : (k : MaskWork) (a b : State) → Ended (mask_task k) Fine (without_sink a) (without_sink b) → IfKnown a.contents b.contents (WritesTable k)
writes_table k a b d = told a.contents b.contents (λ w v. AllDone (mask_plan k w) Fine (snapshot w None) (snapshot v None)) (WritesTable k) d (λ w v h. table_by k w v None None h)
