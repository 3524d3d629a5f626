-- What the calls leave, as the work of an order.
use Rattle.std.specs.Prelude.{ℕ, Bool, List, [], Option, None, Some}
use Rattle.jfr_outside.specs.World.{World, State, IfKnown, file}
use Rattle.jfr_plan.specs.Ends.{CommandEnd, Ends, NotRead, NotWritten, RanOut}
use Rattle.jfr_plan.specs.Effects.{Snapshot, effects, snapshot}
use Rattle.jfr_plan.specs.Rules.{Rule, plan_in}
use Rattle.jfr_plan.specs.Outcomes.{HaltedIn, Outcome}
use Rattle.jfr_mask.specs.Commands.{MaskHalted, MaskWork, mask_plan}
use Rattle.jfr_split.specs.Joins.{assembling}
use Rattle.jfr_split.specs.Clauses.{Unfinished}
use Rattle.jfr_cli.specs.Works.{Over, Joins, Masks, WorkOutcome}

-- A claim about the world before and after, from another one.
pub known_by : (t s : Option World) (P Q : World → World → Type 0) → IfKnown t s P → ((w v : World) → P w v → Q w v) → IfKnown t s Q
known_by None s P Q h f = tt
known_by (Some w) None P Q h f = h
known_by (Some w) (Some v) P Q h f = f w v h

-- A rule over one input.
pub left_over : (r : Rule) (input : List ℕ) (steady : Bool) (ended : CommandEnd) (w v : World) (s t : Snapshot)
    → Outcome steady (plan_in r input w) (HaltedIn steady r [] (file w input) v.input) ended s t → WorkOutcome steady (Over r input) ended w v s t
left_over r input steady (Ends e) w v s t h = h
left_over r input steady NotRead w v s t h = h
left_over r input steady NotWritten w v s t h = h
left_over r input steady RanOut w v s t h = h

-- The files of a folder that are joined.
pub left_join : (folder output : List ℕ) (steady : Bool) (ended : CommandEnd) (w v : World) (s t : Snapshot)
    → Outcome steady (assembling folder output w.files) (Unfinished steady (effects (assembling folder output w.files).steps)) ended s t → WorkOutcome steady (Joins folder output) ended w v s t
left_join folder output steady (Ends e) w v s t h = h
left_join folder output steady NotRead w v s t h = h
left_join folder output steady NotWritten w v s t h = h
left_join folder output steady RanOut w v s t h = h

-- What is there after a rule over one input, whatever the texts on the sink are.
pub over_leaves : (r : Rule) (input : List ℕ) (ended : CommandEnd) (a b : State) (x y : Option (List ℕ))
    → IfKnown a.contents b.contents (λ w v. Outcome a.steady (plan_in r input w) (HaltedIn a.steady r [] (file w input) v.input) ended (snapshot w x) (snapshot v y))
    → IfKnown a.contents b.contents (λ w v. WorkOutcome a.steady (Over r input) ended w v (snapshot w x) (snapshot v y))
over_leaves r input ended a b x y h =
    known_by a.contents b.contents (λ w v. Outcome a.steady (plan_in r input w) (HaltedIn a.steady r [] (file w input) v.input) ended (snapshot w x) (snapshot v y))
    (λ w v. WorkOutcome a.steady (Over r input) ended w v (snapshot w x) (snapshot v y)) h
    (λ w v. left_over r input a.steady ended w v (snapshot w x) (snapshot v y))

-- What is there after the files of a folder were joined.
pub join_leaves : (folder output : List ℕ) (ended : CommandEnd) (a b : State)
    → IfKnown a.contents b.contents (λ w v. Outcome a.steady (assembling folder output w.files) (Unfinished a.steady (effects (assembling folder output w.files).steps)) ended (snapshot w None) (snapshot v None)) → IfKnown a.contents b.contents (λ w v. WorkOutcome a.steady (Joins folder output) ended w v (snapshot w None) (snapshot v None))
join_leaves folder output ended a b h =
    known_by a.contents b.contents (λ w v. Outcome a.steady (assembling folder output w.files) (Unfinished a.steady (effects (assembling folder output w.files).steps)) ended (snapshot w None)
    (snapshot v None)) (λ w v. WorkOutcome a.steady (Joins folder output) ended w v (snapshot w None) (snapshot v None)) h
    (λ w v. left_join folder output a.steady ended w v (snapshot w None) (snapshot v None))

-- A masking.
left_masks : (k : MaskWork) (steady : Bool) (ended : CommandEnd) (w v : World) (s t : Snapshot) → Outcome steady (mask_plan k w) (MaskHalted steady k w v) ended s t
    → WorkOutcome steady (Masks k) ended w v s t
left_masks k steady (Ends e) w v s t h = h
left_masks k steady NotRead w v s t h = h
left_masks k steady NotWritten w v s t h = h
left_masks k steady RanOut w v s t h = h

pub masks_leave : (k : MaskWork) (ended : CommandEnd) (a b : State)
    → IfKnown a.contents b.contents (λ w v. Outcome a.steady (mask_plan k w) (MaskHalted a.steady k w v) ended (snapshot w None) (snapshot v None))
    → IfKnown a.contents b.contents (λ w v. WorkOutcome a.steady (Masks k) ended w v (snapshot w None) (snapshot v None))
masks_leave k ended a b h =
    known_by a.contents b.contents (λ w v. Outcome a.steady (mask_plan k w) (MaskHalted a.steady k w v) ended (snapshot w None) (snapshot v None))
    (λ w v. WorkOutcome a.steady (Masks k) ended w v (snapshot w None) (snapshot v None)) h
    (λ w v. left_masks k a.steady ended w v (snapshot w None) (snapshot v None))
