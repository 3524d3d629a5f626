-- The state after plans that are carried out one after another.
use Rattle.std.proofs.Common.{◌≡◌, refl, sym, ◌∙◌, ap, subst, Bool, false, ◌||◌, List, [], ◌++◌, Option, None, Some, append_assoc, append-nil}
use Rattle.std.specs.List.{list_any}
use Rattle.std.proofs.lemmas.List.Folds.{list_any-append}
use Rattle.jfr_plan.specs.Ends.{End, Fine, Refused, TooMany, TooLong, CommandEnd, Ends, NotRead, NotWritten, RanOut}
use Rattle.jfr_plan.specs.Effects.{Effect, Plan, Snapshot, Step, done, effects}
use Rattle.jfr_plan.specs.Outcomes.{AllDone, SomeDone, Breaks}
use Rattle.jfr_plan.proofs.Leaving.{some_more, some_after, breaks_more, breaks_after}
use Rattle.jfr_plan.proofs.Walking.{done_append, effects_append}
use Rattle.jfr_split.specs.Clauses.{is_finish, Unfinished, FilesOutcome}
use Rattle.jfr_split.specs.Joins.{then_by, plan_then}
use Rattle.jfr_split.proofs.Basics.{same_end}

-- More effects come after these.
unfinished_more : (steady : Bool) (a b all : List Effect) (s t : Snapshot) → all ≡ a ++ b → Unfinished steady a s t → Unfinished steady all s t
unfinished_more steady a b all s t e h = record {
  first = h.first;
  rest = h.rest ++ b;
  parts = e ∙ ap (λ (x : List Effect). x ++ b) h.parts ∙ append_assoc h.first h.rest b;
  unfinished = h.unfinished;
  holds = h.holds;
  cause = h.cause;
}

-- These effects were done before.
unfinished_after : (steady : Bool) (a b : List Effect) (s t u : Snapshot) → list_any is_finish a ≡ false → t ≡ done a s → Unfinished steady b t u → Unfinished steady (a ++ b) s u
unfinished_after steady a b s t u n e h = record {
  first = a ++ h.first;
  rest = h.rest;
  parts = ap (λ (x : List Effect). a ++ x) h.parts ∙ sym (append_assoc a h.first h.rest);
  unfinished = list_any-append is_finish a h.first ∙ ap (λ (b : Bool). b || list_any is_finish h.first) n ∙ h.unfinished;
  holds = h.holds ∙ ap (done h.first) e ∙ sym (done_append a h.first s);
  cause = h.cause;
}

-- A state after one plan, when the effects of another were done before, is a state after the plan of both.
pub outcome_after : (steady : Bool) (a : List Effect) (all later : Plan) (ended : CommandEnd) (s t u : Snapshot) → effects all.steps ≡ a ++ effects later.steps → all.end ≡ later.end
    → list_any is_finish a ≡ false → t ≡ done a s → FilesOutcome steady later ended t u → FilesOutcome steady all ended s u
outcome_after steady a all later (Ends e) s t u c d n k h = record {
  end = d ∙ h.end;
  holds = h.holds ∙ ap (done (effects later.steps)) k ∙ sym (done_append a (effects later.steps) s) ∙ ap (λ (x : List Effect). done x s) (sym c);
}
outcome_after steady a all later NotRead s t u c d n k h = subst (λ (x : List Effect). Unfinished steady x s u) (sym c) (unfinished_after steady a (effects later.steps) s t u n k h)
outcome_after steady a all later NotWritten s t u c d n k h = subst (λ (x : List Effect). Breaks steady x s u) (sym c) (breaks_after steady a (effects later.steps) s t u k h)
outcome_after steady a all later RanOut s t u c d n k h = subst (λ (x : List Effect). SomeDone x s u) (sym c) (some_after a (effects later.steps) s t u k h)

-- A plan goes on with another.
record GoesOn (p q : Plan) : Type 0 where
  pub later : List Effect
  pub is : effects q.steps ≡ effects p.steps ++ later

goes_by : (ss : List Step) (o : Option End) (later : Plan) → GoesOn (record { steps = ss; end = o }) (then_by o (record { steps = ss; end = o }) later)
goes_by ss (Some Fine) later = record { later = effects later.steps; is = effects_append ss later.steps }
goes_by ss (Some (Refused r)) later = record { later = []; is = sym (append-nil (effects ss)) }
goes_by ss (Some TooMany) later = record { later = []; is = sym (append-nil (effects ss)) }
goes_by ss (Some (TooLong n)) later = record { later = []; is = sym (append-nil (effects ss)) }
goes_by ss None later = record { later = []; is = sym (append-nil (effects ss)) }

goes_on : (p later : Plan) → GoesOn p (plan_then p later)
goes_on p later = goes_by p.steps p.end later

-- A plan that doesn't end well ends there.
ends_by : (ss : List Step) (o : Option End) (e : End) (later : Plan) (s t : Snapshot) → (e ≡ Fine → ⊥) → AllDone (record { steps = ss; end = o }) e s t
    → AllDone (then_by o (record { steps = ss; end = o }) later) e s t
ends_by ss (Some Fine) e later s t n h = absurd (n (sym (same_end Fine e h.end)))
ends_by ss (Some (Refused r)) e later s t n h = h
ends_by ss (Some TooMany) e later s t n h = h
ends_by ss (Some (TooLong k)) e later s t n h = h
ends_by ss None e later s t n h = h

-- The first plan did not end well.
pub outcome_stops : (steady : Bool) (p later : Plan) (ended : CommandEnd) (s t : Snapshot) → (ended ≡ Ends Fine → ⊥) → FilesOutcome steady p ended s t
    → FilesOutcome steady (plan_then p later) ended s t
outcome_stops steady p later (Ends e) s t n h = ends_by p.steps p.end e later s t (λ k. n (ap (λ (x : End). Ends x) k)) h
outcome_stops steady p later NotRead s t n h = let g = goes_on p later in unfinished_more steady (effects p.steps) g.later (effects (plan_then p later).steps) s t g.is h
outcome_stops steady p later NotWritten s t n h = let g = goes_on p later in breaks_more steady (effects p.steps) g.later (effects (plan_then p later).steps) s t g.is h
outcome_stops steady p later RanOut s t n h = let g = goes_on p later in some_more (effects p.steps) g.later (effects (plan_then p later).steps) s t g.is h

-- A plan that ends well is followed by the next.
pub record Follows (p later : Plan) (es : List Effect) : Type 0 where
  pub steps : effects (plan_then p later).steps ≡ es ++ effects later.steps
  pub end : (plan_then p later).end ≡ later.end

pub follows : (ss : List Step) (e : Option End) (later : Plan) (es : List Effect) → effects ss ≡ es → e ≡ Some Fine → Follows (record { steps = ss; end = e }) later es
follows ss (Some Fine) later es h k = record { steps = effects_append ss later.steps ∙ ap (λ (x : List Effect). x ++ effects later.steps) h; end = refl }
follows ss (Some (Refused r)) later es h k = cc
follows ss (Some TooMany) later es h k = cc
follows ss (Some (TooLong n)) later es h k = cc
follows ss None later es h k = cc
