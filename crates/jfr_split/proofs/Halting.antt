-- After a failed read within one of the files the first of its chunks are appended.
use Rattle.std.proofs.Common.{IsTrue, Result, Ok, Err, subst, ◌≡◌, ℕ, ◌+◌, ◌-◌, ◌≤◌, refl, sym, ◌∙◌, ap, Bool, true, false, List, [], ◌∷◌, ◌++◌, length, take, drop, Option, None, Some, take-append-drop, length-take-le, nat_le, if◌then◌else◌, arith}
use Rattle.std.specs.List.{list_any}
use Rattle.std.specs.Prelude.{MatchResult, IsErrAnd, IsErrOf}
use Rattle.jfr_outside.specs.World.{World, Files, IfKnown, IsAfterCall, unchanged}
use Rattle.jfr_outside.specs.declared.fault.Fault.{Fault}
use Rattle.jfr_outside.specs.declared.fault.Fault.TheVariants as faults
use Rattle.jfr_header.specs.declared.ending.Ending.{Ending}
use Rattle.jfr_header.specs.Endings.{after_read}
use Rattle.jfr_header.specs.Cuts.{whole_in}
use Rattle.jfr_plan.specs.Ends.{CommandEnd, Ends, NotRead, NotWritten, RanOut, command_end}
use Rattle.jfr_plan.specs.Effects.{Effect, Plan, Snapshot, snapshot, done, effects, keep_met}
use Rattle.jfr_plan.specs.Rules.{walk, gone, AllGo, cut_after, plan_after}
use Rattle.jfr_plan.specs.Outcomes.{NeedsMet, MetIn, OutcomeIn, held_count}
use Rattle.jfr_plan.proofs.Walking.{past}
use Rattle.jfr_plan.proofs.Needs.{kept_past}
use Rattle.jfr_split.specs.Clauses.{is_finish, Unfinished, FilesOutcome}
use Rattle.jfr_split.specs.Joins.{adding}
use Rattle.jfr_split.proofs.Basics.{some_none}

all_go : (before cs : List (List ℕ)) → AllGo adding before cs
all_go before [] = tt
all_go before (c ∷ cs) = (refl, all_go (before ++ c ∷ []) cs)

-- No chunk finishes the output.
none_finishes : (before cs : List (List ℕ)) → list_any is_finish (gone adding before cs) ≡ false
none_finishes before [] = refl
none_finishes before (c ∷ cs) = none_finishes (before ++ c ∷ []) cs

no_more_by : (b : Bool) (n m : ℕ) → n ≤ m → (if b then n + 1 else 0) ≤ m + 1
no_more_by true n m h = omega (arith, h)
no_more_by false n m h = omega arith

no_more : (n : ℕ) (cs : List (List ℕ)) → whole_in n cs ≤ length cs
no_more n [] = omega arith
no_more n (c ∷ cs) = let k = no_more_by (nat_le (length c) n) (whole_in (n - length c) cs) (length cs) (no_more (n - length c) cs) in omega (arith, k)

met_first : (steady : Bool) (earlier : List (List ℕ)) (x left : List ℕ) (s t : Snapshot) → (IsTrue steady → ⊥) → NeedsMet adding earlier x left s t
    → Unfinished steady (effects (plan_after adding earlier (Some x)).steps) s t
met_first steady earlier x left s t never m =
    let cs = (cut_after earlier x).chunks in
    let flaw = (cut_after earlier x).flaw in
    let k = held_count earlier x m.taken in
    let q = take k cs in
    let later = drop k cs in
    let parts : q ++ later ≡ cs = take-append-drop k cs in
    let long : length q ≡ k = length-take-le k cs (no_more (length m.taken) cs) in
    let n : length earlier + k ≡ length earlier + length q = ap (λ (i : ℕ). length earlier + i) (sym long) in
    record {
      first = gone adding earlier q;
      rest = effects (walk adding (earlier ++ q) later flaw).steps;
      parts = ap (λ (l : List (List ℕ)). effects (walk adding earlier l flaw).steps) (sym parts) ∙ (past adding earlier q later flaw (all_go earlier q)).steps;
      unfinished = none_finishes earlier q;
      holds = m.holds ∙ ap (λ (es : List Effect). done es s)
          (ap (λ (l : List (List ℕ)). effects (keep_met (Some (length earlier + k)) (walk adding earlier l flaw).steps)) (sym parts)
          ∙ kept_past adding (length earlier + k) earlier q later flaw (all_go earlier q) n);
      cause = never;
    }

-- With no input open nothing is done.
halted_first : (steady : Bool) (earlier : List (List ℕ)) (x : List ℕ) (left : Option (List ℕ)) (s t : Snapshot) → (IsTrue steady → ⊥) → MetIn adding earlier (Some x) left s t
    → Unfinished steady (effects (plan_after adding earlier (Some x)).steps) s t
halted_first steady earlier x None s t never h = record { first = []; rest = effects (plan_after adding earlier (Some x)).steps; parts = refl; unfinished = refl; holds = h; cause = never }
halted_first steady earlier x (Some left) s t never h = met_first steady earlier x left s t never h

-- The state after one of the files, which exists.
pub file_outcome : (steady : Bool) (earlier : List (List ℕ)) (x : List ℕ) (left : Option (List ℕ)) (ended : CommandEnd) (s t : Snapshot) → OutcomeIn steady adding earlier (Some x) left ended s t
    → FilesOutcome steady (plan_after adding earlier (Some x)) ended s t
file_outcome steady earlier x left (Ends e) s t h = h
file_outcome steady earlier x left NotRead s t h = halted_first steady earlier x left s t (λ y. some_none (Some x) x refl (h.1 y)) h.0
file_outcome steady earlier x left NotWritten s t h = h
file_outcome steady earlier x left RanOut s t h = h

-- The folder could not be listed, and nothing is done.
pub not_listed : (T : Type 0) (steady : Bool) (plan : Files → Plan) (fault : Fault) (y : Ending) (o : Option (List ℕ)) (b a : Option World) → y ≡ after_read fault
    → IsAfterCall {T = T} (Err fault) b a (λ _. unchanged) unchanged → (IsTrue steady → IsErrOf {T = T} (Err fault) faults.Failed → ⊥)
    → IfKnown b a (λ w v. FilesOutcome steady (plan w.files) (command_end y) (snapshot w o) (snapshot v o))
not_listed T steady plan fault y o None a is t never = tt
not_listed T steady plan faults.Failed y o (Some w) a is t never =
    rw is (rw t (record { first = []; rest = effects (plan w.files).steps; parts = refl; unfinished = refl; holds = refl; cause = λ k. never k refl }))
not_listed T steady plan faults.Memory y o (Some w) a is t never = rw is (rw t (record { first = []; rest = effects (plan w.files).steps; parts = refl; holds = refl }))

-- A read that failed is known from how the command ends.
pub gave_up : {T : Type 0} (r : Result T Fault) (z : Result T Ending) (y : Ending) → MatchResult r (λ x. z ≡ Ok x) (λ e. IsErrAnd z (λ k. k ≡ after_read e)) → z ≡ Err y
    → (fault : Fault) × (r ≡ Err fault) × (y ≡ after_read fault)
gave_up (Ok x) z y h is = cc
gave_up (Err fault) (Ok x) y h is = cc
gave_up (Err fault) (Err k) y h is = (fault, refl, subst (λ z. IsErrAnd z (λ k. k ≡ after_read fault)) is h)
