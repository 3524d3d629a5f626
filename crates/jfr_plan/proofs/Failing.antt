-- The state after a part that only makes one call outside, by the result of this call.
use Rattle.std.proofs.Common.{IsTrue, ◌≡◌, ℕ, ◌∙◌, refl, subst, ap, Bool, true, not, ◌&&◌, List, [], ◌∷◌, take, Option, None, Some, option_map, IfSome, IsSome, OnOk, Result, Ok, Err, sym}
use Rattle.std.specs.Prelude.{is_some, MatchResult, IsErrAnd, IsErrOf}
use Rattle.jfr_base.specs.declared.flaw.Flaw.{Flaw}
use Rattle.jfr_base.specs.declared.flaw.ReadFault.{ReadFault}
use Rattle.jfr_base.specs.declared.flaw.ReadFault.TheVariants as readings
use Rattle.jfr_outside.specs.World.{World, State, IfKnown, IsAfterCall, IsAfterAppend, file, opened, shut, created, appended, finished}
use Rattle.jfr_outside.specs.Counts.{Counts}
use Rattle.jfr_outside.specs.declared.fault.Fault.{Fault}
use Rattle.jfr_outside.specs.declared.fault.Fault.TheVariants as faults
use Rattle.jfr_header.specs.declared.ending.Ending.{Ending}
use Rattle.jfr_header.specs.declared.ending.Ending.TheVariants.{Done, WriteFault, Memory}
use Rattle.jfr_header.specs.Endings.{after_read, after_write, after_chunk}
use Rattle.jfr_plan.specs.Ends.{refused, command_end}
use Rattle.jfr_plan.specs.Effects.{Effect, Create, Append, Finish, Outside, apply, broken, done, snapshot, Cannot}
use Rattle.jfr_plan.specs.Rules.{Rule, Target, Asked, Stops, Goes, asked, IsGoing}
use Rattle.jfr_plan.specs.Outcomes.{OutcomeOf, Unchanged, Tallied}
use Rattle.jfr_plan.specs.Parts.{PartWorld, PlaceCounts}

-- A part answers as its write does.
abbrev pub Passes : Result (Unit {0}) Fault → Result (Unit {0}) Ending → Type 0
Passes r z = MatchResult r (λ x. z ≡ Ok x) (λ e. IsErrAnd z (λ y. y ≡ after_write e))

-- What holds of such an answer, by what became of the write.
pub passed : (P : Result (Unit {0}) Ending → Type 0) (r : Result (Unit {0}) Fault) (z : Result (Unit {0}) Ending) → Passes r z → ((x : Unit {0}) → r ≡ Ok x → P (Ok x))
    → (r ≡ Err faults.Failed → P (Err WriteFault)) → (r ≡ Err faults.Memory → P (Err Memory)) → P z
passed P (Ok x) z h ok failed memory = subst P (sym h) (ok x refl)
passed P (Err e) (Ok y) h ok failed memory = absurd h
passed P (Err faults.Failed) (Err y) h ok failed memory = subst (λ (k : Ending). P (Err k)) (sym h) (failed refl)
passed P (Err faults.Memory) (Err y) h ok failed memory = subst (λ (k : Ending). P (Err k)) (sym h) (memory refl)

-- The one effect that was asked for is done.
one_done : (st : Bool) (a : Asked) (e : Effect) (x : Unit {0}) (p : Option (List ℕ)) (w v : World) → a ≡ Goes (e ∷ []) → v.input ≡ w.input → snapshot v p ≡ apply e (snapshot w p)
    → PartWorld st a (Ok x) p p w v
one_done st a e x p w v is i s = (i, subst (λ (y : Asked). IsGoing y × (snapshot v p ≡ done (asked y) (snapshot w p))) (sym is) (refl, s))

-- The one effect that was asked for failed, and nothing else changed.
one_failed : (st : Bool) (a : Asked) (e : Effect) (p : Option (List ℕ)) (w v : World) (k : ℕ) → a ≡ Goes (e ∷ []) → v.input ≡ w.input → snapshot v p ≡ broken k e (snapshot w p)
    → (IsTrue st → Cannot e (snapshot w p)) → PartWorld st a (Err WriteFault) p p w v
one_failed st a e p w v k is i s c = (i, record { first = []; failed = e; rest = []; bytes = k; parts = ap asked is; holds = s; cause = c })

-- If memory runs out, nothing is done.
none_done : (st : Bool) (a : Asked) (p : Option (List ℕ)) (w : World) → PartWorld st a (Err Memory) p p w w
none_done st a p w = (refl, record { first = []; rest = asked a; parts = refl; holds = refl })

-- The output is to be created.
pub create_leaves : (st : Bool) (name : List ℕ) (p : Option (List ℕ)) (b a : Option World) (r : Result (Unit {0}) Fault) (z : Result (Unit {0}) Ending) → Passes r z
    → IsAfterCall r b a (λ _. created name) finished → OnOk r (IfSome b (λ w. (file w name ≡ None) × (w.output ≡ None)))
    → (IsTrue st → IsErrOf r faults.Failed → IfSome b (λ w. (file w name ≡ None) → IsSome w.output)) → IfKnown b a (PartWorld st (Goes (Create name ∷ [])) z p p)
create_leaves st name p None a r z h t o c = tt
create_leaves st name p (Some w) a r z h t o c =
    let asks = Goes (Create name ∷ []) in
    let new : (file w name ≡ None) × (w.output ≡ None) → true ≡ (true && not (is_some (file w name)) && not (is_some w.output)) =
    λ n. sym (ap (λ (y : Option (List ℕ)). not (is_some y) && not (is_some w.output)) n.0 ∙ ap (λ (y : Option (List ℕ)). not (is_some y)) n.1) in
    passed (λ y. IfKnown (Some w) a (PartWorld st asks y p p)) r z h
    (λ x e. rw (rw e at t) (one_done st asks (Create name) x p w (created name w) refl refl (ap (λ (k : Bool). record (snapshot (created name w) p) { sound = k }) (new (rw e at o)))))
    (λ e. rw (rw e at t) (one_failed st asks (Create name) p w (finished w) 0 refl refl refl (λ y. c y e)))
    (λ e. rw (rw e at t) (none_done st asks p w))

-- The output is to grow by these bytes.
pub append_leaves : (st : Bool) (asks : Asked) (bytes : List ℕ) (p : Option (List ℕ)) (b a : Option World) (r : Result (Unit {0}) Fault) (z : Result (Unit {0}) Ending)
    → asks ≡ Goes (Append bytes ∷ []) → Passes r z → IsAfterAppend r b a bytes appended → OnOk r (IfSome b (λ w. IsSome w.output))
    → (IsTrue st → IsErrOf r faults.Failed → IfSome b (λ w. w.output ≡ None)) → IfKnown b a (PartWorld st asks z p p)
append_leaves st asks bytes p None a r z is h t o c = tt
append_leaves st asks bytes p (Some w) a r z is h t o c =
    passed (λ y. IfKnown (Some w) a (PartWorld st asks y p p)) r z h
    (λ x e. rw (rw e at t) (one_done st asks (Append bytes) x p w (appended bytes w) is refl (ap (λ (k : Bool). record (snapshot (appended bytes w) p) { sound = k }) (sym (rw e at o)))))
    (λ e. let f : (k : ℕ) × (a ≡ option_map (appended (take k bytes)) (Some w)) = rw e at t in rw f.1
    (one_failed st asks (Append bytes) p w (appended (take f.0 bytes) w) f.0 is refl refl (λ y. c y e)))
    (λ e. rw (rw e at t) (none_done st asks p w))

-- The output is to be finished.
pub finish_leaves : (st : Bool) (p : Option (List ℕ)) (b a : Option World) (r : Result (Unit {0}) Fault) (z : Result (Unit {0}) Ending) → Passes r z → IsAfterCall r b a (λ _. finished) finished
    → OnOk r (IfSome b (λ w. IsSome w.output)) → (IsTrue st → IsErrOf r faults.Failed → IfSome b (λ w. w.output ≡ None)) → IfKnown b a (PartWorld st (Goes (Finish ∷ [])) z p p)
finish_leaves st p None a r z h t o c = tt
finish_leaves st p (Some w) a r z h t o c =
    let asks = Goes (Finish ∷ []) in
    passed (λ y. IfKnown (Some w) a (PartWorld st asks y p p)) r z h
    (λ x e. rw (rw e at t) (one_done st asks Finish x p w (finished w) refl refl (ap (λ (k : Bool). record (snapshot (finished w) p) { sound = k }) (sym (rw e at o)))))
    (λ e. rw (rw e at t) (one_failed st asks Finish p w (finished w) 0 refl refl refl (λ y. c y e)))
    (λ e. rw (rw e at t) (none_done st asks p w))

-- The count of write faults of the place rises if the write failed, and the other counts don't change.
pub write_counted : (r : Result (Unit {0}) Fault) (z : Result (Unit {0}) Ending) (x y : State) → Passes r z → Unchanged x.read_faults y.read_faults → Counts r x.write_faults y.write_faults
    → y.steady ≡ x.steady → PlaceCounts z x y
write_counted r z x y h reads writes steady =
    passed (λ k. PlaceCounts k x y) r z h
    (λ o e. λ sink. (reads, rw e at writes, refl, steady))
    (λ e. λ sink. (reads, rw e at writes, refl, steady))
    (λ e. λ sink. (reads, rw e at writes, refl, steady))

-- A chunk could not be taken in, and nothing changed.
pub chunk_refused : (st : Bool) (asks : Asked) (n number : ℕ) (fault : ReadFault) (y : Ending) (p : Option (List ℕ)) (b : Option World) → y ≡ after_chunk number fault → number ≡ n
    → ((f : Flaw) → fault ≡ readings.Flawed f → asks ≡ Stops (refused n f)) → IfKnown b b (PartWorld st asks (Err y) p p)
chunk_refused st asks n number fault y p None is at stops = tt
chunk_refused st asks n number (readings.Flawed f) y p (Some w) is at stops = rw is (refl, (stops f refl ∙ ap (λ (k : ℕ). Stops (refused k f)) (sym at), refl))
chunk_refused st asks n number readings.Memory y p (Some w) is at stops = rw is (none_done st asks p w)

pub chunk_tallied : (target : Target) (number : ℕ) (fault : ReadFault) (y : Ending) (a : Outside) → y ≡ after_chunk number fault → Tallied target (command_end y) a a
chunk_tallied target number (readings.Flawed f) y a is = rw is (tt, (refl, refl, refl, refl))
chunk_tallied target number readings.Memory y a is = rw is (refl, refl, refl, refl)

-- The input could not be opened, and nothing is done.
pub open_failed : (st : Bool) (r : Rule) (earlier : List (List ℕ)) (input : List ℕ) (fault : Fault) (y : Ending) (o : Option (List ℕ)) (b a : Option World) → y ≡ after_read fault
    → IsAfterCall {T = Unit {0}} (Err fault) b a (λ _. opened input) shut → (IsTrue st → IsErrOf {T = Unit {0}} (Err fault) faults.Failed → IfSome b (λ w. file w input ≡ None))
    → IfKnown b a (OutcomeOf st r earlier input o o (command_end y))
open_failed st r earlier input fault y o None a is t c = tt
open_failed st r earlier input faults.Failed y o (Some w) a is t c = rw is (rw t (refl, λ k. c k refl))
open_failed st r earlier input faults.Memory y o (Some w) a is t c = rw is (rw t (record { first = []; rest = _; parts = refl; holds = refl }))

pub read_tallied : (target : Target) (fault : Fault) (y : Ending) (a b : Outside) → y ≡ after_read fault → Counts {T = Unit {0}} (Err fault) a.place.read_faults b.place.read_faults
    → Unchanged a.place.write_faults b.place.write_faults → Unchanged a.sink.faults b.sink.faults → b.place.steady ≡ a.place.steady → Tallied target (command_end y) a b
read_tallied target faults.Failed y a b is reads writes texts steady = rw is (reads, writes, texts, steady)
read_tallied target faults.Memory y a b is reads writes texts steady = rw is (reads, writes, texts, steady)

pub open_ended : (fault : Fault) (y : Ending) → y ≡ after_read fault → y ≡ Done → ⊥
open_ended faults.Failed y is done = cc
open_ended faults.Memory y is done = cc
