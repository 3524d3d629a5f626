-- What a masking leaves, once the file of known texts was read.
use Rattle.std.specs.Prelude.{◌≡◌, ◌<◌, ◌≤◌, ◌^◌, ℕ, Bool, true, false, nat_le, IsTrue, List, [], length, Option, Some, None, IsSome, IfSome, IsSomeAnd, Ok, Err, if◌then◌else◌}
use Rattle.std.proofs.Common.{ap, arith, refl, sym, ◌∙◌, subst}
use Rattle.std.specs.FinMap as fin
use Rattle.jfr_outside.specs.World.{IfKnown, State, World, file}
use Rattle.jfr_header.specs.Taking.{IsKept}
use Rattle.jfr_header.specs.declared.ending.Ending.{Ending}
use Rattle.jfr_header.specs.declared.ending.Ending.TheVariants.{Done, Refused, ReadFault, WriteFault, TooManyParts, MaskTooLong, Memory}
use Rattle.jfr_plan.specs.Ends.{CommandEnd, Ends, NotRead, NotWritten, RanOut, TooLong, command_end}
use Rattle.jfr_plan.specs.Effects.{Plan, Snapshot, effects, snapshot, without_sink}
use Rattle.jfr_plan.specs.Rules.{Masked, plan_in}
use Rattle.jfr_plan.specs.Outcomes.{After, AllDone, Breaks, Outcome, OutcomeIn, OutcomeOf, SomeDone, Tallied}
use Rattle.jfr_plan.specs.Clauses.{CanRead, IsAfterTask, Ran}
use Rattle.jfr_plan.proofs.Clauses.{NeverHalts, ran}
use Rattle.jfr_mask.specs.Commands.{AreKnown, AtInput, AtKnown, MaskHalted, MaskWork, known_in, mask_plan, mask_task, plan_knowing, plan_named, rule_with}
use Rattle.jfr_mask.specs.Pseudonyms.{has_text}
use Rattle.jfr_mask.specs.Streams.{KnownRead}

not_long : (bytes : List ℕ) → length bytes < 2 ^ 30 → nat_le (2 ^ 30) (length bytes) ≡ false
not_long bytes h = by_bool (nat_le (2 ^ 30) (length bytes)) refl
  where
    by_bool : (t : Bool) → nat_le (2 ^ 30) (length bytes) ≡ t → nat_le (2 ^ 30) (length bytes) ≡ false
    by_bool true e = absurd (grind arith)
    by_bool false e = e

is_long : (bytes : List ℕ) → 2 ^ 30 ≤ length bytes → nat_le (2 ^ 30) (length bytes) ≡ true
is_long bytes h = by_bool (nat_le (2 ^ 30) (length bytes)) refl
  where
    by_bool : (t : Bool) → nat_le (2 ^ 30) (length bytes) ≡ t → nat_le (2 ^ 30) (length bytes) ≡ true
    by_bool true e = e
    by_bool false e = absurd (grind arith)

-- The plan, if these texts are known.
plan_by : (k : MaskWork) (name : Option (List ℕ)) (w : World) (known : List ℕ → Bool) → AreKnown name w known → plan_named k name w ≡ plan_in (rule_with k known) k.input w
plan_by k None w known a = ap (λ f. plan_in (rule_with k f) k.input w) (sym a)
plan_by k (Some name) w known a =
    ap (λ o. plan_knowing k o w) a.1
    ∙ ap (λ t. if t then record { steps = []; end = Some (TooLong 0) } else plan_in (rule_with k (known_in a.0)) k.input w) (not_long a.0 a.2)
    ∙ ap (λ f. plan_in (rule_with k f) k.input w) (sym a.3)

pub plan_is : (k : MaskWork) (w : World) (known : List ℕ → Bool) → AreKnown k.known w known → mask_plan k w ≡ plan_in (rule_with k known) k.input w
plan_is k w known a = plan_by k k.known w known a

-- The plan, if the file of known texts is too long.
plan_long_by : (k : MaskWork) (name : Option (List ℕ)) (w : World) → IsSomeAnd name (λ x. IsSomeAnd (file w x) (λ bytes. 2 ^ 30 ≤ length bytes))
    → plan_named k name w ≡ record { steps = []; end = Some (TooLong 0) }
plan_long_by k None w h = absurd h
plan_long_by k (Some name) w h = by_file (file w name) h
  where
    by_file : (o : Option (List ℕ)) → IsSomeAnd o (λ bytes. 2 ^ 30 ≤ length bytes) → plan_knowing k o w ≡ record { steps = []; end = Some (TooLong 0) }
    by_file None h = absurd h
    by_file (Some bytes) h = ap (λ t. if t then record { steps = []; end = Some (TooLong 0) } else plan_in (rule_with k (known_in bytes)) k.input w) (is_long bytes h)

-- What is left of the work over the input is what is left of the whole work.
outcome_by : (steady : Bool) (k : MaskWork) (known : List ℕ → Bool) (w v : World) (p : Plan) (ended : CommandEnd) (s t : Snapshot) → AreKnown k.known w known
    → p ≡ plan_in (rule_with k known) k.input w
    → OutcomeIn steady (rule_with k known) [] (file w k.input) v.input ended s t → Outcome steady p (MaskHalted steady k w v) ended s t
outcome_by steady k known w v p (Ends e) s t a is h = subst (λ q. AllDone q e s t) (sym is) h
outcome_by steady k known w v p NotRead s t a is h = AtInput known a h
outcome_by steady k known w v p NotWritten s t a is h = subst (λ q. Breaks steady (effects q.steps) s t) (sym is) h
outcome_by steady k known w v p RanOut s t a is h = subst (λ q. SomeDone (effects q.steps) s t) (sym is) h

-- The file of known texts was read, and the rest of the work followed. Reading changes nothing but the open input.
same_snapshot : (w u : World) (p : Option (List ℕ)) → IsKept w u → snapshot u p ≡ snapshot w p
same_snapshot w u p h = λ i. record { files = h.0 i; output = h.1 i; text = p; sound = true }

rest_left : (steady : Bool) (k : MaskWork) (known : List ℕ → Bool) (ended : CommandEnd) (w u v : World) → IsKept w u → AreKnown k.known w known
    → OutcomeOf steady (rule_with k known) [] k.input None None ended u v
    → Outcome steady (mask_plan k w) (MaskHalted steady k w v) ended (snapshot w None) (snapshot v None)
rest_left steady k known ended w u v same a h =
    outcome_by steady k known w v (mask_plan k w) ended (snapshot w None) (snapshot v None) a (plan_is k w known a)
    (subst (λ s. OutcomeIn steady (rule_with k known) [] (file w k.input) v.input ended s (snapshot v None)) (same_snapshot w u None same)
    (subst (λ f. OutcomeIn steady (rule_with k known) [] (fin.get f k.input) v.input ended (snapshot u None) (snapshot v None)) same.0 h))

pub knew : (k : MaskWork) (known : List (List ℕ)) (ended : CommandEnd) (a b c : State) → b.steady ≡ a.steady → IfKnown a.contents b.contents (KnownRead a.steady k.known (Ok known))
    → After (rule_with k (has_text known)) [] k.input ended (without_sink b) (without_sink c) → IsAfterTask (mask_task k) ended (without_sink a) (without_sink c)
knew k known ended a b c same h t = by_known a.contents b.contents c.contents h
    (subst (λ st. IfKnown b.contents c.contents (OutcomeOf st (rule_with k (has_text known)) [] k.input None None ended)) same t)
  where
    by_known : (x y z : Option World) → IfKnown x y (KnownRead a.steady k.known (Ok known)) → IfKnown y z (OutcomeOf a.steady (rule_with k (has_text known)) [] k.input None None ended)
        → IfKnown x z (λ w v. Outcome a.steady (mask_plan k w) (MaskHalted a.steady k w v) ended (snapshot w None) (snapshot v None))
    by_known None y z h t = tt
    by_known (Some w) None z h t = absurd h
    by_known (Some w) (Some u) None h t = absurd t
    by_known (Some w) (Some u) (Some v) h t = rest_left a.steady k (has_text known) ended w u v h.0 h.1 t

-- The file of known texts wasn't read.
unread_left : (steady : Bool) (k : MaskWork) (e : Ending) (w u : World) → KnownRead steady k.known (Err e) w u
    → Outcome steady (mask_plan k w) (MaskHalted steady k w u) (command_end e) (snapshot w None) (snapshot u None)
unread_left steady k Done w u h = absurd h
unread_left steady k (Refused r) w u h = absurd h
unread_left steady k ReadFault w u h = by_name k.known refl h.1
  where
    by_name : (o : Option (List ℕ)) → k.known ≡ o → IsSomeAnd o (λ x. IsTrue steady → file w x ≡ None) → MaskHalted steady k w u (snapshot w None) (snapshot u None)
    by_name None e i = absurd i
    by_name (Some name) e i = AtKnown name e (same_snapshot w u None h.0) i
unread_left steady k WriteFault w u h = absurd h
unread_left steady k TooManyParts w u h = absurd h
unread_left steady k (MaskTooLong n) w u h =
    subst (λ p. AllDone p (TooLong n) (snapshot w None) (snapshot u None)) (sym (plan_long_by k k.known w h.2))
    (record { end = ap (λ z. Some (TooLong z)) (sym h.1); holds = same_snapshot w u None h.0 })
unread_left steady k Memory w u h = record { first = []; rest = effects (mask_plan k w).steps; parts = refl; holds = same_snapshot w u None h }

pub unknown : (k : MaskWork) (e : Ending) (a b : State) → IfKnown a.contents b.contents (KnownRead a.steady k.known (Err e))
    → IsAfterTask (mask_task k) (command_end e) (without_sink a) (without_sink b)
unknown k e a b h = by_known a.contents b.contents h
  where
    by_known : (x y : Option World) → IfKnown x y (KnownRead a.steady k.known (Err e))
        → IfKnown x y (λ w v. Outcome a.steady (mask_plan k w) (MaskHalted a.steady k w v) (command_end e) (snapshot w None) (snapshot v None))
    by_known None y h = tt
    by_known (Some w) None h = absurd h
    by_known (Some w) (Some u) h = unread_left a.steady k e w u h

-- Where both files can be read, no read fault leaves anything.
some_none : (o : Option (List ℕ)) → o ≡ None → IsSome o → ⊥
some_none None e h = cc
some_none (Some x) e h = cc

pub told_at : (b : Option World) (w : World) (F : World → Type 0) → b ≡ Some w → IfSome b F → F w
told_at b w F e h = let k : IfSome (Some w) F = subst (λ (o : Option World). IfSome o F) e h in k

pub before_of : (b a : Option World) (P : World → World → Type 0) (F : World → Type 0) → IfKnown b a P → ((w v : World) → P w v → F w) → IfSome b F
before_of None a P F t f = tt
before_of (Some w) None P F t f = absurd t
before_of (Some w) (Some v) P F t f = f w v t

-- One of the two files isn't there.
data Lacks (k : MaskWork) (w : World) : Type 0 where
  Known : (name : List ℕ) → k.known ≡ Some name → file w name ≡ None → Lacks k w
  Input : file w k.input ≡ None → Lacks k w

lacks : (steady : Bool) (k : MaskWork) (w v : World) (s t : Snapshot) → IsTrue steady → MaskHalted steady k w v s t → Lacks k w
lacks steady k w v s t st (AtKnown name is same none) = Known name is (none st)
lacks steady k w v s t st (AtInput known a h) = Input (h.1 st)

pub never_halts : (k : MaskWork) → NeverHalts (mask_task k)
never_halts k a b c h = by_lack (told_at a.place.contents c.input.world (Lacks k) c.input.contents
    (before_of a.place.contents b.place.contents (λ w v. MaskHalted a.place.steady k w v (snapshot w a.sink.written) (snapshot v b.sink.written)) (Lacks k) h
    (λ w v z. lacks a.place.steady k w v (snapshot w a.sink.written) (snapshot v b.sink.written) c.input.steady z)))
  where
    named : (name : List ℕ) → k.known ≡ Some name → CanRead name a.place
    named name is = let h : IfSome (Some name) (λ n. CanRead n a.place) = subst (λ o. IfSome o (λ n. CanRead n a.place)) is c.known in h

    same_world : (x y : World) → a.place.contents ≡ Some x → a.place.contents ≡ Some y → x ≡ y
    same_world x y e f = cc

    by_lack : Lacks k c.input.world → ⊥
    by_lack (Known name is none) =
        let n = named name is in
        some_none (file n.world name) (subst (λ z. file z name ≡ None) (same_world c.input.world n.world c.input.contents n.contents) none) n.there
    by_lack (Input none) = some_none (file c.input.world k.input) none c.input.there

-- All that a masking promises.
pub ran_masks : (k : MaskWork) (e : Ending) (a b : State) → IsAfterTask (mask_task k) (command_end e) (without_sink a) (without_sink b)
    → Tallied Masked (command_end e) (without_sink a) (without_sink b) → Ran (mask_task k) e (without_sink a) (without_sink b)
ran_masks k e a b t c = ran (mask_task k) e (without_sink a) (without_sink b) (never_halts k) t c
