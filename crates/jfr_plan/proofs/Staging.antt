-- The exits of the one loop, and of what comes before it.
use Rattle.std.proofs.Common.{IsTrue, ◌≡◌, ℕ, ◌+◌, refl, sym, ◌∙◌, subst, Bool, true, List, [], ◌∷◌, ◌++◌, length, Option, None, Some, option_map, IfSome, IsSome, append_assoc, append-nil, false, Result, Ok, Err}
use Rattle.jfr_base.specs.declared.flaw.Refusal.{Refusal}
use Rattle.jfr_outside.specs.World.{World, IfKnown, file, opened}
use Rattle.jfr_header.specs.Cutters.{Cutter}
use Rattle.jfr_header.specs.Fronts as fronts
use Rattle.jfr_header.specs.Nexts.{Found, Refuses, GaveChunk, flaw_of}
use Rattle.jfr_header.specs.declared.ending.Ending.{Ending}
use Rattle.jfr_header.proofs.Steps.{chain_known, TookLess, TookMost}
use Rattle.jfr_plan.specs.Ends.{Fine, Refused, TooMany, TooLong, CommandEnd, Ends, NotRead, NotWritten, RanOut, command_end, refused}
use Rattle.jfr_plan.specs.Effects.{Outside, snapshot}
use Rattle.jfr_plan.specs.Rules.{Rule, Goes}
use Rattle.jfr_plan.specs.Goings.{Going, Staged, IsAt, IsPast}
use Rattle.jfr_plan.specs.Outcomes.{OutcomeOf, Counted, Unchanged}
use Rattle.jfr_plan.specs.Parts.{PartEnded, PartWorld}
use Rattle.jfr_plan.proofs.Leaving.{goes_stops}
use Rattle.jfr_plan.proofs.Going.{Holding, begin, took_stand, partly, ends_fine, ends_broken, ends_partly, ends_flawed, all_seen, halts, hold, stops, breaks, partly_held, goes_on, opens_broken, opens_partly}

-- Counts that stay over two calls.
pub counted_on : (a b c : Outside) → Counted Unchanged Unchanged Unchanged a b → Counted Unchanged Unchanged Unchanged b c → Counted Unchanged Unchanged Unchanged a c
counted_on a b c p q = (q.0 ∙ p.0, q.1 ∙ p.1, q.2 ∙ p.2, q.3 ∙ p.3)

carry : (w u : World) (z : Option World) (P Q : World → World → Type 0) → IfKnown (Some u) z P → ((t : World) → P u t → Q w t) → IfKnown (Some w) z Q
carry w u None P Q p f = absurd p
carry w u (Some t) P Q p f = f t p

-- The end that a refusal by number and flaw says.
numbered : (r : Refusal) (n : ℕ) → r.chunk ≡ n → Ends (refused n (flaw_of r)) ≡ Ends (Refused r)
numbered r n e = sym (λ i. Ends (Refused (record { chunk = e i; offset = r.offset; reason = r.reason })))

pub stage_refused : (st : Bool) (r : Rule) (earlier : List (List ℕ)) (Seen : List (List ℕ) → Type 0) (input : List ℕ) (c : Cutter) (f : Refusal) (o p : Option (List ℕ)) (b a d : Option World)
    → f.chunk ≡ c.number → IfKnown b a (Staged r earlier Seen input c.start c.number c.given o p) → IfKnown a d (Refuses c f) → IfKnown b d (OutcomeOf st r earlier input o p (Ends (Refused f)))
stage_refused st r earlier Seen input c f o p b a d n x y =
    subst (λ (ended : CommandEnd). IfKnown b d (OutcomeOf st r earlier input o p ended)) (numbered f c.number n)
    (chain_known b a d (Staged r earlier Seen input c.start c.number c.given o p) (Refuses c f) (OutcomeOf st r earlier input o p (Ends (refused c.number (flaw_of f)))) x y
    (λ w v u g k. ends_flawed st r earlier input c.number o p c f w v u g.going k))

pub stage_failed : (st : Bool) (r : Rule) (earlier : List (List ℕ)) (Seen : List (List ℕ) → Type 0) (input : List ℕ) (c : Cutter) (o p : Option (List ℕ)) (b a d : Option World)
    → IfKnown b a (Staged r earlier Seen input c.start c.number c.given o p) → IfKnown a d TookLess → (IsTrue st → IfSome a (λ v. v.input ≡ None))
    → IfKnown b d (OutcomeOf st r earlier input o p NotRead)
stage_failed st r earlier Seen input c o p None a d x y z = tt
stage_failed st r earlier Seen input c o p (Some w) None d x y z = absurd x
stage_failed st r earlier Seen input c o p (Some w) (Some v) None x y z = absurd y
stage_failed st r earlier Seen input c o p (Some w) (Some v) (Some u) x y z = halts st r earlier input c.start c.number c.given y.0 o p w v u x.going y.1 y.2 z

pub stage_memory : (st : Bool) (r : Rule) (earlier : List (List ℕ)) (Seen : List (List ℕ) → Type 0) (input : List ℕ) (c : Cutter) (o p : Option (List ℕ)) (b a d : Option World)
    → IfKnown b a (Staged r earlier Seen input c.start c.number c.given o p) → IfKnown a d TookMost → IfKnown b d (OutcomeOf st r earlier input o p RanOut)
stage_memory st r earlier Seen input c o p b a d x y =
    chain_known b a d (Staged r earlier Seen input c.start c.number c.given o p) TookMost (OutcomeOf st r earlier input o p RanOut) x y
    (λ w v u g h. partly st r earlier input c.start c.number c.given o p p w v u g.going (took_stand h.0 p v u h.1))

-- The way of a command whose last part answered so.
abbrev pub last_way : Result (Unit {0}) Ending → CommandEnd
last_way (Ok x) = Ends Fine
last_way (Err e) = command_end e

end_ended : (st : Bool) (r : Rule) (earlier : List (List ℕ)) (input : List ℕ) (c : Cutter) (ended : CommandEnd) (o p q : Option (List ℕ)) (w v u t : World) (g : Going r earlier input c.start c.number c.given o p w v) → Found c fronts.End [] v u → PartEnded st (Goes (r.ends (earlier ++ g.before))) ended (snapshot u p) (snapshot t q) → OutcomeOf st r earlier input o q ended w t
end_ended st r earlier input c (Ends Fine) o p q w v u t g f k = absurd k
end_ended st r earlier input c (Ends (Refused x)) o p q w v u t g f k = absurd (goes_stops (r.ends (earlier ++ g.before)) (Refused x) k.0)
end_ended st r earlier input c (Ends TooMany) o p q w v u t g f k = absurd (goes_stops (r.ends (earlier ++ g.before)) TooMany k.0)
end_ended st r earlier input c (Ends (TooLong n)) o p q w v u t g f k = absurd (goes_stops (r.ends (earlier ++ g.before)) (TooLong n) k.0)
end_ended st r earlier input c NotRead o p q w v u t g f k = absurd k
end_ended st r earlier input c NotWritten o p q w v u t g f k = ends_broken st r earlier input c.number o p q c [] w v u t g f k
end_ended st r earlier input c RanOut o p q w v u t g f k = ends_partly st r earlier input c.number o p q c [] w v u t g f k

end_by : (st : Bool) (r : Rule) (earlier : List (List ℕ)) (input : List ℕ) (c : Cutter) (e : Result (Unit {0}) Ending) (o p q : Option (List ℕ)) (w v u t : World) (g : Going r earlier input c.start c.number c.given o p w v) → Found c fronts.End [] v u → PartWorld st (Goes (r.ends (earlier ++ g.before))) e p q u t → OutcomeOf st r earlier input o q (last_way e) w t
end_by st r earlier input c (Ok x) o p q w v u t g f k = ends_fine st r earlier input c.number o p q c [] w v u t g f k.1.1
end_by st r earlier input c (Err e) o p q w v u t g f k = end_ended st r earlier input c (command_end e) o p q w v u t g f k.1

pub stage_end : (st : Bool) (r : Rule) (earlier : List (List ℕ)) (Seen : List (List ℕ) → Type 0) (input : List ℕ) (c : Cutter) (e : Result (Unit {0}) Ending) (o p q : Option (List ℕ)) (b a d z : Option World) → IfKnown b a (Staged r earlier Seen input c.start c.number c.given o p) → IfKnown a d (Found c fronts.End []) → ((before : List (List ℕ)) → Seen before → IfKnown d z (PartWorld st (Goes (r.ends before)) e p q)) → IfKnown b z (OutcomeOf st r earlier input o q (last_way e))
stage_end st r earlier Seen input c e o p q None a d z x y f = tt
stage_end st r earlier Seen input c e o p q (Some w) None d z x y f = absurd x
stage_end st r earlier Seen input c e o p q (Some w) (Some v) None z x y f = absurd y
stage_end st r earlier Seen input c e o p q (Some w) (Some v) (Some u) z x y f =
    carry w u z (PartWorld st (Goes (r.ends (earlier ++ x.going.before))) e p q) (OutcomeOf st r earlier input o q (last_way e)) (f (earlier ++ x.going.before) x.seen)
    (λ t k. end_by st r earlier input c e o p q w v u t x.going y k)

pub stage_seen : (r : Rule) (earlier : List (List ℕ)) (Seen : List (List ℕ) → Type 0) (input : List ℕ) (c : Cutter) (o p : Option (List ℕ)) (b a d : Option World)
    → IfKnown b a (Staged r earlier Seen input c.start c.number c.given o p) → IfKnown a d (Found c fronts.End []) → IfSome b (IsPast Seen earlier input c.start c.number)
stage_seen r earlier Seen input c o p None a d x y = tt
stage_seen r earlier Seen input c o p (Some w) None d x y = absurd x
stage_seen r earlier Seen input c o p (Some w) (Some v) None x y = absurd y
stage_seen r earlier Seen input c o p (Some w) (Some v) (Some u) x y = all_seen r earlier input o p c [] w v u Seen x.going y x.seen

chunk_ended : (st : Bool) (r : Rule) (earlier : List (List ℕ)) (input : List ℕ) (start number : ℕ) (x : List ℕ) (ended : CommandEnd) (o p q : Option (List ℕ)) (w u t : World) (g : Holding r earlier input start number x o p w u) → PartEnded st (r.asks (earlier ++ g.before) x) ended (snapshot u p) (snapshot t q) → OutcomeOf st r earlier input o q ended w t
chunk_ended st r earlier input start number x (Ends Fine) o p q w u t g k = absurd k
chunk_ended st r earlier input start number x (Ends (Refused f)) o p q w u t g k = stops st r earlier input start number x o p q (Refused f) w u t g k.0 k.1
chunk_ended st r earlier input start number x (Ends TooMany) o p q w u t g k = stops st r earlier input start number x o p q TooMany w u t g k.0 k.1
chunk_ended st r earlier input start number x (Ends (TooLong n)) o p q w u t g k = stops st r earlier input start number x o p q (TooLong n) w u t g k.0 k.1
chunk_ended st r earlier input start number x NotRead o p q w u t g k = absurd k
chunk_ended st r earlier input start number x NotWritten o p q w u t g k = breaks st r earlier input start number x o p q w u t g k
chunk_ended st r earlier input start number x RanOut o p q w u t g k = partly_held st r earlier input start number x o p q w u t g k

pub stage_err : (st : Bool) (r : Rule) (earlier : List (List ℕ)) (Seen : List (List ℕ) → Type 0) (input : List ℕ) (c : Cutter) (x : List ℕ) (e : Ending) (o p q : Option (List ℕ)) (b a d z : Option World) → IfKnown b a (Staged r earlier Seen input c.start c.number c.given o p) → IfKnown a d (Found c (fronts.Chunk x) x) → ((before : List (List ℕ)) → Seen before → c.number ≡ length before + 1 → IfKnown d z (PartWorld st (r.asks before x) (Err e) p q)) → IfKnown b z (OutcomeOf st r earlier input o q (command_end e))
unfolding hold
stage_err st r earlier Seen input c x e o p q None a d z g y f = tt
stage_err st r earlier Seen input c x e o p q (Some w) None d z g y f = absurd g
stage_err st r earlier Seen input c x e o p q (Some w) (Some v) None z g y f = absurd y
stage_err st r earlier Seen input c x e o p q (Some w) (Some v) (Some u) z g y f =
    carry w u z (PartWorld st (r.asks (earlier ++ g.going.before) x) (Err e) p q) (OutcomeOf st r earlier input o q (command_end e)) (f (earlier ++ g.going.before) g.seen g.going.number_is)
    (λ t k. chunk_ended st r earlier input (c.start + length x) c.number x (command_end e) o p q w u t (hold r earlier input c.number o p c x w v u g.going y) k.1)

-- A chunk's part was done, and the stage has seen the chunk.
stage_went : (st : Bool) (r : Rule) (earlier : List (List ℕ)) (Seen Next : List (List ℕ) → Type 0) (input : List ℕ) (c : Cutter) (x : List ℕ) (y : Unit {0}) (o p q : Option (List ℕ)) (b a d z : Option World) → IfKnown b a (Staged r earlier Seen input c.start c.number c.given o p) → IfKnown a d (Found c (fronts.Chunk x) x) → ((before : List (List ℕ)) → Seen before → c.number ≡ length before + 1 → IfKnown d z (PartWorld st (r.asks before x) (Ok y) p q) × Next (before ++ x ∷ [])) → IfKnown b z (Staged r earlier Next input (c.start + length x) (c.number + 1) true o q)
unfolding hold goes_on
stage_went st r earlier Seen Next input c x e o p q None a d z g y f = tt
stage_went st r earlier Seen Next input c x e o p q (Some w) None d z g y f = absurd g
stage_went st r earlier Seen Next input c x e o p q (Some w) (Some v) None z g y f = absurd y
stage_went st r earlier Seen Next input c x e o p q (Some w) (Some v) (Some u) z g y f =
    let k = f (earlier ++ g.going.before) g.seen g.going.number_is in
    carry w u z (PartWorld st (r.asks (earlier ++ g.going.before) x) (Ok e) p q) (Staged r earlier Next input (c.start + length x) (c.number + 1) true o q) k.0
    (λ t s. record {
      going = goes_on r earlier input (c.start + length x) c.number x o p q w u t (hold r earlier input c.number o p c x w v u g.going y) s.0 s.1.0 s.1.1;
      seen = subst Next
          (append_assoc earlier g.going.before (x ∷ [])) k.1;
    })

pub stage_goes : (st : Bool) (r : Rule) (earlier : List (List ℕ)) (Seen Next : List (List ℕ) → Type 0) (input : List ℕ) (c n : Cutter) (y : Unit {0}) (o p q : Option (List ℕ)) (b a d z : Option World)
    → GaveChunk c n → IfKnown b a (Staged r earlier Seen input c.start c.number c.given o p) → IfKnown a d (Found c (fronts.Chunk n.bytes) n.bytes)
    → ((before : List (List ℕ)) → Seen before → c.number ≡ length before + 1 → IfKnown d z (PartWorld st (r.asks before n.bytes) (Ok y) p q) × Next (before ++ n.bytes ∷ []))
    → IfKnown b z (Staged r earlier Next input n.start n.number n.given o q)
stage_goes st r earlier Seen Next input c n e o p q b a d z h g y f =
    subst (λ (k : Bool). IfKnown b z (Staged r earlier Next input n.start n.number k o q)) (sym h.given)
    (subst (λ (k : ℕ). IfKnown b z (Staged r earlier Next input n.start k true o q)) (sym h.number)
    (subst (λ (k : ℕ). IfKnown b z (Staged r earlier Next input k (c.number + 1) true o q)) (sym h.start)
    (stage_went st r earlier Seen Next input c n.bytes e o p q b a d z g y f)))

-- The input is open, and nothing else changed.
record Open (input : List ℕ) (w v : World) : Type 0 where
  pub is : v ≡ opened input w
  pub x : List ℕ
  pub there : file w input ≡ Some x

open_by : (w : World) (input : List ℕ) (x : Option (List ℕ)) → file w input ≡ x → IsSome x → Open input w (opened input w)
open_by w input None e s = cc
open_by w input (Some x) e s = record { is = refl; x = x; there = e }

opens_told : (input : List ℕ) (b a d : Option World) (P Q : World → World → Type 0) → a ≡ option_map (opened input) b → IfSome b (λ w. IsSome (file w input)) → IfKnown a d P
    → ((w t : World) (x : List ℕ) → file w input ≡ Some x → P (opened input w) t → Q w t) → IfKnown b d Q
opens_told input None a d P Q e s k f = tt
opens_told input (Some w) a d P Q e s k f =
    let h = open_by w input (file w input) refl s in
    carry w (opened input w) d P Q (subst (λ (y : Option World). IfKnown y d P) e k) (λ t p. f w t h.x h.there p)

opened_ended : (st : Bool) (r : Rule) (earlier : List (List ℕ)) (input x : List ℕ) (ended : CommandEnd) (o q : Option (List ℕ)) (w t : World) → file w input ≡ Some x
    → PartEnded st (Goes r.opens) ended (snapshot w o) (snapshot t q) → OutcomeOf st r earlier input o q ended w t
opened_ended st r earlier input x (Ends Fine) o q w t f k = absurd k
opened_ended st r earlier input x (Ends (Refused y)) o q w t f k = absurd (goes_stops r.opens (Refused y) k.0)
opened_ended st r earlier input x (Ends TooMany) o q w t f k = absurd (goes_stops r.opens TooMany k.0)
opened_ended st r earlier input x (Ends (TooLong n)) o q w t f k = absurd (goes_stops r.opens (TooLong n) k.0)
opened_ended st r earlier input x NotRead o q w t f k = absurd k
opened_ended st r earlier input x NotWritten o q w t f k = opens_broken st r earlier (file w input) x (snapshot w o) (snapshot t q) f k
opened_ended st r earlier input x RanOut o q w t f k = opens_partly r earlier (file w input) x (snapshot w o) (snapshot t q) f k

-- What was to be done when the input was open ended the command.
pub opened_err : (st : Bool) (r : Rule) (earlier : List (List ℕ)) (input : List ℕ) (e : Ending) (o q : Option (List ℕ)) (b a d : Option World) → a ≡ option_map (opened input) b
    → IfSome b (λ w. IsSome (file w input)) → IfKnown a d (PartWorld st (Goes r.opens) (Err e) o q) → IfKnown b d (OutcomeOf st r earlier input o q (command_end e))
opened_err st r earlier input e o q b a d is there k =
    opens_told input b a d (PartWorld st (Goes r.opens) (Err e) o q) (OutcomeOf st r earlier input o q (command_end e)) is there k
    (λ w t x f p. opened_ended st r earlier input x (command_end e) o q w t f p.1)

-- What was to be done when the input was open is done.
pub opened_ok : (st : Bool) (r : Rule) (earlier : List (List ℕ)) (Seen : List (List ℕ) → Type 0) (input : List ℕ) (start number : ℕ) (y : Unit {0}) (o q : Option (List ℕ)) (b a d : Option World)
    → Seen earlier → IsAt earlier start number → a ≡ option_map (opened input) b → IfSome b (λ w. IsSome (file w input)) → IfKnown a d (PartWorld st (Goes r.opens) (Ok y) o q)
    → IfKnown b d (Staged r earlier Seen input start number false o q)
unfolding begin
opened_ok st r earlier Seen input start number y o q b a d s m is there k =
    opens_told input b a d (PartWorld st (Goes r.opens) (Ok y) o q) (Staged r earlier Seen input start number false o q) is there k
    (λ w t x f p. record { going = begin r earlier input x start number o q w t m.0 m.1 f (p.0 ∙ f) p.1.1; seen = subst Seen (sym (append-nil earlier)) s })
