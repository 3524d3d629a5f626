-- What the parts of a command leave, one after another.
use Rattle.std.proofs.Common.{◌≡◌, ◌∷◌, ℕ, refl, sym, ◌∙◌, ap, subst, Bool, List, ◌++◌, Result, Ok, Err, append_assoc}
use Rattle.jfr_outside.specs.World.{State, IfKnown}
use Rattle.jfr_header.specs.declared.ending.Ending.{Ending}
use Rattle.jfr_header.specs.declared.ending.Ending.TheVariants.{Done, Refused, ReadFault, WriteFault, TooManyParts, MaskTooLong, Memory}
use Rattle.jfr_header.proofs.Steps.{map_known, chain_known}
use Rattle.jfr_plan.specs.Ends as ends
use Rattle.jfr_plan.specs.Ends.{End, CommandEnd, Ends, NotRead, NotWritten, RanOut, command_end}
use Rattle.jfr_plan.specs.Effects.{Outside, Effect, Snapshot, outside, snapshot, done, broken, Cannot}
use Rattle.jfr_plan.specs.Rules.{Stops, Goes, Target, File, Parts, Masked, Text}
use Rattle.jfr_plan.specs.Outcomes.{SomeDone, Breaks, Unchanged, Counted, Tallied, Rises}
use Rattle.jfr_plan.specs.Parts.{PartEnded, PartOutcome, PartWorld, PartTallied, IsPlaceAfter, PlaceCounts, WriteRises}
use Rattle.jfr_plan.proofs.Walking.{done_append}

-- More effects come after these.
pub some_more : (a b all : List Effect) (s t : Snapshot) → all ≡ a ++ b → SomeDone a s t → SomeDone all s t
some_more a b all s t e h = record { first = h.first; rest = h.rest ++ b; parts = e ∙ ap (λ (x : List Effect). x ++ b) h.parts ∙ append_assoc h.first h.rest b; holds = h.holds }

pub breaks_more : (steady : Bool) (a b all : List Effect) (s t : Snapshot) → all ≡ a ++ b → Breaks steady a s t → Breaks steady all s t
breaks_more steady a b all s t e h = record {
  first = h.first;
  failed = h.failed;
  rest = h.rest ++ b;
  bytes = h.bytes;
  parts = e ∙ ap (λ (x : List Effect). x ++ b) h.parts ∙ append_assoc h.first (h.failed ∷ h.rest) b;
  holds = h.holds;
  cause = h.cause;
}

-- These effects were done before.
pub some_after : (a b : List Effect) (s t u : Snapshot) → t ≡ done a s → SomeDone b t u → SomeDone (a ++ b) s u
some_after a b s t u e h = record {
  first = a ++ h.first;
  rest = h.rest;
  parts = ap (λ (x : List Effect). a ++ x) h.parts ∙ sym (append_assoc a h.first h.rest);
  holds = h.holds ∙ ap (done h.first) e ∙ sym (done_append a h.first s);
}

pub breaks_after : (steady : Bool) (a b : List Effect) (s t u : Snapshot) → t ≡ done a s → Breaks steady b t u → Breaks steady (a ++ b) s u
breaks_after steady a b s t u e h =
    let at : done h.first t ≡ done (a ++ h.first) s = ap (done h.first) e ∙ sym (done_append a h.first s) in
    record {
      first = a ++ h.first;
      failed = h.failed;
      rest = h.rest;
      bytes = h.bytes;
      parts = ap (λ (x : List Effect). a ++ x) h.parts ∙ sym (append_assoc a h.first (h.failed ∷ h.rest));
      holds = h.holds ∙ ap (broken h.bytes h.failed) at;
      cause = λ y. subst (λ (x : Snapshot). Cannot h.failed x) at (h.cause y);
    }

-- Effects are no end.
pub goes_stops : (es : List Effect) (e : End) → Goes es ≡ Stops e → ⊥
goes_stops es e h = cc

-- An ended part, of which more was asked.
ended_more : (st : Bool) (a b : List Effect) (ended : CommandEnd) (s t : Snapshot) → PartEnded st (Goes a) ended s t → PartEnded st (Goes (a ++ b)) ended s t
ended_more st a b (Ends ends.Fine) s t h = h
ended_more st a b (Ends (ends.Refused r)) s t h = absurd (goes_stops a (ends.Refused r) h.0)
ended_more st a b (Ends ends.TooMany) s t h = absurd (goes_stops a ends.TooMany h.0)
ended_more st a b (Ends (ends.TooLong n)) s t h = absurd (goes_stops a (ends.TooLong n) h.0)
ended_more st a b NotRead s t h = h
ended_more st a b NotWritten s t h = breaks_more st a b (a ++ b) s t refl h
ended_more st a b RanOut s t h = some_more a b (a ++ b) s t refl h

-- A part that ended, after one that went on.
ended_after : (st : Bool) (a b : List Effect) (ended : CommandEnd) (s t u : Snapshot) → t ≡ done a s → PartEnded st (Goes b) ended t u → PartEnded st (Goes (a ++ b)) ended s u
ended_after st a b (Ends ends.Fine) s t u e h = h
ended_after st a b (Ends (ends.Refused r)) s t u e h = absurd (goes_stops b (ends.Refused r) h.0)
ended_after st a b (Ends ends.TooMany) s t u e h = absurd (goes_stops b ends.TooMany h.0)
ended_after st a b (Ends (ends.TooLong n)) s t u e h = absurd (goes_stops b (ends.TooLong n) h.0)
ended_after st a b NotRead s t u e h = h
ended_after st a b NotWritten s t u e h = breaks_after st a b s t u e h
ended_after st a b RanOut s t u e h = some_after a b s t u e h

stands_after : (st : Bool) (a b : List Effect) (r : Result (Unit {0}) Ending) (s t u : Snapshot) → t ≡ done a s → PartOutcome st (Goes b) r t u → PartOutcome st (Goes (a ++ b)) r s u
stands_after st a b (Ok x) s t u e h = (refl, h.1 ∙ ap (done b) e ∙ sym (done_append a b s))
stands_after st a b (Err x) s t u e h = ended_after st a b (command_end x) s t u e h

-- One part ended, of which more was asked.
pub leaves_more : (a b : List Effect) (e : Ending) (x y : State) → IsPlaceAfter a (Err e) x y → IsPlaceAfter (a ++ b) (Err e) x y
leaves_more a b e x y h = λ sink.
    map_known x.contents y.contents (PartWorld x.steady (Goes a) (Err e) sink.written sink.written) (PartWorld x.steady (Goes (a ++ b)) (Err e) sink.written sink.written) (h sink)
    (λ w v k. (k.0, ended_more x.steady a b (command_end e) (snapshot w sink.written) (snapshot v sink.written) k.1))

-- One part of the command was done, and memory ran out in the next.
pub leaves_none : (a b : List Effect) (o : Unit {0}) (x y : State) → IsPlaceAfter a (Ok o) x y → IsPlaceAfter (a ++ b) (Err Memory) x y
leaves_none a b o x y h = λ sink.
    map_known x.contents y.contents (PartWorld x.steady (Goes a) (Ok o) sink.written sink.written) (PartWorld x.steady (Goes (a ++ b)) (Err Memory) sink.written sink.written) (h sink)
    (λ w v k. (k.0, record { first = a; rest = b; parts = refl; holds = k.1.1 }))

-- One part went on, and then the next was done.
pub leaves_then : (a b : List Effect) (o : Unit {0}) (r : Result (Unit {0}) Ending) (x y z : State) → PlaceCounts (Ok o) x y → IsPlaceAfter a (Ok o) x y → IsPlaceAfter b r y z
    → IsPlaceAfter (a ++ b) r x z
leaves_then a b o r x y z c h k = λ sink.
    chain_known x.contents y.contents z.contents (PartWorld x.steady (Goes a) (Ok o) sink.written sink.written) (PartWorld x.steady (Goes b) r sink.written sink.written)
    (PartWorld x.steady (Goes (a ++ b)) r sink.written sink.written) (h sink)
    (subst (λ (st : Bool). IfKnown y.contents z.contents (PartWorld st (Goes b) r sink.written sink.written)) (c sink).3 (k sink))
    (λ w v u p q. (q.0 ∙ p.0, stands_after x.steady a b r (snapshot w sink.written) (snapshot v sink.written) (snapshot u sink.written) p.1.1 q.1))

pub counted_after : (R W T : ℕ → ℕ → Type 0) (x y z : Outside) → Counted Unchanged Unchanged Unchanged x y → Counted R W T y z → Counted R W T x z
counted_after R W T x y z e k = (subst (λ (n : ℕ). R n z.place.read_faults) e.0 k.0, subst (λ (n : ℕ). W n z.place.write_faults) e.1 k.1, subst (λ (n : ℕ). T n z.sink.faults) e.2 k.2, k.3 ∙ e.3)

pub tallied_after : (target : Target) (ended : CommandEnd) (x y z : Outside) → Counted Unchanged Unchanged Unchanged x y → Tallied target ended y z → Tallied target ended x z
tallied_after target (Ends e) x y z h k = (k.0, counted_after Unchanged Unchanged Unchanged x y z h k.1)
tallied_after target NotRead x y z h k = counted_after Rises Unchanged Unchanged x y z h k
tallied_after File NotWritten x y z h k = counted_after Unchanged Rises Unchanged x y z h k
tallied_after Parts NotWritten x y z h k = counted_after Unchanged Rises Unchanged x y z h k
tallied_after Masked NotWritten x y z h k = counted_after Unchanged Rises Unchanged x y z h k
tallied_after Text NotWritten x y z h k = counted_after Unchanged Unchanged Rises x y z h k
tallied_after target RanOut x y z h k = counted_after Unchanged Unchanged Unchanged x y z h k

-- The counts over two calls, of which the first one succeeded.
pub counts_then : (o : Unit {0}) (r : Result (Unit {0}) Ending) (x y z : State) → PlaceCounts (Ok o) x y → PlaceCounts r y z → PlaceCounts r x z
counts_then o r x y z h k = λ sink. counted_after Unchanged (WriteRises r) Unchanged (outside x sink) (outside y sink) (outside z sink) (h sink) (k sink)

-- Effects on a place are done, or a write failed, or memory ran out.
pub by_write : (P : Result (Unit {0}) Ending → Type 0) (r : Result (Unit {0}) Ending) (n m : ℕ) → WriteRises r n m → ((x : Unit {0}) → P (Ok x)) → P (Err WriteFault) → P (Err Memory) → P r
by_write P (Ok x) n m h ok failed memory = ok x
by_write P (Err Done) n m h ok failed memory = absurd h
by_write P (Err (Refused f)) n m h ok failed memory = absurd h
by_write P (Err ReadFault) n m h ok failed memory = absurd h
by_write P (Err WriteFault) n m h ok failed memory = failed
by_write P (Err TooManyParts) n m h ok failed memory = absurd h
by_write P (Err (MaskTooLong k)) n m h ok failed memory = absurd h
by_write P (Err Memory) n m h ok failed memory = memory

-- The counts after effects on a place, for a command that writes one file, parts, or a masked recording.
pub tallied : (r : Result (Unit {0}) Ending) (x y : Outside) → Counted Unchanged (WriteRises r) Unchanged x y → PartTallied File r x y × PartTallied Parts r x y × PartTallied Masked r x y
tallied r x y h =
    by_write (λ z. Counted Unchanged (WriteRises z) Unchanged x y → PartTallied File z x y × PartTallied Parts z x y × PartTallied Masked z x y) r x.place.write_faults y.place.write_faults h.1
    (λ o k. (k, k, k)) (λ k. (k, k, k)) (λ k. (k, k, k)) h
