-- Texts on a sink are effects of a plan.
use Rattle.std.proofs.Common.{◌≡◌, ℕ, ◌∙◌, refl, sym, ap, subst, Bool, List, [], ◌∷◌, ◌++◌, take, Option, None, Some, option_map, append-nil, Result, Ok, Err}
use Rattle.std.specs.List.{concat}
use Rattle.jfr_outside.specs.World.{World, State, SinkState, IfKnown, added}
use Rattle.jfr_header.specs.declared.ending.Ending.{Ending}
use Rattle.jfr_header.specs.declared.ending.Ending.TheVariants.{Done, Refused, ReadFault, WriteFault, TooManyParts, MaskTooLong, Memory}
use Rattle.jfr_plan.specs.Effects.{outside, Write, snapshot, done, broken}
use Rattle.jfr_plan.specs.Rules.{Goes, Text}
use Rattle.jfr_plan.specs.Outcomes.{SomeDone, Breaks}
use Rattle.jfr_plan.specs.Parts.{PartOutcome, PartWorld, PartTallied}
use Rattle.jfr_chunk.specs.Parts.{Parts}
use Rattle.jfr_chunk.specs.Refusal.{read_parts}
use Rattle.jfr_report.specs.Reports.{writes, asks_texts}
use Rattle.jfr_report.specs.Gathered.{TearsText, WritesSome, TextLeaves, TextCounted}
use Rattle.jfr_report.proofs.PageLaws.{grew_on}

-- To write texts is to write all their bytes.
pub done_writes : (texts : List (List ℕ)) (w : World) (o : Option (List ℕ)) → done (writes texts) (snapshot w o) ≡ snapshot w (option_map (added (concat texts)) o)
done_writes [] w o = ap (snapshot w) (nothing o)
  where
    nothing : (o : Option (List ℕ)) → o ≡ option_map (added []) o
    nothing None = refl
    nothing (Some b) = ap Some (sym (append-nil b))
done_writes (t ∷ ts) w o = done_writes ts w (option_map (added t) o) ∙ ap (snapshot w)
    (grew_on t (concat ts) o (option_map (added t) o) (option_map (added (concat ts)) (option_map (added t) o)) refl refl)

map_append : (xs ys : List (List ℕ)) → writes (xs ++ ys) ≡ writes xs ++ writes ys
map_append [] ys = refl
map_append (x ∷ xs) ys = ap (λ z. Write x ∷ z) (map_append xs ys)

some_done : (all : List (List ℕ)) (w : World) (o p : Option (List ℕ)) → WritesSome all o p → SomeDone (writes all) (snapshot w o) (snapshot w p)
some_done all w o p s = record {
  first = writes s.first;
  rest = writes s.rest;
  parts = ap writes s.parts ∙ map_append s.first s.rest;
  holds = ap (snapshot w) s.holds ∙ sym (done_writes s.first w o);
}

breaks : (st : Bool) (all : List (List ℕ)) (w : World) (o p : Option (List ℕ)) → TearsText all o p → Breaks st (writes all) (snapshot w o) (snapshot w p)
breaks st all w o p t = record {
  first = writes t.first;
  failed = Write t.torn;
  rest = writes t.rest;
  bytes = t.bytes;
  parts = ap writes t.parts ∙ map_append t.first (t.torn ∷ t.rest);
  holds = ap (snapshot w) (t.holds ∙ sym (grew_on (concat t.first) (take t.bytes t.torn) o (option_map (added (concat t.first)) o)
      (option_map (added (take t.bytes t.torn)) (option_map (added (concat t.first)) o)) refl refl)) ∙ ap (broken t.bytes (Write t.torn)) (sym (done_writes t.first w o));
  cause = λ h. tt;
}

-- A part that was asked for these texts.
pub texts_stand : (st : Bool) (all : List (List ℕ)) (result : Result (Unit {0}) Ending) (w : World) (o p : Option (List ℕ)) → TextLeaves all result o p
    → PartOutcome st (Goes (writes all)) result (snapshot w o) (snapshot w p)
texts_stand st all (Ok x) w o p t = (refl, ap (snapshot w) t ∙ sym (done_writes all w o))
texts_stand st all (Err WriteFault) w o p t = breaks st all w o p t
texts_stand st all (Err Memory) w o p t = some_done all w o p t
texts_stand st all (Err Done) w o p t = absurd t
texts_stand st all (Err (Refused r)) w o p t = absurd t
texts_stand st all (Err ReadFault) w o p t = absurd t
texts_stand st all (Err TooManyParts) w o p t = absurd t
texts_stand st all (Err (MaskTooLong n)) w o p t = absurd t

-- A part of a command that writes these texts and leaves the place.
pub texts_told : (st : Bool) (all : List (List ℕ)) (result : Result (Unit {0}) Ending) (t : Option World) (o p : Option (List ℕ)) → TextLeaves all result o p
    → IfKnown t t (PartWorld st (Goes (writes all)) result o p)
texts_told st all result None o p h = tt
texts_told st all result (Some w) o p h = (refl, texts_stand st all result w o p h)

pub chunk_told : (st : Bool) (n m : ℕ) (texts : ℕ → Parts → List (List ℕ)) (c : List ℕ) (parts : Parts) (result : Result (Unit {0}) Ending) (t : Option World) (o p : Option (List ℕ))
    → read_parts c ≡ Ok parts → n ≡ m → TextLeaves (texts n parts) result o p → IfKnown t t (PartWorld st (asks_texts m (texts m) (read_parts c)) result o p)
chunk_told st n m texts c parts result t o p e is h =
    subst (λ r. IfKnown t t (PartWorld st (asks_texts m (texts m) r) result o p)) (sym e)
    (subst (λ k. IfKnown t t (PartWorld st (Goes (writes (texts k parts))) result o p)) is (texts_told st (texts n parts) result t o p h))

-- Its counts.
pub texts_tallied : (result : Result (Unit {0}) Ending) (a : State) (s z : SinkState) → TextCounted result s.faults z.faults → PartTallied Text result (outside a s) (outside a z)
texts_tallied (Ok x) a s z h = (refl, refl, h, refl)
texts_tallied (Err WriteFault) a s z h = (refl, refl, h, refl)
texts_tallied (Err Memory) a s z h = (refl, refl, h, refl)
texts_tallied (Err Done) a s z h = absurd h
texts_tallied (Err (Refused r)) a s z h = absurd h
texts_tallied (Err ReadFault) a s z h = absurd h
texts_tallied (Err TooManyParts) a s z h = absurd h
texts_tallied (Err (MaskTooLong n)) a s z h = absurd h
