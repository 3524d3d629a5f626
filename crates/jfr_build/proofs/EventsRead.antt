-- The events of a built chunk are those of its lines: one after another, each with its fields.
use Rattle.std.specs.Prelude.{◌≡◌, ℕ, ◌+◌, ◌^◌, ◌<◌, Bool, true, false, not, List, [], ◌∷◌, ◌++◌, length, filter, Option, Some, None, is_some, cond, if◌then◌else◌}
use Rattle.std.specs.List.{cons_option, flat_map, filter_map, AllByRecursion, AllZip}
use Rattle.std.specs.Option.{option_map_or}
use Rattle.std.proofs.Common.{ap, arith, refl, sym, subst, length-append}
use Rattle.jfr_base.specs.Integer.{spell}
use Rattle.jfr_base.proofs.HoldLaws.{Holds, holds_parts}
use Rattle.jfr_frame.specs.declared.framed.Framed.{Framed}
use Rattle.jfr_frame.specs.Records.{Tiles, record_end}
use Rattle.jfr_frame.proofs.WrittenRecords.{framed, length-record_in, written_record}
use Rattle.jfr_layout.specs.Classes.{Classes, Sound, is_event_class}
use Rattle.jfr_value.specs.Values.{Value, bytes_of}
use Rattle.jfr_chunk.specs.Parts.{Parts, EventAt, HasFields, event_by, event_of}
use Rattle.jfr_build.specs.declared.line.BuildLine.{BuildLine}
use Rattle.jfr_build.specs.declared.line.BuildLine.TheVariants.{Class, Field, Constant, Record, Region}
use Rattle.jfr_build.specs.declared.lines.NumberedLine.{NumberedLine}
use Rattle.jfr_build.specs.LineValues.{first_bad_value, is_bad_value, line_value, spelled_value}
use Rattle.jfr_build.specs.Built.{event_record, line_event}
use Rattle.jfr_build.specs.Accepted.{IsEventOf, is_event_line, plain_lines}
use Rattle.jfr_build.proofs.ValuesRead.{spelled, value_there}

-- The line has a value, if it should.
abbrev pub IsGood : Classes → BuildLine → Type 0
IsGood k line = is_bad_value k line ≡ false

-- With no bad line, each is good.
pub all_good : (k : Classes) (ls : List NumberedLine) → first_bad_value k ls ≡ None → AllByRecursion (IsGood k) (plain_lines ls)
all_good k [] e = tt
all_good k (l ∷ ls) e = by_test (is_bad_value k l.line) refl e (λ f. all_good k ls f)
  where
    by_test : (t : Bool) → is_bad_value k l.line ≡ t → cond t (Some l) (first_bad_value k ls) ≡ None → (first_bad_value k ls ≡ None → AllByRecursion (IsGood k) (plain_lines ls))
        → AllByRecursion (IsGood k) (plain_lines (l ∷ ls))
    by_test true q f next = cc
    by_test false q f next = (q, next f)

-- A value that is there if a test holds: it holds.
if_true : (t : Bool) (o : Option Value) (v : Value) → (if t then o else None) ≡ Some v → (t ≡ true) × (o ≡ Some v)
if_true true o v e = (refl, e)
if_true false o v e = cc

-- This is the record of an event, with its fields.
pub record IsEvent (p : Parts) (r : Framed) : Type 0 where
  pub class : is_event_class p.classes r.type_id ≡ true
  pub fields : HasFields p.bytes p.classes r

-- Records one after another, which are the events of these lines.
pub record EventsStand (p : Parts) (at end : ℕ) (lines : List BuildLine) : Type 0 where
  pub frames : List Framed
  pub tiles : Tiles p.bytes at frames end
  pub are : AllByRecursion (IsEvent p) frames
  pub events : AllZip (IsEventOf p) lines (filter_map (event_of p.bytes p.classes) frames)

module _ (p : Parts) (sound : Sound p.classes) (small : length p.bytes < 2 ^ 30) where
  -- The record of an event, before those that follow it.
  event_before : (at end class : ℕ) (words : List (List ℕ)) (v : Value) (lines : List BuildLine) → is_event_class p.classes class ≡ true → spelled_value p.classes class words ≡ Some v
      → Holds p.bytes (length p.bytes) at (event_record class (bytes_of v)) → EventsStand p (at + length (event_record class (bytes_of v))) end lines
      → EventsStand p at end (Record class words ∷ lines)
  event_before at end class words v lines event value h rest =
      let s = written_record p.bytes 5 at class (bytes_of v) (omega arith) (omega arith) (omega (arith, small)) h in
      let r : Framed = framed 5 at class (bytes_of v) in
      let there = value_there p class words v (record_end r) r.body (spelled p.classes class words v sound value) s.body in
      let node : EventAt = record { record_of = r; node = record { shape = record { class = class; constant = false; array = false }; at = r.body; end = r.body + length (bytes_of v) } } in
      let found : event_of p.bytes p.classes r ≡ Some node = ap (event_by r) there.runs in
      let e : at + length (event_record class (bytes_of v)) ≡ record_end r = omega (arith, length-record_in 5 (spell class ++ bytes_of v)) in
      record {
        frames = r ∷ rest.frames;
        tiles = (refl, s.is, subst (λ z. Tiles p.bytes z rest.frames end) e rest.tiles);
        are = (record { class = event; fields = (v, r.body + length (bytes_of v), there.reads) }, rest.are);
        events = subst (λ o. AllZip (IsEventOf p) (Record class words ∷ lines) (cons_option o (filter_map (event_of p.bytes p.classes) rest.frames))) (sym found) ((refl, there.has), rest.events);
      }

  -- What is written for an event, before what is written for the lines after it.
  by_record : (at end class : ℕ) (words : List (List ℕ)) (lines : List BuildLine) (value : Option Value) → line_value p.classes (Record class words) ≡ value → not (is_some value) ≡ false
      → Holds p.bytes (length p.bytes) at (option_map_or (λ v. event_record class (bytes_of v)) value [])
      → EventsStand p (at + length (option_map_or (λ v. event_record class (bytes_of v)) value [])) end lines → EventsStand p at end (Record class words ∷ lines)
  by_record at end class words lines None e g h rest = cc
  by_record at end class words lines (Some v) e g h rest =
      let q = if_true (is_event_class p.classes class) (spelled_value p.classes class words) v e in
      event_before at end class words v lines q.0 q.1 h rest

  -- The records of all lines that are events, one after another.
  pub events_stand : (ls : List BuildLine) (at : ℕ) → AllByRecursion (IsGood p.classes) ls → Holds p.bytes (length p.bytes) at (flat_map (line_event p.classes) ls)
      → EventsStand p at (at + length (flat_map (line_event p.classes) ls)) (filter is_event_line ls)
  events_stand [] at good h = record { frames = []; tiles = omega arith; are = tt; events = tt }
  events_stand (Class id name event ∷ ls) at good h = events_stand ls at good.1 h
  events_stand (Field name shape ∷ ls) at good h = events_stand ls at good.1 h
  events_stand (Constant class key words ∷ ls) at good h = events_stand ls at good.1 h
  events_stand (Region region ∷ ls) at good h = events_stand ls at good.1 h
  events_stand (Record class words ∷ ls) at good h =
      let more : List ℕ = flat_map (line_event p.classes) ls in
      let one : List ℕ = line_event p.classes (Record class words) in
      let q = holds_parts p.bytes (length p.bytes) at one more h in
      let rest = events_stand ls (at + length one) good.1 q.1 in
      let l : at + length one + length more ≡ at + length (one ++ more) = omega (arith, length-append one more) in
      by_record at (at + length (one ++ more)) class words (filter is_event_line ls) (line_value p.classes (Record class words)) refl good.0 q.0
      (subst (λ z. EventsStand p (at + length one) z (filter is_event_line ls)) l rest)
