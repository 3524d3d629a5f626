-- The events of a sample: one after another, each with its fields.
use Rattle.std.specs.Prelude.{◌≡◌, ℕ, ◌+◌, ◌^◌, ◌<◌, Bool, true, false, List, [], ◌∷◌, ◌++◌, length, Some, None, nat_lt, if◌then◌else◌}
use Rattle.std.specs.List.{flat_map, AllByRecursion}
use Rattle.std.proofs.Common.{ap, arith, refl, sym, subst, length-append, append_assoc, append-nil, inl, inr}
use Rattle.jfr_base.specs.Integer.{spell}
use Rattle.jfr_base.specs.Formats.{Reads}
use Rattle.jfr_base.proofs.HoldLaws.{Holds, holds_parts}
use Rattle.jfr_base.proofs.Spelling.{spell_spells}
use Rattle.jfr_frame.specs.declared.framed.Framed.{Framed}
use Rattle.jfr_frame.specs.Records.{IsRecord, Tiles, record_end}
use Rattle.jfr_frame.specs.Written.{record_in}
use Rattle.jfr_frame.proofs.WrittenRecords.{framed, length-record_in, written_record}
use Rattle.jfr_layout.specs.Classes.{kind_of, is_event_class}
use Rattle.jfr_layout.specs.declared.kind.Kind.TheVariants as kinds
use Rattle.jfr_value.specs.declared.leaf.LeafKind.TheVariants as leaf_kinds
use Rattle.jfr_value.specs.Values.{Value, Single, Group, Nil, Cons, Fits, IsSingle, shape_of, bytes_of}
use Rattle.jfr_value.specs.Reading.{value_format}
use Rattle.jfr_pool.specs.Entries.{inline}
use Rattle.jfr_chunk.specs.Parts.{HasFields}
use Rattle.jfr_sample.specs.Sample.{draw, key_of, event_a, event_b, event}
use Rattle.jfr_report.proofs.SampleMetadata.{a_class, b_class, number_class, sample_classes, classes_sound, plain, node}
use Rattle.jfr_report.proofs.SampleValues.{value_read}

-- A reference to a node.
abbrev pub node_value : ℕ → Value
node_value key = Single node (leaf_kinds.Key key) (spell key) (Some key)

pub node_fits : (key : ℕ) → IsSingle sample_classes node (leaf_kinds.Key key) (spell key) (Some key)
node_fits key = inl (refl, refl, key, spell_spells key, refl, refl)

abbrev number_value : ℕ → Value
number_value i = Single (plain 5) (leaf_kinds.Base kinds.Long) (spell i) None

-- The fields of a t.A, and of a t.B.
abbrev fields_a : ℕ → ℕ → Value
fields_a i key = Group (inline 8) [] (Cons (number_value i) (Cons (node_value key) Nil))

abbrev fields_b : ℕ → Value
fields_b key = Group (inline 9) [] (Cons (node_value key) Nil)

a_fits : (i key : ℕ) → Fits sample_classes (fields_a i key)
unfolding sample_classes kind_of
a_fits i key = (inr (refl, refl, a_class, refl, refl, refl, refl), (inr (refl, refl, number_class, refl, refl, (i, spell_spells i, refl)), (inl (refl, refl, key, spell_spells key, refl, refl), tt)))

b_fits : (key : ℕ) → Fits sample_classes (fields_b key)
unfolding sample_classes kind_of
b_fits key = (inr (refl, refl, b_class, refl, refl, refl, refl), (inl (refl, refl, key, spell_spells key, refl, refl), tt))

a_is_event : is_event_class sample_classes 8 ≡ true
unfolding is_event_class sample_classes kind_of
a_is_event = refl

b_is_event : is_event_class sample_classes 9 ≡ true
unfolding is_event_class sample_classes kind_of
b_is_event = refl

-- This is the record of an event, with its fields.
pub record IsEvent (c : List ℕ) (r : Framed) : Type 0 where
  pub class : is_event_class sample_classes r.type_id ≡ true
  pub fields : HasFields c sample_classes r

-- A record at this offset, of these bytes, which is an event's.
record EventStands (c : List ℕ) (at : ℕ) (bytes : List ℕ) : Type 0 where
  frame : Framed
  place : frame.at ≡ at
  end : record_end frame ≡ at + length bytes
  is : IsRecord c frame
  event : IsEvent c frame

module _ (c : List ℕ) (small : length c < 2 ^ 28) where
  -- An event of this class whose fields are spelled by the rest.
  event_stands : (at type : ℕ) (rest : List ℕ) (v : Value) → is_event_class sample_classes type ≡ true → Fits sample_classes v → shape_of v ≡ inline type → bytes_of v ≡ rest
      → Holds c (length c) at (record_in 4 (spell type ++ rest)) → EventStands c at (record_in 4 (spell type ++ rest))
  event_stands at type rest v class fits shape bytes h =
      let s = written_record c 4 at type rest (omega arith) (omega arith) (omega (arith, small)) h in
      let r : Framed = framed 4 at type rest in
      let read : Reads (value_format sample_classes (shape_of v)) c (record_end r) r.body v (r.body + length (bytes_of v)) =
      value_read sample_classes c (record_end r) r.body v classes_sound fits (subst (Holds c (record_end r) r.body) (sym bytes) s.body) in
      record {
        frame = r;
        place = refl;
        end = omega (arith, length-record_in 4 (spell type ++ rest));
        is = s.is;
        event = record {
          class = class;
          fields =
              (v, r.body + length (bytes_of v), subst (λ z. Reads (value_format sample_classes z) c (record_end r) r.body v (r.body + length (bytes_of v))) shape read);
        };
      }

  a_stands : (at i key : ℕ) → Holds c (length c) at (event_a i key) → EventStands c at (event_a i key)
  a_stands at i key h =
      let e : spell 8 ++ (spell i ++ spell key) ≡ spell 8 ++ spell i ++ spell key = sym (append_assoc (spell 8) (spell i) (spell key)) in
      let b : bytes_of (fields_a i key) ≡ spell i ++ spell key = ap (λ z. spell i ++ z) (append-nil (spell key)) in
      subst (λ z. EventStands c at (record_in 4 z)) e
      (event_stands at 8 (spell i ++ spell key) (fields_a i key) a_is_event (a_fits i key) refl b (subst (λ z. Holds c (length c) at (record_in 4 z)) (sym e) h))

  b_stands : (at key : ℕ) → Holds c (length c) at (event_b key) → EventStands c at (event_b key)
  b_stands at key h = event_stands at 9 (spell key) (fields_b key) b_is_event (b_fits key) refl (append-nil (spell key)) h

  one_stands : (seed events i at : ℕ) → Holds c (length c) at (event seed events i) → EventStands c at (event seed events i)
  unfolding event
  one_stands seed events i at h = by_half (nat_lt (draw seed i) (2 ^ 31)) (key_of events (draw seed i)) h
    where
      by_half : (half : Bool) (key : ℕ) → Holds c (length c) at (if half then event_a i key else event_b key) → EventStands c at (if half then event_a i key else event_b key)
      by_half true key h = a_stands at i key h
      by_half false key h = b_stands at key h

  -- Events one after another.
  pub record EventsStand (at end : ℕ) : Type 0 where
    pub frames : List Framed
    pub tiles : Tiles c at frames end
    pub events : AllByRecursion (IsEvent c) frames

  pub events_stand : (seed events : ℕ) (is : List ℕ) (at : ℕ) → Holds c (length c) at (flat_map (event seed events) is) → EventsStand at (at + length (flat_map (event seed events) is))
  events_stand seed events [] at h = record { frames = []; tiles = omega arith; events = tt }
  events_stand seed events (i ∷ is) at h =
      let one : List ℕ = event seed events i in
      let more : List ℕ = flat_map (event seed events) is in
      let p = holds_parts c (length c) at one more h in
      let s = one_stands seed events i at p.0 in
      let rest = events_stand seed events is (at + length one) p.1 in
      let l : at + length one + length more ≡ at + length (one ++ more) = omega (arith, length-append one more) in
      record {
        frames = s.frame ∷ rest.frames;
        tiles = (s.place, s.is, subst (λ z. Tiles c z rest.frames (at + length (one ++ more))) (sym s.end) (subst (Tiles c (at + length one) rest.frames) l rest.tiles));
        events = (s.event, rest.events);
      }
