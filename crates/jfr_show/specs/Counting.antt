-- How the events of a chunk are counted. Of the classes with one name, one is the leader. Events are counted by
-- the leader of their class first, and then by its name.
use Rattle.std.specs.Prelude.{◌≡◌, ℕ, ◌+◌, ◌^◌, ◌<◌, ◌≤◌, ◌==◌, Bool, false, List, filter, length, map, Option, Some, IfSome, option_and_then, option_map, slice_get, unwrap_or, if◌then◌else◌}
use Rattle.std.specs.List.{AllZip}
use Rattle.std.specs.Option.{option_map_or}
use Rattle.std.specs.Ordering.{nat_cmp}
use Rattle.std.specs.Str.{bytes_eq}
use Rattle.std.specs.BTreeMap as tree
use Rattle.std.specs.BTreeMap.{BTreeMap}
use Rattle.std.specs.FinMap as fin
use Rattle.jfr_frame.specs.declared.framed.Framed.{Framed}
use Rattle.jfr_layout.specs.Classes.{Class, Classes}
use Rattle.jfr_layout.specs.Events.{event_index}
use Rattle.jfr_meta.specs.Attributes.{text_at}
use Rattle.jfr_show.specs.declared.tally.Tally.{Tally}
use Rattle.jfr_show.specs.Totals.{Occurrence, Tallies, occurrence, of_name, tally_of}

-- The class at this index has this name.
abbrev pub HasName : Classes → List ℕ → ℕ → Type 0
HasName k name index = option_map (λ c. c.name) (slice_get k index) ≡ Some name

-- The class with this index may be the leader of the class: it has the same name.
abbrev pub IsLed : Classes → Class → ℕ → Type 0
IsLed k class leader = HasName k class.name leader

-- The indices of the leaders of all classes, in order.
abbrev pub AreLeaders : Classes → List ℕ → Type 0
AreLeaders k leaders = AllZip (IsLed k) k leaders

-- A map from the indices of strings in a table to the index of a class that the string names.
abbrev pub AreNamed : Classes → List (List ℕ) → BTreeMap ℕ ℕ → Type 0
AreNamed k texts named = (string : ℕ) → IfSome (tree.get nat_cmp named string) (HasName k (text_at texts string))

-- The index of the leader of the class with this id, if records of this type are events.
abbrev pub leader_of : Classes → List ℕ → ℕ → Option ℕ
leader_of k leaders id = option_and_then (slice_get leaders) (event_index k id)

-- The record is an event, and the class with this index is the leader of its class.
abbrev pub is_at : Classes → List ℕ → ℕ → Framed → Bool
is_at k leaders index r = option_map_or (λ n. n == index) (leader_of k leaders r.type_id) false

-- The tally of the events of all classes whose leader has this index.
abbrev pub class_tally : Classes → List ℕ → List Framed → ℕ → Tally
class_tally k leaders rs index = tally_of (map (occurrence k) (filter (is_at k leaders index) rs))

-- One tally for each class, in order. It counts the events of all classes whose leader this class is.
pub record AreTallies (k : Classes) (leaders : List ℕ) (rs : List Framed) (ts : List Tally) : Type 0 where
  pub count : length ts ≡ length k
  pub each : (index : ℕ) → index < length k → slice_get ts index ≡ Some (class_tally k leaders rs index)

-- The tallies are those for some choice of leaders.
pub record AreClassTallies (k : Classes) (rs : List Framed) (ts : List Tally) : Type 0 where
  pub leaders : List ℕ
  pub led : AreLeaders k leaders
  pub tallies : AreTallies k leaders rs ts

-- Each tally has room for one more event.
pub record AreSmall (ts : List Tally) : Type 0 where
  pub each : (index : ℕ) (t : Tally) → slice_get ts index ≡ Some t → (t.events < 2 ^ 32) × (t.bytes < 2 ^ 32)

-- The tally of no events.
abbrev pub no_tally : Tally
no_tally = record { events = 0; bytes = 0 }

-- The tally of the events of two tallies.
abbrev pub both : Tally → Tally → Tally
both s t = record { events = s.events + t.events; bytes = s.bytes + t.bytes }

-- The tally of a name after this tally is added to it. An empty tally adds nothing.
abbrev pub added : Option Tally → Tally → Option Tally
added kept t = if t.events == 0 then kept else Some (both (unwrap_or kept no_tally) t)

-- The tally is added to that of this name; all others are unchanged.
pub record AddsTally (old : Tallies) (name : List ℕ) (t : Tally) (new : Tallies) : Type 0 where
  pub each : (other : List ℕ) → fin.get new other ≡ (if bytes_eq name other then added (fin.get old other) t else fin.get old other)

-- For each name the events of that name are added.
pub record AddsEvents (old : Tallies) (es : List Occurrence) (new : Tallies) : Type 0 where
  pub each : (name : List ℕ) → fin.get new name ≡ added (fin.get old name) (tally_of (of_name name es))

-- The tally can be added to that of this name without an overflow.
pub record FitsUnder (m : Tallies) (name : List ℕ) (t : Tally) : Type 0 where
  pub each : (kept : Tally) → fin.get m name ≡ Some kept → (kept.events + t.events < 2 ^ 64) × (kept.bytes + t.bytes < 2 ^ 64)

-- No number in the tallies is above `most`.
pub record AreBelow (most : ℕ) (m : Tallies) : Type 0 where
  pub each : (name : List ℕ) (t : Tally) → fin.get m name ≡ Some t → (t.events ≤ most) × (t.bytes ≤ most)
