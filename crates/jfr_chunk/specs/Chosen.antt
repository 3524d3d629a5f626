-- Which events of a chunk a filter keeps.
use Rattle.std.specs.Prelude.{ℕ, Bool, false, ◌&&◌, List, [], ◌∷◌, map, Option, Some, None, codes}
use Rattle.std.specs.Option.{option_map_or}
use Rattle.jfr_filter.specs.Filters.{Given, keeps}
use Rattle.jfr_layout.specs.Classes.{find_class}
use Rattle.jfr_chunk.specs.Parts.{Parts, EventAt, events_of}
use Rattle.jfr_chunk.specs.Paths.{named_text}
use Rattle.jfr_chunk.specs.Windows.{allows_time}
use Rattle.jfr_chunk.specs.Reach.{kept_by}

-- The names that lead from an event to its thread's Java name.
abbrev pub java_names : List (List ℕ)
java_names = codes "eventThread" ∷ codes "javaName" ∷ []

-- The names that lead from an event to its thread's name in the operating system.
abbrev pub system_names : List (List ℕ)
system_names = codes "eventThread" ∷ codes "osName" ∷ []

-- The first of two texts that there is.
abbrev pub or_else : Option (List ℕ) → Option (List ℕ) → Option (List ℕ)
or_else (Some text) other = Some text
or_else None other = other

-- The name of an event's thread: its Java name if that has a text, else its name in the operating system.
abbrev pub thread_text : Parts → EventAt → Option (List ℕ)
thread_text p e = or_else (named_text p e.node java_names) (named_text p e.node system_names)

-- The filter keeps the event: by the name and the categories of its class and the name of its thread, and by its
-- time.
abbrev pub is_chosen : Given → Parts → EventAt → Bool
is_chosen g p e = option_map_or (λ c. keeps g c.name c.categories (thread_text p e)) (find_class p.classes e.record_of.type_id) false && allows_time g p e

-- Whether the filter keeps each event, in order.
abbrev pub chosen : Given → Parts → List Bool
chosen g p = map (is_chosen g p) (events_of p)

-- The events that the filter keeps.
abbrev pub kept_of : Given → Parts → List EventAt
kept_of g p = kept_by p (chosen g p)
