-- The body of a metadata record that was read, and the classes of it that a scrubbed chunk needs.
use Rattle.std.specs.Prelude.{ℕ, Bool, false}
use Rattle.std.specs.Option.{option_map_or}
use Rattle.jfr_layout.specs.Classes.{Classes}
use Rattle.jfr_meta.specs.declared.metadata.Metadata.{Metadata}
use Rattle.jfr_meta.specs.Body.{Body}
use Rattle.jfr_meta.specs.Described.{class_elements}
use Rattle.jfr_meta.specs.Stays.{stay_of}

-- The body of the record.
abbrev pub body_in : Metadata → Body
body_in m = record { start = m.start; duration = m.duration; id = m.id; strings = m.strings; root = m.root }

-- Whether the class with this id is needed, given the ids of those that kept events use.
abbrev pub stays_of : Body → Classes → (ℕ → Bool) → ℕ → Bool
stays_of b k used id = option_map_or (λ ts. stay_of b.strings ts k used id) (class_elements b.strings b.root) false
