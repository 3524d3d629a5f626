-- Laws of metadata records.
use Rattle.std.specs.Prelude.{◌≡◌, ◌⊎◌, ℕ, List, length}
use Rattle.jfr_base.specs.declared.flaw.Flaw.{Flaw}
use Rattle.jfr_frame.specs.declared.framed.Framed.{Framed}
use Rattle.jfr_frame.specs.Records.{record_end}
use Rattle.jfr_layout.specs.Classes.{Classes}
use Rattle.jfr_base.specs.Integer.{IntAt}
use Rattle.jfr_base.specs.Formats.{Reads, times}
use Rattle.jfr_meta.specs.Body.{Body, IsElement, table_string}
use Rattle.jfr_meta.specs.Described.{IsMetadata, IsMetadataFlaw}

-- The record either has exactly one reading, or is refused for exactly one flaw.
pub record HasOneDescription (x : List ℕ) (r : Framed) : Type 0 where
  pub some : ((b : Body) × (k : Classes) × IsMetadata x r b k) ⊎ ((f : Flaw) × IsMetadataFlaw x r f)
  pub not_both : (b : Body) (k : Classes) (f : Flaw) → IsMetadata x r b k → IsMetadataFlaw x r f → ⊥
  pub one_reading : (b c : Body) (k m : Classes) → IsMetadata x r b k → IsMetadata x r c m → (b ≡ c) × (k ≡ m)
  pub one_flaw : (f g : Flaw) → IsMetadataFlaw x r f → IsMetadataFlaw x r g → f ≡ g

-- The bytes from p to q spell the body's start, its duration, its id, and the number of its strings, one
-- after another.
pub record SpellsHead (x : List ℕ) (p q : ℕ) (b : Body) : Type 0 where
  pub after_start : ℕ
  pub after_duration : ℕ
  pub after_id : ℕ
  pub start : IntAt x p after_start b.start
  pub duration : IntAt x after_start after_duration b.duration
  pub id : IntAt x after_duration after_id b.id
  pub count : IntAt x after_id q (length b.strings)

-- The bytes of the record spell the body: the head, the strings, and up to the record's end the tree, which
-- has at most sixteen levels and whose indices are below the number of strings.
pub record SpellsBody (x : List ℕ) (r : Framed) (b : Body) : Type 0 where
  pub after_head : ℕ
  pub after_strings : ℕ
  pub head : SpellsHead x r.body after_head b
  pub strings : Reads (times (length b.strings) table_string) x (record_end r) after_head b.strings after_strings
  pub root : IsElement x (length b.strings) 16 after_strings (record_end r) b.root
