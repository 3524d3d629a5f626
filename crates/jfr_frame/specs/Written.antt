-- A record as it is written.
use Rattle.std.specs.Prelude.{ℕ, ◌+◌, List, ◌++◌, length}
use Rattle.jfr_base.specs.Integer.{spell_in}

-- The bytes of a record: its size in this number of bytes, followed by the rest, which begins with the type.
abbrev pub record_in : ℕ → List ℕ → List ℕ
record_in width rest = spell_in width (width + length rest) ++ rest
