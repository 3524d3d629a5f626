-- What is left of an open input.
use Rattle.std.specs.Prelude.{ℕ, List, drop}
use Rattle.jfr_outside.specs.declared.source.Source.{Source}

-- The bytes that have not been read.
abbrev pub unread_bytes : Source → List ℕ
unread_bytes s = drop s.at s.bytes.items
