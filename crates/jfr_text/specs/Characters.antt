-- The characters that are left of a string's text.
use Rattle.std.specs.Prelude.{ℕ, List}
use Rattle.std.specs.Slice.Iter.{iter_rest}
use Rattle.jfr_text.specs.declared.characters.Source.{Source}
use Rattle.jfr_text.specs.declared.characters.Source.TheVariants.{Latin, Utf8, Utf16}

-- The characters that a source has left.
abbrev pub characters_of : Source → List ℕ
characters_of (Latin bytes) = iter_rest bytes
characters_of (Utf8 characters) = characters
characters_of (Utf16 characters) = characters
