-- The definitions computed on strings from outside.
use Rattle.std.specs.Prelude.{◌≡◌, [], ◌∷◌, Some, None, Ok, refl, true, false}
use Rattle.jfr_base.specs.declared.reason.Reason.TheVariants.{Short, StringKind}
use Rattle.jfr_base.specs.Formats.{run, int_at, refused}
use Rattle.jfr_text.specs.Strings.{Null, Empty, Key, Utf8, Units, Latin, string_format, text_of}
use Rattle.bstr.proofs.Computing.{computing}
use Rattle.std.specs.Char.Utf16.{utf16_chars}

row_utf8 : run (string_format true) (3 ∷ 3 ∷ 0x61 ∷ 0xC3 ∷ 0x28 ∷ []) 5 0 ≡ Ok (record { value = Utf8 (0x61 ∷ 0xC3 ∷ 0x28 ∷ []); place = 5 })
unfolding run string_format int_at
row_utf8 = refl

text_utf8 : text_of (Utf8 (0x61 ∷ 0xC3 ∷ 0x28 ∷ [])) ≡ Some (0x61 ∷ 0xFFFD ∷ 0x28 ∷ [])
unfolding computing
text_utf8 = refl

row_pair : run (string_format true) (4 ∷ 2 ∷ 0xBD ∷ 0xB0 ∷ 3 ∷ 0x80 ∷ 0xBC ∷ 3 ∷ []) 8 0 ≡ Ok (record { value = Units (0xD83D ∷ 0xDE00 ∷ []); place = 8 })
unfolding run string_format int_at
row_pair = refl

text_pair : text_of (Units (0xD83D ∷ 0xDE00 ∷ [])) ≡ Some (0x1F600 ∷ [])
unfolding utf16_chars
text_pair = refl

row_lone : run (string_format true) (4 ∷ 1 ∷ 0xBD ∷ 0xB0 ∷ 3 ∷ []) 5 0 ≡ Ok (record { value = Units (0xD83D ∷ []); place = 5 })
unfolding run string_format int_at
row_lone = refl

text_lone : text_of (Units (0xD83D ∷ [])) ≡ Some (0xFFFD ∷ [])
unfolding utf16_chars
text_lone = refl

row_latin : run (string_format true) (5 ∷ 1 ∷ 0xE9 ∷ []) 3 0 ≡ Ok (record { value = Latin (0xE9 ∷ []); place = 3 })
unfolding run string_format int_at
row_latin = refl

text_latin : text_of (Latin (0xE9 ∷ [])) ≡ Some (0xE9 ∷ [])
text_latin = refl

row_empty : run (string_format true) (1 ∷ []) 1 0 ≡ Ok (record { value = Empty; place = 1 })
unfolding run string_format int_at
row_empty = refl

text_empty : text_of Empty ≡ Some []
text_empty = refl

row_null : run (string_format true) (0 ∷ []) 1 0 ≡ Ok (record { value = Null; place = 1 })
unfolding run string_format int_at
row_null = refl

text_null : text_of Null ≡ None
text_null = refl

row_key : run (string_format true) (2 ∷ 5 ∷ []) 2 0 ≡ Ok (record { value = Key 5; place = 2 })
unfolding run string_format int_at
row_key = refl

text_key : text_of (Key 5) ≡ None
text_key = refl

-- A count may be padded, and so may an integer of a unit.
row_padded : run (string_format true) (4 ∷ 0x81 ∷ 0 ∷ 0xC1 ∷ 0x80 ∷ 0 ∷ []) 6 0 ≡ Ok (record { value = Units (0x41 ∷ []); place = 6 })
unfolding run string_format int_at
row_padded = refl

-- Of an integer above 16 bits the low ones count.
text_wide : text_of (Units (0x10041 ∷ [])) ≡ Some (0x41 ∷ [])
unfolding utf16_chars
text_wide = refl

-- A length past the end: the run of bytes is missing.
row_beyond : run (string_format true) (3 ∷ 4 ∷ 0x61 ∷ 0x62 ∷ []) 4 0 ≡ refused 2 Short
unfolding run string_format int_at
row_beyond = refl

-- A count past the end: the first integer that is not there is missing.
row_units_beyond : run (string_format true) (4 ∷ 2 ∷ 0x41 ∷ []) 3 0 ≡ refused 3 Short
unfolding run string_format int_at
row_units_beyond = refl

row_nothing : run (string_format true) [] 0 0 ≡ refused 0 Short
unfolding run string_format int_at
row_nothing = refl

row_kind_six : run (string_format true) (6 ∷ []) 1 0 ≡ refused 0 StringKind
unfolding run string_format int_at
row_kind_six = refl

-- If keys are not allowed.
row_no_key : run (string_format false) (2 ∷ 5 ∷ []) 2 0 ≡ refused 0 StringKind
unfolding run string_format int_at
row_no_key = refl
