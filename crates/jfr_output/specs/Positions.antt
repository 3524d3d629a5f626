-- The positions of an output: those of its newest checkpoint and of its metadata record.
use Rattle.std.specs.Prelude.{ℕ, ◌<◌, Bool, true, false, Option, Some, None, ⊤}

-- The newest checkpoint, if there is one, starts before this offset.
abbrev pub IsBefore : Option ℕ → ℕ → Type 0
IsBefore None at = ⊤
IsBefore (Some newest) at = newest < at

-- The offset of the metadata record in the output, if it has been written before or is the current record.
abbrev pub offset_so_far : Option ℕ → Bool → ℕ → Option ℕ
offset_so_far (Some place) now at = Some place
offset_so_far None true at = Some at
offset_so_far None false at = None
