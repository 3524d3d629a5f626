-- Lines and words: the pieces of bytes between the occurrences of one byte.
use Rattle.std.specs.Prelude.{ℕ, ◌==◌, List, [], Option, Some, None}
use Rattle.std.specs.List.{slice_split}
use Rattle.std.specs.Borrow.{Bor}

-- The pieces between the occurrences of a mark; one more than there are occurrences.
abbrev pub pieces : ℕ → List ℕ → List (List ℕ)
pieces mark bytes = slice_split (λ b. b == mark) bytes

-- The lines of a text, with an empty one at the end if the text ends with a newline.
abbrev pub lines_of : List ℕ → List (List ℕ)
lines_of text = pieces 10 text

-- The words of a line, separated by single spaces.
abbrev pub words_of : List ℕ → List (List ℕ)
words_of line = pieces 32 line

-- The pieces of what is left, if anything is.
abbrev pub rest_pieces : ℕ → Option (Bor (List ℕ)) → List (List ℕ)
rest_pieces mark None = []
rest_pieces mark (Some rest) = pieces mark rest.now
