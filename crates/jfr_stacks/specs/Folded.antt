-- The folded stacks of chunks, and their lines.
use Rattle.std.specs.Prelude.{ℕ, List, ◌++◌, codes, count_by, decimal, map}
use Rattle.std.specs.List.{filter_map, flat_map}
use Rattle.std.specs.Ordering.{nat_cmp}
use Rattle.std.specs.Cmp.Lexicographic.{slice_cmp}
use Rattle.std.specs.Str.{bytes_eq}
use Rattle.std.specs.FinMap as fin
use Rattle.jfr_filter.specs.Filters.{Given}
use Rattle.jfr_chunk.specs.Parts.{Parts}
use Rattle.jfr_chunk.specs.Chosen.{kept_of}
use Rattle.jfr_stacks.specs.Texts.{stack_of}

-- Numbers of events by the text of their stack, in the order of the texts' bytes.
abbrev pub Counts : Type 0
Counts = fin.FinMap (slice_cmp nat_cmp) ℕ

-- How often this text is in the list.
abbrev pub count_of : List ℕ → List (List ℕ) → ℕ
count_of text ts = count_by (λ t. bytes_eq t text) ts

-- Each text that occurs, with the number of times that it does.
abbrev pub counted : List (List ℕ) → Counts
counted ts = fin.from_entries (map (λ t. (t, count_of t ts)) ts)

-- The texts of the stacks of the events of a chunk that the filter keeps. Events without a stack have none.
abbrev pub texts_of : Given → Parts → List (List ℕ)
texts_of g p = filter_map (stack_of p) (kept_of g p)

-- The texts of the stacks of all kept events of these chunks, each with the number of events that have it.
unfoldable pub stacks_of : Given → List Parts → Counts
stacks_of g ps = counted (flat_map (texts_of g) ps)

-- A line: the text of a stack, a space, and the number of events.
abbrev pub line : List ℕ × ℕ → List ℕ
line (text, n) = text ++ codes " " ++ decimal n ++ codes "\n"

-- A line for each stack, in the order of the texts' bytes, in UTF-8.
abbrev pub lines_of : Counts → List ℕ
lines_of m = flat_map line (fin.entries m)

-- The stacks of the chunks that were added, and the number of these chunks.
pub record Folded : Type 0 where
  pub chunks : ℕ
  pub stacks : Counts
