-- What masking does with a recording, chunk by chunk.
use Rattle.std.specs.Prelude.{ℕ, ◌+◌, ◌^◌, Bool, true, false, ◌||◌, nat_le, List, [], ◌∷◌, ◌++◌, length, map, Option, None, Some, Result, Ok, Err, codes, encode_utf8_all}
use Rattle.jfr_base.specs.declared.flaw.Flaw.{Flaw}
use Rattle.jfr_header.specs.Cuts.{joined}
use Rattle.jfr_filter.specs.Filters.{Given}
use Rattle.jfr_plan.specs.Ends.{TooLong, refused}
use Rattle.jfr_plan.specs.Effects.{Append, Create, Effect, Finish}
use Rattle.jfr_plan.specs.Rules.{Asked, Goes, Masked, Rule, Stops}
use Rattle.jfr_chunk.specs.Chosen.{kept_of}
use Rattle.jfr_chunk.specs.Parts.{Parts}
use Rattle.jfr_chunk.specs.Refusal.{read_parts, refusal_of}
use Rattle.jfr_show.specs.Texts.{newline, quoted}
use Rattle.jfr_mask.specs.MaskOf.{Masking, dictionary_after, mask_of}
use Rattle.jfr_mask.specs.Pseudonyms.{pseudonym}

-- The masked chunk of a chunk with these parts, with the events that the filter keeps, given the dictionary before it;
-- none for a chunk that is refused.
abbrev pub masked_by : Given → Masking → List (List ℕ) → Result Parts Flaw → List ℕ
masked_by g m d (Ok p) = mask_of m d p (kept_of g p)
masked_by g m d (Err flaw) = []

unfoldable pub masked : Given → Masking → List (List ℕ) → List ℕ → List ℕ
masked g m d c = masked_by g m d (read_parts c)

-- The dictionary after the chunk.
abbrev pub dictionary_by : Given → Masking → List (List ℕ) → Result Parts Flaw → List (List ℕ)
dictionary_by g m d (Ok p) = dictionary_after m d p (kept_of g p)
dictionary_by g m d (Err flaw) = d

unfoldable pub dictionary_with : Given → Masking → List (List ℕ) → List ℕ → List (List ℕ)
dictionary_with g m d c = dictionary_by g m d (read_parts c)

-- The masked chunks of several chunks, and the dictionary after them. It goes on from chunk to chunk.
abbrev pub all_masked : Given → Masking → List (List ℕ) → List (List ℕ) → List (List ℕ)
all_masked g m d [] = []
all_masked g m d (c ∷ cs) = masked g m d c ∷ all_masked g m (dictionary_with g m d c) cs

abbrev pub dictionary_over : Given → Masking → List (List ℕ) → List (List ℕ) → List (List ℕ)
dictionary_over g m d [] = d
dictionary_over g m d (c ∷ cs) = dictionary_over g m (dictionary_with g m d c) cs

-- A masked chunk is too long if it has 2^30 bytes, or if 2^40 bytes come before it.
abbrev pub is_too_long : ℕ → List ℕ → Bool
is_too_long before chunk = nat_le (2 ^ 40) before || nat_le (2 ^ 30) (length chunk)

-- A chunk with this number is refused with its flaw, or its masked chunk is too long, or is appended.
abbrev pub asks_by : Option Flaw → Bool → ℕ → List ℕ → Asked
asks_by (Some f) long n chunk = Stops (refused n f)
asks_by None true n chunk = Stops (TooLong n)
asks_by None false n chunk = Goes (Append chunk ∷ [])

-- What is asked for a chunk, given the dictionary before it, the length of the output before it, and its number.
abbrev pub asks_masked : Given → Masking → List (List ℕ) → ℕ → ℕ → List ℕ → Asked
asks_masked g m d before n c = asks_by (refusal_of c) (is_too_long before (masked g m d c)) n (masked g m d c)

-- The line of a table for a text: the pseudonym with its number, a space, and the text between quotes.
abbrev pub table_line : ℕ → List ℕ → List ℕ
table_line n t = encode_utf8_all (pseudonym false n ++ (codes " " ++ (quoted t ++ newline)))

-- The lines for texts of which the first has this number.
abbrev pub table_lines : ℕ → List (List ℕ) → List (List ℕ)
table_lines n [] = []
table_lines n (t ∷ ts) = table_line n t ∷ table_lines (n + 1) ts

-- The effects that write a table with this name, if one is asked for: a line for each text of the dictionary.
abbrev pub table_effects : Option (List ℕ) → List (List ℕ) → List Effect
table_effects None d = []
table_effects (Some name) d = Create name ∷ (map (λ line. Append line) (table_lines 1 d) ++ Finish ∷ [])

-- The rule of masking: the output is created, the masked chunk of each chunk is appended, the output is finished, and
-- the table is written.
abbrev pub masking_rule : Given → Masking → List ℕ → Option (List ℕ) → Rule
masking_rule g m output table = record {
  opens = Create output ∷ [];
  asks = λ before c. asks_masked g m (dictionary_over g m [] before) (length (joined (all_masked g m [] before))) (length before + 1) c;
  ends = λ before. Finish ∷ table_effects table (dictionary_over g m [] before);
  target = Masked;
}
