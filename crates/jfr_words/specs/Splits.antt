-- The words after `disassemble`.
use Rattle.std.specs.Prelude.{ℕ, ◌^◌, Bool, List, ◌∷◌, Option, None, Some, option_map, option_and_then, unwrap_or, if◌then◌else◌, codes}
use Rattle.std.specs.Option.{is_some, option_map_or}
use Rattle.std.specs.Str.{bytes_eq}
use Rattle.jfr_split.specs.declared.part.SplitRule.{SplitRule}
use Rattle.jfr_words.specs.declared.order.Order.{Order}
use Rattle.jfr_words.specs.declared.order.Order.TheVariants.{Disassemble}
pub use Rattle.jfr_words.specs.declared.split.SplitOption.{SplitOption}
use Rattle.jfr_words.specs.declared.split.SplitOption.TheVariants.{Output, MaxChunks, MaxSize}
pub use Rattle.jfr_words.specs.declared.split.SplitSettings.{SplitSettings}
use Rattle.jfr_words.specs.Names.{name_in, only_name}
use Rattle.jfr_words.specs.Numbers.{number_in}

-- The option of `disassemble` that a word names.
abbrev pub split_option_of : List ℕ → Option SplitOption
split_option_of word =
    if bytes_eq word (codes "--output") then Some Output else
    if bytes_eq word (codes "--max-chunks") then Some MaxChunks else
    if bytes_eq word (codes "--max-size") then Some MaxSize else
    None

-- No options given.
abbrev pub no_split_option : SplitSettings
no_split_option = record { folder = None; max_chunks = None; max_size = None }

-- Whether an option has been given.
abbrev pub is_split_given : SplitOption → SplitSettings → Bool
is_split_given Output g = is_some g.folder
is_split_given MaxChunks g = is_some g.max_chunks
is_split_given MaxSize g = is_some g.max_size

-- The options with this one set to the word, if the word is a value of it.
abbrev pub split_set : SplitOption → List ℕ → SplitSettings → Option SplitSettings
split_set Output value g = option_map (λ folder. record g { folder = Some folder }) (name_in value)
split_set MaxChunks value g = option_map (λ n. record g { max_chunks = Some n }) (number_in 1 4294967295 value)
split_set MaxSize value g = option_map (λ n. record g { max_size = Some n }) (number_in 1 (2 ^ 40) value)

-- The options with this one set to the word; none if it was given before or the word is not a value of it.
abbrev pub split_with : SplitOption → List ℕ → SplitSettings → Option SplitSettings
split_with option value g = if is_split_given option g then None else split_set option value g

-- The rule that the options give. Without options a part has at most 5 chunks and at most 2 ^ 40 bytes; there
-- are at most 999,999 parts.
abbrev pub split_rule : SplitSettings → SplitRule
split_rule g = record { folder = g.folder; max_chunks = unwrap_or g.max_chunks 5; max_size = unwrap_or g.max_size (2 ^ 40); max_parts = 999999 }

-- The order with these options, if the file is the only word left.
abbrev pub split_named : SplitSettings → List (List ℕ) → Option Order
split_named g words = option_map (λ file. Disassemble file (split_rule g)) (only_name words)

-- The order of the words after `disassemble`, with these options given so far: an option takes the next word,
-- whatever it is, as its value; after the options comes the name.
abbrev pub split_from : SplitSettings → List (List ℕ) → Option Order
split_from g (word ∷ next ∷ rest) = option_map_or (λ option. option_and_then (λ h. split_from h rest) (split_with option next g)) (split_option_of word) (split_named g (word ∷ next ∷ rest))
split_from g words = split_named g words
