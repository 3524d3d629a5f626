-- The order that the words of the command line give. It is a function, so every list of words has exactly one
-- answer: an order, or none, which is a usage fault.
use Rattle.std.specs.Prelude.{◌≡◌, ℕ, ◌≤◌, ◌<◌, ◌^◌, List, [], ◌∷◌, Option, None, Some, option_map, option_and_then, Result, Ok, Err, ⊤, if◌then◌else◌, codes, encode_utf8_all}
use Rattle.std.specs.Str.{bytes_eq}
use Rattle.jfr_filter.specs.Filters.{Given, nothing_given}
use Rattle.jfr_split.specs.Parts.{IsUsable}
use Rattle.jfr_words.specs.declared.order.Order.{Order}
use Rattle.jfr_words.specs.declared.order.Order.TheVariants.{Print, Summary, Metadata, Disassemble, Assemble, Sample, Receipt, Verify, Build}
use Rattle.jfr_words.specs.declared.order.WordsFault.{WordsFault}
use Rattle.jfr_words.specs.declared.order.WordsFault.TheVariants.{Usage, Memory}
use Rattle.jfr_words.specs.Filtered.{filtered_from}
use Rattle.jfr_words.specs.Jsons.{asks_json, after_json}
use Rattle.jfr_words.specs.Masks.{no_mask_option, mask_from}
use Rattle.jfr_words.specs.Names.{only_name, three_names, two_names}
use Rattle.jfr_words.specs.Numbers.{number_in}
use Rattle.jfr_words.specs.Prints.{no_print_option, print_from}
use Rattle.jfr_words.specs.Scrubs.{no_scrub_option, scrub_from}
use Rattle.jfr_words.specs.Splits.{no_split_option, split_from}
use Rattle.jfr_words.specs.Stacks.{stacks_from}

-- The order of the words after `summary`: the file, and `--json` before it for JSON.
abbrev pub summary_of : List (List ℕ) → Option Order
summary_of words = option_map (λ file. Summary (asks_json words) file) (only_name (after_json words))

-- The order of the words after `metadata`: the file, and `--json` before it for JSON.
abbrev pub metadata_of : List (List ℕ) → Option Order
metadata_of words = option_map (λ file. Metadata (asks_json words) file) (only_name (after_json words))

-- The order of the words after `assemble`: the folder and the output.
abbrev pub assembly_of : List (List ℕ) → Option Order
assembly_of words = option_map (λ names. Assemble names.0 names.1) (two_names words)

-- The order of the words after `sample`: the seed, and the number of events.
abbrev pub sample_of : List (List ℕ) → Option Order
sample_of (seed ∷ events ∷ []) = option_and_then (λ s. option_map (λ e. Sample s e) (number_in 1 1000000 events)) (number_in 0 4294967295 seed)
sample_of _ = None

-- The order of the words after `receipt`: the options of a filter, the input and the receipt.
abbrev pub receipt_named : Given → List (List ℕ) → Option Order
receipt_named g words = option_map (λ names. Receipt g names.0 names.1) (two_names words)

abbrev pub receipt_of : List (List ℕ) → Option Order
receipt_of words = filtered_from receipt_named nothing_given words

-- The order of the words after `verify`: the options of a filter, the input, the output and the receipt.
abbrev pub verification_named : Given → List (List ℕ) → Option Order
verification_named g words = option_map (λ names. Verify g names.0 names.1 names.2) (three_names words)

abbrev pub verification_of : List (List ℕ) → Option Order
verification_of words = filtered_from verification_named nothing_given words

-- The order of the words after `build`: the text and the output.
abbrev pub building_of : List (List ℕ) → Option Order
building_of words = option_map (λ names. Build names.0 names.1) (two_names words)

-- The order of the words. The first one is the command.
unfoldable pub order_of : List (List ℕ) → Option Order
order_of [] = None
order_of (command ∷ rest) =
    if bytes_eq command (codes "print") then print_from no_print_option rest else
    if bytes_eq command (codes "summary") then summary_of rest else
    if bytes_eq command (codes "metadata") then metadata_of rest else
    if bytes_eq command (codes "scrub") then scrub_from no_scrub_option rest else
    if bytes_eq command (codes "disassemble") then split_from no_split_option rest else
    if bytes_eq command (codes "assemble") then assembly_of rest else
    if bytes_eq command (codes "sample") then sample_of rest else
    if bytes_eq command (codes "receipt") then receipt_of rest else
    if bytes_eq command (codes "verify") then verification_of rest else
    if bytes_eq command (codes "stacks") then stacks_from nothing_given rest else
    if bytes_eq command (codes "build") then building_of rest else
    if bytes_eq command (codes "mask") then mask_from no_mask_option rest else
    None

-- The name of a file is the word in UTF-8.
abbrev pub file_name : List ℕ → List ℕ
file_name word = encode_utf8_all word

-- A value that was read is the one expected; a usage fault means that none is expected; running out of memory
-- says nothing.
abbrev pub IsRead : {T V : Type 0} → Option V → Result T WordsFault → (T → V) → Type 0
IsRead o (Ok x) seen = o ≡ Some (seen x)
IsRead o (Err Usage) seen = o ≡ None
IsRead o (Err Memory) seen = ⊤

-- After a success the order is the same as before; a usage fault means that there was no order before;
-- running out of memory says nothing.
abbrev pub StillGives : {T : Type 0} → Option Order → Option Order → Result T WordsFault → Type 0
StillGives before now (Ok x) = now ≡ before
StillGives before now (Err Usage) = before ≡ None
StillGives before now (Err Memory) = ⊤

-- The numbers of an order are in their ranges.
abbrev pub IsUsableOrder : Order → Type 0
IsUsableOrder (Print filter depth json file) = depth ≤ 8
IsUsableOrder (Disassemble file rule) = IsUsable rule
IsUsableOrder (Sample seed events) = (seed < 2 ^ 32) × (1 ≤ events) × (events ≤ 1000000)
IsUsableOrder _ = ⊤
