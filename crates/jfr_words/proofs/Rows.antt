-- The orders of some lines.
use Rattle.std.specs.Prelude.{◌≡◌, ◌^◌, pos, true, false, [], ◌∷◌, codes, Some, None, refl}
use Rattle.jfr_filter.specs.Filters.{nothing_given}
use Rattle.jfr_words.specs.declared.order.Order.TheVariants.{Print, Summary, Metadata, Scrub, Disassemble, Assemble, Sample, Receipt, Verify, Stacks, Build, Mask}
use Rattle.jfr_base.specs.Decimal.{decimal_number}
use Rattle.jfr_words.specs.Words.{order_of}

-- Without options a print goes two references deep.
print_row : order_of (codes "print" ∷ codes "a" ∷ []) ≡ Some (Print nothing_given 2 false (codes "a"))
unfolding order_of
print_row = refl

print_options_row : order_of (codes "print" ∷ codes "--json" ∷ codes "--depth" ∷ codes "0" ∷ codes "--events" ∷ codes "t.A,jdk.*" ∷ codes "a" ∷ [])
    ≡ Some (Print (record nothing_given { include_events = Some (codes "t.A" ∷ codes "jdk.*" ∷ []) }) 0 true (codes "a"))
unfolding order_of decimal_number
print_options_row = refl

-- The options in another order.
print_reordered_row : order_of (codes "print" ∷ codes "--events" ∷ codes "t.A,jdk.*" ∷ codes "--json" ∷ codes "--depth" ∷ codes "00" ∷ codes "a" ∷ [])
    ≡ Some (Print (record nothing_given { include_events = Some (codes "t.A" ∷ codes "jdk.*" ∷ []) }) 0 true (codes "a"))
unfolding order_of decimal_number
print_reordered_row = refl

print_categories_row : order_of (codes "print" ∷ codes "--categories" ∷ codes "Java*" ∷ codes "--depth" ∷ codes "8" ∷ codes "a" ∷ [])
    ≡ Some (Print (record nothing_given { include_categories = Some (codes "Java*" ∷ []) }) 8 false (codes "a"))
unfolding order_of decimal_number
print_categories_row = refl

too_deep_row : order_of (codes "print" ∷ codes "--depth" ∷ codes "9" ∷ codes "a" ∷ []) ≡ None
unfolding order_of decimal_number
too_deep_row = refl

json_twice_row : order_of (codes "print" ∷ codes "--json" ∷ codes "--json" ∷ codes "a" ∷ []) ≡ None
unfolding order_of
json_twice_row = refl

-- Options come before the names.
late_option_row : order_of (codes "print" ∷ codes "a" ∷ codes "--json" ∷ []) ≡ None
unfolding order_of
late_option_row = refl

summary_row : order_of (codes "summary" ∷ codes "a" ∷ []) ≡ Some (Summary false (codes "a"))
unfolding order_of
summary_row = refl

summary_json_row : order_of (codes "summary" ∷ codes "--json" ∷ codes "a" ∷ []) ≡ Some (Summary true (codes "a"))
unfolding order_of
summary_json_row = refl

summary_json_twice_row : order_of (codes "summary" ∷ codes "--json" ∷ codes "--json" ∷ codes "a" ∷ []) ≡ None
unfolding order_of
summary_json_twice_row = refl

two_files_row : order_of (codes "summary" ∷ codes "a" ∷ codes "b" ∷ []) ≡ None
unfolding order_of
two_files_row = refl

metadata_row : order_of (codes "metadata" ∷ codes "a" ∷ []) ≡ Some (Metadata false (codes "a"))
unfolding order_of
metadata_row = refl

metadata_json_row : order_of (codes "metadata" ∷ codes "--json" ∷ codes "a" ∷ []) ≡ Some (Metadata true (codes "a"))
unfolding order_of
metadata_json_row = refl

-- The option comes before the name.
late_json_row : order_of (codes "metadata" ∷ codes "a" ∷ codes "--json" ∷ []) ≡ None
unfolding order_of
late_json_row = refl

-- A name doesn't begin with a dash, and isn't empty.
dash_row : order_of (codes "metadata" ∷ codes "-a" ∷ []) ≡ None
unfolding order_of
dash_row = refl

no_name_row : order_of (codes "metadata" ∷ [] ∷ []) ≡ None
unfolding order_of
no_name_row = refl

scrub_row : order_of (codes "scrub" ∷ codes "--exclude-threads" ∷ codes "main" ∷ codes "--include-categories" ∷ codes "Java*,*GC" ∷ codes "a" ∷ codes "b" ∷ [])
    ≡ Some (Scrub (record nothing_given { include_categories = Some (codes "Java*" ∷ codes "*GC" ∷ []); exclude_threads = Some (codes "main" ∷ []) }) false (codes "a") (codes "b"))
unfolding order_of
scrub_row = refl

-- An option's value is the next word, even if that looks like an option.
dashed_value_row : order_of (codes "scrub" ∷ codes "--exclude-events" ∷ codes "--include-events" ∷ codes "a" ∷ codes "b" ∷ [])
    ≡ Some (Scrub (record nothing_given { exclude_events = Some (codes "--include-events" ∷ []) }) false (codes "a") (codes "b"))
unfolding order_of
dashed_value_row = refl

one_name_row : order_of (codes "scrub" ∷ codes "a" ∷ []) ≡ None
unfolding order_of
one_name_row = refl

no_value_row : order_of (codes "scrub" ∷ codes "--include-events" ∷ []) ≡ None
unfolding order_of
no_value_row = refl

given_twice_row : order_of (codes "scrub" ∷ codes "--include-events" ∷ codes "A" ∷ codes "--include-events" ∷ codes "B" ∷ codes "a" ∷ codes "b" ∷ []) ≡ None
unfolding order_of
given_twice_row = refl

empty_pattern_row : order_of (codes "scrub" ∷ codes "--include-events" ∷ codes "A,,B" ∷ codes "a" ∷ codes "b" ∷ []) ≡ None
unfolding order_of
empty_pattern_row = refl

renumber_row : order_of (codes "scrub" ∷ codes "--renumber" ∷ codes "yes" ∷ codes "a" ∷ codes "b" ∷ []) ≡ Some (Scrub nothing_given true (codes "a") (codes "b"))
unfolding order_of
renumber_row = refl

not_renumbered_row : order_of (codes "scrub" ∷ codes "--renumber" ∷ codes "no" ∷ codes "a" ∷ codes "b" ∷ []) ≡ Some (Scrub nothing_given false (codes "a") (codes "b"))
unfolding order_of
not_renumbered_row = refl

renumber_maybe_row : order_of (codes "scrub" ∷ codes "--renumber" ∷ codes "maybe" ∷ codes "a" ∷ codes "b" ∷ []) ≡ None
unfolding order_of
renumber_maybe_row = refl

renumber_twice_row : order_of (codes "scrub" ∷ codes "--renumber" ∷ codes "no" ∷ codes "--renumber" ∷ codes "yes" ∷ codes "a" ∷ codes "b" ∷ []) ≡ None
unfolding order_of
renumber_twice_row = refl

-- The last moment has nineteen digits.
window_row : order_of (codes "scrub" ∷ codes "--to" ∷ codes "9223372036854775807" ∷ codes "--from" ∷ codes "00" ∷ codes "a" ∷ codes "b" ∷ [])
    ≡ Some (Scrub (record nothing_given { from = Some (pos 0); to = Some (pos 9223372036854775807) }) false (codes "a") (codes "b"))
unfolding order_of decimal_number
window_row = refl

large_moment_row : order_of (codes "scrub" ∷ codes "--from" ∷ codes "9223372036854775808" ∷ codes "a" ∷ codes "b" ∷ []) ≡ None
unfolding order_of decimal_number
large_moment_row = refl

-- Twenty digits are too many, even if the number is small.
long_moment_row : order_of (codes "scrub" ∷ codes "--to" ∷ codes "00000000000000000007" ∷ codes "a" ∷ codes "b" ∷ []) ≡ None
unfolding order_of decimal_number
long_moment_row = refl

empty_moment_row : order_of (codes "scrub" ∷ codes "--from" ∷ [] ∷ codes "a" ∷ codes "b" ∷ []) ≡ None
unfolding order_of decimal_number
empty_moment_row = refl

signed_moment_row : order_of (codes "print" ∷ codes "--from" ∷ codes "-7" ∷ codes "a" ∷ []) ≡ None
unfolding order_of decimal_number
signed_moment_row = refl

no_moment_row : order_of (codes "scrub" ∷ codes "--to" ∷ []) ≡ None
unfolding order_of
no_moment_row = refl

moment_twice_row : order_of (codes "verify" ∷ codes "--to" ∷ codes "7" ∷ codes "--to" ∷ codes "7" ∷ codes "a" ∷ codes "b" ∷ codes "r" ∷ []) ≡ None
unfolding order_of decimal_number
moment_twice_row = refl

always_row : order_of (codes "stacks" ∷ codes "--always" ∷ codes "OSInformation" ∷ codes "--from" ∷ codes "7" ∷ codes "a" ∷ [])
    ≡ Some (Stacks (record nothing_given { from = Some (pos 7); always = Some (codes "OSInformation" ∷ []) }) (codes "a"))
unfolding order_of decimal_number
always_row = refl

describe_row : order_of (codes "scrub" ∷ codes "--describe" ∷ codes "t.*,A" ∷ codes "--renumber" ∷ codes "yes" ∷ codes "a" ∷ codes "b" ∷ [])
    ≡ Some (Scrub (record nothing_given { describe = Some (codes "t.*" ∷ codes "A" ∷ []) }) true (codes "a") (codes "b"))
unfolding order_of
describe_row = refl

-- `print` has no option --describe.
described_print_row : order_of (codes "print" ∷ codes "--describe" ∷ codes "A" ∷ codes "a" ∷ []) ≡ None
unfolding order_of
described_print_row = refl

receipt_row : order_of (codes "receipt" ∷ codes "--include-events" ∷ codes "t.A" ∷ codes "a" ∷ codes "r" ∷ []) ≡ Some (Receipt (record nothing_given { include_events = Some (codes "t.A" ∷ []) }) (codes "a") (codes "r"))
unfolding order_of
receipt_row = refl

-- A receipt has no option --renumber.
renumber_receipt_row : order_of (codes "receipt" ∷ codes "--renumber" ∷ codes "no" ∷ codes "a" ∷ codes "r" ∷ []) ≡ None
unfolding order_of
renumber_receipt_row = refl

verify_row : order_of (codes "verify" ∷ codes "a" ∷ codes "b" ∷ codes "r" ∷ []) ≡ Some (Verify nothing_given (codes "a") (codes "b") (codes "r"))
unfolding order_of
verify_row = refl

no_receipt_row : order_of (codes "verify" ∷ codes "a" ∷ codes "b" ∷ []) ≡ None
unfolding order_of
no_receipt_row = refl

-- Without options a part has at most five chunks and 2 ^ 40 bytes.
disassemble_row : order_of (codes "disassemble" ∷ codes "a" ∷ []) ≡ Some (Disassemble (codes "a") (record { folder = None; max_chunks = 5; max_size = 2 ^ 40; max_parts = 999999 }))
unfolding order_of
disassemble_row = refl

disassemble_options_row : order_of (codes "disassemble" ∷ codes "--max-size" ∷ codes "1099511627776" ∷ codes "--output" ∷ codes "parts" ∷ codes "--max-chunks" ∷ codes "4294967295" ∷ codes "a" ∷ [])
    ≡ Some (Disassemble (codes "a") (record { folder = Some (codes "parts"); max_chunks = 4294967295; max_size = 1099511627776; max_parts = 999999 }))
unfolding order_of decimal_number
disassemble_options_row = refl

no_chunks_row : order_of (codes "disassemble" ∷ codes "--max-chunks" ∷ codes "0" ∷ codes "a" ∷ []) ≡ None
unfolding order_of decimal_number
no_chunks_row = refl

dashed_folder_row : order_of (codes "disassemble" ∷ codes "--output" ∷ codes "-parts" ∷ codes "a" ∷ []) ≡ None
unfolding order_of
dashed_folder_row = refl

assemble_row : order_of (codes "assemble" ∷ codes "parts" ∷ codes "b" ∷ []) ≡ Some (Assemble (codes "parts") (codes "b"))
unfolding order_of
assemble_row = refl

build_row : order_of (codes "build" ∷ codes "a" ∷ codes "b" ∷ []) ≡ Some (Build (codes "a") (codes "b"))
unfolding order_of
build_row = refl

mask_row : order_of (codes "mask" ∷ codes "--strings" ∷ codes "jdk.*,*.path" ∷ codes "--except" ∷ codes "*.id" ∷ codes "--known" ∷ codes "k" ∷ codes "--table" ∷ codes "t" ∷ codes "--include-events" ∷ codes "A" ∷ codes "--from" ∷ codes "7" ∷ codes "a" ∷ codes "b" ∷ [])
    ≡ Some (Mask (record nothing_given { include_events = Some (codes "A" ∷ []); from = Some (pos 7) }) (codes "jdk.*" ∷ codes "*.path" ∷ []) (Some (codes "*.id" ∷ [])) (Some (codes "k"))
    (Some (codes "t")) (codes "a") (codes "b"))
unfolding order_of decimal_number
mask_row = refl

-- The options in another order.
mask_reordered_row : order_of (codes "mask" ∷ codes "--from" ∷ codes "07" ∷ codes "--table" ∷ codes "t" ∷ codes "--except" ∷ codes "*.id" ∷ codes "--include-events" ∷ codes "A" ∷ codes "--known" ∷ codes "k" ∷ codes "--strings" ∷ codes "jdk.*,*.path" ∷ codes "a" ∷ codes "b" ∷ [])
    ≡ Some (Mask (record nothing_given { include_events = Some (codes "A" ∷ []); from = Some (pos 7) }) (codes "jdk.*" ∷ codes "*.path" ∷ []) (Some (codes "*.id" ∷ [])) (Some (codes "k"))
    (Some (codes "t")) (codes "a") (codes "b"))
unfolding order_of decimal_number
mask_reordered_row = refl

-- The masked fields are always given.
only_strings_row : order_of (codes "mask" ∷ codes "--strings" ∷ codes "*" ∷ codes "a" ∷ codes "b" ∷ []) ≡ Some (Mask nothing_given (codes "*" ∷ []) None None None (codes "a") (codes "b"))
unfolding order_of
only_strings_row = refl

no_strings_row : order_of (codes "mask" ∷ codes "--except" ∷ codes "*.id" ∷ codes "a" ∷ codes "b" ∷ []) ≡ None
unfolding order_of
no_strings_row = refl

strings_twice_row : order_of (codes "mask" ∷ codes "--strings" ∷ codes "A" ∷ codes "--strings" ∷ codes "A" ∷ codes "a" ∷ codes "b" ∷ []) ≡ None
unfolding order_of
strings_twice_row = refl

empty_strings_row : order_of (codes "mask" ∷ codes "--strings" ∷ codes "A," ∷ codes "a" ∷ codes "b" ∷ []) ≡ None
unfolding order_of
empty_strings_row = refl

empty_except_row : order_of (codes "mask" ∷ codes "--strings" ∷ codes "A" ∷ codes "--except" ∷ [] ∷ codes "a" ∷ codes "b" ∷ []) ≡ None
unfolding order_of
empty_except_row = refl

dashed_known_row : order_of (codes "mask" ∷ codes "--strings" ∷ codes "A" ∷ codes "--known" ∷ codes "-x" ∷ codes "a" ∷ codes "b" ∷ []) ≡ None
unfolding order_of
dashed_known_row = refl

no_table_row : order_of (codes "mask" ∷ codes "--strings" ∷ codes "A" ∷ codes "--table" ∷ []) ≡ None
unfolding order_of
no_table_row = refl

-- A mask has no option --renumber.
renumber_mask_row : order_of (codes "mask" ∷ codes "--strings" ∷ codes "A" ∷ codes "--renumber" ∷ codes "no" ∷ codes "a" ∷ codes "b" ∷ []) ≡ None
unfolding order_of
renumber_mask_row = refl

sample_row : order_of (codes "sample" ∷ codes "4294967295" ∷ codes "1000000" ∷ []) ≡ Some (Sample 4294967295 1000000)
unfolding order_of decimal_number
sample_row = refl

no_events_row : order_of (codes "sample" ∷ codes "1" ∷ codes "0" ∷ []) ≡ None
unfolding order_of decimal_number
no_events_row = refl

large_seed_row : order_of (codes "sample" ∷ codes "4294967296" ∷ codes "1" ∷ []) ≡ None
unfolding order_of decimal_number
large_seed_row = refl

-- A number has at most nineteen digits.
digits_row : order_of (codes "sample" ∷ codes "0000000000000000007" ∷ codes "1" ∷ []) ≡ Some (Sample 7 1)
unfolding order_of decimal_number
digits_row = refl

too_many_digits_row : order_of (codes "sample" ∷ codes "00000000000000000007" ∷ codes "1" ∷ []) ≡ None
unfolding order_of decimal_number
too_many_digits_row = refl

signed_row : order_of (codes "sample" ∷ codes "+7" ∷ codes "1" ∷ []) ≡ None
unfolding order_of decimal_number
signed_row = refl

other_command_row : order_of (codes "frobnicate" ∷ codes "x" ∷ []) ≡ None
unfolding order_of
other_command_row = refl

no_words_row : order_of [] ≡ None
unfolding order_of
no_words_row = refl

stacks_row : order_of (codes "stacks" ∷ codes "--categories" ∷ codes "Java*" ∷ codes "--events" ∷ codes "CPULoad,*Sample" ∷ codes "a" ∷ [])
    ≡ Some (Stacks (record nothing_given { include_events = Some (codes "CPULoad" ∷ codes "*Sample" ∷ []); include_categories = Some (codes "Java*" ∷ []) }) (codes "a"))
unfolding order_of
stacks_row = refl

-- `stacks` has no other options of a filter.
excluded_stacks_row : order_of (codes "stacks" ∷ codes "--exclude-events" ∷ codes "a" ∷ codes "b" ∷ []) ≡ None
unfolding order_of
excluded_stacks_row = refl
