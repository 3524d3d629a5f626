-- The orders that words give.
use Rattle.std.specs.Prelude.{◌≡◌, ℕ, ◌≤◌, ◌<◌, ◌^◌, Bool, true, false, nat_le, ◌&&◌, if◌then◌else◌, List, [], ◌∷◌, Option, None, Some, IfOk, unwrap_or, option_map, option_and_then, Result, Ok, Err, codes}
use Rattle.std.specs.Char.{is_ascii}
use Rattle.std.specs.List.{list_all}
use Rattle.std.specs.Option.{is_some, option_map_or}
use Rattle.std.specs.Str.{chars, bytes_eq}
use Rattle.std.proofs.Common.{arith, ap, refl, subst}
use Rattle.std.proofs.lemmas.Bool.Decides.{nat_tests}
use Rattle.jfr_words.specs.declared.order.Order.{Order}
use Rattle.jfr_words.specs.declared.order.Order.TheVariants as orders
use Rattle.jfr_words.specs.declared.order.WordsFault.{WordsFault}
use Rattle.jfr_words.specs.declared.print.PrintOption.{PrintOption}
use Rattle.jfr_words.specs.declared.print.PrintOption.TheVariants.{Filter, Depth, Json}
use Rattle.jfr_words.specs.declared.print.PrintSettings.{PrintSettings}
use Rattle.jfr_words.specs.declared.split.SplitOption.{SplitOption}
use Rattle.jfr_words.specs.declared.split.SplitOption.TheVariants.{Output, MaxChunks, MaxSize}
use Rattle.jfr_words.specs.declared.split.SplitSettings.{SplitSettings}
use Rattle.jfr_filter.specs.Filters.{Given, nothing_given}
use Rattle.jfr_words.specs.FilterOptions.{FilterOption, filter_option_of, given_with}
use Rattle.jfr_words.specs.Filtered.{filtered_from}
use Rattle.jfr_words.specs.Jsons.{after_json}
use Rattle.jfr_words.specs.Masks.{MaskOption, MaskSettings, no_mask_option, mask_option_of, mask_with, mask_named, mask_from}
use Rattle.jfr_words.specs.Names.{only_name, two_names, three_names, name_in}
use Rattle.jfr_base.specs.Decimal.{decimal_number}
use Rattle.jfr_words.specs.Numbers.{within, number_in}
use Rattle.jfr_words.specs.Prints.{no_print_option, print_option_of, print_with, print_goes_on, print_named, print_from}
use Rattle.jfr_words.specs.Scrubs.{ScrubOption, ScrubSettings, no_scrub_option, scrub_option_of, scrub_with, scrub_named, scrub_from}
use Rattle.jfr_words.specs.Splits.{no_split_option, split_option_of, is_split_given, split_set, split_with, split_named, split_from}
use Rattle.jfr_words.specs.Stacks.{StacksOption, stacks_option_of, stacks_with, stacks_named, stacks_from}
use Rattle.jfr_words.specs.Words.{order_of, receipt_named, sample_of, verification_named, IsRead, IsUsableOrder}
use Rattle.jfr_words.proofs.WordLaws.{chars_of}

-- The order of a command that is this word.
pub order_at : (rest : List (List ℕ)) (command word : List ℕ) → list_all is_ascii word ≡ true → command ≡ word → order_of (chars command ∷ rest) ≡ order_of (word ∷ rest)
order_at rest command word a e = ap (λ c. order_of (c ∷ rest)) (chars_of command word a e)

-- What an option gives, if it gives anything.
abbrev Gives : {X : Type 0} → (X → Type 0) → Option X → Type 0
Gives P None = Unit {0}
Gives P (Some x) = P x

gives_map : {X Y : Type 0} (P : Y → Type 0) (f : X → Y) (o : Option X) → ((x : X) → P (f x)) → Gives P (option_map f o)
gives_map P f None h = tt
gives_map P f (Some x) h = h x

gives_then : {X Y : Type 0} (P : X → Type 0) (Q : Y → Type 0) (f : X → Option Y) (o : Option X) → Gives P o → ((x : X) → P x → Gives Q (f x)) → Gives Q (option_and_then f o)
gives_then P Q f None g h = tt
gives_then P Q f (Some x) g h = h x g

gives_after : {X Y : Type 0} (Q : Y → Type 0) (f : X → Option Y) (o : Option X) → ((x : X) → Gives Q (f x)) → Gives Q (option_and_then f o)
gives_after Q f None h = tt
gives_after Q f (Some x) h = h x

gives_if : {X : Type 0} (P : X → Type 0) (b : Bool) (o p : Option X) → Gives P o → Gives P p → Gives P (if b then o else p)
gives_if P true o p u v = u
gives_if P false o p u v = v

-- A number is in its range.
number_within : (low high : ℕ) (word : List ℕ) → Gives (λ n. (low ≤ n) × (n ≤ high)) (number_in low high word)
number_within low high word = gives_after (λ n. (low ≤ n) × (n ≤ high)) (within low high) (decimal_number word) (λ n. by_tests n (nat_le low n) (nat_le n high) refl refl)
  where
    by_tests : (n : ℕ) (s t : Bool) → nat_le low n ≡ s → nat_le n high ≡ t → Gives (λ n. (low ≤ n) × (n ≤ high)) (if s && t then Some n else None)
    by_tests n true true d e = (grind (arith, nat_tests), grind (arith, nat_tests))
    by_tests n true false d e = tt
    by_tests n false t d e = tt

gives_number : {Y : Type 0} (P : Y → Type 0) (f : ℕ → Y) (low high : ℕ) (word : List ℕ) → ((n : ℕ) → low ≤ n → n ≤ high → P (f n)) → Gives P (option_map f (number_in low high word))
gives_number P f low high word h = by_number (number_in low high word) (number_within low high word)
  where
    by_number : (o : Option ℕ) → Gives (λ n. (low ≤ n) × (n ≤ high)) o → Gives P (option_map f o)
    by_number None r = tt
    by_number (Some n) r = h n r.0 r.1

-- The depth of a print.
abbrev IsShallow : PrintSettings → Type 0
IsShallow g = Gives (λ d. d ≤ 8) g.depth

shallow_with : (option : PrintOption) (next : List ℕ) (g : PrintSettings) → IsShallow g → Gives IsShallow (print_with option next g)
shallow_with (Filter part) next g s = gives_map IsShallow _ (given_with part next g.filter) (λ k. s)
shallow_with Depth next g s = gives_if IsShallow (is_some g.depth) None _ tt (gives_number IsShallow _ 0 8 next (λ n l h. h))
shallow_with Json next g s = gives_if IsShallow g.json None _ tt s

print_named_usable : (g : PrintSettings) (words : List (List ℕ)) → IsShallow g → Gives IsUsableOrder (print_named g words)
print_named_usable g words s = gives_map IsUsableOrder _ (only_name words) (λ file. by_depth g.depth s)
  where
    by_depth : (d : Option ℕ) → Gives (λ d. d ≤ 8) d → unwrap_or d 2 ≤ 8
    by_depth None h = omega arith
    by_depth (Some d) h = h

print_usable : (g : PrintSettings) (words : List (List ℕ)) → IsShallow g → Gives IsUsableOrder (print_from g words)
print_usable g [] s = print_named_usable g [] s
print_usable g (word ∷ []) s = print_named_usable g (word ∷ []) s
print_usable g (word ∷ next ∷ rest) s = by_option (print_option_of word) (λ h. print_usable h (next ∷ rest)) (λ h. print_usable h rest)
  where
    goes_on : (o : PrintOption) (a b : Option Order) → Gives IsUsableOrder a → Gives IsUsableOrder b → Gives IsUsableOrder (print_goes_on o a b)
    goes_on (Filter part) a b u v = v
    goes_on Depth a b u v = v
    goes_on Json a b u v = u

    by_option : (z : Option PrintOption) → ((h : PrintSettings) → IsShallow h → Gives IsUsableOrder (print_from h (next ∷ rest)))
        → ((h : PrintSettings) → IsShallow h → Gives IsUsableOrder (print_from h rest))
        → Gives IsUsableOrder (option_map_or (λ o. option_and_then (λ h. print_goes_on o (print_from h (next ∷ rest)) (print_from h rest)) (print_with o next g)) z (print_named g (word ∷ next ∷ rest)))
    by_option None u v = print_named_usable g (word ∷ next ∷ rest) s
    by_option (Some o) u v = gives_then IsShallow IsUsableOrder _ (print_with o next g) (shallow_with o next g s) (λ h t. goes_on o _ _ (u h t) (v h t))

-- The numbers of a disassembly.
abbrev IsPositive : SplitSettings → Type 0
IsPositive g = Gives (λ n. 1 ≤ n) g.max_chunks × Gives (λ n. 1 ≤ n) g.max_size

positive_with : (option : SplitOption) (value : List ℕ) (g : SplitSettings) → IsPositive g → Gives IsPositive (split_with option value g)
positive_with option value g p = gives_if IsPositive (is_split_given option g) None (split_set option value g) tt (by_kind option)
  where
    by_kind : (o : SplitOption) → Gives IsPositive (split_set o value g)
    by_kind Output = gives_map IsPositive _ (name_in value) (λ f. p)
    by_kind MaxChunks = gives_number IsPositive _ 1 4294967295 value (λ n l h. (l, p.1))
    by_kind MaxSize = gives_number IsPositive _ 1 (2 ^ 40) value (λ n l h. (p.0, l))

split_named_usable : (g : SplitSettings) (words : List (List ℕ)) → IsPositive g → Gives IsUsableOrder (split_named g words)
split_named_usable g words p = gives_map IsUsableOrder _ (only_name words)
    (λ file. record { chunks = or_usual g.max_chunks 5 p.0 (omega arith); size = or_usual g.max_size (2 ^ 40) p.1 (omega arith); some = omega arith; numbered = omega arith })
  where
    or_usual : (o : Option ℕ) (d : ℕ) → Gives (λ n. 1 ≤ n) o → 1 ≤ d → 1 ≤ unwrap_or o d
    or_usual None d h k = k
    or_usual (Some n) d h k = h

split_usable : (g : SplitSettings) (words : List (List ℕ)) → IsPositive g → Gives IsUsableOrder (split_from g words)
split_usable g [] p = split_named_usable g [] p
split_usable g (word ∷ []) p = split_named_usable g (word ∷ []) p
split_usable g (word ∷ next ∷ rest) p = by_option (split_option_of word) (λ h. split_usable h rest)
  where
    by_option : (z : Option SplitOption) → ((h : SplitSettings) → IsPositive h → Gives IsUsableOrder (split_from h rest))
        → Gives IsUsableOrder (option_map_or (λ o. option_and_then (λ h. split_from h rest) (split_with o next g)) z (split_named g (word ∷ next ∷ rest)))
    by_option None u = split_named_usable g (word ∷ next ∷ rest) p
    by_option (Some o) u = gives_then IsPositive IsUsableOrder _ (split_with o next g) (positive_with o next g p) u

scrub_usable : (g : ScrubSettings) (words : List (List ℕ)) → Gives IsUsableOrder (scrub_from g words)
scrub_usable g [] = tt
scrub_usable g (word ∷ []) = tt
scrub_usable g (word ∷ next ∷ rest) = by_option (scrub_option_of word) (λ h. scrub_usable h rest)
  where
    by_option : (z : Option ScrubOption) → ((h : ScrubSettings) → Gives IsUsableOrder (scrub_from h rest))
        → Gives IsUsableOrder (option_map_or (λ o. option_and_then (λ h. scrub_from h rest) (scrub_with o next g)) z (scrub_named g (word ∷ next ∷ rest)))
    by_option None u = gives_map IsUsableOrder _ (two_names (word ∷ next ∷ rest)) (λ names. tt)
    by_option (Some o) u = gives_after IsUsableOrder _ (scrub_with o next g) u

-- A command whose options are those of a filter, if its names give usable orders.
filtered_usable : (named : Given → List (List ℕ) → Option Order) → ((g : Given) (words : List (List ℕ)) → Gives IsUsableOrder (named g words)) → (g : Given) (words : List (List ℕ))
    → Gives IsUsableOrder (filtered_from named g words)
filtered_usable named u g [] = u g []
filtered_usable named u g (word ∷ []) = by_option (filter_option_of word)
  where
    by_option : (z : Option FilterOption) → Gives IsUsableOrder (option_map_or (λ option. None) z (named g (word ∷ [])))
    by_option None = u g (word ∷ [])
    by_option (Some option) = tt
filtered_usable named u g (word ∷ next ∷ rest) = by_option (filter_option_of word) (λ h. filtered_usable named u h rest)
  where
    by_option : (z : Option FilterOption) → ((h : Given) → Gives IsUsableOrder (filtered_from named h rest))
        → Gives IsUsableOrder (option_map_or (λ option. option_and_then (λ h. filtered_from named h rest) (given_with option next g)) z (named g (word ∷ next ∷ rest)))
    by_option None v = u g (word ∷ next ∷ rest)
    by_option (Some option) v = gives_after IsUsableOrder _ (given_with option next g) v

sample_usable : (words : List (List ℕ)) → Gives IsUsableOrder (sample_of words)
sample_usable [] = tt
sample_usable (a ∷ []) = tt
sample_usable (a ∷ b ∷ []) =
    gives_then (λ s. (0 ≤ s) × (s ≤ 4294967295)) IsUsableOrder _ (number_in 0 4294967295 a) (number_within 0 4294967295 a)
    (λ s h. gives_number IsUsableOrder _ 1 1000000 b (λ e k l. (below s h.1, k, l)))
  where
    below : (s : ℕ) → s ≤ 4294967295 → s < 2 ^ 32
    below s h = omega arith
sample_usable (a ∷ b ∷ c ∷ rest) = tt

stacks_usable : (g : Given) (words : List (List ℕ)) → Gives IsUsableOrder (stacks_from g words)
stacks_usable g [] = tt
stacks_usable g (word ∷ []) = gives_map IsUsableOrder _ (only_name (word ∷ [])) (λ file. tt)
stacks_usable g (word ∷ next ∷ rest) = by_option (stacks_option_of word) (λ h. stacks_usable h rest)
  where
    by_option : (z : Option StacksOption) → ((h : Given) → Gives IsUsableOrder (stacks_from h rest))
        → Gives IsUsableOrder (option_map_or (λ o. option_and_then (λ h. stacks_from h rest) (stacks_with o next g)) z (stacks_named g (word ∷ next ∷ rest)))
    by_option None u = gives_map IsUsableOrder (λ file. orders.Stacks g file) (only_name (word ∷ next ∷ rest)) (λ file. tt)
    by_option (Some o) u = gives_after IsUsableOrder _ (stacks_with o next g) u

mask_named_usable : (g : MaskSettings) (words : List (List ℕ)) → Gives IsUsableOrder (mask_named g words)
mask_named_usable g words = gives_after IsUsableOrder _ g.strings (λ strings. gives_map IsUsableOrder _ (two_names words) (λ names. tt))

mask_usable : (g : MaskSettings) (words : List (List ℕ)) → Gives IsUsableOrder (mask_from g words)
mask_usable g [] = mask_named_usable g []
mask_usable g (word ∷ []) = mask_named_usable g (word ∷ [])
mask_usable g (word ∷ next ∷ rest) = by_option (mask_option_of word) (λ h. mask_usable h rest)
  where
    by_option : (z : Option MaskOption) → ((h : MaskSettings) → Gives IsUsableOrder (mask_from h rest))
        → Gives IsUsableOrder (option_map_or (λ o. option_and_then (λ h. mask_from h rest) (mask_with o next g)) z (mask_named g (word ∷ next ∷ rest)))
    by_option None u = mask_named_usable g (word ∷ next ∷ rest)
    by_option (Some o) u = gives_after IsUsableOrder _ (mask_with o next g) u

-- Every order is usable.
order_usable : (words : List (List ℕ)) → Gives IsUsableOrder (order_of words)
unfolding order_of
order_usable [] = tt
order_usable (command ∷ rest) =
    gives_if IsUsableOrder (bytes_eq command (codes "print")) _ _ (print_usable no_print_option rest tt)
    (gives_if IsUsableOrder (bytes_eq command (codes "summary")) _ _ (gives_map IsUsableOrder _ (only_name (after_json rest)) (λ file. tt))
    (gives_if IsUsableOrder (bytes_eq command (codes "metadata")) _ _ (gives_map IsUsableOrder _ (only_name (after_json rest)) (λ file. tt))
    (gives_if IsUsableOrder (bytes_eq command (codes "scrub")) _ _ (scrub_usable no_scrub_option rest)
    (gives_if IsUsableOrder (bytes_eq command (codes "disassemble")) _ _ (split_usable no_split_option rest (tt, tt))
    (gives_if IsUsableOrder (bytes_eq command (codes "assemble")) _ _ (gives_map IsUsableOrder _ (two_names rest) (λ names. tt))
    (gives_if IsUsableOrder (bytes_eq command (codes "sample")) _ _ (sample_usable rest)
    (gives_if IsUsableOrder (bytes_eq command (codes "receipt")) _ _ (filtered_usable receipt_named (λ g words. gives_map IsUsableOrder _ (two_names words) (λ names. tt)) nothing_given rest)
    (gives_if IsUsableOrder (bytes_eq command (codes "verify")) _ _ (filtered_usable verification_named (λ g words. gives_map IsUsableOrder _ (three_names words) (λ names. tt)) nothing_given rest)
    (gives_if IsUsableOrder (bytes_eq command (codes "stacks")) _ _ (stacks_usable nothing_given rest)
    (gives_if IsUsableOrder (bytes_eq command (codes "build")) _ _ (gives_map IsUsableOrder _ (two_names rest) (λ names. tt))
    (gives_if IsUsableOrder (bytes_eq command (codes "mask")) _ None (mask_usable no_mask_option rest) tt)))))))))))

pub usable_read : (words : List (List ℕ)) (r : Result Order WordsFault) → IsRead (order_of words) r (λ order. order) → IfOk r IsUsableOrder
usable_read words (Ok order) e = let P : Option Order → Type 0 = Gives IsUsableOrder in subst P e (order_usable words)
usable_read words (Err fault) e = tt
