-- The options of each command in any order, each at most once.
use Rattle.std.specs.Prelude.{◌≡◌, ◌⊎◌, ℕ, ◌^◌, Bool, true, false, ◌||◌, if◌then◌else◌, List, [], ◌∷◌, ◌++◌, length, Option, None, Some, option_map, option_and_then, IsTrue, OnSome, codes, is_some}
use Rattle.std.specs.List.{list_any, IsDistinct}
use Rattle.std.specs.List.Sorted.{IsPermutation}
use Rattle.std.specs.Str.{bytes_eq}
use Rattle.std.proofs.Common.{arith, ap, refl, sym, subst, ◌∙◌, inl, inr}
use Rattle.std.proofs.lemmas.List.Sorted.{length_permutation}
use Rattle.std.proofs.lemmas.Slice.Eq.{bytes_eq-Decides}
use Rattle.jfr_filter.specs.Filters.{Given, nothing_given}
use Rattle.jfr_words.specs.declared.order.Order.{Order}
use Rattle.jfr_words.specs.declared.order.Order.TheVariants as orders
use Rattle.jfr_words.specs.declared.print.PrintOption.{PrintOption}
use Rattle.jfr_words.specs.declared.print.PrintOption.TheVariants.{Filter, Depth, Json}
use Rattle.jfr_words.specs.declared.print.PrintSettings.{PrintSettings}
use Rattle.jfr_words.specs.declared.split.SplitOption.{SplitOption}
use Rattle.jfr_words.specs.declared.split.SplitOption.TheVariants.{Output, MaxChunks, MaxSize}
use Rattle.jfr_words.specs.declared.split.SplitSettings.{SplitSettings}
use Rattle.jfr_words.specs.Jsons.{is_json, asks_json, after_json}
use Rattle.jfr_words.specs.Laws.{filter_options, valued_options, bare_options, is_option, is_same_option, AreOptions, line}
use Rattle.jfr_words.specs.Masks.{MaskSettings, MaskOption, no_mask_option, mask_option_of, mask_with, mask_from, list_in}
use Rattle.jfr_words.specs.declared.mask.MaskOption.TheVariants as masks
use Rattle.jfr_words.specs.Names.{name_in, only_name}
use Rattle.jfr_words.specs.Numbers.{number_in}
use Rattle.jfr_words.specs.Prints.{no_print_option, print_option_of, print_with, print_from}
use Rattle.jfr_words.specs.FilterOptions.{filter_option_of, given_with}
use Rattle.jfr_words.specs.Filtered.{filtered_from}
use Rattle.jfr_words.specs.Scrubs.{ScrubSettings, ScrubOption, no_scrub_option, scrub_option_of, scrub_with, scrub_from, yes_or_no}
use Rattle.jfr_words.specs.declared.scrub.ScrubOption.TheVariants as scrubs
use Rattle.jfr_words.specs.Splits.{no_split_option, split_option_of, is_split_given, split_with, split_from}
use Rattle.jfr_words.specs.Stacks.{stacks_option_of, stacks_with, stacks_from}
use Rattle.jfr_words.specs.Words.{order_of, receipt_named, verification_named}
use Rattle.jfr_words.proofs.Fields.{FilterValue, has_filter, put_filter, filter_value, filter_set, filter_is, which_filter, filters_settle}
use Rattle.jfr_words.proofs.Given.{give, in_any_order, given_once}
use Rattle.jfr_words.proofs.Settings.{set, set_in, Apart, Settles, settles}

-- The options of a print.
abbrev PrintValue : PrintOption → Type 0
PrintValue (Filter part) = FilterValue part
PrintValue Depth = ℕ
PrintValue Json = Unit {0}

abbrev has_print : PrintOption → PrintSettings → Bool
has_print (Filter part) g = has_filter part g.filter
has_print Depth g = is_some g.depth
has_print Json g = g.json

abbrev put_print : (o : PrintOption) → PrintValue o → PrintSettings → PrintSettings
put_print (Filter part) x g = record g { filter = put_filter part x g.filter }
put_print Depth depth g = record g { depth = Some depth }
put_print Json _ g = record g { json = true }

abbrev print_value : (o : PrintOption) → List ℕ → Option (PrintValue o)
print_value (Filter part) word = filter_value part word
print_value Depth word = number_in 0 8 word
print_value Json word = Some tt

print_set : (o : PrintOption) (v : List ℕ) (g : PrintSettings) → print_with o v g ≡ set (has_print o) (put_print o) (print_value o v) g
print_set (Filter part) v g =
    ap (option_map (λ h. record g { filter = h })) (filter_set part v g.filter)
    ∙ set_in (has_filter part) (put_filter part) (filter_value part v) g.filter (λ h. record g { filter = h })
print_set Depth v g = refl
print_set Json v g = refl

print_is : (o : PrintOption) (x : PrintValue o) (g : PrintSettings) → has_print o (put_print o x g) ≡ true
print_is (Filter part) x g = filter_is part x g.filter
print_is Depth x g = refl
print_is Json x g = refl

which_print : (o p : PrintOption) → (o ≡ p) ⊎ Apart (has_print o) (put_print o) (has_print p) (put_print p)
which_print (Filter s) (Filter t) = by_which (which_filter s t)
  where
    by_which : (s ≡ t) ⊎ Apart (has_filter s) (put_filter s) (has_filter t) (put_filter t)
        → (Filter s ≡ Filter t) ⊎ Apart (has_print (Filter s)) (put_print (Filter s)) (has_print (Filter t)) (put_print (Filter t))
    by_which (inl e) = inl (ap (λ z. Filter z) e)
    by_which (inr a) = inr (record { on = λ x g. a.on x g.filter; back = λ y g. a.back y g.filter; both = λ x y g. ap (λ h. record g { filter = h }) (a.both x y g.filter) })
which_print (Filter s) Depth = inr (record { on = λ x g. refl; back = λ y g. refl; both = λ x y g. refl })
which_print (Filter s) Json = inr (record { on = λ x g. refl; back = λ y g. refl; both = λ x y g. refl })
which_print Depth (Filter t) = inr (record { on = λ x g. refl; back = λ y g. refl; both = λ x y g. refl })
which_print Depth Depth = inl refl
which_print Depth Json = inr (record { on = λ x g. refl; back = λ y g. refl; both = λ x y g. refl })
which_print Json (Filter t) = inr (record { on = λ x g. refl; back = λ y g. refl; both = λ x y g. refl })
which_print Json Depth = inr (record { on = λ x g. refl; back = λ y g. refl; both = λ x y g. refl })
which_print Json Json = inl refl

prints_settle : Settles print_with
prints_settle = settles print_with PrintValue has_print put_print print_value print_set print_is which_print

-- The options of a scrub.
abbrev ScrubValue : ScrubOption → Type 0
ScrubValue (scrubs.Filter part) = FilterValue part
ScrubValue scrubs.Renumber = Bool

abbrev has_scrub : ScrubOption → ScrubSettings → Bool
has_scrub (scrubs.Filter part) g = has_filter part g.filter
has_scrub scrubs.Renumber g = is_some g.renumber

abbrev put_scrub : (o : ScrubOption) → ScrubValue o → ScrubSettings → ScrubSettings
put_scrub (scrubs.Filter part) x g = record g { filter = put_filter part x g.filter }
put_scrub scrubs.Renumber b g = record g { renumber = Some b }

abbrev scrub_value : (o : ScrubOption) → List ℕ → Option (ScrubValue o)
scrub_value (scrubs.Filter part) word = filter_value part word
scrub_value scrubs.Renumber word = yes_or_no word

scrub_set : (o : ScrubOption) (v : List ℕ) (g : ScrubSettings) → scrub_with o v g ≡ set (has_scrub o) (put_scrub o) (scrub_value o v) g
scrub_set (scrubs.Filter part) v g =
    ap (option_map (λ h. record g { filter = h })) (filter_set part v g.filter)
    ∙ set_in (has_filter part) (put_filter part) (filter_value part v) g.filter (λ h. record g { filter = h })
scrub_set scrubs.Renumber v g = refl

scrub_is : (o : ScrubOption) (x : ScrubValue o) (g : ScrubSettings) → has_scrub o (put_scrub o x g) ≡ true
scrub_is (scrubs.Filter part) x g = filter_is part x g.filter
scrub_is scrubs.Renumber x g = refl

which_scrub : (o p : ScrubOption) → (o ≡ p) ⊎ Apart (has_scrub o) (put_scrub o) (has_scrub p) (put_scrub p)
which_scrub (scrubs.Filter s) (scrubs.Filter t) = by_which (which_filter s t)
  where
    by_which : (s ≡ t) ⊎ Apart (has_filter s) (put_filter s) (has_filter t) (put_filter t)
        → (scrubs.Filter s ≡ scrubs.Filter t) ⊎ Apart (has_scrub (scrubs.Filter s)) (put_scrub (scrubs.Filter s)) (has_scrub (scrubs.Filter t)) (put_scrub (scrubs.Filter t))
    by_which (inl e) = inl (ap (λ z. scrubs.Filter z) e)
    by_which (inr a) = inr (record { on = λ x g. a.on x g.filter; back = λ y g. a.back y g.filter; both = λ x y g. ap (λ h. record g { filter = h }) (a.both x y g.filter) })
which_scrub (scrubs.Filter s) scrubs.Renumber = inr (record { on = λ x g. refl; back = λ y g. refl; both = λ x y g. refl })
which_scrub scrubs.Renumber (scrubs.Filter t) = inr (record { on = λ x g. refl; back = λ y g. refl; both = λ x y g. refl })
which_scrub scrubs.Renumber scrubs.Renumber = inl refl

scrubs_settle : Settles scrub_with
scrubs_settle = settles scrub_with ScrubValue has_scrub put_scrub scrub_value scrub_set scrub_is which_scrub

-- The options of a disassembly.
abbrev SplitValue : SplitOption → Type 0
SplitValue Output = List ℕ
SplitValue MaxChunks = ℕ
SplitValue MaxSize = ℕ

abbrev put_split : (o : SplitOption) → SplitValue o → SplitSettings → SplitSettings
put_split Output folder g = record g { folder = Some folder }
put_split MaxChunks n g = record g { max_chunks = Some n }
put_split MaxSize n g = record g { max_size = Some n }

abbrev split_value : (o : SplitOption) → List ℕ → Option (SplitValue o)
split_value Output word = name_in word
split_value MaxChunks word = number_in 1 4294967295 word
split_value MaxSize word = number_in 1 (2 ^ 40) word

split_is_set : (o : SplitOption) (v : List ℕ) (g : SplitSettings) → split_with o v g ≡ set (is_split_given o) (put_split o) (split_value o v) g
split_is_set Output v g = refl
split_is_set MaxChunks v g = refl
split_is_set MaxSize v g = refl

split_is : (o : SplitOption) (x : SplitValue o) (g : SplitSettings) → is_split_given o (put_split o x g) ≡ true
split_is Output x g = refl
split_is MaxChunks x g = refl
split_is MaxSize x g = refl

which_split : (o p : SplitOption) → (o ≡ p) ⊎ Apart (is_split_given o) (put_split o) (is_split_given p) (put_split p)
which_split Output Output = inl refl
which_split Output MaxChunks = inr (record { on = λ x g. refl; back = λ y g. refl; both = λ x y g. refl })
which_split Output MaxSize = inr (record { on = λ x g. refl; back = λ y g. refl; both = λ x y g. refl })
which_split MaxChunks Output = inr (record { on = λ x g. refl; back = λ y g. refl; both = λ x y g. refl })
which_split MaxChunks MaxChunks = inl refl
which_split MaxChunks MaxSize = inr (record { on = λ x g. refl; back = λ y g. refl; both = λ x y g. refl })
which_split MaxSize Output = inr (record { on = λ x g. refl; back = λ y g. refl; both = λ x y g. refl })
which_split MaxSize MaxChunks = inr (record { on = λ x g. refl; back = λ y g. refl; both = λ x y g. refl })
which_split MaxSize MaxSize = inl refl

splits_settle : Settles split_with
splits_settle = settles split_with SplitValue is_split_given put_split split_value split_is_set split_is which_split

-- The options of stacks are those of its filter.
stacks_settle : Settles stacks_with
stacks_settle = record { either = λ o p v u g. filters_settle.either o.0 p.0 v u g; once = λ o v u g. filters_settle.once o.0 v u g }

-- The options of a mask.
abbrev MaskValue : MaskOption → Type 0
MaskValue (masks.Filter part) = FilterValue part
MaskValue masks.Strings = List (List ℕ)
MaskValue masks.Except = List (List ℕ)
MaskValue masks.Known = List ℕ
MaskValue masks.Table = List ℕ

abbrev has_mask : MaskOption → MaskSettings → Bool
has_mask (masks.Filter part) g = has_filter part g.filter
has_mask masks.Strings g = is_some g.strings
has_mask masks.Except g = is_some g.except
has_mask masks.Known g = is_some g.known
has_mask masks.Table g = is_some g.table

abbrev put_mask : (o : MaskOption) → MaskValue o → MaskSettings → MaskSettings
put_mask (masks.Filter part) x g = record g { filter = put_filter part x g.filter }
put_mask masks.Strings list g = record g { strings = Some list }
put_mask masks.Except list g = record g { except = Some list }
put_mask masks.Known name g = record g { known = Some name }
put_mask masks.Table name g = record g { table = Some name }

abbrev mask_value : (o : MaskOption) → List ℕ → Option (MaskValue o)
mask_value (masks.Filter part) word = filter_value part word
mask_value masks.Strings word = list_in word
mask_value masks.Except word = list_in word
mask_value masks.Known word = name_in word
mask_value masks.Table word = name_in word

mask_is_set : (o : MaskOption) (v : List ℕ) (g : MaskSettings) → mask_with o v g ≡ set (has_mask o) (put_mask o) (mask_value o v) g
mask_is_set (masks.Filter part) v g =
    ap (option_map (λ h. record g { filter = h })) (filter_set part v g.filter)
    ∙ set_in (has_filter part) (put_filter part) (filter_value part v) g.filter (λ h. record g { filter = h })
mask_is_set masks.Strings v g = refl
mask_is_set masks.Except v g = refl
mask_is_set masks.Known v g = refl
mask_is_set masks.Table v g = refl

mask_is : (o : MaskOption) (x : MaskValue o) (g : MaskSettings) → has_mask o (put_mask o x g) ≡ true
mask_is (masks.Filter part) x g = filter_is part x g.filter
mask_is masks.Strings x g = refl
mask_is masks.Except x g = refl
mask_is masks.Known x g = refl
mask_is masks.Table x g = refl

which_mask : (o p : MaskOption) → (o ≡ p) ⊎ Apart (has_mask o) (put_mask o) (has_mask p) (put_mask p)
which_mask (masks.Filter s) (masks.Filter t) = by_which (which_filter s t)
  where
    by_which : (s ≡ t) ⊎ Apart (has_filter s) (put_filter s) (has_filter t) (put_filter t)
        → (masks.Filter s ≡ masks.Filter t) ⊎ Apart (has_mask (masks.Filter s)) (put_mask (masks.Filter s)) (has_mask (masks.Filter t)) (put_mask (masks.Filter t))
    by_which (inl e) = inl (ap (λ z. masks.Filter z) e)
    by_which (inr a) = inr (record { on = λ x g. a.on x g.filter; back = λ y g. a.back y g.filter; both = λ x y g. ap (λ h. record g { filter = h }) (a.both x y g.filter) })
which_mask (masks.Filter s) masks.Strings = inr (record { on = λ x g. refl; back = λ y g. refl; both = λ x y g. refl })
which_mask (masks.Filter s) masks.Except = inr (record { on = λ x g. refl; back = λ y g. refl; both = λ x y g. refl })
which_mask (masks.Filter s) masks.Known = inr (record { on = λ x g. refl; back = λ y g. refl; both = λ x y g. refl })
which_mask (masks.Filter s) masks.Table = inr (record { on = λ x g. refl; back = λ y g. refl; both = λ x y g. refl })
which_mask masks.Strings (masks.Filter t) = inr (record { on = λ x g. refl; back = λ y g. refl; both = λ x y g. refl })
which_mask masks.Strings masks.Strings = inl refl
which_mask masks.Strings masks.Except = inr (record { on = λ x g. refl; back = λ y g. refl; both = λ x y g. refl })
which_mask masks.Strings masks.Known = inr (record { on = λ x g. refl; back = λ y g. refl; both = λ x y g. refl })
which_mask masks.Strings masks.Table = inr (record { on = λ x g. refl; back = λ y g. refl; both = λ x y g. refl })
which_mask masks.Except (masks.Filter t) = inr (record { on = λ x g. refl; back = λ y g. refl; both = λ x y g. refl })
which_mask masks.Except masks.Strings = inr (record { on = λ x g. refl; back = λ y g. refl; both = λ x y g. refl })
which_mask masks.Except masks.Except = inl refl
which_mask masks.Except masks.Known = inr (record { on = λ x g. refl; back = λ y g. refl; both = λ x y g. refl })
which_mask masks.Except masks.Table = inr (record { on = λ x g. refl; back = λ y g. refl; both = λ x y g. refl })
which_mask masks.Known (masks.Filter t) = inr (record { on = λ x g. refl; back = λ y g. refl; both = λ x y g. refl })
which_mask masks.Known masks.Strings = inr (record { on = λ x g. refl; back = λ y g. refl; both = λ x y g. refl })
which_mask masks.Known masks.Except = inr (record { on = λ x g. refl; back = λ y g. refl; both = λ x y g. refl })
which_mask masks.Known masks.Known = inl refl
which_mask masks.Known masks.Table = inr (record { on = λ x g. refl; back = λ y g. refl; both = λ x y g. refl })
which_mask masks.Table (masks.Filter t) = inr (record { on = λ x g. refl; back = λ y g. refl; both = λ x y g. refl })
which_mask masks.Table masks.Strings = inr (record { on = λ x g. refl; back = λ y g. refl; both = λ x y g. refl })
which_mask masks.Table masks.Except = inr (record { on = λ x g. refl; back = λ y g. refl; both = λ x y g. refl })
which_mask masks.Table masks.Known = inr (record { on = λ x g. refl; back = λ y g. refl; both = λ x y g. refl })
which_mask masks.Table masks.Table = inl refl

masks_settle : Settles mask_with
masks_settle = settles mask_with MaskValue has_mask put_mask mask_value mask_is_set mask_is which_mask

-- A word among some is the first of them, or among the others.
among : (word first : List ℕ) (others : List (List ℕ)) → list_any (bytes_eq word) (first ∷ others) ≡ true → (word ≡ first) ⊎ (list_any (bytes_eq word) others ≡ true)
among word first others e = by_test (bytes_eq word first) refl e
  where
    by_test : (t : Bool) → bytes_eq word first ≡ t → (t || list_any (bytes_eq word) others) ≡ true → (word ≡ first) ⊎ (list_any (bytes_eq word) others ≡ true)
    by_test true f e = inl ((bytes_eq-Decides word first).0 f)
    by_test false f e = inr e

-- Each of these words has the property.
abbrev Each : (List ℕ → Type 0) → List (List ℕ) → Type 0
Each P [] = Unit {0}
Each P (first ∷ others) = P first × Each P others

of_each : (P : List ℕ → Type 0) (words : List (List ℕ)) → Each P words → (word : List ℕ) → list_any (bytes_eq word) words ≡ true → P word
of_each P [] each word e = cc
of_each P (first ∷ others) each word e = by_among (among word first others e) (of_each P others each.1 word)
  where
    by_among : (word ≡ first) ⊎ (list_any (bytes_eq word) others ≡ true) → (list_any (bytes_eq word) others ≡ true → P word) → P word
    by_among (inl is) rest = subst P (sym is) each.0
    by_among (inr e) rest = rest e

-- How words from an option on are read: the option is given, and what follows it is read.
abbrev Takes : {G O : Type 0} → (List ℕ → Option O) → (O → List ℕ → G → Option G) → (G → List (List ℕ) → Option Order) → List (List ℕ) → Type 0
Takes {G = G} named given from option = (rest : List (List ℕ)) (g : G) → from g (option ++ rest) ≡ option_and_then (λ h. from h rest) (give named given option g)

print_valued : (word : List ℕ) → list_any (bytes_eq word) (valued_options (codes "print")) ≡ true → (value : List ℕ) → Takes print_option_of print_with print_from (word ∷ value ∷ [])
print_valued word e value = of_each (λ w. Takes print_option_of print_with print_from (w ∷ value ∷ [])) (valued_options (codes "print"))
    (λ rest g. refl, (λ rest g. refl, (λ rest g. refl, (λ rest g. refl, (λ rest g. refl, (λ rest g. refl, tt)))))) word e

print_bare : (word : List ℕ) → list_any (bytes_eq word) (bare_options (codes "print")) ≡ true → Takes print_option_of print_with print_from (word ∷ [])
print_bare word e = of_each (λ w. Takes print_option_of print_with print_from (w ∷ [])) (bare_options (codes "print")) (json, tt) word e
  where
    json : Takes print_option_of print_with print_from (codes "--json" ∷ [])
    json [] g = by_test g.json
      where
        by_test : (t : Bool) → None ≡ option_and_then (λ h. print_from h []) (if t then None else Some (record g { json = true }))
        by_test true = refl
        by_test false = refl
    json (next ∷ rest) g = refl

print_read : (g : PrintSettings) (option : List (List ℕ)) (rest : List (List ℕ)) → IsTrue (is_option (codes "print") option)
    → print_from g (option ++ rest) ≡ option_and_then (λ h. print_from h rest) (give print_option_of print_with option g)
print_read g [] rest e = cc
print_read g (word ∷ []) rest e = print_bare word e rest g
print_read g (word ∷ value ∷ []) rest e = print_valued word e value rest g
print_read g (word ∷ value ∷ more ∷ others) rest e = cc

scrub_valued : (word : List ℕ) → list_any (bytes_eq word) (valued_options (codes "scrub")) ≡ true → (value : List ℕ) → Takes scrub_option_of scrub_with scrub_from (word ∷ value ∷ [])
scrub_valued word e value = of_each (λ w. Takes scrub_option_of scrub_with scrub_from (w ∷ value ∷ [])) (valued_options (codes "scrub")) (
  λ rest g. refl,
  (
    λ rest g. refl,
    (
      λ rest g. refl,
      (λ rest g. refl, (λ rest g. refl, (λ rest g. refl, (λ rest g. refl, (λ rest g. refl, (λ rest g. refl, (λ rest g. refl, (λ rest g. refl, tt)))))))),
    ),
  ),
) word e

scrub_read : (g : ScrubSettings) (option : List (List ℕ)) (rest : List (List ℕ)) → IsTrue (is_option (codes "scrub") option)
    → scrub_from g (option ++ rest) ≡ option_and_then (λ h. scrub_from h rest) (give scrub_option_of scrub_with option g)
scrub_read g [] rest e = cc
scrub_read g (word ∷ []) rest e = cc
scrub_read g (word ∷ value ∷ []) rest e = scrub_valued word e value rest g
scrub_read g (word ∷ value ∷ more ∷ others) rest e = cc

-- The options of a filter, for a command that has no others.
module _ (named : Given → List (List ℕ) → Option Order) where
  filter_valued : (word : List ℕ) → list_any (bytes_eq word) filter_options ≡ true → (value : List ℕ) → Takes filter_option_of given_with (filtered_from named) (word ∷ value ∷ [])
  filter_valued word e value = of_each (λ w. Takes filter_option_of given_with (filtered_from named) (w ∷ value ∷ [])) filter_options
      (λ rest g. refl, (λ rest g. refl, (λ rest g. refl, (λ rest g. refl, (λ rest g. refl, (λ rest g. refl, (λ rest g. refl, (λ rest g. refl, (λ rest g. refl, (λ rest g. refl, tt)))))))))) word e

  receipt_read : (g : Given) (option : List (List ℕ)) (rest : List (List ℕ)) → IsTrue (is_option (codes "receipt") option)
      → filtered_from named g (option ++ rest) ≡ option_and_then (λ h. filtered_from named h rest) (give filter_option_of given_with option g)
  receipt_read g [] rest e = cc
  receipt_read g (word ∷ []) rest e = cc
  receipt_read g (word ∷ value ∷ []) rest e = filter_valued word e value rest g
  receipt_read g (word ∷ value ∷ more ∷ others) rest e = cc

  verification_read : (g : Given) (option : List (List ℕ)) (rest : List (List ℕ)) → IsTrue (is_option (codes "verify") option)
      → filtered_from named g (option ++ rest) ≡ option_and_then (λ h. filtered_from named h rest) (give filter_option_of given_with option g)
  verification_read g [] rest e = cc
  verification_read g (word ∷ []) rest e = cc
  verification_read g (word ∷ value ∷ []) rest e = filter_valued word e value rest g
  verification_read g (word ∷ value ∷ more ∷ others) rest e = cc

split_valued : (word : List ℕ) → list_any (bytes_eq word) (valued_options (codes "disassemble")) ≡ true → (value : List ℕ) → Takes split_option_of split_with split_from (word ∷ value ∷ [])
split_valued word e value = of_each (λ w. Takes split_option_of split_with split_from (w ∷ value ∷ [])) (valued_options (codes "disassemble"))
    (λ rest g. refl, (λ rest g. refl, (λ rest g. refl, tt))) word e

split_read : (g : SplitSettings) (option : List (List ℕ)) (rest : List (List ℕ)) → IsTrue (is_option (codes "disassemble") option)
    → split_from g (option ++ rest) ≡ option_and_then (λ h. split_from h rest) (give split_option_of split_with option g)
split_read g [] rest e = cc
split_read g (word ∷ []) rest e = cc
split_read g (word ∷ value ∷ []) rest e = split_valued word e value rest g
split_read g (word ∷ value ∷ more ∷ others) rest e = cc

stacks_valued : (word : List ℕ) → list_any (bytes_eq word) (valued_options (codes "stacks")) ≡ true → (value : List ℕ) → Takes stacks_option_of stacks_with stacks_from (word ∷ value ∷ [])
stacks_valued word e value = of_each (λ w. Takes stacks_option_of stacks_with stacks_from (w ∷ value ∷ [])) (valued_options (codes "stacks"))
    (λ rest g. refl, (λ rest g. refl, (λ rest g. refl, (λ rest g. refl, (λ rest g. refl, tt))))) word e

stacks_read : (g : Given) (option : List (List ℕ)) (rest : List (List ℕ)) → IsTrue (is_option (codes "stacks") option)
    → stacks_from g (option ++ rest) ≡ option_and_then (λ h. stacks_from h rest) (give stacks_option_of stacks_with option g)
stacks_read g [] rest e = cc
stacks_read g (word ∷ []) rest e = cc
stacks_read g (word ∷ value ∷ []) rest e = stacks_valued word e value rest g
stacks_read g (word ∷ value ∷ more ∷ others) rest e = cc

mask_valued : (word : List ℕ) → list_any (bytes_eq word) (valued_options (codes "mask")) ≡ true → (value : List ℕ) → Takes mask_option_of mask_with mask_from (word ∷ value ∷ [])
mask_valued word e value = of_each (λ w. Takes mask_option_of mask_with mask_from (w ∷ value ∷ [])) (valued_options (codes "mask")) (
  λ rest g. refl,
  (
    λ rest g. refl,
    (
      λ rest g. refl,
      (
        λ rest g. refl,
        (
          λ rest g. refl,
          (
            λ rest g. refl,
            (λ rest g. refl, (λ rest g. refl, (λ rest g. refl, (λ rest g. refl, (λ rest g. refl, (λ rest g. refl, (λ rest g. refl, (λ rest g. refl, tt)))))))),
          ),
        ),
      ),
    ),
  ),
) word e

mask_read : (g : MaskSettings) (option : List (List ℕ)) (rest : List (List ℕ)) → IsTrue (is_option (codes "mask") option)
    → mask_from g (option ++ rest) ≡ option_and_then (λ h. mask_from h rest) (give mask_option_of mask_with option g)
mask_read g [] rest e = cc
mask_read g (word ∷ []) rest e = cc
mask_read g (word ∷ value ∷ []) rest e = mask_valued word e value rest g
mask_read g (word ∷ value ∷ more ∷ others) rest e = cc

-- `--json`, for a command that has no other option. What is given so far is whether it was given.
abbrev json_option_of : List ℕ → Option (Unit {0})
json_option_of word = if is_json word then Some tt else None

abbrev json_with : Unit {0} → List ℕ → Bool → Option Bool
json_with _ next given = if given then None else Some true

json_settles : Settles json_with
json_settles = settles json_with (λ _. Unit {0}) (λ _ given. given) (λ _ _ given. true) (λ _ _. Some tt) (λ _ v given. refl) (λ _ _ given. refl) (λ _ _. inl refl)

module _ (named : Bool → List ℕ → Order) where
  abbrev json_from : Bool → List (List ℕ) → Option Order
  json_from true words = option_map (named true) (only_name words)
  json_from false words = option_map (λ file. named (asks_json words) file) (only_name (after_json words))

  json_bare : (word : List ℕ) → list_any (bytes_eq word) (codes "--json" ∷ []) ≡ true → Takes json_option_of json_with json_from (word ∷ [])
  json_bare word e = of_each (λ w. Takes json_option_of json_with json_from (w ∷ [])) (codes "--json" ∷ []) (json, tt) word e
    where
      json : Takes json_option_of json_with json_from (codes "--json" ∷ [])
      json rest false = refl
      json [] true = refl
      json (next ∷ rest) true = refl

  summary_read : (given : Bool) (option : List (List ℕ)) (rest : List (List ℕ)) → IsTrue (is_option (codes "summary") option)
      → json_from given (option ++ rest) ≡ option_and_then (λ h. json_from h rest) (give json_option_of json_with option given)
  summary_read given [] rest e = cc
  summary_read given (word ∷ []) rest e = json_bare word e rest given
  summary_read given (word ∷ value ∷ []) rest e = cc
  summary_read given (word ∷ value ∷ more ∷ others) rest e = cc

  metadata_read : (given : Bool) (option : List (List ℕ)) (rest : List (List ℕ)) → IsTrue (is_option (codes "metadata") option)
      → json_from given (option ++ rest) ≡ option_and_then (λ h. json_from h rest) (give json_option_of json_with option given)
  metadata_read given [] rest e = cc
  metadata_read given (word ∷ []) rest e = json_bare word e rest given
  metadata_read given (word ∷ value ∷ []) rest e = cc
  metadata_read given (word ∷ value ∷ more ∷ others) rest e = cc

-- Nine commands have options, and no other word has any.
data HasOptions (command : List ℕ) : Type 0 where
  print : command ≡ codes "print" → HasOptions command
  summary : command ≡ codes "summary" → HasOptions command
  metadata : command ≡ codes "metadata" → HasOptions command
  scrub : command ≡ codes "scrub" → HasOptions command
  split : command ≡ codes "disassemble" → HasOptions command
  receipt : command ≡ codes "receipt" → HasOptions command
  verify : command ≡ codes "verify" → HasOptions command
  stacks : command ≡ codes "stacks" → HasOptions command
  mask : command ≡ codes "mask" → HasOptions command
  no_options : ((option : List (List ℕ)) → IsTrue (is_option command option) → ⊥) → HasOptions command

has_options : (command : List ℕ) → HasOptions command
has_options command =
    by_tests (bytes_eq command (codes "print")) (bytes_eq command (codes "summary")) (bytes_eq command (codes "metadata")) (bytes_eq command (codes "scrub")) (bytes_eq command (codes "disassemble"))
    (bytes_eq command (codes "receipt")) (bytes_eq command (codes "verify")) (bytes_eq command (codes "stacks")) (bytes_eq command (codes "mask"))
    refl refl refl refl refl refl refl refl refl
  where
    by_tests : (p u m s d r v t a : Bool) → bytes_eq command (codes "print") ≡ p → bytes_eq command (codes "summary") ≡ u → bytes_eq command (codes "metadata") ≡ m
        → bytes_eq command (codes "scrub") ≡ s → bytes_eq command (codes "disassemble") ≡ d → bytes_eq command (codes "receipt") ≡ r → bytes_eq command (codes "verify") ≡ v
        → bytes_eq command (codes "stacks") ≡ t → bytes_eq command (codes "mask") ≡ a → HasOptions command
    by_tests true u m s d r v t a e f g h i j k l n = print ((bytes_eq-Decides command (codes "print")).0 e)
    by_tests false true m s d r v t a e f g h i j k l n = summary ((bytes_eq-Decides command (codes "summary")).0 f)
    by_tests false false true s d r v t a e f g h i j k l n = metadata ((bytes_eq-Decides command (codes "metadata")).0 g)
    by_tests false false false true d r v t a e f g h i j k l n = scrub ((bytes_eq-Decides command (codes "scrub")).0 h)
    by_tests false false false false true r v t a e f g h i j k l n = split ((bytes_eq-Decides command (codes "disassemble")).0 i)
    by_tests false false false false false true v t a e f g h i j k l n = receipt ((bytes_eq-Decides command (codes "receipt")).0 j)
    by_tests false false false false false false true t a e f g h i j k l n = verify ((bytes_eq-Decides command (codes "verify")).0 k)
    by_tests false false false false false false false true a e f g h i j k l n = stacks ((bytes_eq-Decides command (codes "stacks")).0 l)
    by_tests false false false false false false false false true e f g h i j k l n = mask ((bytes_eq-Decides command (codes "mask")).0 n)
    by_tests false false false false false false false false false e f g h i j k l n = no_options none
      where
        none : (option : List (List ℕ)) → IsTrue (is_option command option) → ⊥
        none [] t = cc
        none (word ∷ []) t = cc (rw (e, f, g) at t)
        none (word ∷ value ∷ []) t = cc (rw (e, h, i, j, k, l, n) at t)
        none (word ∷ value ∷ more ∷ others) t = cc

pub any_order : (command : List ℕ) (options others : List (List (List ℕ))) (rest : List (List ℕ)) → AreOptions command options → IsPermutation options others
    → order_of (line command others rest) ≡ order_of (line command options rest)
unfolding order_of
any_order command options others rest all p = by_command (has_options command) all
  where
    Same : List ℕ → Type 0
    Same c = AreOptions c options → order_of (line c others rest) ≡ order_of (line c options rest)

    nothing_given_at : (os ps : List (List (List ℕ))) → length ps ≡ length os → AreOptions command os → ((option : List (List ℕ)) → IsTrue (is_option command option) → ⊥)
        → order_of (line command ps rest) ≡ order_of (line command os rest)
    nothing_given_at [] [] e all none = refl
    nothing_given_at [] (o ∷ ps) e all none = absurd (omega arith)
    nothing_given_at (o ∷ os) ps e all none = absurd (none o (all 0 o (omega arith)))

    by_command : HasOptions command → Same command
    by_command (print e) = subst Same (sym e)
        (λ all. in_any_order print_option_of print_with prints_settle print_from (λ o. IsTrue (is_option (codes "print") o)) print_read options others rest no_print_option all p)
    by_command (summary e) = subst Same (sym e)
        (λ all. in_any_order json_option_of json_with json_settles (json_from orders.Summary) (λ o. IsTrue (is_option (codes "summary") o))
        (summary_read orders.Summary) options others rest false all p)
    by_command (metadata e) = subst Same (sym e)
        (λ all. in_any_order json_option_of json_with json_settles (json_from orders.Metadata) (λ o. IsTrue (is_option (codes "metadata") o))
        (metadata_read orders.Metadata) options others rest false all p)
    by_command (scrub e) = subst Same (sym e)
        (λ all. in_any_order scrub_option_of scrub_with scrubs_settle scrub_from (λ o. IsTrue (is_option (codes "scrub") o)) scrub_read options others rest no_scrub_option all p)
    by_command (split e) = subst Same (sym e)
        (λ all. in_any_order split_option_of split_with splits_settle split_from (λ o. IsTrue (is_option (codes "disassemble") o)) split_read options others rest no_split_option all p)
    by_command (receipt e) = subst Same (sym e)
        (λ all. in_any_order filter_option_of given_with filters_settle (filtered_from receipt_named) (λ o. IsTrue (is_option (codes "receipt") o))
        (receipt_read receipt_named) options others rest nothing_given all p)
    by_command (verify e) = subst Same (sym e)
        (λ all. in_any_order filter_option_of given_with filters_settle (filtered_from verification_named) (λ o. IsTrue (is_option (codes "verify") o))
        (verification_read verification_named) options others rest nothing_given all p)
    by_command (stacks e) = subst Same (sym e)
        (λ all. in_any_order stacks_option_of stacks_with stacks_settle stacks_from (λ o. IsTrue (is_option (codes "stacks") o)) stacks_read options others rest nothing_given all p)
    by_command (mask e) = subst Same (sym e)
        (λ all. in_any_order mask_option_of mask_with masks_settle mask_from (λ o. IsTrue (is_option (codes "mask") o)) mask_read options others rest no_mask_option all p)
    by_command (no_options none) = λ all. nothing_given_at options others (length_permutation options others p) all none

pub at_most_once : (command : List ℕ) (options : List (List (List ℕ))) (rest : List (List ℕ)) → AreOptions command options
    → OnSome (order_of (line command options rest)) (IsDistinct is_same_option options)
unfolding order_of IsDistinct
at_most_once command options rest all = by_command (has_options command) all
  where
    Once : List ℕ → Type 0
    Once c = AreOptions c options → OnSome (order_of (line c options rest)) (IsDistinct is_same_option options)

    none_given : (os : List (List (List ℕ))) → AreOptions command os → ((option : List (List ℕ)) → IsTrue (is_option command option) → ⊥) → IsDistinct is_same_option os
    none_given [] all none = tt
    none_given (o ∷ os) all none = absurd (none o (all 0 o (omega arith)))

    on_any : {X : Type 0} (o : Option X) (P : Type 0) → P → OnSome o P
    on_any None P p = tt
    on_any (Some x) P p = p

    by_command : HasOptions command → Once command
    by_command (print e) = subst Once (sym e)
        (λ all. given_once print_option_of print_with prints_settle print_from (λ o. IsTrue (is_option (codes "print") o)) print_read options rest no_print_option all)
    by_command (summary e) = subst Once (sym e)
        (λ all. given_once json_option_of json_with json_settles (json_from orders.Summary) (λ o. IsTrue (is_option (codes "summary") o)) (summary_read orders.Summary) options rest false all)
    by_command (metadata e) = subst Once (sym e)
        (λ all. given_once json_option_of json_with json_settles (json_from orders.Metadata) (λ o. IsTrue (is_option (codes "metadata") o)) (metadata_read orders.Metadata) options rest false all)
    by_command (scrub e) = subst Once (sym e)
        (λ all. given_once scrub_option_of scrub_with scrubs_settle scrub_from (λ o. IsTrue (is_option (codes "scrub") o)) scrub_read options rest no_scrub_option all)
    by_command (split e) = subst Once (sym e)
        (λ all. given_once split_option_of split_with splits_settle split_from (λ o. IsTrue (is_option (codes "disassemble") o)) split_read options rest no_split_option all)
    by_command (receipt e) = subst Once (sym e)
        (λ all. given_once filter_option_of given_with filters_settle (filtered_from receipt_named) (λ o. IsTrue (is_option (codes "receipt") o))
        (receipt_read receipt_named) options rest nothing_given all)
    by_command (verify e) = subst Once (sym e)
        (λ all. given_once filter_option_of given_with filters_settle (filtered_from verification_named) (λ o. IsTrue (is_option (codes "verify") o))
        (verification_read verification_named) options rest nothing_given all)
    by_command (stacks e) = subst Once (sym e)
        (λ all. given_once stacks_option_of stacks_with stacks_settle stacks_from (λ o. IsTrue (is_option (codes "stacks") o)) stacks_read options rest nothing_given all)
    by_command (mask e) = subst Once (sym e) (λ all. given_once mask_option_of mask_with masks_settle mask_from (λ o. IsTrue (is_option (codes "mask") o)) mask_read options rest no_mask_option all)
    by_command (no_options none) = λ all. on_any _ _ (none_given options all none)
