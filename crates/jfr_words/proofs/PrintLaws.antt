-- The options of a print.
use Rattle.std.specs.Prelude.{◌≡◌, ℕ, List, [], ◌∷◌, Option, None, Some, option_map, option_and_then, Result, Ok, Err}
use Rattle.std.specs.Option.{option_map_or}
use Rattle.std.proofs.Common.{arith, ap, refl, sym, ◌∙◌}
use Rattle.std.proofs.lemmas.Grind.{common_steps}
use Rattle.jfr_filter.specs.Filters.{Given}
use Rattle.jfr_words.specs.declared.order.Order.{Order}
use Rattle.jfr_words.specs.declared.order.WordsFault.{WordsFault}
use Rattle.jfr_words.specs.declared.order.WordsFault.TheVariants.{Usage, Memory}
use Rattle.jfr_words.specs.declared.print.PrintOption.{PrintOption}
use Rattle.jfr_words.specs.declared.print.PrintOption.TheVariants.{Filter, Depth, Json}
use Rattle.jfr_words.specs.declared.print.PrintSettings.{PrintSettings}
use Rattle.jfr_words.specs.FilterOptions.{FilterOption, given_with}
use Rattle.jfr_words.specs.Prints.{print_option_of, print_with, print_goes_on, print_named, print_from}
use Rattle.jfr_words.specs.Words.{IsRead, StillGives}

-- The order of an option and the words after it.
option_read : (g : PrintSettings) (option : PrintOption) (word next : List ℕ) (rest : List (List ℕ)) → print_option_of word ≡ Some option
    → print_from g (word ∷ next ∷ rest) ≡ option_and_then (λ h. print_goes_on option (print_from h (next ∷ rest)) (print_from h rest)) (print_with option next g)
option_read g option word next rest e =
    ap (λ z. option_map_or (λ o. option_and_then (λ h. print_goes_on o (print_from h (next ∷ rest)) (print_from h rest)) (print_with o next g)) z (print_named g (word ∷ next ∷ rest))) e

-- What was read is given, and the words after it give what all gave.
given_still : {T : Type 0} (before : Option Order) (o : Option PrintSettings) (from : PrintSettings → Option Order) (r : Result T WordsFault) (h : PrintSettings) → before ≡ option_and_then from o
    → IsRead o r (λ _. h) → StillGives before (from h) r
given_still before o from (Ok x) h e i = sym (e ∙ ap (option_and_then from) i)
given_still before o from (Err Usage) h e i = e ∙ ap (option_and_then from) i
given_still before o from (Err Memory) h e i = tt

filter_read : {T : Type 0} (o : Option Given) (g : PrintSettings) (r : Result T WordsFault) (f : Given) → IsRead o r (λ _. f)
    → IsRead (option_map (λ k. record g { filter = k }) o) r (λ _. record g { filter = f })
filter_read o g (Ok x) f i = ap (option_map (λ k. record g { filter = k })) i
filter_read o g (Err Usage) f i = ap (option_map (λ k. record g { filter = k })) i
filter_read o g (Err Memory) f i = tt

-- `--json` is no name.
json_alone : (g : PrintSettings) (word : List ℕ) → print_option_of word ≡ Some Json → print_from g (word ∷ []) ≡ None
json_alone g word e = grind (arith, common_steps)

pub filter_given : {T : Type 0} (g : PrintSettings) (f : Given) (option : PrintOption) (part : FilterOption) (word next : List ℕ) (unread rest : List (List ℕ)) (r : Result T WordsFault)
    → print_option_of word ≡ Some option → option ≡ Filter part → unread ≡ next ∷ rest
    → IsRead (given_with part next g.filter) r (λ _. f) → StillGives (print_from g (word ∷ unread)) (print_from (record g { filter = f }) rest) r
filter_given g f option part word next unread rest r e o l i =
    given_still _ _ (λ h. print_from h rest) r (record g { filter = f }) (ap (λ z. print_from g (word ∷ z)) l ∙ option_read g (Filter part) word next rest (e ∙ ap (λ z. Some z) o))
    (filter_read _ g r f i)

pub depth_given : {T : Type 0} (g h : PrintSettings) (option : PrintOption) (word next : List ℕ) (unread rest : List (List ℕ)) (r : Result T WordsFault) → print_option_of word ≡ Some option
    → option ≡ Depth → unread ≡ next ∷ rest
    → IsRead (print_with Depth next g) r (λ _. h) → StillGives (print_from g (word ∷ unread)) (print_from h rest) r
depth_given g h option word next unread rest r e o l i =
    given_still _ _ (λ h. print_from h rest) r h (ap (λ z. print_from g (word ∷ z)) l ∙ option_read g Depth word next rest (e ∙ ap (λ z. Some z) o)) i

pub json_given : {T : Type 0} (g h : PrintSettings) (option : PrintOption) (word : List ℕ) (unread : List (List ℕ)) (r : Result T WordsFault) → print_option_of word ≡ Some option → option ≡ Json
    → ((next : List ℕ) → IsRead (print_with Json next g) r (λ _. h)) → StillGives (print_from g (word ∷ unread)) (print_from h unread) r
json_given g h option word [] r e o i = given_still _ (print_with Json [] g) (λ h. print_from h []) r h (json_alone g word (e ∙ ap (λ z. Some z) o) ∙ nothing (print_with Json [] g)) (i [])
  where
    nothing : (o : Option PrintSettings) → None ≡ option_and_then (λ h. print_from h []) o
    nothing (Some h) = refl
    nothing None = refl
json_given g h option word (next ∷ rest) r e o i = given_still _ _ (λ h. print_from h (next ∷ rest)) r h (option_read g Json word next rest (e ∙ ap (λ z. Some z) o)) (i next)
