-- What is made of the members of a list, one after another.
use Rattle.std.specs.Prelude.{◌≡◌, ℕ, ◌+◌, List, [], ◌∷◌, ◌++◌, take, Option, Some, None, option_to_list, slice_get}
use Rattle.std.specs.List.{cons_option, filter_map}
use Rattle.std.proofs.Common.{ap, refl, ◌∙◌}
use Rattle.std.proofs.lemmas.List.{take_more}
use Rattle.std.proofs.lemmas.List.Elements.{filter_map-append}
use Rattle.std.proofs.lemmas.Option.{get_or_from_slice_get, slice_get_within}

alone : {Y : Type 0} (o : Option Y) → cons_option o [] ≡ option_to_list o
alone None = refl
alone (Some y) = refl

-- What is made of the next member comes after what is made of those before it.
pub made_next : {X Y : Type 0} (h : X → Option Y) (xs : List X) (i : ℕ) (x : X) → slice_get xs i ≡ Some x → filter_map h (take (i + 1) xs) ≡ filter_map h (take i xs) ++ option_to_list (h x)
made_next h xs i x s =
    ap (filter_map h) (take_more xs i x (slice_get_within xs i x s) ∙ ap (λ z. take i xs ++ z ∷ []) (get_or_from_slice_get xs i x x s))
    ∙ (filter_map-append h (take i xs) (x ∷ []) ∙ ap (λ z. filter_map h (take i xs) ++ z) (alone (h x)))
