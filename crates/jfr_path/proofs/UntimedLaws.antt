-- The classes of whose events a time window says nothing.
use Rattle.std.specs.Prelude.{◌≡◌, ℕ, Bool, true, false, not, ◌||◌, List, [], ◌∷◌, length, map, replicate, Option, Some, None, is_some}
use Rattle.std.specs.List.{AllZip, list_any}
use Rattle.std.specs.Option.{option_map_or}
use Rattle.std.proofs.Common.{ap, refl, sym, ◌∙◌}
use Rattle.jfr_filter.specs.declared.side.Side.TheVariants.{Always}
use Rattle.jfr_filter.specs.Filters.{Given, event_matches, has_window, is_always, some_matches}
use Rattle.jfr_layout.specs.Classes.{Class, Classes}
use Rattle.jfr_meta.specs.declared.named.ClassNames.{ClassNames}
use Rattle.jfr_meta.specs.Attributes.{text_at}
use Rattle.jfr_meta.specs.Described.{IsNamedBy}
use Rattle.jfr_path.specs.Times.{is_untimed}

-- A function that gives the same for all members.
same_for : {X : Type 0} (f : X → Bool) (b : Bool) → ((x : X) → f x ≡ b) → (xs : List X) → map f xs ≡ replicate (length xs) b
same_for f b h [] = refl
same_for f b h (x ∷ xs) = ap (λ z. z ∷ map f xs) (h x) ∙ ap (λ zs. b ∷ zs) (same_for f b h xs)

module _ (g : Given) where
  pub all_untimed : (k : Classes) → has_window g ≡ false → map (is_untimed g) k ≡ replicate (length k) true
  all_untimed k w = same_for (is_untimed g) true (λ c. ap (λ z. not z || is_always g c.name) w) k

  pub none_untimed : (k : Classes) → has_window g ≡ true → is_some g.always ≡ false → map (is_untimed g) k ≡ replicate (length k) false
  none_untimed k w a = same_for (is_untimed g) false (λ c. ap (λ z. not z || is_always g c.name) w ∙ by_option c.name g.always a) k
    where
      by_option : (name : List ℕ) (o : Option (List (List ℕ))) → is_some o ≡ false → option_map_or (list_any (event_matches name)) o false ≡ false
      by_option name None e = refl
      by_option name (Some patterns) e = cc

  -- With a window, only the option `Always` counts.
  pub untimed_always : (k : Classes) → has_window g ≡ true → map (λ c. is_always g c.name) k ≡ map (is_untimed g) k
  untimed_always k w = ap (λ z. map (λ (c : Class). not z || is_always g c.name) k) (sym w)

  module _ (texts : List (List ℕ)) where
    -- A pattern of the option `Always` matches the name that one of these strings is.
    abbrev pub is_always_named : ClassNames → Bool
    is_always_named names = some_matches g Always (text_at texts names.name)

    pub always_by_names : (classes : Classes) (names : List ClassNames) → AllZip (IsNamedBy texts) classes names → map is_always_named names ≡ map (λ c. is_always g c.name) classes
    always_by_names [] [] z = refl
    always_by_names [] (n ∷ ns) z = absurd z
    always_by_names (c ∷ cs) [] z = absurd z
    always_by_names (c ∷ cs) (n ∷ ns) z =
        ap (λ b. b ∷ map is_always_named ns) (ap (is_always g) z.0.name) ∙ ap (λ bs. is_always g c.name ∷ bs) (always_by_names cs ns z.1)
