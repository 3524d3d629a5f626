-- Masked fields: the strings that are shown by a pseudonym.
use Rattle.std.specs.Prelude.{ℕ, Bool, true, false, not, ◌&&◌, List, [], ◌∷◌, ◌++◌, map, get_or}
use Rattle.std.specs.List.{list_any}
use Rattle.std.specs.Option.{option_map_or}
use Rattle.jfr_filter.specs.Patterns.{glob}
use Rattle.jfr_layout.specs.Classes.{Class, Classes, Field, find_class, kind_of}
use Rattle.jfr_layout.specs.declared.kind.Kind.{Kind}
use Rattle.jfr_layout.specs.declared.kind.Kind.TheVariants.{Text}

-- The name of a class, a dot, and the name of one of its fields.
abbrev pub full_name : Class → Field → List ℕ
full_name c f = c.name ++ 46 ∷ f.name

-- A pattern of the list matches the text.
abbrev pub any_matches : List (List ℕ) → List ℕ → Bool
any_matches patterns text = list_any (λ pattern. glob pattern text) patterns

-- The kind is that of `java.lang.String`.
abbrev pub is_text : Kind → Bool
is_text Text = true
is_text _ = false

-- The field's class is `java.lang.String`.
abbrev pub is_string : Classes → Field → Bool
is_string k f = option_map_or (λ c. is_text (kind_of c.name)) (find_class k f.shape.class) false

-- A field is masked if its class is `java.lang.String`, one of the patterns matches its full name, and none of the
-- exceptions does.
abbrev pub is_masked : List (List ℕ) → List (List ℕ) → Classes → Class → Field → Bool
is_masked strings except k c f = is_string k f && (any_matches strings (full_name c f) && not (any_matches except (full_name c f)))

-- Which fields of each class are masked, and whether the constants of `java.lang.String` are.
pub record Masks : Type 0 where
  pub fields : List (List Bool)
  pub constants : Bool

-- The constants are masked if some class has a masked field with the constant mark.
abbrev pub masks_of : List (List ℕ) → List (List ℕ) → Classes → Masks
masks_of strings except k = record {
  fields = map (λ c. map (is_masked strings except k c) c.fields) k;
  constants = list_any (λ c. list_any (λ f. f.shape.constant && is_masked strings except k c f) c.fields) k;
}

-- The field with this number of the class with this index is masked.
abbrev pub is_masked_field : Masks → ℕ → ℕ → Bool
is_masked_field masks index number = get_or (get_or masks.fields index []) number false
