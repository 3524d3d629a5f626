-- The work that a masking is given is that of the order.
use Rattle.std.specs.Prelude.{◌≡◌, ℕ, List, [], Option, Some, None, option_map, unwrap_or}
use Rattle.std.specs.Option.{option_map_or}
use Rattle.std.proofs.Common.{refl}
use Rattle.jfr_filter.specs.Filters.{Given}
use Rattle.jfr_words.specs.Words.{file_name}
use Rattle.jfr_mask.specs.Commands.{MaskWork}
use Rattle.jfr_cli.specs.Works.{mask_work}

pub or_none : {T : Type 0} (f : T → List (List ℕ)) (o : Option T) → option_map_or f o [] ≡ unwrap_or (option_map f o) []
or_none f None = refl
or_none f (Some x) = refl

pub mapped_twice : {T : Type 0} (f : T → List ℕ) (o : Option T) → option_map (λ t. file_name (f t)) o ≡ option_map file_name (option_map f o)
mapped_twice f None = refl
mapped_twice f (Some x) = refl

-- Equal parts make equal work.
pub same_work : (g : Given) (strings x : List (List ℕ)) (k t : Option (List ℕ)) (i o : List ℕ) (except : Option (List (List ℕ))) (known table : Option (List ℕ)) (input output : List ℕ)
    → x ≡ unwrap_or except [] → k ≡ option_map file_name known → t ≡ option_map file_name table → i ≡ file_name input → o ≡ file_name output
    → ◌≡◌ {A = MaskWork} (record { filter = g; strings = strings; except = x; known = k; table = t; input = i; output = o }) (mask_work g strings except known table input output)
same_work g strings x k t i o except known table input output ex kn ta is os = λ j. record { filter = g; strings = strings; except = ex j; known = kn j; table = ta j; input = is j; output = os j }
