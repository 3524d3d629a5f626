-- The names of classes.
use Rattle.std.specs.Prelude.{ℕ, List, []}
use Rattle.std.specs.Option.{option_map_or}
use Rattle.jfr_layout.specs.Classes.{Classes, find_class}

-- The name of the class with this id; empty if there is no such class.
abbrev pub class_name : Classes → ℕ → List ℕ
class_name k id = option_map_or (λ c. c.name) (find_class k id) []
