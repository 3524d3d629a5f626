-- No value is taken for a class that isn't known.
use Rattle.std.specs.Prelude.{◌≡◌, ℕ, List, None, option_map}
use Rattle.std.proofs.Common.{ap}
use Rattle.jfr_layout.specs.Classes.{Classes, find_class}
use Rattle.jfr_value.specs.Values.{bytes_of}
use Rattle.jfr_pool.specs.Entries.{inline}
use Rattle.jfr_build.specs.Taking.{class_taken, inline_taken, value_taken}
use Rattle.jfr_build.specs.LineValues.{all_taken, spelled_value}

pub unknown_none : (k : Classes) (class : ℕ) (words : List (List ℕ)) → find_class k class ≡ None → spelled_value k class words ≡ None
unfolding value_taken class_taken
unknown_none k class words e = ap (λ z. all_taken (inline_taken (class_taken 33 k) (inline class) z words)) e

pub no_bytes : (k : Classes) (class : ℕ) (words : List (List ℕ)) → find_class k class ≡ None → option_map bytes_of (spelled_value k class words) ≡ None
no_bytes k class words e = ap (option_map bytes_of) (unknown_none k class words e)
