-- The names of parts, and the files of a folder that are joined.
use Rattle.std.specs.Prelude.{ℕ, zero, suc, ◌+◌, ◌-◌, ◌/◌, ◌%◌, ◌==◌, ◌&&◌, nat_lt, nat_eq, Bool, false, List, [], ◌∷◌, ◌++◌, length, take, Option, None, Some, if◌then◌else◌}
use Rattle.std.specs.List.{after_last, ends_with}
use Rattle.std.specs.Option.{option_map_or}
use Rattle.jfr_outside.specs.World.{in_folder, rest_in}

-- `.jfr`.
abbrev pub suffix : List ℕ
suffix = 46 ∷ 106 ∷ 102 ∷ 114 ∷ []

-- Whether a name ends in `.jfr`.
abbrev pub is_recording : List ℕ → Bool
is_recording name = ends_with nat_eq name suffix

-- The part of a name after its last slash.
abbrev pub base : List ℕ → List ℕ
base name = after_last (λ b. b == 47) name

-- The name without a final `.jfr`, if something comes before that.
abbrev pub without_suffix : List ℕ → List ℕ
without_suffix name = if is_recording name && nat_lt 4 (length name) then take (length name - 4) name else name

-- The stem of a file's parts: its name without folders and without a final `.jfr`.
unfoldable pub stem : List ℕ → List ℕ
stem file = without_suffix (base file)

-- A number's last n decimal digits, with leading zeros.
abbrev pub digits : ℕ → ℕ → List ℕ
digits zero n = []
digits (suc k) n = digits k (n / 10) ++ (48 + n % 10) ∷ []

-- The name in a folder, or just the name if no folder is given.
abbrev pub within : Option (List ℕ) → List ℕ → List ℕ
within None name = name
within (Some folder) name = in_folder folder name

-- The name of part n of a file: the stem, `_`, the number with six digits, and `.jfr`.
unfoldable pub part_name : Option (List ℕ) → List ℕ → ℕ → List ℕ
part_name folder file n = within folder (stem file ++ 95 ∷ (digits 6 n ++ suffix))

-- Whether a file is directly in the folder and its name ends in `.jfr`.
unfoldable pub is_joined : List ℕ → List ℕ → Bool
is_joined folder name = option_map_or is_recording (rest_in folder name) false
