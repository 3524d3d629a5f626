-- What is written of values that are taken from words.
use Rattle.std.specs.Prelude.{◌≡◌, ⊤, ℕ, List, ◌++◌, Option, Some, None, Result, Ok, Err, option_map}
use Rattle.jfr_value.specs.Values.{Value, bytes_of, bytes_of_all, values_of}
use Rattle.jfr_build.specs.declared.value_bytes.ValueFault.{ValueFault}
use Rattle.jfr_build.specs.declared.value_bytes.ValueFault.TheVariants.{Bad, Memory}
use Rattle.jfr_build.specs.Taking.{Taken}

-- The bytes before a value and those of the value, and the words that are left.
abbrev pub wrote : List ℕ → Option (Taken Value) → Option (Taken (List ℕ))
wrote before taken = option_map (λ t. record { value = before ++ bytes_of t.value; rest = t.rest }) taken

-- The bytes before several values and those of the values, and the words that are left.
abbrev pub wrote_all : List ℕ → Option (Taken (List Value)) → Option (Taken (List ℕ))
wrote_all before taken = option_map (λ t. record { value = before ++ bytes_of_all (values_of t.value); rest = t.rest }) taken

-- These bytes were written and these words are left; or the words are bad, or memory ran out.
abbrev pub Writes : {A : Type 0} → Option (Taken (List ℕ)) → Result A ValueFault → List ℕ → List (List ℕ) → Type 0
Writes written (Ok u) after left = written ≡ Some (record { value = after; rest = left })
Writes written (Err Bad) after left = written ≡ None
Writes written (Err Memory) after left = ⊤

-- The bytes of a word were appended; or the word is bad, or memory ran out.
abbrev pub Appends : {A : Type 0} → Option (List ℕ) → Result A ValueFault → List ℕ → List ℕ → Type 0
Appends bytes (Ok u) before after = option_map (λ b. before ++ b) bytes ≡ Some after
Appends bytes (Err Bad) before after = bytes ≡ None
Appends bytes (Err Memory) before after = ⊤
