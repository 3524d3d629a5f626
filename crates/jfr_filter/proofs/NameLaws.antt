-- The simple name, character by character.
use Rattle.std.specs.Prelude.{◌≡◌, ℕ, Bool, true, false, ◌==◌, List, [], ◌∷◌, Option, Some, None, if◌then◌else◌}
use Rattle.std.specs.Option.{option_map_or}
use Rattle.std.proofs.Common.{ap, refl, sym, ◌∙◌, arith}
use Rattle.jfr_filter.specs.Patterns.{after_last_dot}

-- What follows the last dot of the rest, or what was found before.
abbrev pub named : List ℕ → List ℕ → List ℕ
named rest found = option_map_or (λ r. r) (after_last_dot rest) found

by_rest : (o : Option (List ℕ)) (cs found : List ℕ) (t : Bool)
    → option_map_or (λ r. r) (option_map_or (λ (r : List ℕ). Some r) o (if t then Some cs else None)) found ≡ option_map_or (λ r. r) o (if t then cs else found)
by_rest None cs found true = refl
by_rest None cs found false = refl
by_rest (Some r) cs found t = refl

step : (rest : List ℕ) (c : ℕ) (cs found : List ℕ) → rest ≡ c ∷ cs → named rest found ≡ named cs (if c == 46 then cs else found)
step rest c cs found e = ap (λ r. named r found) e ∙ by_rest (after_last_dot cs) cs found (c == 46)

pub at_dot : (rest : List ℕ) (c : ℕ) (cs found : List ℕ) → rest ≡ c ∷ cs → c ≡ 46 → named cs cs ≡ named rest found
at_dot rest c cs found e d =
    let t : (c == 46) ≡ true = grind arith in
    sym (step rest c cs found e ∙ ap (λ b. named cs (if b then cs else found)) t)

pub at_other : (rest : List ℕ) (c : ℕ) (cs found : List ℕ) → rest ≡ c ∷ cs → (c ≡ 46 → ⊥) → named cs found ≡ named rest found
at_other rest c cs found e d =
    let t : (c == 46) ≡ false = grind arith in
    sym (step rest c cs found e ∙ ap (λ b. named cs (if b then cs else found)) t)

pub at_end : (rest found : List ℕ) → rest ≡ [] → named rest found ≡ found
at_end rest found e = ap (λ r. named r found) e
