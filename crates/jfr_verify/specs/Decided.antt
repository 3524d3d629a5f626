-- Tests of facts.
use Rattle.std.specs.Prelude.{Bool, true, false}

-- The test of a fact: true if the fact holds, and false if it doesn't.
abbrev pub Decided : Type 0 → Bool → Type 0
Decided t true = t
Decided t false = t → ⊥
