-- The results of reading functions, compared with those of formats.
use Rattle.std.specs.Prelude.{◌≡◌, ℕ, List, [], Some, Result, Ok, Err, ⊤, slice_get}
use Rattle.jfr_base.specs.declared.flaw.Flaw.{Flaw}
use Rattle.jfr_base.specs.declared.flaw.ReadFault.{ReadFault}
use Rattle.jfr_base.specs.declared.flaw.ReadFault.TheVariants.{Flawed, Memory}
use Rattle.jfr_base.specs.declared.integer.Var.{Var}
use Rattle.jfr_base.specs.Formats.{Answer}

-- The answer of a format for an integer that was read, or its flaw.
abbrev pub var_answer : Result Var Flaw → Answer ℕ
var_answer (Ok v) = Ok (record { value = v.value; place = v.end })
var_answer (Err f) = Err f

-- The fault is this flaw, or memory ran out.
abbrev pub IsFault : {A : Type 0} → Result A Flaw → ReadFault → Type 0
IsFault a (Flawed f) = a ≡ Err f
IsFault a Memory = ⊤

-- The function returns the format's value and the offset after it, or the format's flaw, or memory ran out.
abbrev pub Returns : {A : Type 0} → Answer A → Result (A × ℕ) ReadFault → Type 0
Returns a (Ok r) = a ≡ Ok (record { value = r.0; place = r.1 })
Returns a (Err e) = IsFault a e

-- The fault is the first of these flaws, or memory ran out.
abbrev pub IsFirstFlaw : List Flaw → ReadFault → Type 0
IsFirstFlaw flaws (Flawed f) = slice_get flaws 0 ≡ Some f
IsFirstFlaw flaws Memory = ⊤

-- The fault is a flaw of which this holds, or memory ran out.
abbrev pub IfFlawed : (Flaw → Type 0) → ReadFault → Type 0
IfFlawed P (Flawed f) = P f
IfFlawed P Memory = ⊤

-- On success there are no flaws; a fault is the first flaw, or memory ran out.
abbrev pub ReportsFirst : {T : Type 0} → List Flaw → Result T ReadFault → Type 0
ReportsFirst flaws (Ok x) = flaws ≡ []
ReportsFirst flaws (Err e) = IsFirstFlaw flaws e
