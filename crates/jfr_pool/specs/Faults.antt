-- The flaws that a reader reports.
use Rattle.std.specs.Prelude.{◌≡◌, Result, Err}
use Rattle.jfr_base.specs.declared.flaw.Flaw.{Flaw}
use Rattle.jfr_base.specs.declared.flaw.ReadFault.{ReadFault}
use Rattle.jfr_base.specs.declared.flaw.ReadFault.TheVariants.{Flawed, Memory}

-- The reported flaw is the computed one. Running out of memory says nothing about the chunk.
abbrev pub TellsFlaw : {A : Type 0} → Result A Flaw → ReadFault → Type 0
TellsFlaw computed (Flawed flaw) = computed ≡ Err flaw
TellsFlaw computed Memory = Unit {0}
