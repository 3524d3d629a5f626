use Rattle.jfr_text.proofs.StringLaws as laws
use Rattle.jfr_text.proofs.laws.strings_are_read.Goals as goal

pub returns-clause-read : goal.returns-clause-read
returns-clause-read c = λ x at to end s o w b i. laws.string_read x at to end s o w b i

pub returns-clause-not_refused : goal.returns-clause-not_refused
returns-clause-not_refused c = λ x at to end s o w b i p why f. laws.not_refused x at to end s o w b i p why f
