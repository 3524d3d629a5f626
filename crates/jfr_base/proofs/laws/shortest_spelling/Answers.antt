use Rattle.jfr_base.proofs.Spelling.{spell_spells, spell_short}
use Rattle.jfr_base.proofs.Writing.{spell_bytes}
use Rattle.jfr_base.proofs.laws.shortest_spelling.Goals as goal

pub returns-clause-spells : goal.returns-clause-spells
returns-clause-spells c = spell_spells

pub returns-clause-shortest : goal.returns-clause-shortest
returns-clause-shortest c = λ v b w. spell_short b v w

pub returns-clause-bytes : goal.returns-clause-bytes
returns-clause-bytes c = spell_bytes
