use Rattle.jfr_meta.specs.Described.{field_of, field_flaws, field_elements}
use Rattle.jfr_meta.specs.Names.{AreNumbers}
use Rattle.jfr_meta.proofs.Judging.{Judging}
use Rattle.jfr_meta.proofs.NameLaws.{HaveNumbers}
use Rattle.jfr_meta.proofs.class.read_fields.Given as goal

-- The fields so far are good, and have their numbers.
abbrev pub invariant-loop-element : goal.invariant-loop-element
invariant-loop-element l = Judging (field_flaws l.strings) (field_of l.strings) (field_elements l.strings l.element) l.element-index l.fields × AreNumbers l.strings l.names × HaveNumbers l.names
    l.fields l.numbers.items
