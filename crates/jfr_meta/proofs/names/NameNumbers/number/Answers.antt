use Rattle.std.proofs.Common.{sym}
use Rattle.jfr_meta.proofs.NameLaws.{grow_index, grow_more, with_indices}
use Rattle.jfr_meta.proofs.names.NameNumbers.number.Goals as goal

pub returns-in-Some-clause-number : goal.returns-in-Some-clause-number
returns-in-Some-clause-number c = c.requires.index c.args.index c.in-Some.number.now (sym c.in-Some.ensures.value)

pub returns-clause-number : goal.returns-clause-number
returns-clause-number c = c.in_ok-number.ensures.number

pub returns-clause-grow : goal.returns-clause-grow
returns-clause-grow c =
    let found = c.number_by_text.new.self in
    let grow = c.in_ok-number.ensures.grow in
    grow_more c.args.strings.now c.args.self.now found (with_indices found c.insert.new.self) grow
    (grow_index c.args.strings.now found c.insert.new.self c.args.index c.in_ok-number.number grow.numbers c.in_ok-number.ensures.number c.in_ok-insert.ensures.updates)
