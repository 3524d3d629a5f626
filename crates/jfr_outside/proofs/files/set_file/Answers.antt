use Rattle.jfr_outside.proofs.HeldLaws.{inserted, held_grown, held_as}
use Rattle.std.proofs.Common.{refl}
use Rattle.jfr_outside.proofs.files.set_file.Goals as goal

pub returns-clause-ok : goal.returns-clause-ok
returns-clause-ok c = inserted c.args.files.now c.insert.new.self c.in_ok-key.key c.in_ok-value.value _ _ c.in_ok-insert.ensures.updates c.in_ok-key.ensures.ok c.in_ok-value.ensures.items

pub returns-clause-there : goal.returns-clause-there
returns-clause-there c = held_as _ _ _ _ _
    (inserted c.args.files.now c.insert.new.self c.in_ok-key.key c.in_ok-value.value _ _ c.in_ok-insert.ensures.updates c.in_ok-key.ensures.ok c.in_ok-value.ensures.items) refl

pub returns-clause-holds : goal.returns-clause-holds
returns-clause-holds c = held_grown _ _ _ _
    (inserted c.args.files.now c.insert.new.self c.in_ok-key.key c.in_ok-value.value _ _ c.in_ok-insert.ensures.updates c.in_ok-key.ensures.ok c.in_ok-value.ensures.items)
