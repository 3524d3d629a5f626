use Rattle.std.proofs.Common.{refl, ◌≡◌, Some, arith}
use Rattle.std.specs.Prelude.{slice_get}
use Rattle.std.proofs.lemmas.Grind.{common_steps}
use Rattle.std.proofs.lemmas.Option.{gets}
use Rattle.jfr_meta.proofs.NewTableLaws.{index_numbered, index_noted}
use Rattle.jfr_meta.proofs.tabling.NewTable.number.Goals as goal

pub returns-in-Some-Some-clause-number : goal.returns-in-Some-Some-clause-number
returns-in-Some-Some-clause-number c =
    let kept : slice_get c.args.self.now.numbers.items c.args.index ≡ Some (Some c.in-Some-Some.number) = grind (arith, common_steps, gets) in
    (index_numbered c.args.strings.now c.args.self.now c.args.index c.in-Some-Some.number c.requires kept).0

pub returns-in-Some-Some-clause-tabled : goal.returns-in-Some-Some-clause-tabled
returns-in-Some-Some-clause-tabled c =
    let kept : slice_get c.args.self.now.numbers.items c.args.index ≡ Some (Some c.in-Some-Some.number) = grind (arith, common_steps, gets) in
    (index_numbered c.args.strings.now c.args.self.now c.args.index c.in-Some-Some.number c.requires kept).1

pub returns-in-Some-clause-tabled : goal.returns-in-Some-clause-tabled
returns-in-Some-clause-tabled c = index_noted c.args.strings.now c.args.self.now c.number_by_text.new.self _ c.args.index c.in_ok-number.number c.in_ok-number.ensures.tabled
    c.in_ok-number.ensures.number refl
