use Rattle.jfr_path.specs.declared.verdict.ClassVerdict.TheVariants.{Kept}
use Rattle.jfr_path.proofs.ChosenLaws.{said}
use Rattle.jfr_path.proofs.chosen.verdict_of.Goals as goal

pub returns : goal.returns
returns c = λ g all. said c.args.chunk.now c.parts_are_valid.ensures.parts c.args.event.now c.requires.event g c.args.verdicts.now c.args.class Kept all c.requires.class
