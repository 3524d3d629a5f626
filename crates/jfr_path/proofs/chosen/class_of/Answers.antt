use Rattle.jfr_path.proofs.ChosenLaws.{placed}
use Rattle.jfr_path.proofs.chosen.class_of.Goals as goal

pub unreachable-requires : goal.unreachable-requires
unreachable-requires c = placed c.args.chunk.now c.parts_are_valid.ensures.parts c.args.event.now c.requires.event c.classes.result.now c.classes.ensures c.in-None.ensures.class
