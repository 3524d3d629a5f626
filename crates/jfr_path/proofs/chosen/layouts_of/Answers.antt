use Rattle.jfr_path.proofs.LeadingLaws.{event_layouts}
use Rattle.jfr_path.proofs.chosen.layouts_of.Goals as goal

pub returns : goal.returns
returns c = event_layouts c.args.chunk.now c.parts_are_valid.ensures.parts c.args.event.now c.requires.event c.classes.result.now c.args.class c.layouts.result.now c.classes.ensures c.requires.class
    c.layouts.ensures.exact
