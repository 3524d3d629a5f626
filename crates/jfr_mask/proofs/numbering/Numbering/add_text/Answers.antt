use Rattle.jfr_mask.specs.Pseudonyms.{has_text}
use Rattle.jfr_mask.proofs.NotedLaws.{noted_grow}
use Rattle.jfr_mask.proofs.numbering.Numbering.add_text.Goals as goal

pub returns-in-Some-clause-noted : goal.returns-in-Some-clause-noted
returns-in-Some-clause-noted c = noted_grow c.args.self.now.strings.chunk.now (has_text c.args.self.now.known.now) c.args.growing.now.dictionary c.add_unless_shown.new.dictionary
    c.args.self.now.events.now.strings.items c.args.growing.now.noted c.add_unless_shown.ensures.grown c.requires.noted

pub returns-in-Some-2-clause-noted : goal.returns-in-Some-2-clause-noted
returns-in-Some-2-clause-noted c = noted_grow c.args.self.now.strings.chunk.now (has_text c.args.self.now.known.now) c.args.growing.now.dictionary c.add_unless_shown-in-Some-2.new.dictionary
    c.args.self.now.events.now.strings.items c.args.growing.now.noted c.add_unless_shown-in-Some-2.ensures.grown c.requires.noted
