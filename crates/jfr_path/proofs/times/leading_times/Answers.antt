use Rattle.jfr_value.specs.Nodes.{node_of}
use Rattle.jfr_path.proofs.LeadingLaws.{first_starts}
use Rattle.jfr_path.proofs.times.leading_times.Goals as goal

pub long_in-requires-clause-start : goal.long_in-requires-clause-start
long_in-requires-clause-start c = first_starts c.args.chunk.now (node_of c.args.fields.now) c.args.layouts.now c.requires.layouts
