use Rattle.std.proofs.Common.{ap, ◌∙◌}
use Rattle.jfr_header.specs.Headers.{header_of}
use Rattle.jfr_chunk.proofs.read.header_in.Goals as goal

pub returns : goal.returns
returns c = c.in-Ok.ensures.ok.1 ∙ ap header_of c.in-Some.ensures.cases.same
