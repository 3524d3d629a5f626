use Rattle.std.proofs.Common.{ap, ◌∙◌}
use Rattle.std.specs.Prelude.{is_some}
use Rattle.jfr_frame.proofs.FindLaws.{starts_there}
use Rattle.jfr_frame.proofs.frames.Frames.starts_at.Goals as goal

pub returns : goal.returns
returns c = c.is_some.ensures ∙ ap is_some c.find.ensures ∙ starts_there c.args.self.now c.args.at c.args.type_id
