use Rattle.std.specs.Str.{chars}
use Rattle.jfr_layout.proofs.Steps.{extends_is}
use Rattle.jfr_layout.proofs.resolved.extends_event.Goals as goal

pub returns-in-Some : goal.returns-in-Some
unfolding chars
returns-in-Some c = λ h. extends_is c.args.class.now c.args.kind c.in-Some.name c.is_text.result h c.in-Composite.is c.in-Some.is c.is_text.ensures
