use Rattle.std.proofs.Common.{◌∙◌}
use Rattle.jfr_cli.proofs.Lines.{said_instead, said_as}
use Rattle.jfr_cli.proofs.status.write_made_line.Goals as goal

pub returns-in-Ok : goal.returns-in-Ok
returns-in-Ok g c = λ line e. said_as _ _ _ _ _ _ (c.as_str.ensures.value ∙ rw c.in-Ok.is at e) c.write_status_line.ensures

pub returns-in-Err : goal.returns-in-Err
returns-in-Err g c = λ line e. said_instead _ _ _ _ _ c.write_status_line-in-Err.ensures
