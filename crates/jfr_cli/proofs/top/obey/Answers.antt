use Rattle.std.proofs.Common.{refl}
use Rattle.jfr_cli.specs.Runs.{NoOrder, NotRead, CarriedOut}
use Rattle.jfr_cli.proofs.top.obey.Goals as goal

pub returns-in-Ok : goal.returns-in-Ok
returns-in-Ok g c = CarriedOut _ c.in-Ok.ensures.read c.execute.ensures

pub returns-in-Err-Usage : goal.returns-in-Err-Usage
returns-in-Err-Usage g c = NoOrder (rw c.in-Err-Usage.field-0-is at c.in-Err-Usage.ensures.read) refl refl

pub returns-in-Err-Memory : goal.returns-in-Err-Memory
returns-in-Err-Memory g c = NotRead refl refl
