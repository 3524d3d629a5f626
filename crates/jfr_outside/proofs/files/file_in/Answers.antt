use Rattle.std.proofs.Common.{◌∙◌, ap, Some}
use Rattle.jfr_outside.proofs.HeldLaws.{looked, looked_none}
use Rattle.jfr_outside.proofs.files.file_in.Goals as goal

pub returns-in-Some : goal.returns-in-Some
returns-in-Some c = ap Some c.as_slice.ensures.value ∙ looked c.args.files.now c.args.name.now c.in-Some.bytes.now c.in-Some.ensures.value

pub returns-in-None : goal.returns-in-None
returns-in-None c = looked_none c.args.files.now c.args.name.now c.in-None.ensures.value
