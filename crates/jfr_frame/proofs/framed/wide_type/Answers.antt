use Rattle.jfr_base.proofs.OneInt.{int_one}
use Rattle.jfr_frame.proofs.framed.wide_type.Goals as goal

pub returns : goal.returns
returns c = λ q v there. (int_one _ _ _ _ _ _ c.in-Ok.ensures.ok there).1
