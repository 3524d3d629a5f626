use Rattle.std.proofs.Common.{refl}
use Rattle.jfr_base.proofs.UnitLaws.{one_integer}
use Rattle.jfr_base.proofs.laws.one_spelling.Goals as goal

pub returns : goal.returns
returns c = λ a b x y v w p q e. let h = one_integer _ a b x y v w refl e p q in (h.0, h.2)
