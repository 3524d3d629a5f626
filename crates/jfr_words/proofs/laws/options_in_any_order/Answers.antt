use Rattle.jfr_words.proofs.AnyOrder.{any_order}
use Rattle.jfr_words.proofs.laws.options_in_any_order.Goals as goal

pub returns : goal.returns
returns c = any_order
