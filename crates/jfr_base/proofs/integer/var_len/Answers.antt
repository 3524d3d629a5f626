use Rattle.jfr_base.proofs.Writing.{counting_start}
use Rattle.jfr_base.proofs.integer.var_len.Goals as goal

pub loop-len-init : goal.loop-len-init
loop-len-init c = counting_start c.args.value
