use Rattle.std.proofs.Common.{◌∙◌, ap, replicate, true}
use Rattle.jfr_layout.proofs.Depth.{all_go}
use Rattle.jfr_layout.proofs.inline.too_deep.Goals as goal

pub loop-step-init : goal.loop-step-init
loop-step-init c = c.in_ok-goes.ensures.items_if_clones_equal (λ y e. e) ∙ (ap (λ n. replicate n true) c.len.ensures ∙ all_go c.args.classes.now c.args.classes.now)
