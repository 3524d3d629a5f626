use Rattle.jfr_value.proofs.DepthLaws.{sound_inline}
use Rattle.jfr_build.specs.Taking.{value_taken}
use Rattle.jfr_build.proofs.value.push_value.Goals as goal

pub push_layout-requires-clause-depth : goal.push_layout-requires-clause-depth
push_layout-requires-clause-depth c = λ o d q m. sound_inline c.args.classes.now c.args.layout.now.shape.class d c.len-count.ensures.sound q

pub returns : goal.returns
unfolding value_taken
returns c = record { exact = c.push_layout.ensures.exact }
