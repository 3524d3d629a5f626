use Rattle.std.proofs.Common.{sym, ◌∙◌}
use Rattle.jfr_value.specs.Reading.{value_format}
use Rattle.jfr_value.proofs.DepthLaws.{sound_inline}
use Rattle.jfr_value.proofs.PartLaws.{end_seen}
use Rattle.jfr_value.proofs.part.part_end.Goals as goal

pub layout_end-requires-clause-depth : goal.layout_end-requires-clause-depth
layout_end-requires-clause-depth c = λ o d q m. sound_inline c.args.classes.now c.args.layout.now.shape.class d c.requires.sound q

pub unreachable-requires : goal.unreachable-requires
unfolding value_format
unreachable-requires c =
    let s = c.requires.holds in
    let r = end_seen c.args.classes.now c.args.bytes.now c.args.layout.now.shape c.args.at c.args.end s.0 c.requires.sound s.1 s.2 c.requires.within in
    cc (sym c.in-Err.is ∙ (c.layout_end.ensures.exact ∙ r))

pub returns : goal.returns
unfolding value_format
returns c = λ to e l.
    (let r = end_seen c.args.classes.now c.args.bytes.now c.args.layout.now.shape c.args.at c.args.end to c.requires.sound e l c.requires.within in
    cc (sym c.in-Ok.is ∙ (c.layout_end.ensures.exact ∙ r)))
