use Rattle.std.proofs.Common.{ap, sym, ◌∙◌}
use Rattle.jfr_layout.specs.Classes.{class_index}
use Rattle.jfr_mask.proofs.PlainLaws.{class_plain}
use Rattle.jfr_mask.proofs.texts.MaskedStrings.are_none_in.Goals as goal

pub returns : goal.returns
returns c = λ t v i.
    (let s = c.args.self.now in
    let k = s.chunk.now.classes in
    let id = c.args.node.shape.class in
    let x = c.has_id.ensures t in
    class_plain s.masked.now k s.plain.now.flags.items c.requires c.args.node.shape x.0 v i.fits i.shape (sym (ap (λ z. class_index z id) c.classes.ensures) ∙ x.1) x.2)
