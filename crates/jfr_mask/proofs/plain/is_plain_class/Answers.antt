use Rattle.std.proofs.Common.{slice_get}
use Rattle.jfr_mask.proofs.PlainLaws.{composite_plain}
use Rattle.jfr_mask.proofs.plain.is_plain_class.Goals as goal

pub returns-in-Composite : goal.returns-in-Composite
returns-in-Composite c = λ t.
    composite_plain c.args.masked.now c.args.classes.now c.args.flags.now c.args.index c.kind_at.result
    (slice_get c.args.classes.now c.args.index) c.layouts.result.now c.in-Composite.is c.kind_at.ensures c.layouts.ensures.exact (c.are_plain_fields.ensures t)
