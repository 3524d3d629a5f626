use Rattle.jfr_layout.proofs.FieldLayouts.{has_layout, field_within, layout_within}
use Rattle.jfr_layout.proofs.Steps.{step_key, step_to, step_nowhere}
use Rattle.jfr_layout.proofs.resolved.Resolved.step.Goals as goal

pub layouts-requires : goal.layouts-requires
layouts-requires c = field_within c.args.self.now c.args.index c.args.number c.requires

pub bounds-layouts-number : goal.bounds-layouts-number
bounds-layouts-number c = layout_within c.args.self.now c.args.index c.args.number c.layouts.result.now c.requires c.layouts.ensures

pub returns-then-layout-clause-exact : goal.returns-then-layout-clause-exact
returns-then-layout-clause-exact c = step_key _ _ _ _ (has_layout c.args.self.now c.args.index c.args.number c.layouts.result.now _ c.requires c.layouts.ensures) c.if-layout.true

pub returns-in-Composite : goal.returns-in-Composite
returns-in-Composite c =
    let e = step_to _ _ _ _ (has_layout c.args.self.now c.args.index c.args.number c.layouts.result.now _ c.requires c.layouts.ensures) c.if-layout.false c.in-Composite.is in
    record { exact = e.0; within = e.1 }

pub returns-in_default-clause-exact : goal.returns-in_default-clause-exact
returns-in_default-clause-exact c = step_nowhere _ _ _ _ (has_layout c.args.self.now c.args.index c.args.number c.layouts.result.now _ c.requires c.layouts.ensures) c.if-layout.false
    c.in_default.not-Composite
