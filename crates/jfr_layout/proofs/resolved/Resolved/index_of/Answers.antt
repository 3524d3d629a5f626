use Rattle.std.proofs.Common.{◌∙◌, ap}
use Rattle.jfr_layout.specs.Classes.{class_index}
use Rattle.jfr_layout.proofs.FieldIndices.{indexed_class, indexed_within}
use Rattle.jfr_layout.proofs.resolved.Resolved.index_of.Goals as goal

pub returns-clause-class : goal.returns-clause-class
returns-clause-class c = indexed_class c.args.self.now c.args.id c.index_of.result
    (c.index_of.ensures ∙ (c.self.invariant.by_id.at c.args.id ∙ ap (λ k. class_index k c.args.id) c.self.view_is))

pub returns-clause-within : goal.returns-clause-within
returns-clause-within c = indexed_within c.args.self.now c.args.id c.index_of.result
    (c.index_of.ensures ∙ (c.self.invariant.by_id.at c.args.id ∙ ap (λ k. class_index k c.args.id) c.self.view_is))
