use Rattle.std.proofs.Common.{ap, ◌∙◌}
use Rattle.std.proofs.lemmas.Result.{IfOk-weaker}
use Rattle.jfr_chunk.specs.Reach.{marked}
use Rattle.jfr_renumber.specs.Firsts.{firsts_by}
use Rattle.jfr_renumber.specs.Numbers.{number_or_zero}
use Rattle.jfr_renumber.proofs.AgreeLaws.{firsts_marked}
use Rattle.jfr_renumber.proofs.firsts.first_entries.Goals as goal

pub returns : goal.returns
returns c =
    IfOk-weaker c.collected.result _ _ (λ es e flags m h.
    e ∙ (ap (λ z. firsts_by (number_or_zero c.args.keys.now.keys) (marked c.args.marks.now z)) c.pools.ensures
    ∙ firsts_marked c.args.chunk.now c.parts_are_valid.ensures.parts flags c.args.keys.now.keys h c.args.marks.now m)) c.collected.ensures
