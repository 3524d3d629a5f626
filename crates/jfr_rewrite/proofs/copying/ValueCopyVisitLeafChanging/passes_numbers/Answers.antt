use Rattle.std.proofs.Common.{arith, refl}
use Rattle.jfr_rewrite.proofs.CopyLaws.{leaf_waits}
use Rattle.jfr_rewrite.proofs.copying.ValueCopyVisitLeafChanging.passes_numbers.Goals as goal

pub returns-clause-same : goal.returns-clause-same
returns-clause-same g c = λ changing leaf copy n lies ready.
    let ch = (g.R.Rewriter.rewrite changing.rewriting.now).change in
    let stays = c.keeps_numbers.ensures changing.rewriting.now leaf n in
    (refl, λ f. (f, leaf_waits ch changing.chunk.now leaf copy.copied copy.out.now.items ready.0 lies.bytes stays))

pub returns-clause-ready : goal.returns-clause-ready
returns-clause-ready g c = λ changing copy at to ready later. (omega (arith, ready.0, later), ready.1)
