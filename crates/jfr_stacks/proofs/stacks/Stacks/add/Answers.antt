use Rattle.std.proofs.Common.{ap, ◌∙◌}
use Rattle.std.proofs.lemmas.Result.{on_ok_weaker}
use Rattle.jfr_stacks.specs.Folded.{Folded}
use Rattle.jfr_stacks.specs.Held.{counts_in}
use Rattle.jfr_stacks.proofs.FoldLaws.{stacks_added}
use Rattle.jfr_stacks.proofs.stacks.Stacks.add.Goals as goal

pub returns-clause-stacks : goal.returns-clause-stacks
returns-clause-stacks c =
    on_ok_weaker c.add_events.result (λ adds ps l e. stacks_added c.args.filter.now ps c.args.chunk.now (counts_in c.self.inside.counts) (counts_in c.add_events.new.counts)
    (ap (λ (f : Folded). f.stacks) c.self.view_is ∙ e) adds) c.add_events.ensures.ok
