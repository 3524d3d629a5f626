use Rattle.std.proofs.Common.{ap, sym, subst}
use Rattle.jfr_value.specs.Nodes.{node_of}
use Rattle.jfr_chunk.specs.Parts.{AreParts, Parts}
use Rattle.jfr_path.specs.Threads.{AreVerdicts, Asked, IsReferenceTo}
use Rattle.jfr_path.proofs.ThreadLaws.{verdicts_next}
use Rattle.jfr_path.proofs.threads.ThreadVerdicts.allows.Goals as goal

pub invariant_of-self-2 : goal.invariant_of-self-2
invariant_of-self-2 c =
    let self = c.self.inside in
    let thread = node_of c.args.thread.now in
    let is = subst (λ (z : Parts). IsReferenceTo z c.in-Some.target thread) c.chunk.ensures c.in-Some.ensures in
    let parts = subst AreParts (ap (λ (z : Asked). z.chunk) (sym c.self.view_is)) c.requires.parts in
    subst (λ (z : Asked). AreVerdicts z.filter z.chunk c.insert.new.self) (sym c.in_ok-allowed.ensures.same)
    (verdicts_next self.texts.filter self.texts.chunk self.verdicts c.insert.new.self c.in-Some.target thread c.in_ok-allowed.allowed parts c.self.invariant is c.in_ok-allowed.ensures.ok
    c.in_ok-insert.ensures.updates)
