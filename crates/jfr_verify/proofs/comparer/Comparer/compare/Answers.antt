use Rattle.std.proofs.Common.{Ok}
use Rattle.jfr_chunk.specs.Refusal.{read_parts}
use Rattle.jfr_verify.proofs.ComparingLaws.{steps_in}
use Rattle.jfr_verify.proofs.comparer.Comparer.compare.Goals as goal

pub returns-clause-steps : goal.returns-clause-steps
returns-clause-steps c = λ n qs at h.
    steps_in c.compare_next-compared.result n (Ok c.in-Ok.input) (read_parts c.args.chunk.now) qs c.args.self.now c.compare_next-compared.new.self c.replace-buffers.new.dest c.into_buffers.result
    c.in-Ok.ensures.exact (c.compare_next-compared.ensures.steps n qs at h)
