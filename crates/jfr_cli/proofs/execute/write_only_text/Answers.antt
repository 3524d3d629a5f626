use Rattle.std.proofs.Common.{subst, ap, ◌∙◌}
use Rattle.std.specs.Prelude.{option_map}
use Rattle.jfr_outside.specs.World.{added}
use Rattle.jfr_cli.specs.Texts.{IsWritten}
use Rattle.jfr_cli.proofs.Sampling.{written_by}
use Rattle.jfr_cli.proofs.execute.write_only_text.Goals as goal

pub returns-in-Ok : goal.returns-in-Ok
returns-in-Ok g c = (c.in-Ok.ensures.contents ∙ ap (λ b. option_map (added b) (g.O.Sink.state c.args.out.now).written) c.as_bytes.ensures.value, c.in-Ok.ensures.faults)

pub returns-in-Err : goal.returns-in-Err
returns-in-Err g c =
    subst (λ b. IsWritten b c.of_write.result (g.O.Sink.state c.args.out.now) (g.O.Sink.state c.write.new.self)) c.as_bytes.ensures.value
    (written_by c.as_bytes.result.now c.in-Err.fault c.of_write.result (g.O.Sink.state c.args.out.now) (g.O.Sink.state c.write.new.self) c.of_write.ensures (rw c.in-Err.is at c.write.ensures.contents)
    (rw c.in-Err.is at c.write.ensures.faults))
