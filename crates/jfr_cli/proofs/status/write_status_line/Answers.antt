use Rattle.std.proofs.Common.{refl}
use Rattle.jfr_cli.specs.Answers.{ForMemory}
use Rattle.jfr_cli.proofs.Lines.{said_partly, nothing_said}
use Rattle.jfr_cli.proofs.status.write_status_line.Goals as goal

pub returns-in-Err-Failed : goal.returns-in-Err-Failed
returns-in-Err-Failed g c = said_partly _ _ _ _ _ c.as_bytes.ensures.value (rw c.in-Err-Failed.field-0-is at c.in-Err-Failed.ensures.contents)
    (rw c.in-Err-Failed.field-0-is at c.in-Err-Failed.ensures.faults)

pub returns-in-Err-Memory : goal.returns-in-Err-Memory
returns-in-Err-Memory g c = ForMemory refl
    (nothing_said (g.E.Sink.state c.args.err.now) (g.E.Sink.state c.write.new.self) (rw c.in-Err-Memory.field-0-is at c.in-Err-Memory.ensures.contents)
    (rw c.in-Err-Memory.field-0-is at c.in-Err-Memory.ensures.faults))
