use Rattle.std.proofs.Common.{ap, sym, ◌∙◌}
use Rattle.jfr_build.specs.Lines.{line_in}
use Rattle.jfr_build.proofs.LineLaws.{line_said, nothing_said}
use Rattle.jfr_build.proofs.line.read_line.Goals as goal

pub returns-in_err-first-in-Ok : goal.returns-in_err-first-in-Ok
returns-in_err-first-in-Ok c =
    let said = line_said c.args.bytes.now c.in-Ok.line.now c.in-Ok.ensures.cases.0 c.in-Ok.ensures.cases.1 in
    c.from_residual.ensures ∙ sym (said ∙ ap line_in (sym c.of-words.ensures ∙ c.in_err-first-in-Ok.ensures.0))

pub returns-in_ok-first-in-Ok : goal.returns-in_ok-first-in-Ok
returns-in_ok-first-in-Ok c =
    let said = line_said c.args.bytes.now c.in-Ok.line.now c.in-Ok.ensures.cases.0 c.in-Ok.ensures.cases.1 in
    c.line_by.ensures ∙ sym (said ∙ ap line_in (sym c.of-words.ensures ∙ c.in_ok-first-in-Ok.ensures))

pub returns-in-Err : goal.returns-in-Err
returns-in-Err c = sym (nothing_said c.args.bytes.now c.in-Err.ensures.cases.0)
