use Rattle.std.specs.Str.{chars}
use Rattle.std.proofs.Common.{◌∙◌}
use Rattle.jfr_path.proofs.TimeLaws.{no_times, these_times}
use Rattle.jfr_path.proofs.times.Times.of.Goals as goal

pub returns-in_err-start : goal.returns-in_err-start
unfolding chars
returns-in_err-start c = c.from_residual.ensures ∙ no_times c.args.class.now c.number.result c.in_err-start.was c.number.ensures

pub returns : goal.returns
unfolding chars
returns c = these_times c.args.class.now c.number.result c.in_ok-start.start c.number-duration.result c.in_ok-start.was c.number.ensures c.number-duration.ensures
