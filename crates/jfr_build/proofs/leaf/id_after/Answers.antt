use Rattle.std.proofs.Common.{None, sym, ◌∙◌}
use Rattle.std.proofs.lemmas.Str.Pattern.{strip_prefix_char}
use Rattle.jfr_build.proofs.WordLaws.{no_mark}
use Rattle.jfr_build.proofs.leaf.id_after.Goals as goal

pub returns-in_err-strip_prefix : goal.returns-in_err-strip_prefix
returns-in_err-strip_prefix c = c.from_residual.ensures ∙ sym (no_mark c.args.mark c.args.word.now (strip_prefix_char c.args.mark c.args.word.now None c.in_err-strip_prefix.ensures.cases c.requires))
