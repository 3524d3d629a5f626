use Rattle.std.proofs.Common.{None, Some, lit<}
use Rattle.std.proofs.lemmas.Str.Pattern.{strip_prefix_char}
use Rattle.jfr_build.proofs.WordLaws.{digits_after, digits_alone}
use Rattle.jfr_build.proofs.region.digits_of.Goals as goal

pub returns-in-Some : goal.returns-in-Some
returns-in-Some c = digits_after c.args.word.now c.in-Some.digits.now (strip_prefix_char 45 c.args.word.now (Some c.in-Some.digits) c.in-Some.ensures.cases (lit< tt))

pub returns-in-None : goal.returns-in-None
returns-in-None c = digits_alone c.args.word.now (strip_prefix_char 45 c.args.word.now None c.in-None.ensures.cases (lit< tt))
