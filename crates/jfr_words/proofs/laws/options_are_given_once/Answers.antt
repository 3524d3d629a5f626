use Rattle.jfr_words.proofs.AnyOrder.{at_most_once}
use Rattle.jfr_words.proofs.laws.options_are_given_once.Goals as goal

pub returns : goal.returns
returns c = at_most_once
