use Rattle.std.proofs.Common.{refl, ◌∙◌}
use Rattle.std.specs.Prelude.{codes}
use Rattle.jfr_words.proofs.WordLaws.{same_word}
use Rattle.jfr_words.proofs.json.is_json.Goals as goal

pub returns : goal.returns
returns c = c.eq.ensures ∙ same_word _ (codes "--json") c.utf8.word refl
