use Rattle.jfr_renumber.proofs.LawLaws.{exactly_used}
use Rattle.jfr_renumber.proofs.laws.used_keys_are_used.Goals as goal

pub returns : goal.returns
returns c = λ p kept parts events. exactly_used p parts kept events
