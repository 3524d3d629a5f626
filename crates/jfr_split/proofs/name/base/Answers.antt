use Rattle.jfr_split.proofs.Stems.{base_found, base_whole}
use Rattle.jfr_split.proofs.name.base.Goals as goal

pub returns-in-Some : goal.returns-in-Some
returns-in-Some c = let h = c.in-Some.ensures.cases in base_found c.args.name.now c.in-Some.base.now h.0 h.1 h.2 h.4 h.7

pub returns-in-None : goal.returns-in-None
returns-in-None c = base_whole c.args.name.now c.in-None.ensures.cases
