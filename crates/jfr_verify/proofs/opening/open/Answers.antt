use Rattle.jfr_verify.proofs.OutputLaws.{open_told}
use Rattle.jfr_verify.proofs.opening.open.Goals as goal

pub returns-in-Ok-clause-contents : goal.returns-in-Ok-clause-contents
returns-in-Ok-clause-contents g c = open_told c.args.name.now c.new.result (g.P.Place.state c.args.place.now).contents
    (g.P.Place.state c.open_input.new.self).contents c.new.ensures.start c.new.ensures.number c.new.ensures.first c.in-Ok.ensures.there c.in-Ok.ensures.contents
