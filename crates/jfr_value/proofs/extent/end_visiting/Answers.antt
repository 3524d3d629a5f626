use Rattle.jfr_value.proofs.KeyPlaces.{answer_targets}
use Rattle.jfr_value.proofs.extent.end_visiting.Goals as goal

pub returns-clause-visited : goal.returns-clause-visited
returns-clause-visited g c =
    answer_targets (g.V.Visit.takes c.args.walk.with.now) c.args.walk.classes.now c.args.walk.bytes.now c.args.layout.now.shape c.args.at c.args.walk.end c.args.visitor.now
    c.end_visiting_keys.new.visitor c.requires.sound c.end_visiting_keys.result c.end_visiting_keys.ensures.ok c.end_visiting_keys.ensures.visited
