use Rattle.jfr_verify.proofs.GivenEntries.{given_within}
use Rattle.jfr_verify.proofs.walk.add_event.Goals as goal

pub add_each-requires : goal.add_each-requires
add_each-requires c = given_within c.args.chunk.now c.in-Some.entries.now _ _ c.requires.size c.in-Some.ensures
