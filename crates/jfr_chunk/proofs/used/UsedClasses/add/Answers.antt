use Rattle.std.proofs.Common.{◌%◌}
use Rattle.jfr_chunk.proofs.UsedLaws.{held_more}
use Rattle.jfr_chunk.proofs.used.UsedClasses.add.Goals as goal

pub invariant_of-self-2 : goal.invariant_of-self-2
invariant_of-self-2 c = record { cached = held_more c.args.self.now.ids c.insert.new.self c.args.self.now.recent (c.args.id % 512) c.args.id c.args.self.now.cached c.in_ok-insert.ensures.ok }
