use Rattle.std.proofs.Common.{length, ap, ◌∙◌}
use Rattle.jfr_chunk.specs.Reach.{kept_by}
use Rattle.jfr_reach.proofs.EntryWalk.{marked_reached, marks_size}
use Rattle.jfr_reach.proofs.marks.Marks.mark.Goals as goal

pub returns-clause-reached : goal.returns-clause-reached
returns-clause-reached g c = marked_reached c.args.chunk.now c.args.kept.now c.put_reached.ensures.parts c.put_reached.new.list.flags.items c.put_reached.ensures.exact

pub returns-clause-size : goal.returns-clause-size
returns-clause-size g c = ap length c.put_reached.ensures.exact ∙ marks_size c.args.chunk.now (kept_by c.args.chunk.now c.args.kept.now)
