use Rattle.std.proofs.Common.{◌∙◌}
use Rattle.jfr_scrub.proofs.RunLaws.{tells_run}
use Rattle.jfr_scrub.proofs.run.is_in_run.Goals as goal

pub returns-in-Some : goal.returns-in-Some
returns-in-Some c = c.is_kept_at.ensures ∙ tells_run c.args.chunk.now c.args.kept.now c.args.cursor.now _ _ c.frames.ensures c.in-Some.ensures

pub returns-in-None : goal.returns-in-None
returns-in-None c = tells_run c.args.chunk.now c.args.kept.now c.args.cursor.now _ _ c.frames.ensures c.in-None.ensures
