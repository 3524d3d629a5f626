use Rattle.jfr_scrub.proofs.GallopingLaws.{tells_event}
use Rattle.jfr_scrub.proofs.galloping.is_event_at.Goals as goal

pub returns-in-Some : goal.returns-in-Some
returns-in-Some c = tells_event c.args.chunk.now c.args.cursor.now c.args.offset c.in-Some.record c.requires.parts c.in-Some.ensures
