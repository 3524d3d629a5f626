use Rattle.std.proofs.Common.{refl, sym}
use Rattle.jfr_show.proofs.RecordTallies.{event_counted}
use Rattle.jfr_show.proofs.counting.count_record.Goals as goal

pub returns-in-Some : goal.returns-in-Some
returns-in-Some c = λ rs. event_counted c.args.classes.now c.args.leaders.now rs c.args.frame c.args.counted.now c.in-Some.leader _ _ (sym c.in-Some.ensures.exact) refl
