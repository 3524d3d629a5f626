use Rattle.jfr_show.proofs.LeaderLaws.{name_kept, named_next}
use Rattle.jfr_show.proofs.leaders.first_named.Goals as goal

pub returns-in-Some : goal.returns-in-Some
returns-in-Some c = record { ok = λ k texts named own. (name_kept k texts c.args.named.now c.args.string c.in-Some.first.now named c.in-Some.ensures.value, named) }

pub returns : goal.returns
returns c = record { ok = λ k texts named own. (own, named_next k texts c.args.named.now c.insert.new.self c.args.string c.args.index named own c.in_ok-insert.ensures.updates) }
