use Rattle.std.proofs.Common.{rules}
use Rattle.jfr_value.specs.Nodes.{node_of, targets}
use Rattle.jfr_reach.proofs.KeyLaws.{puts_all}
use Rattle.jfr_reach.proofs.walk.put_entry.Goals as goal

pub returns-in-Some-clause-puts : goal.returns-in-Some-clause-puts
returns-in-Some-clause-puts g c =
    let puts = puts_all c.pools.result.now (targets c.classes.result.now c.in-Some.node.bytes.now (node_of c.in-Some.node)) c.args.list.now c.visit_and_count.new.visitor
    c.visit_and_count.ensures.exact in
    search (rules, puts)
