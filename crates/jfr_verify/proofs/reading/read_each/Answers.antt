use Rattle.std.proofs.Common.{◌+◌, arith, sym, subst}
use Rattle.jfr_verify.proofs.ReadingLaws.{InEach, each_starts, each_next, each_stops, each_ends}
use Rattle.jfr_verify.proofs.reading.read_each.Goals as goal

pub read_line-requires : goal.read_line-requires
read_line-requires c = c.loop.invariant.within

pub loop-init : goal.loop-init
loop-init c = subst (InEach c.args.receipt.now c.args.at c.args.count 0 c.args.at) (sym c.new-lines.ensures.items) (each_starts c.args.receipt.now c.args.at c.args.count c.requires)

pub returns-in-None : goal.returns-in-None
returns-in-None c = sym (each_stops c.args.receipt.now c.args.at c.args.count c.loop.counter c.loop.end c.loop.lines.items (omega arith) c.loop.invariant c.in-None.ensures.exact)

pub loop-preserved : goal.loop-preserved
loop-preserved c =
    subst (InEach c.args.receipt.now c.args.at c.args.count (c.loop.counter + 1) c.in-Some.next.end) (sym c.in_ok-push-in-Some.ensures.items)
    (each_next c.args.receipt.now c.args.at c.args.count c.loop.counter c.loop.end c.in-Some.next.end c.loop.lines.items c.in-Some.next.line
    (omega arith) c.loop.invariant c.in-Some.ensures.exact c.in-Some.ensures.within)

pub returns : goal.returns
returns c = sym (each_ends c.args.receipt.now c.args.at c.args.count c.loop.counter c.loop.end c.loop.lines.items (omega arith) c.loop.invariant)
