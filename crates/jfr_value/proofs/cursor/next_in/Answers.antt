use Rattle.std.proofs.Common.{ap, arith}
use Rattle.jfr_value.specs.Walks.{size_of_all}
use Rattle.jfr_value.proofs.WalkLaws.{remaining_is}
use Rattle.jfr_value.proofs.cursor.next_in.Goals as goal

pub loop-leaf-smaller : goal.loop-leaf-smaller
loop-leaf-smaller c =
    let g = c.in-Onward.ensures.remaining c.loop-leaf.invariant.here.0 c.loop-leaf.invariant.here.1 in
    let before = remaining_is c.args.walk.now.classes.now c.args.walk.now.bytes.now c.args.walk.now.end c.loop-leaf.cursor c.loop-leaf.invariant.here.0 c.requires.sound c.loop-leaf.invariant.here.1 in
    let after = remaining_is c.args.walk.now.classes.now c.args.walk.now.bytes.now c.args.walk.now.end c.advance.new.cursor g.0 c.requires.sound g.1 in
    omega (arith, g.3, ap size_of_all before, ap size_of_all after)
