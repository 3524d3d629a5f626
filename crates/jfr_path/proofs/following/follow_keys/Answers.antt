use Rattle.std.proofs.Common.{refl}
use Rattle.jfr_chunk.specs.Paths.{always}
use Rattle.jfr_value.specs.Nodes.{node_of}
use Rattle.jfr_path.proofs.FollowLaws.{follows_on}
use Rattle.jfr_path.proofs.following.follow_keys.Goals as goal

pub loop-preserved : goal.loop-preserved
loop-preserved c = record {
  value = c.in-Some.ensures.value;
  bytes = c.in-Some.ensures.bytes;
  left = follows_on always c.args.chunk.now 16 c.loop.counter (node_of c.args.node.now) (node_of c.loop.value)
      (node_of c.in-Some.next) c.loop-test.true c.loop.invariant.left refl c.in-Some.ensures.exact;
}
