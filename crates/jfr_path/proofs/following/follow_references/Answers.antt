use Rattle.std.proofs.Common.{sym, ◌∙◌, ◌-◌}
use Rattle.jfr_chunk.specs.Paths.{is_reference}
use Rattle.jfr_value.specs.Nodes.{node_of}
use Rattle.jfr_path.proofs.FollowLaws.{follows_on, stays}
use Rattle.jfr_path.proofs.following.follow_references.Goals as goal

pub returns-then-not-is_reference-clause-exact : goal.returns-then-not-is_reference-clause-exact
returns-then-not-is_reference-clause-exact c =
    sym (c.loop.invariant.left ∙ stays is_reference c.args.chunk.now (c.args.most - c.loop.counter) (node_of c.loop.value) (sym c.is_reference.ensures ∙ c.if-not-is_reference.true))

pub loop-preserved : goal.loop-preserved
loop-preserved c = record {
  value = c.in-Some.ensures.value;
  bytes = c.in-Some.ensures.bytes;
  left =
      follows_on is_reference c.args.chunk.now c.args.most c.loop.counter (node_of c.args.node.now) (node_of c.loop.value) (node_of c.in-Some.next) c.loop-test.true c.loop.invariant.left
      (sym c.is_reference.ensures ∙ c.if-not-is_reference.false)
      c.in-Some.ensures.exact;
}
