use Rattle.std.proofs.Common.{ap, arith, drop_of_length-le, length, sym, Some, ◌∙◌}
use Rattle.std.specs.Str.{chars}
use Rattle.jfr_layout.proofs.Lists.{listed_at}
use Rattle.jfr_value.specs.Nodes.{node_of}
use Rattle.jfr_chunk.specs.Paths.{named_node}
use Rattle.jfr_path.proofs.NameLaws.{named_on, named_off}
use Rattle.jfr_path.proofs.names.named_node.Goals as goal

pub returns-in_err-place-clause-exact : goal.returns-in_err-place-clause-exact
returns-in_err-place-clause-exact c =
    let l = c.loop-name in
    let there = sym (listed_at c.as_slice-name-items.ensures l.name-index c.name-item.result (omega arith) c.name-item.is ∙ ap Some (sym c.as_str.ensures)) in
    rw c.from_residual.ensures
    (named_off c.args.chunk.now (named_node c.args.chunk.now (node_of c.args.node.now) c.args.names.now) c.args.names.now l.name-index (chars c.as_str.result.now) (node_of l.place)
    (node_of c.follow_references-holder.result) l.invariant.left there c.follow_references-holder.ensures.exact c.in_err-place.ensures.exact)

pub loop-name-preserved : goal.loop-name-preserved
loop-name-preserved c =
    let l = c.loop-name in
    let there = sym (listed_at c.as_slice-name-items.ensures l.name-index c.name-item.result (omega arith) c.name-item.is ∙ ap Some (sym c.as_str.ensures)) in
    record {
      value = c.in_ok-place.ensures.value;
      bytes = c.in_ok-place.ensures.bytes;
      left =
          named_on c.args.chunk.now (named_node c.args.chunk.now (node_of c.args.node.now) c.args.names.now) c.args.names.now l.name-index (chars c.as_str.result.now) (node_of l.place)
          (node_of c.follow_references-holder.result) (node_of c.in_ok-place.place) l.invariant.left there
          c.follow_references-holder.ensures.exact c.in_ok-place.ensures.exact;
    }

pub returns-clause-exact : goal.returns-clause-exact
returns-clause-exact c =
    let l = c.loop-name in
    sym (l.invariant.left ∙ ap (named_node c.args.chunk.now (node_of l.place)) (drop_of_length-le c.args.names.now (omega (arith, ap length c.as_slice-name-items.ensures))))
