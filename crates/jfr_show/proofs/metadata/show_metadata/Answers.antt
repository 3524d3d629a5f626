use Rattle.std.proofs.Common.{rules, arith, ap, length}
use Rattle.jfr_show.specs.Metadata.{class_lines}
use Rattle.jfr_show.proofs.ListingLaws.{item_of, pieces_more, metadata_is}
use Rattle.jfr_show.proofs.metadata.show_metadata.Goals as goal

pub loop-class-preserved : goal.loop-class-preserved
loop-class-preserved c =
    let classes = c.classes-classes.result.now in
    let i = c.loop-class.class-index in
    let class = c.class-item.result in
    let at = item_of classes c.as_slice-class-items.result.now i class c.as_slice-class-items.ensures (omega arith) c.class-item.is in
    pieces_more (class_lines classes) classes i class c.push_ascii-2.new.self c.loop-class.out c.show_class.new.out at c.loop-class.invariant c.in_ok-show_class.ensures.ok

pub returns : goal.returns
returns c = record {
  ok = metadata_is c.args.chunk.now c.classes-classes.result.now c.args.number c.loop-class.class-index c.args.out.now c.push_ascii.new.self c.push_number.new.self
      c.push_ascii-2.new.self c.loop-class.out (search rules) (omega (arith, ap length c.as_slice-class-items.ensures)) c.in_ok-push_ascii.ensures.ok c.in_ok-push_number.ensures.ok
      c.in_ok-push_ascii-2.ensures.ok c.loop-class.invariant;
}
