use Rattle.std.proofs.Common.{arith, ◌∙◌, ap, length}
use Rattle.jfr_show.specs.Json.{json_line}
use Rattle.jfr_show.specs.Metadata.{class_json}
use Rattle.jfr_show.proofs.ListingLaws.{item_of, pieces_more}
use Rattle.jfr_show.proofs.ObjectLaws.{lines_are}
use Rattle.jfr_show.proofs.metadata.json.show_metadata_json.Goals as goal

pub loop-class-preserved : goal.loop-class-preserved
loop-class-preserved c =
    let classes = c.args.chunk.now.classes in
    let i = c.loop-class.class-index in
    let class = c.class-item.result in
    let at = item_of classes c.as_slice-class-items.result.now i class (c.as_slice-class-items.ensures ∙ c.classes-classes.ensures) (omega arith) c.class-item.is in
    pieces_more (λ d. json_line (class_json c.args.number classes d)) classes i class c.args.out.now c.loop-class.out c.show_class.new.out at c.loop-class.invariant c.in_ok-show_class.ensures.ok

pub returns : goal.returns
returns c = record {
  ok = lines_are c.args.chunk.now c.args.number c.loop-class.class-index c.args.out.now c.loop-class.out
      (omega (arith, ap length c.as_slice-class-items.ensures, ap length c.classes-classes.ensures)) c.loop-class.invariant;
}
