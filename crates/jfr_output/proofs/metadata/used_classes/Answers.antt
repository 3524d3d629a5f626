use Rattle.std.proofs.Common.{◌<◌, ◌∙◌, ◌||◌, ap, arith, sym, length}
use Rattle.jfr_chunk.specs.Parts.{events_of}
use Rattle.jfr_filter.specs.Filters.{describes}
use Rattle.jfr_chunk.specs.Metas.{is_described}
use Rattle.jfr_output.proofs.UsedLaws.{used_end, used_more, used_skip}
use Rattle.jfr_output.proofs.metadata.used_classes.Goals as goal

pub loop-number-init : goal.loop-number-init
loop-number-init c = record { ids = c.new-used.ensures }

pub loop-number-preserved : goal.loop-number-preserved
loop-number-preserved c =
    let n : c.loop-number.number < length (events_of c.args.chunk.now) = omega arith in
    let u = sym c.is_kept.ensures ∙ c.if-not-is_kept.false in
    record {
      ids = λ id. used_more c.args.kept.now (events_of c.args.chunk.now) c.requires c.loop-number.number id _ _ n u (c.loop-number.invariant.ids id) (c.in_ok-add_class.ensures id);
    }

pub loop-number-preserved-then-not-is_kept : goal.loop-number-preserved-then-not-is_kept
loop-number-preserved-then-not-is_kept c =
    let n : c.loop-number.number < length (events_of c.args.chunk.now) = omega arith in
    let u = sym c.is_kept.ensures ∙ c.if-not-is_kept.true in
    record {
      ids = λ id. c.loop-number.invariant.ids id ∙ sym (used_skip c.args.kept.now (events_of c.args.chunk.now) c.requires c.loop-number.number id n u);
    }

pub returns : goal.returns
returns c = λ id.
    let k = ap (λ m. is_described (describes c.args.filter.now) m id) c.classes.ensures in
    c.in_ok-add_described.ensures id ∙ (λ i. (c.loop-number.invariant.ids id ∙ used_end c.args.kept.now (events_of c.args.chunk.now) c.requires c.loop-number.number id (omega arith)) i || k i)
