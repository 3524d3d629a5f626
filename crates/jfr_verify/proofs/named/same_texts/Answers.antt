use Rattle.std.proofs.Common.{◌≡◌, length, map, slice_index_or, arith}
use Rattle.std.proofs.lemmas.List.{length-map}
use Rattle.jfr_meta.specs.Attributes.{text_at}
use Rattle.jfr_verify.proofs.EqualLaws.{differ_at, map_at, same_next, up_to_end}
use Rattle.jfr_verify.proofs.named.same_texts.Goals as goal

pub returns-then-not-same_text : goal.returns-then-not-same_text
returns-then-not-same_text c =
    let f = text_at c.args.numbers.now.one.now in
    let g = text_at c.args.numbers.now.other.now in
    let i = c.loop-at.at in
    differ_at (map f c.args.ones.now) (map g c.args.others.now) i (f (slice_index_or c.args.ones.now i 0)) (g (slice_index_or c.args.others.now i 0)) (map_at f c.args.ones.now i 0 (omega arith))
    (map_at g c.args.others.now i 0 (omega arith)) c.if-not-same_text.ensures

pub loop-at-preserved : goal.loop-at-preserved
loop-at-preserved c =
    let f = text_at c.args.numbers.now.one.now in
    let g = text_at c.args.numbers.now.other.now in
    let i = c.loop-at.at in
    same_next (map f c.args.ones.now) (map g c.args.others.now) i (f (slice_index_or c.args.ones.now i 0)) (g (slice_index_or c.args.others.now i 0)) (map_at f c.args.ones.now i 0 (omega arith))
    (map_at g c.args.others.now i 0 (omega arith)) c.if-not-same_text.ensures c.loop-at.invariant

pub returns : goal.returns
returns c =
    let f = text_at c.args.numbers.now.one.now in
    let g = text_at c.args.numbers.now.other.now in
    let a : length (map f c.args.ones.now) ≡ length c.args.ones.now = length-map c.args.ones.now f in
    let b : length (map g c.args.others.now) ≡ length c.args.others.now = length-map c.args.others.now g in
    up_to_end (map f c.args.ones.now) (map g c.args.others.now) c.loop-at.at (omega arith) (omega arith) c.loop-at.invariant
