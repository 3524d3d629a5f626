use Rattle.std.proofs.Common.{◌≡◌, ap, length, map, arith}
use Rattle.std.proofs.lemmas.List.{length-map}
use Rattle.jfr_layout.proofs.Lists.{listed_at}
use Rattle.jfr_verify.proofs.EqualLaws.{differ_at, get_map, same_next, up_to_end}
use Rattle.jfr_verify.proofs.named.same_shapes.Goals as goal

pub at-requires : goal.at-requires
at-requires c = omega (arith, c.len.ensures, c.len-2.ensures, c.if-len.false, ap length c.as_slice-field-items.ensures)

pub returns-then-not-same_shape : goal.returns-then-not-same_shape
returns-then-not-same_shape c =
    let one = c.args.one.now in
    let other = c.args.other.now in
    let i = c.loop-number.number in
    let field = c.field-item.result in
    let at = listed_at c.as_slice-field-items.ensures i field (omega arith) c.field-item.is in
    differ_at (map (λ f. f.shape) one) (map (λ f. f.shape) other) i field.shape c.at.result.now.shape (get_map (λ f. f.shape) one i field at)
    (get_map (λ f. f.shape) other i c.at.result.now c.at.ensures) c.if-not-same_shape.ensures

pub loop-number-preserved : goal.loop-number-preserved
loop-number-preserved c =
    let one = c.args.one.now in
    let other = c.args.other.now in
    let i = c.loop-number.number in
    let field = c.field-item.result in
    let at = listed_at c.as_slice-field-items.ensures i field (omega arith) c.field-item.is in
    same_next (map (λ f. f.shape) one) (map (λ f. f.shape) other) i field.shape c.at.result.now.shape (get_map (λ f. f.shape) one i field at)
    (get_map (λ f. f.shape) other i c.at.result.now c.at.ensures) c.if-not-same_shape.ensures c.loop-number.invariant

pub returns : goal.returns
returns c =
    let one = c.args.one.now in
    let other = c.args.other.now in
    let a : length (map (λ f. f.shape) one) ≡ length one = length-map one (λ f. f.shape) in
    let b : length (map (λ f. f.shape) other) ≡ length other = length-map other (λ f. f.shape) in
    up_to_end (map (λ f. f.shape) one) (map (λ f. f.shape) other) c.loop-number.number (omega (arith, c.len.ensures, c.len-2.ensures, c.if-len.false))
    (omega (arith, ap length c.as_slice-field-items.ensures)) c.loop-number.invariant
