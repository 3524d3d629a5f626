use Rattle.std.proofs.Common.{◌≡◌, ℕ, get_or, ◌+◌, Some, take, slice_get, ap, sym, ◌∙◌, arith}
use Rattle.std.proofs.lemmas.Option.{slice_get-get_or}
use Rattle.jfr_meta.proofs.Judging.{take_next}
use Rattle.jfr_meta.proofs.RewriteLaws.{pairs_more}
use Rattle.jfr_meta.proofs.rewriting.push_pairs.Goals as goal

pub loop-pair-preserved : goal.loop-pair-preserved
loop-pair-preserved c =
    let ps = c.args.pairs.now in
    let items = c.as_slice-pair-items.result.now in
    let i = c.loop-pair.pair-index in
    let x : ℕ × ℕ = get_or items i (0, 0) in
    let e : slice_get ps i ≡ Some x = ap (λ z. slice_get z i) (sym c.as_slice-pair-items.ensures) ∙ slice_get-get_or items i (0, 0) (omega arith) in
    pairs_more c.args.strings.now (take i ps) (take (i + 1) ps) x c.args.tree.now c.loop-pair.tree c.push_index.new.tree c.push_index-in-loop-pair.new.tree
    (sym (take_next ps i x e)) c.loop-pair.invariant c.in_ok-push_index.ensures.ok c.in_ok-push_index-2.ensures.ok
