use Rattle.std.proofs.Common.{◌+◌, map, take, sym, arith}
use Rattle.jfr_meta.proofs.Judging.{refs_next}
use Rattle.jfr_meta.proofs.RewriteLaws.{trees_more}
use Rattle.jfr_meta.proofs.rewriting.push_chosen.Goals as goal

pub loop-element-preserved : goal.loop-element-preserved
loop-element-preserved c =
    let refs = c.args.elements.now in
    let i = c.loop-element.element-index in
    let r = c.element-item.result in
    trees_more c.args.strings.now (map (λ e. e.now) (take i refs)) (map (λ e. e.now) (take (i + 1) refs)) r.now c.args.tree.now c.loop-element.tree c.push_element.new.tree
    (sym (refs_next refs i r (omega arith) c.element-item.is)) c.loop-element.invariant c.in_ok-push_element.ensures.ok
