use Rattle.std.proofs.Common.{ap, sym, ◌∙◌, length, map, subst}
use Rattle.std.specs.Prelude.{filter}
use Rattle.std.proofs.lemmas.List.{length-map}
use Rattle.jfr_meta.specs.Rewritten.{WroteTrees}
use Rattle.jfr_meta.specs.Slimmed.{element_is_needed}
use Rattle.jfr_meta.specs.Stays.{is_in}
use Rattle.jfr_meta.specs.Trees.{children_of}
use Rattle.jfr_meta.proofs.RewriteLaws.{on_ok_so, tree_done}
use Rattle.jfr_meta.proofs.slimming.push_holder.Goals as goal

pub returns : goal.returns
returns c =
    let texts = c.args.strings.now in
    let t = c.args.element.now in
    let refs = c.in_ok-children.children.items in
    let kept = filter (element_is_needed texts (is_in c.args.stay.now)) (children_of t) in
    record {
      ok = on_ok_so c.push_chosen.result
          (λ w. tree_done texts t kept c.len.result c.args.tree.now c.push_head.new.tree c.push_chosen.new.tree
          (c.len.ensures ∙ (sym c.deref.ensures.len ∙ (ap length c.deref.ensures.value ∙ (sym (length-map refs (λ e. e.now)) ∙ ap length c.in_ok-children.ensures.ok)))) c.in_ok-push_head.ensures.ok
          (subst (λ z. WroteTrees texts z c.push_head.new.tree c.push_chosen.new.tree) (ap (map (λ e. e.now)) c.deref.ensures.value ∙ c.in_ok-children.ensures.ok) w))
          c.push_chosen.ensures.ok;
    }
