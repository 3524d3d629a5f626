use Rattle.std.proofs.Common.{ap, sym, ◌∙◌, length, subst}
use Rattle.std.specs.Prelude.{codes}
use Rattle.jfr_meta.specs.Rewritten.{WroteTrees}
use Rattle.jfr_meta.specs.Slimmed.{first_changed, is_named, slim_holder}
use Rattle.jfr_meta.specs.Stays.{is_in}
use Rattle.jfr_meta.specs.Trees.{children_of}
use Rattle.jfr_meta.proofs.RewriteLaws.{changed_size, on_ok_so, tree_done}
use Rattle.jfr_meta.proofs.slimming.push_root.Goals as goal

pub returns : goal.returns
unfolding Rattle.jfr_meta.specs.Slimmed.slim_root
returns c =
    let texts = c.args.strings.now in
    let p = is_named texts (codes "metadata") in
    let f = slim_holder texts (is_in c.args.stay.now) in
    let t = c.args.root.now in
    record {
      ok = on_ok_so c.push_top.result
          (λ w. tree_done texts t (first_changed p f (children_of t)) c.len.result c.args.tree.now c.push_head.new.tree c.push_top.new.tree
          (c.len.ensures ∙ (ap length c.children.ensures ∙ sym (changed_size p f (children_of t)))) c.in_ok-push_head.ensures.ok
          (subst (λ z. WroteTrees texts (first_changed p f z) c.push_head.new.tree c.push_top.new.tree) c.children-2.ensures w))
          c.push_top.ensures.ok;
    }
