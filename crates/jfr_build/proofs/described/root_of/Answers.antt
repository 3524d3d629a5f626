use Rattle.std.proofs.Common.{[], ◌+◌, ◌∷◌, ◌++◌, ap, arith, drop, length, sym, ◌∙◌}
use Rattle.jfr_layout.proofs.Lists.{listed_at}
use Rattle.jfr_build.specs.Described.{class_texts, class_trees}
use Rattle.jfr_build.proofs.DescribedLaws.{classes_step, texts_step}
use Rattle.jfr_build.proofs.described.root_of.Goals as goal

pub loop-class-preserved : goal.loop-class-preserved
loop-class-preserved c =
    let made = c.in_ok-push.ensures.ok ∙ ap (λ z. c.loop-class.elements ++ z ∷ []) c.in_ok-element.ensures.tree in
    let k = c.args.classes.now in
    let class = c.class-item.result in
    let at = listed_at c.as_slice-class-items.ensures c.loop-class.class-index class (omega arith) c.class-item.is in
    record {
      trees = c.loop-class.invariant.trees
          ∙ (classes_step k c.loop-class.class-index class c.loop-class.elements c.loop-class.strings c.class_element.new.strings at c.in_ok-element.ensures.strings
          ∙ ap (λ z. z ++ class_trees (length c.class_element.new.strings) (drop (c.loop-class.class-index + 1) k)) (sym made));
      texts = c.loop-class.invariant.texts ∙ texts_step class_texts k c.loop-class.class-index class c.loop-class.strings c.class_element.new.strings at c.in_ok-element.ensures.strings;
    }
