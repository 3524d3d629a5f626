use Rattle.std.proofs.Common.{◌≡◌, List, ℕ, ap, subst, sym, ◌∙◌}
use Rattle.std.specs.Prelude.{IfSome}
use Rattle.jfr_value.specs.Leaves.{leaf_of}
use Rattle.jfr_rewrite.specs.Changed.{Content}
use Rattle.jfr_renumber.specs.Numbers.{new_keys}
use Rattle.jfr_renumber.specs.Rewriting.{spelled_anew}
use Rattle.jfr_renumber.proofs.RekeyedLaws.{leaf_changed}
use Rattle.jfr_renumber.proofs.RewritingLaws.{any_can_be_put}
use Rattle.jfr_renumber.proofs.entry_keys.EntryKeysRewriter.new_leaf.Goals as goal

pub returns : goal.returns
returns c =
    let e = ap (λ (z : Content). z.spelled) (leaf_changed (new_keys c.args.self.now) (leaf_of c.args.leaf.now)) in
    record {
      same = λ none. e ∙ c.new_leaf.ensures.same none;
      can_put = any_can_be_put c.new_leaf.result;
      becomes = subst (λ (bytes : List ℕ). IfSome c.new_leaf.result (λ new. spelled_anew new ≡ bytes)) (sym e) c.new_leaf.ensures.becomes;
    }
