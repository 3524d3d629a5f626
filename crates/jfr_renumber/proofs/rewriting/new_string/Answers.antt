use Rattle.jfr_laws.proofs.Passing.{clash}
use Rattle.jfr_value.specs.Leaves.{leaf_of}
use Rattle.jfr_value.proofs.LeafKeys.{other_key}
use Rattle.jfr_renumber.proofs.RewritingLaws.{string_anew, string_stays}
use Rattle.jfr_renumber.proofs.rewriting.new_string.Goals as goal

pub returns-then-not-is_key-clause-same : goal.returns-then-not-is_key-clause-same
returns-then-not-is_key-clause-same g c =
    let other = other_key c.args.leaf.now.spelled.now (λ h. clash c.is_key.result (c.is_key.ensures.exact.1 h) c.if-not-is_key.true) in
    λ none. string_stays (g.N.NewKeys.keys c.args.new.now) (leaf_of c.args.leaf.now) c.requires.kind other

pub returns : goal.returns
returns g c = record {
  same = λ none. cc;
  becomes = string_anew (g.N.NewKeys.keys c.args.new.now) (leaf_of c.args.leaf.now) c.requires.kind c.new_string_key.result c.new_string_key.ensures;
}
