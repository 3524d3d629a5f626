use Rattle.std.proofs.Common.{ap, ◌∙◌}
use Rattle.std.specs.Option.{option_map}
use Rattle.jfr_rewrite.specs.Changed.{Content}
use Rattle.jfr_rewrite.proofs.NumberLeaves.{number_key}
use Rattle.jfr_renumber.specs.Numbers.{new_keys}
use Rattle.jfr_renumber.specs.Rekeyed.{content_with}
use Rattle.jfr_renumber.proofs.RekeyedLaws.{leaf_changed}
use Rattle.jfr_renumber.proofs.entry_keys.EntryKeysRewriter.keeps_numbers.Goals as goal

pub returns : goal.returns
returns c = λ keys leaf n.
    ap (λ (z : Content). z.spelled) (leaf_changed (new_keys keys) leaf)
    ∙ ap (λ o. (content_with (option_map (new_keys keys) (option_map (λ key. (leaf.class, key)) o)) leaf).spelled) (number_key leaf n)
