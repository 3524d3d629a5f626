use Rattle.std.specs.List.{list_all}
use Rattle.std.specs.Prelude.{Bool, List, length}
use Rattle.std.proofs.Common.{ap, rules, ◌≡◌, ◌∙◌, ◌==◌}
use Rattle.jfr_chunk.proofs.KeptLaws.{all_kept}
use Rattle.jfr_chunk.proofs.kept.Kept.are_all.Goals as goal

pub returns : goal.returns
returns c =
    let n : c.len.result ≡ length c.self.inside.flags.items = search rules in
    (λ i. c.self.invariant i == n i) ∙ (all_kept c.self.inside.flags.items ∙ ap (λ (flags : List Bool). list_all (λ keep. keep) flags) c.self.view_is)
