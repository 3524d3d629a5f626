use Rattle.std.proofs.Common.{ℕ, List, Bool, ◌||◌, ap, ◌∙◌}
use Rattle.std.specs.List.{list_any}
use Rattle.std.specs.Str.{chars}
use Rattle.jfr_filter.specs.Patterns.{glob, simple_name}
use Rattle.jfr_filter.proofs.AnyLaws.{any_or}
use Rattle.jfr_filter.proofs.matching.any_event.Goals as goal

pub returns-then-matches : goal.returns-then-matches
returns-then-matches c =
    let whole : List ℕ → Bool = λ pattern. glob pattern (chars c.args.name.now) in
    let simple : List ℕ → Bool = λ pattern. glob pattern (simple_name (chars c.args.name.now)) in
    ap (λ b. b || list_any simple c.args.patterns.now) c.if-matches.ensures ∙ any_or whole simple c.args.patterns.now

pub returns : goal.returns
returns c =
    let whole : List ℕ → Bool = λ pattern. glob pattern (chars c.args.name.now) in
    let simple : List ℕ → Bool = λ pattern. glob pattern (simple_name (chars c.args.name.now)) in
    c.matches-2.ensures ∙ (ap (λ n. list_any (λ pattern. glob pattern n) c.args.patterns.now) c.simple_name.ensures
    ∙ (ap (λ b. b || list_any simple c.args.patterns.now) c.if-matches.ensures ∙ any_or whole simple c.args.patterns.now))
