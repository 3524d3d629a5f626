use Rattle.std.proofs.Common.{◌≡◌, ap, subst, ◌∙◌}
use Rattle.std.specs.Str.{chars}
use Rattle.std.proofs.lemmas.Str.{chars-nil}
use Rattle.jfr_meta.specs.Attributes.{text_at}
use Rattle.jfr_path.specs.Strings.{Options, matches_of}
use Rattle.jfr_path.proofs.StringLaws.{match_kept, matches_next, of_both, text_of_index}
use Rattle.jfr_path.proofs.strings.StringVerdicts.matches.Goals as goal

pub returns-in-Some-clause-ok : goal.returns-in-Some-clause-ok
returns-in-Some-clause-ok c =
    let self = c.self.inside in
    let o : Options = record { filter = self.filter.now; include = self.include; exclude = self.exclude; strings = self.strings.now } in
    subst (λ (o : Options). c.in-Some.found.now ≡ matches_of o c.args.index) c.self.view_is
    (match_kept o self.matches c.args.index c.in-Some.found.now c.self.invariant c.in-Some.ensures.value)

pub invariant_of-self-2 : goal.invariant_of-self-2
invariant_of-self-2 c =
    let self = c.self.inside in
    let o : Options = record { filter = self.filter.now; include = self.include; exclude = self.exclude; strings = self.strings.now } in
    let text : chars c.unwrap_or-text.result.now ≡ text_at self.strings.now c.args.index =
    ap (λ z. chars z.now) c.unwrap_or-text.ensures ∙ text_of_index self.strings.now c.args.index c.get-2.result _ c.get-2.ensures chars-nil in
    matches_next o self.matches c.insert.new.self c.args.index (c.matches.result, c.matches-2.result) c.self.invariant
    (of_both o c.args.index (chars c.unwrap_or-text.result.now) c.matches.result c.matches-2.result text c.matches.ensures c.matches-2.ensures) c.in_ok-insert.ensures.updates

pub returns-clause-ok : goal.returns-clause-ok
returns-clause-ok c =
    let self = c.self.inside in
    let o : Options = record { filter = self.filter.now; include = self.include; exclude = self.exclude; strings = self.strings.now } in
    let text : chars c.unwrap_or-text.result.now ≡ text_at self.strings.now c.args.index =
    ap (λ z. chars z.now) c.unwrap_or-text.ensures ∙ text_of_index self.strings.now c.args.index c.get-2.result _ c.get-2.ensures chars-nil in
    of_both o c.args.index (chars c.unwrap_or-text.result.now) c.matches.result c.matches-2.result text c.matches.ensures c.matches-2.ensures
    ∙ ap (λ (o : Options). matches_of o c.args.index) c.self.view_is
