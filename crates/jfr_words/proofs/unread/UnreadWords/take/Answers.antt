use Rattle.std.proofs.Common.{◌≡◌, ◌<◌, [], length, arith, sym, ap, ◌∙◌}
use Rattle.std.proofs.lemmas.Option.{slice_get_within}
use Rattle.jfr_base.specs.Texts.{text_in}
use Rattle.jfr_filter.proofs.AnyLaws.{drop_at_get}
use Rattle.jfr_words.proofs.WordLaws.{none_left}
use Rattle.jfr_words.proofs.unread.UnreadWords.take.Goals as goal

pub returns-in_err-word : goal.returns-in_err-word
returns-in_err-word c =
    let none : c.args.self.now ≡ [] = sym c.self.view_is ∙ none_left c.self.inside.words.now c.self.inside.at (sym c.get.ensures ∙ ap text_in c.in_err-word.was) in
    rw c.from_residual.ensures (none, none)

pub overflow_add-self : goal.overflow_add-self
overflow_add-self c =
    let within : c.self.inside.at < length c.self.inside.words.now = slice_get_within _ _ _ (sym c.get.ensures ∙ ap text_in c.in_ok-word.was) in
    omega (arith, c.len.ensures)

pub returns : goal.returns
returns c = sym c.self.view_is ∙ drop_at_get c.self.inside.words.now c.self.inside.at _ (sym c.get.ensures ∙ ap text_in c.in_ok-word.was)
