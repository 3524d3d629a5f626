use Rattle.std.proofs.Common.{◌≡◌, ℕ, List, Some, ap, sym, refl, ◌∙◌, true≢false}
use Rattle.std.proofs.lemmas.Bool.{eqb-true, eq-eqb}
use Rattle.std.proofs.lemmas.Iterator.{YieldsList-from_chars}
use Rattle.std.proofs.lemmas.Iterator.Consumers.{YieldsList-from_first}
use Rattle.std.specs.Str.{chars}
use Rattle.jfr_text.specs.Spans.{content_of}
use Rattle.jfr_text.specs.Strings.{text_of}
use Rattle.jfr_text.proofs.EqualLists.{TellsSame, eq_from_yields_List}
use Rattle.jfr_text.proofs.text.same_text.Goals as goal

inside : (xs ys : List ℕ) → Some xs ≡ Some ys → xs ≡ ys
inside xs ys e = cc

pub returns-in-Some : goal.returns-in-Some
returns-in-Some c =
    let text = c.args.text.now in
    let same : TellsSame c.eq.result c.in-Some.characters (chars text) = eq_from_yields_List (λ other it. it ≡ other) c.chars.result c.eq.result c.eq.ensures.ran
    (YieldsList-from_first (λ x. x) (λ l. l) c.in-Some.characters refl)
    (λ it e. YieldsList-from_chars text c.utf8.text (ap (λ s. s.rest.now) e ∙ c.chars.ensures.rest))
    eqb-true (λ x y e k. true≢false (sym (eq-eqb x y k) ∙ e)) in
    let told : Some c.in-Some.characters ≡ text_of (content_of c.args.span.now) = c.in-Some.ensures in
    record { exact = (λ t. sym told ∙ ap (λ cs. Some cs) (same.0 t), λ e. same.1 (inside _ _ (told ∙ e))) }
