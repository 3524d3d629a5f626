use Rattle.std.proofs.Common.{◌≡◌, ℕ, false, List, ◌∷◌, ◌++◌, Option, None, option_to_list, sym, ap, ◌∙◌}
use Rattle.std.specs.Char.Utf16.{utf16_lossy_chars, is_high_surrogate}
use Rattle.jfr_text.proofs.DecodingSteps.{decode_none, decode_lone, decode_last, decode_pair, decode_apart}
use Rattle.jfr_text.proofs.ListSteps.{goes_on}
use Rattle.jfr_text.proofs.utf16.Utf16Iterator.next.Goals as goal

-- If no unit is held, what is left is the characters of the units.
decoded : (x : ℕ) (all rest : List ℕ) (held : Option ℕ) (y : ℕ) → held ≡ None → all ≡ x ∷ utf16_lossy_chars rest → y ≡ x → all ≡ y ∷ utf16_lossy_chars (option_to_list held ++ rest)
decoded x all rest held y n e f = e ∙ (ap (λ z. z ∷ utf16_lossy_chars rest) (sym f) ∙ ap (λ h. y ∷ utf16_lossy_chars (option_to_list h ++ rest)) (sym n))

pub returns-in_default-clause-steps : goal.returns-in_default-clause-steps
returns-in_default-clause-steps c =
    let e = c.in_default.ensures.steps in
    (sym c.self.view_is ∙ decode_none _ e.0, decode_none _ (ap (λ h. option_to_list h ++ c.take_unit.new.units) c.take_unit.ensures.held ∙ e.1))

lone : goal.returns-then-not-is_high-clause-steps
lone c =
    let high : is_high_surrogate c.in-Some.unit ≡ false = cc in
    decoded _ _ _ _ _ c.take_unit.ensures.held (sym c.self.view_is ∙ decode_lone _ _ c.in-Some.unit c.in-Some.ensures.steps high) c.lone.ensures

last : goal.returns-in_default-next-clause-steps
last c =
    let none = c.in_default-next.ensures.steps in
    decoded _ _ _ _ _ c.take_unit.ensures.held (sym c.self.view_is ∙ decode_last _ _ c.next.new.self c.in-Some.unit c.in-Some.ensures.steps none.0 none.1) c.lone-in_default-next.ensures

paired : goal.returns-then-is_low-clause-steps
paired c =
    let both = c.in-Some.ensures.steps ∙ ap (λ us. c.in-Some.unit ∷ us) c.in-Some-next.ensures.steps in
    decoded _ _ _ _ _ c.take_unit.ensures.held (sym c.self.view_is ∙ decode_pair _ _ c.in-Some.unit c.in-Some-next.after both (sym c.if-not-is_high.ensures) (sym c.if-is_low.ensures)) c.pair.ensures

apart : goal.returns-clause-steps
apart c =
    let both = c.in-Some.ensures.steps ∙ ap (λ us. c.in-Some.unit ∷ us) c.in-Some-next.ensures.steps in
    sym c.self.view_is ∙ (decode_apart _ _ c.in-Some.unit c.in-Some-next.after both (sym c.if-not-is_high.ensures) (sym c.if-is_low.ensures)
    ∙ ap (λ x. x ∷ utf16_lossy_chars (c.in-Some-next.after ∷ c.next.new.self)) (sym c.lone-2.ensures))

pub returns-then-not-is_high-clause-steps : goal.returns-then-not-is_high-clause-steps
returns-then-not-is_high-clause-steps c = lone c

pub returns-then-not-is_high-clause-goes : goal.returns-then-not-is_high-clause-goes
returns-then-not-is_high-clause-goes c = goes_on _ _ _ (lone c)

pub returns-in_default-next-clause-steps : goal.returns-in_default-next-clause-steps
returns-in_default-next-clause-steps c = last c

pub returns-in_default-next-clause-goes : goal.returns-in_default-next-clause-goes
returns-in_default-next-clause-goes c = goes_on _ _ _ (last c)

pub returns-then-is_low-clause-steps : goal.returns-then-is_low-clause-steps
returns-then-is_low-clause-steps c = paired c

pub returns-then-is_low-clause-goes : goal.returns-then-is_low-clause-goes
returns-then-is_low-clause-goes c = goes_on _ _ _ (paired c)

pub returns-clause-steps : goal.returns-clause-steps
returns-clause-steps c = apart c

pub returns-clause-goes : goal.returns-clause-goes
returns-clause-goes c = goes_on _ _ _ (apart c)
