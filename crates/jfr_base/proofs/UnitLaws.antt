use Rattle.std.specs.Prelude.{◌≡◌, ℕ, List, [], ◌∷◌, ◌++◌, length}
use Rattle.std.proofs.Common.{ap, arith, refl, sym, ◌∙◌}
use Rattle.std.proofs.lemmas.List.{append_cancel_left}
use Rattle.jfr_base.specs.Integer.{Spells, worth_within}
use Rattle.jfr_base.proofs.IntegerLaws.{one_front}

-- Two integers at one place are one.
pub one_integer : (bytes f g r s : List ℕ) (v w : ℕ) → bytes ≡ f ++ r → bytes ≡ g ++ s → Spells f v → Spells g w → (f ≡ g) × (r ≡ s) × (v ≡ w)
one_integer bytes f g r s v w d e p q =
    let t : f ++ r ≡ g ++ s = sym d ∙ e in
    let h : f ≡ g = one_front 8 f g r s p.form q.form t in
    let u : f ++ r ≡ f ++ s = t ∙ ap (λ z. z ++ s) (sym h) in
    (h, append_cancel_left f r s u, p.worth ∙ (ap (worth_within 8) h ∙ sym q.worth))

-- Two runs of one length at one place are one.
pub one_run : (f g r s : List ℕ) → f ++ r ≡ g ++ s → length f ≡ length g → (f ≡ g) × (r ≡ s)
one_run [] [] r s e l = (refl, e)
one_run [] (y ∷ g) r s e l = absurd (omega arith)
one_run (x ∷ f) [] r s e l = absurd (omega arith)
one_run (x ∷ f) (y ∷ g) r s e l =
    let h : x ≡ y = cc in
    let t : f ++ r ≡ g ++ s = cc in
    let i : (f ≡ g) × (r ≡ s) = one_run f g r s t (omega arith) in
    let a : x ∷ f ≡ y ∷ g = cc in
    (a, i.1)
