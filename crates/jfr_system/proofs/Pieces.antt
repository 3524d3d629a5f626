-- Pieces that are written one after another.
use Rattle.std.specs.Prelude.{◌≡◌, ℕ, suc, ◌+◌, ◌<◌, ◌++◌, List, [], ◌∷◌, length, take, get_or, Option}
use Rattle.std.specs.Borrow.{Bor}
use Rattle.std.specs.Io.KnownBytes.{Appends}
use Rattle.std.proofs.Common.{ap, arith, subst, sym, ◌∙◌}
use Rattle.std.proofs.KnownBytes.{Appends-trans}
use Rattle.std.proofs.lemmas.Grind.{flat_map-append}
use Rattle.std.proofs.Math.Seq.{take-suc}
use Rattle.std.proofs.lemmas.List.{append-nil, append_assoc}
use Rattle.jfr_outside.specs.World.{bytes_in}

-- The bytes of one piece more.
bytes_more : (ps : List (Bor (List ℕ))) (p : Bor (List ℕ)) → bytes_in (ps ++ p ∷ []) ≡ bytes_in ps ++ p.now
bytes_more ps p = flat_map-append (λ p. p.now) ps (p ∷ []) ∙ ap (λ z. bytes_in ps ++ z) (append-nil p.now)

bytes_next : (ps : List (Bor (List ℕ))) (i : ℕ) (d : Bor (List ℕ)) → i < length ps → bytes_in (take (i + 1) ps) ≡ bytes_in (take i ps) ++ (get_or ps i d).now
bytes_next ps i d h =
    let next : i + 1 ≡ suc i = omega arith in
    ap (λ n. bytes_in (take n ps)) next ∙ ap bytes_in (take-suc ps i d h) ∙ bytes_more (take i ps) (get_or ps i d)

pub wrote_next : (a b c : Option (List ℕ)) (ps : List (Bor (List ℕ))) (i : ℕ) (d : Bor (List ℕ)) → i < length ps
    → Appends a b (bytes_in (take i ps)) → Appends b c (get_or ps i d).now → Appends a c (bytes_in (take (i + 1) ps))
wrote_next a b c ps i d h before now =
    subst (Appends a c) (sym (bytes_next ps i d h)) (Appends-trans a b c (bytes_in (take i ps)) (get_or ps i d).now before now)

-- The portions of one piece.
pub wrote_more : (a b c : Option (List ℕ)) (ps : List (Bor (List ℕ))) (p : Bor (List ℕ)) → Appends a b (bytes_in ps) → Appends b c p.now → Appends a c (bytes_in (ps ++ p ∷ []))
wrote_more a b c ps p before now = subst (Appends a c) (sym (bytes_more ps p)) (Appends-trans a b c (bytes_in ps) p.now before now)

pub left_less : (x : List ℕ) (ps : List (Bor (List ℕ))) (p : Bor (List ℕ)) (rest left : List ℕ) → bytes_in ps ++ rest ≡ x → rest ≡ p.now ++ left → bytes_in (ps ++ p ∷ []) ++ left ≡ x
left_less x ps p rest left h e = ap (λ z. z ++ left) (bytes_more ps p) ∙ append_assoc (bytes_in ps) p.now left ∙ ap (λ z. bytes_in ps ++ z) (sym e) ∙ h

pub none_left : (x : List ℕ) (ps : List (Bor (List ℕ))) (rest : List ℕ) → bytes_in ps ++ rest ≡ x → length rest ≡ 0 → bytes_in ps ≡ x
none_left x ps [] h e = sym (append-nil (bytes_in ps)) ∙ h
none_left x ps (b ∷ rest) h e = absurd (omega (arith, e))
