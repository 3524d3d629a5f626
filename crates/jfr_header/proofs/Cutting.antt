-- Laws of how a recording is cut.
use Rattle.std.proofs.Common.{◌≡◌, ℕ, zero, suc, ◌+◌, ◌≤◌, ◌<◌, refl, sym, ◌∙◌, ap, subst, Bool, false, List, [], ◌∷◌, ◌++◌, take, drop, length, Option, None, Some, arith, append_assoc, append-nil}
use Rattle.std.proofs.lemmas.Grind.{common_steps}
use Rattle.jfr_base.specs.declared.flaw.Flaw.{Flaw}
use Rattle.jfr_header.specs.Fronts.{Front, Bad, End, Chunk, front, headed, sized, header_flaw, size_of}
use Rattle.jfr_header.proofs.Steps.{size_bounds}
use Rattle.jfr_header.specs.Cuts.{more, cut_by, cut_within, cut, joined}

abbrev pub Fits : List ℕ → Front → Type 0
Fits rest (Bad f) = Unit {0}
Fits rest End = Unit {0}
Fits rest (Chunk c) = (0 < length c) × (length c ≤ length rest)

fits_sized : (rest : List ℕ) (n : ℕ) → 68 ≤ n → Fits rest (sized rest n)
fits_sized rest n h = grind (arith, common_steps)

fits_headed : (rest h : List ℕ) (o : Option Flaw) → take 68 rest ≡ h → header_flaw h ≡ o → Fits rest (headed rest o)
fits_headed rest h (Some f) t e = tt
fits_headed rest h None t e = fits_sized rest (size_of (take 68 rest)) (subst (λ (l : List ℕ). 68 ≤ size_of l) (sym t) (size_bounds h e).0)

pub front_fits : (rest : List ℕ) (s : ℕ) (f : Bool) → Fits rest (front rest s f)
unfolding front
front_fits rest s f = let h = fits_headed rest (take 68 rest) (header_flaw (take 68 rest)) refl refl in grind (arith, common_steps, h)

same_fuel_by : (n m : ℕ) (rest : List ℕ) (s : ℕ) (f : Front) → Fits rest f → length rest ≤ n → length rest ≤ m
    → ((r : List ℕ) (t : ℕ) → length r < n → length r < m → cut_within n r t false ≡ cut_within m r t false)
    → cut_by f (λ c. cut_within n (drop (length c) rest) (s + length c) false) ≡ cut_by f (λ c. cut_within m (drop (length c) rest) (s + length c) false)
same_fuel_by n m rest s (Bad f) k a b h = refl
same_fuel_by n m rest s End k a b h = refl
same_fuel_by n m rest s (Chunk c) k a b h =
    let d : length (drop (length c) rest) < length rest = grind (arith, common_steps) in
    ap (more c) (h (drop (length c) rest) (s + length c) (omega (arith, d, a)) (omega (arith, d, b)))

pub same_fuel : (n m : ℕ) (rest : List ℕ) (s : ℕ) (f : Bool) → length rest < n → length rest < m → cut_within n rest s f ≡ cut_within m rest s f
unfolding cut_within
same_fuel zero m rest s f a b = absurd (omega (arith, a))
same_fuel (suc n) zero rest s f a b = absurd (omega (arith, b))
same_fuel (suc n) (suc m) rest s f a b = same_fuel_by n m rest s (front rest s f) (front_fits rest s f) (omega (arith, a)) (omega (arith, b)) (λ r t. same_fuel n m r t false)

pub cut_open : (rest : List ℕ) (s : ℕ) (f : Bool) → cut rest s f ≡ cut_by (front rest s f) (λ c. cut_within (length rest) (drop (length c) rest) (s + length c) false)
unfolding cut cut_within
cut_open rest s f = refl

refuel : (rest : List ℕ) (c : List ℕ) (s : ℕ) → 0 < length c → length c ≤ length rest
    → cut_within (length rest) (drop (length c) rest) (s + length c) false ≡ cut (drop (length c) rest) (s + length c) false
unfolding cut
refuel rest c s a b =
    let d : length (drop (length c) rest) < length rest = grind (arith, common_steps) in
    same_fuel (length rest) (suc (length (drop (length c) rest))) (drop (length c) rest) (s + length c) false d (omega (arith))

pub cut_end : (rest : List ℕ) (s : ℕ) (f : Bool) → front rest s f ≡ End → cut rest s f ≡ record { chunks = []; flaw = None }
cut_end rest s f e = cut_open rest s f ∙ ap (λ (x : Front). cut_by x (λ c. cut_within (length rest) (drop (length c) rest) (s + length c) false)) e

pub cut_bad : (rest : List ℕ) (s : ℕ) (f : Bool) (b : Flaw) → front rest s f ≡ Bad b → cut rest s f ≡ record { chunks = []; flaw = Some b }
cut_bad rest s f b e = cut_open rest s f ∙ ap (λ (x : Front). cut_by x (λ c. cut_within (length rest) (drop (length c) rest) (s + length c) false)) e

drop_front : (x y : List ℕ) → drop (length x) (x ++ y) ≡ y
drop_front x y = grind (arith, common_steps)

pub cut_chunk : (rest c left : List ℕ) (s : ℕ) (f : Bool) → front rest s f ≡ Chunk c → rest ≡ c ++ left → cut rest s f ≡ more c (cut left (s + length c) false)
cut_chunk rest c left s f e p =
    let k : Fits rest (Chunk c) = subst (Fits rest) e (front_fits rest s f) in
    let d : drop (length c) rest ≡ left = ap (drop (length c)) p ∙ drop_front c left in
    cut_open rest s f ∙ ap (λ (x : Front). cut_by x (λ c. cut_within (length rest) (drop (length c) rest) (s + length c) false)) e
    ∙ ap (more c) (refuel rest c s k.0 k.1 ∙ ap (λ (l : List ℕ). cut l (s + length c) false) d)

pub joined_snoc : (cs : List (List ℕ)) (c : List ℕ) → joined (cs ++ c ∷ []) ≡ joined cs ++ c
joined_snoc [] c = append-nil c
joined_snoc (d ∷ cs) c = ap (λ (l : List ℕ). d ++ l) (joined_snoc cs c) ∙ sym (append_assoc d (joined cs) c)
