-- A stage walks over its members in order: what it found so far, and what is left.
use Rattle.std.proofs.Common.{◌≡◌, ℕ, ◌+◌, ◌≤◌, List, [], ◌∷◌, ◌++◌, length, drop, Option, Some, Bool, true, false, ◌∙◌, ap, refl}
use Rattle.std.specs.List.{flat_map, enumerate_from, slice_get}
use Rattle.std.proofs.lemmas.List.{drop_more, drop_all}
use Rattle.std.proofs.lemmas.Option.{slice_get_within, get_or_from_slice_get}
use Rattle.jfr_base.specs.declared.reason.Reason.{Reason}
use Rattle.jfr_layout.specs.declared.fault.ClassFault.{ClassFault}
use Rattle.jfr_layout.specs.declared.fault.ClassFault.TheVariants.{Flawed, Memory}
use Rattle.jfr_layout.specs.Classes.{ClassFlaw, IsFirstFlaw, flaw_if}

-- What is found from an index on.
abbrev pub rest : {X : Type 0} → (ℕ → X → List ClassFlaw) → List X → ℕ → List ClassFlaw
rest found xs i = flat_map (λ x. found x.0 x.1) (enumerate_from i (drop i xs))

drop_at : {X : Type 0} (xs : List X) (i : ℕ) (x : X) → slice_get xs i ≡ Some x → drop i xs ≡ x ∷ drop (i + 1) xs
drop_at xs i x e = drop_more xs i x (slice_get_within xs i x e) ∙ ap (λ y. y ∷ drop (i + 1) xs) (get_or_from_slice_get xs i x x e)

rest_at : {X : Type 0} (found : ℕ → X → List ClassFlaw) (xs : List X) (i : ℕ) (x : X) → slice_get xs i ≡ Some x → rest found xs i ≡ found i x ++ rest found xs (i + 1)
rest_at found xs i x e = ap (λ ys. flat_map (λ y. found y.0 y.1) (enumerate_from i ys)) (drop_at xs i x e)

pub tells_append : (a b : List ClassFlaw) (e : ClassFault) → IsFirstFlaw a e → IsFirstFlaw (a ++ b) e
tells_append [] b (Flawed i j why) t = cc
tells_append [] b Memory t = tt
tells_append (f ∷ a) b (Flawed i j why) t = t
tells_append (f ∷ a) b Memory t = tt

-- Nothing is found at a member.
pub stage_next : {X : Type 0} (found : ℕ → X → List ClassFlaw) (xs : List X) (i : ℕ) (x : X) (all : List ClassFlaw) → all ≡ rest found xs i → slice_get xs i ≡ Some x → found i x ≡ []
    → all ≡ rest found xs (i + 1)
stage_next found xs i x all r e n = r ∙ (rest_at found xs i x e ∙ ap (λ y. y ++ rest found xs (i + 1)) n)

-- The first flaw that is found at a member is the first flaw of all.
pub stage_tells : {X : Type 0} (found : ℕ → X → List ClassFlaw) (xs : List X) (i : ℕ) (x : X) (all : List ClassFlaw) (e : ClassFault) → all ≡ rest found xs i → slice_get xs i ≡ Some x
    → IsFirstFlaw (found i x) e → IsFirstFlaw all e
stage_tells found xs i x all e r s t = rw (r ∙ rest_at found xs i x s) (tells_append (found i x) (rest found xs (i + 1)) e t)

-- Nothing is left.
pub stage_none : {X : Type 0} (found : ℕ → X → List ClassFlaw) (xs : List X) (i : ℕ) (all : List ClassFlaw) → all ≡ rest found xs i → length xs ≤ i → all ≡ []
stage_none found xs i all r l = r ∙ ap (λ ys. flat_map (λ y. found y.0 y.1) (enumerate_from i ys)) (drop_all i xs l)

-- A test that found nothing failed.
pub no_flaw : (t : Bool) (i : ℕ) (j : Option ℕ) (why : Reason) → flaw_if t i j why ≡ [] → t ≡ false
no_flaw true i j why e = cc
no_flaw false i j why e = refl
