-- A list that is judged and made into another, element by element: the flaws of those so far are none.
use Rattle.std.specs.Prelude.{◌≡◌, ℕ, zero, suc, ◌+◌, ◌<◌, ◌≤◌, List, [], ◌∷◌, ◌++◌, length, map, take, Option, Some, slice_get, option_map, drop}
use Rattle.std.specs.List.{flat_map, filter_map, cons_option}
use Rattle.std.specs.Borrow.{Bor}
use Rattle.std.proofs.Common.{ap, arith, refl, sym, ◌∙◌, append-nil, get_or}
use Rattle.std.proofs.lemmas.Grind.{flat_map-append}
use Rattle.std.proofs.lemmas.List.Elements.{filter_map-append}
use Rattle.std.proofs.lemmas.List.{take_all, take_more, map_more, length-map}
use Rattle.std.proofs.lemmas.Option.{slice_get_within, get_or_from_slice_get, slice_get-get_or, slice_get-map}
use Rattle.jfr_base.specs.declared.flaw.Flaw.{Flaw}
use Rattle.jfr_base.specs.declared.flaw.ReadFault.{ReadFault}
use Rattle.jfr_base.specs.declared.flaw.ReadFault.TheVariants.{Flawed, Memory}
use Rattle.jfr_meta.specs.Answers.{IsFirstFlaw}

-- A list as the members before an index, the one there, and those after it.
at_place : {X : Type 0} (xs : List X) (i : ℕ) (x : X) → slice_get xs i ≡ Some x → xs ≡ take i xs ++ x ∷ drop (suc i) xs
at_place [] i x e = cc
at_place (y ∷ xs) zero x e = let f : y ≡ x = cc in ap (λ z. z ∷ xs) f
at_place (y ∷ xs) (suc i) x e = ap (λ z. y ∷ z) (at_place xs i x e)

pub take_next : {X : Type 0} (xs : List X) (i : ℕ) (x : X) → slice_get xs i ≡ Some x → take (i + 1) xs ≡ take i xs ++ x ∷ []
take_next xs i x e = take_more xs i x (slice_get_within xs i x e) ∙ ap (λ y. take i xs ++ y ∷ []) (get_or_from_slice_get xs i x x e)

first_stays : (xs ys : List Flaw) (f : Flaw) → slice_get xs 0 ≡ Some f → slice_get (xs ++ ys) 0 ≡ Some f
first_stays [] ys f e = cc
first_stays (x ∷ xs) ys f e = e

-- The reference at an index leads to the member at this index.
pub after_ref : {A : Type 0} (refs : List (Bor A)) (xs : List A) (i : ℕ) (r : Bor A) → map (λ e. e.now) refs ≡ xs → i < length refs → r ≡ get_or refs i r → slice_get xs i ≡ Some r.now
after_ref refs xs i r m l e =
    sym (ap (λ z. slice_get z i) m) ∙ (slice_get-map (λ e. e.now) refs i ∙ (ap (option_map (λ e. e.now)) (slice_get-get_or refs i r l) ∙ ap (λ z. Some z.now) (sym e)))

pub record Judging {A B : Type 0} (flaws : A → List Flaw) (make : A → Option B) (xs : List A) (i : ℕ) (made : List B) : Type 0 where
  pub good : flat_map flaws (take i xs) ≡ []
  pub same : made ≡ filter_map make (take i xs)

pub judging_start : {A B : Type 0} (flaws : A → List Flaw) (make : A → Option B) (xs : List A) → Judging flaws make xs 0 []
judging_start flaws make xs = record { good = refl; same = refl }

pub judging_next : {A B : Type 0} (flaws : A → List Flaw) (make : A → Option B) (xs : List A) (i : ℕ) (made : List B) (x : A) (b : B) → Judging flaws make xs i made → slice_get xs i ≡ Some x
    → flaws x ≡ [] → make x ≡ Some b → Judging flaws make xs (i + 1) (made ++ b ∷ [])
judging_next flaws make xs i made x b j e f g = record {
  good = ap (flat_map flaws) (take_next xs i x e) ∙ (flat_map-append flaws (take i xs) (x ∷ []) ∙ (ap (λ z. z ++ (flaws x ++ [])) j.good ∙ (append-nil (flaws x) ∙ f)));
  same = ap (λ z. z ++ b ∷ []) j.same ∙ sym (ap (filter_map make) (take_next xs i x e) ∙ (filter_map-append make (take i xs) (x ∷ []) ∙ ap (λ z. filter_map make (take i xs) ++ cons_option z []) g));
}

pub judging_err : {A B : Type 0} (flaws : A → List Flaw) (make : A → Option B) (xs : List A) (i : ℕ) (made : List B) (x : A) (w : ReadFault) → Judging flaws make xs i made → slice_get xs i ≡ Some x
    → IsFirstFlaw (flaws x) w → IsFirstFlaw (flat_map flaws xs) w
judging_err flaws make xs i made x (Flawed f) j e t =
    ap (λ z. slice_get z 0) (ap (flat_map flaws) (at_place xs i x e) ∙ (flat_map-append flaws (take i xs) (x ∷ drop (suc i) xs) ∙ ap (λ z. z ++ (flaws x ++ flat_map flaws (drop (suc i) xs))) j.good))
    ∙ first_stays (flaws x) (flat_map flaws (drop (suc i) xs)) f t
judging_err flaws make xs i made x Memory j e t = tt

pub judging_end : {A B : Type 0} (flaws : A → List Flaw) (make : A → Option B) (xs : List A) (i : ℕ) (made : List B) → Judging flaws make xs i made → length xs ≤ i
    → (made ≡ filter_map make xs) × (flat_map flaws xs ≡ [])
judging_end flaws make xs i made j h =
    let t : take i xs ≡ xs = take_all i xs h in
    (j.same ∙ ap (filter_map make) t, sym (ap (flat_map flaws) t) ∙ j.good)

pub refs_end : {A : Type 0} (refs : List (Bor A)) (xs : List A) (i : ℕ) → map (λ e. e.now) refs ≡ xs → length refs ≤ i → length xs ≤ i
refs_end refs xs i m h = omega (arith, sym (ap length m) ∙ length-map refs (λ e. e.now))

pub refs_next : {A : Type 0} (refs : List (Bor A)) (i : ℕ) (r : Bor A) → i < length refs → r ≡ get_or refs i r → map (λ e. e.now) (take (i + 1) refs) ≡ map (λ e. e.now) (take i refs) ++ r.now ∷ []
refs_next refs i r l e = map_more (λ e. e.now) refs i r l ∙ ap (λ z. map (λ e. e.now) (take i refs) ++ z.now ∷ []) (sym e)
