-- Values one after another, in two parts.
use Rattle.std.specs.Prelude.{◌≡◌, ℕ, ◌+◌, ◌≤◌, List, [], ◌∷◌, ◌++◌, length, Result, Ok, Err}
use Rattle.std.proofs.Common.{ap, refl, subst, sym, ◌∙◌}
use Rattle.jfr_base.specs.declared.flaw.Flaw.{Flaw}
use Rattle.jfr_base.specs.Formats.{Answer, Format, Done, ◌>>=◌, for_each, on, run, end_or_flaw}
use Rattle.jfr_base.proofs.FormatLaws.{run-bind}
use Rattle.jfr_base.proofs.FormatEnds.{then_at, end_or_flaw-for_each}
use Rattle.jfr_value.specs.declared.leaf.KeyAt.{KeyAt}
use Rattle.jfr_value.specs.Values.{Value, bytes_of, values_of}
use Rattle.jfr_value.specs.Leaves.{keys_at, keys_from}
use Rattle.jfr_value.specs.Visits.{TakesAll, TakesRead, TakesReadAll}
use Rattle.jfr_value.proofs.PlacedLaws.{IsPlaced, ReadsPlaced}
use Rattle.jfr_value.proofs.TakingLaws.{cons_taken}

-- Equal answers after equal answers.
pub then_same : (r s : Result ℕ Flaw) (f g : ℕ → Result ℕ Flaw) → r ≡ s → ((p : ℕ) → f p ≡ g p) → then_at r f ≡ then_at s g
then_same r s f g e h = ap (λ z. then_at z f) e ∙ by_place s
  where
    by_place : (z : Result ℕ Flaw) → then_at z f ≡ then_at z g
    by_place (Ok p) = h p
    by_place (Err w) = refl

then_then : (r : Result ℕ Flaw) (f g : ℕ → Result ℕ Flaw) → then_at r (λ p. then_at (f p) g) ≡ then_at (then_at r f) g
then_then (Ok p) f g = refl
then_then (Err w) f g = refl

module _ {X : Type 0} (f : X → Format Value) (x : List ℕ) (end : ℕ) where
  abbrev each : List X → ℕ → Answer (List Value)
  each xs at = run (for_each xs f) x end at

  pub both_seen : (xs ys : List X) (at : ℕ) → end_or_flaw (each (xs ++ ys) at) ≡ then_at (end_or_flaw (each xs at)) (λ p. end_or_flaw (each ys p))
  unfolding run
  both_seen [] ys at = refl
  both_seen (z ∷ xs) ys at =
      end_or_flaw-for_each z (xs ++ ys) f x end at
      ∙ (then_same (end_or_flaw (run (f z) x end at)) (end_or_flaw (run (f z) x end at)) (λ p. end_or_flaw (each (xs ++ ys) p))
      (λ p. then_at (end_or_flaw (each xs p)) (λ q. end_or_flaw (each ys q))) refl (λ p. both_seen xs ys p)
      ∙ (then_then (end_or_flaw (run (f z) x end at)) (λ p. end_or_flaw (each xs p)) (λ q. end_or_flaw (each ys q))
      ∙ ap (λ r. then_at r (λ q. end_or_flaw (each ys q))) (sym (end_or_flaw-for_each z xs f x end at))))

  module _ {A : Type 0} (takes : KeyAt → A → A → Type 0) (within : end ≤ length x) (placed : (z : X) → ReadsPlaced x end (f z)) where
    takes_parts : (ts us : List KeyAt) (old new : A) → TakesAll takes (ts ++ us) old new → (now : A) × TakesAll takes ts old now × TakesAll takes us now new
    takes_parts [] us old new h = (old, refl, h)
    takes_parts (t ∷ ts) us old new h = let p = takes_parts ts us h.0 new h.2 in (p.0, (h.0, h.1, p.1), p.2)

    -- The first value, and those after it.
    record Parted (z : X) (xs : List X) (at to : ℕ) (old new : A) : Type 0 where
      place : ℕ
      order : place ≤ end
      now : A
      first_ends : end_or_flaw (run (f z) x end at) ≡ Ok place
      first_taken : TakesRead takes at (run (f z) x end at) old now
      others_end : Ok to ≡ end_or_flaw (each xs place)
      others_taken : TakesReadAll takes place (each xs place) now new

    parted : (z : X) (xs : List X) (at to : ℕ) (old new : A) → at ≤ end → Ok to ≡ end_or_flaw (each (z ∷ xs) at) → TakesReadAll takes at (each (z ∷ xs) at) old new → Parted z xs at to old new
    unfolding run
    parted z xs at to old new o e h =
        let b = run-bind (f z) (λ v. for_each xs f >>= λ vs. Done (v ∷ vs)) x end at in
        by_first (run (f z) x end at) refl (placed z at o) (e ∙ ap end_or_flaw b) (subst (λ (r : Answer (List Value)). TakesReadAll takes at r old new) b h)
      where
        by_first : (r : Answer Value) → run (f z) x end at ≡ r → IsPlaced end at r → Ok to ≡ end_or_flaw (on r (λ v p. run (for_each xs f >>= λ vs. Done (v ∷ vs)) x end p))
            → TakesReadAll takes at (on r (λ v p. run (for_each xs f >>= λ vs. Done (v ∷ vs)) x end p)) old new → Parted z xs at to old new
        by_first (Err w) q there e h = cc
        by_first (Ok g) q there e h =
            let b = run-bind (for_each xs f) (λ vs. Done (g.value ∷ vs)) x end g.place in
            by_others (each xs g.place) refl (e ∙ ap end_or_flaw b) (subst (λ (r : Answer (List Value)). TakesReadAll takes at r old new) b h)
          where
            by_others : (s : Answer (List Value)) → each xs g.place ≡ s → Ok to ≡ end_or_flaw (on s (λ vs p. run (Done (g.value ∷ vs)) x end p))
                → TakesReadAll takes at (on s (λ vs p. run (Done (g.value ∷ vs)) x end p)) old new → Parted z xs at to old new
            by_others (Err w) t e h = cc
            by_others (Ok more) t e h =
                let p = takes_parts (keys_at at g.value) (keys_from (at + length (bytes_of g.value)) (values_of more.value)) old new h in
                record {
                  place = g.place;
                  order = there.1;
                  now = p.0;
                  first_ends = ap end_or_flaw q;
                  first_taken = subst (λ (r : Answer Value). TakesRead takes at r old p.0) (sym q) p.1;
                  others_end = e ∙ ap end_or_flaw (sym t);
                  others_taken = subst (λ (r : Answer (List Value)). TakesReadAll takes g.place r p.0 new) (sym t)
                      (subst (λ n. TakesAll takes (keys_from n (values_of more.value)) p.0 new) (sym there.0) p.2);
                }

    pub both_taken : (xs ys : List X) (at to : ℕ) (old now new : A) → at ≤ end → Ok to ≡ end_or_flaw (each xs at) → TakesReadAll takes at (each xs at) old now
        → TakesReadAll takes to (each ys to) now new
        → TakesReadAll takes at (each (xs ++ ys) at) old new
    unfolding run
    both_taken [] ys at to old now new o e h t =
        let p : to ≡ at = cc in
        subst (λ z. TakesReadAll takes at (each ys at) z new) (sym h) (subst (λ z. TakesReadAll takes z (each ys z) now new) p t)
    both_taken (z ∷ xs) ys at to old now new o e h t =
        let p = parted z xs at to old now o e h in
        cons_taken takes x end at o within (f z) (for_each (xs ++ ys) f) p.place old p.now new (placed z) p.first_ends p.first_taken
        (both_taken xs ys p.place to p.now now new p.order p.others_end p.others_taken t)
