-- What is in force has a number and an entry.
use Rattle.std.specs.Prelude.{◌≡◌, ℕ, ◌<◌, List, length, slice_get, Option, Some, None, option_and_then}
use Rattle.std.proofs.Common.{ap, refl, ◌∙◌, subst}
use Rattle.std.proofs.lemmas.Option.{slice_get_within}
use Rattle.jfr_pool.specs.declared.entry.EntryAt.{EntryAt}
use Rattle.jfr_pool.specs.Entries.{number_in_force, in_force}
use Rattle.jfr_pool.specs.Laws.{IsLast}
use Rattle.jfr_pool.proofs.OneLaws.{last_is}

-- The entry in force with this number.
pub record Forced (es : List EntryAt) (t : ℕ × ℕ) (i : ℕ) : Type 0 where
  pub entry : EntryAt
  pub within : i < length es
  pub there : slice_get es i ≡ Some entry
  pub class : entry.class ≡ t.0
  pub is : in_force es t ≡ Some entry

pub forced : (es : List EntryAt) (t : ℕ × ℕ) (i : ℕ) → number_in_force es t ≡ Some i → Forced es t i
forced es t i q =
    let l : IsLast es t i = (last_is es t i).0 q in
    record {
      entry = l.entry;
      within = slice_get_within es i l.entry l.holds;
      there = l.holds;
      class = ap (λ (z : ℕ × ℕ). z.0) l.has;
      is = ap (option_and_then (λ n. slice_get es n)) q ∙ l.holds;
    }

pub force_within : (es : List EntryAt) (t : ℕ × ℕ) (i : ℕ) → number_in_force es t ≡ Some i → i < length es
force_within es t i q = (forced es t i q).within

-- An entry in force has a number.
pub record Numbered (es : List EntryAt) (t : ℕ × ℕ) (e : EntryAt) : Type 0 where
  pub number : ℕ
  pub forced : number_in_force es t ≡ Some number
  pub there : slice_get es number ≡ Some e
  pub class : e.class ≡ t.0

pub numbered : (es : List EntryAt) (t : ℕ × ℕ) (e : EntryAt) → in_force es t ≡ Some e → Numbered es t e
numbered es t e q = by_number (number_in_force es t) refl q
  where
    by_number : (o : Option ℕ) → number_in_force es t ≡ o → option_and_then (λ n. slice_get es n) o ≡ Some e → Numbered es t e
    by_number None r q = cc
    by_number (Some i) r q =
        let f = forced es t i r in
        let h : f.entry ≡ e = (let x : slice_get es i ≡ Some f.entry = f.there in cc) in
        record { number = i; forced = r; there = q; class = subst (λ (z : EntryAt). z.class ≡ t.0) h f.class }
