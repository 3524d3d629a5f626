-- The measure of entries and of their pools.
use Rattle.std.specs.Prelude.{◌≡◌, ℕ, zero, suc, ◌+◌, ◌-◌, ◌<◌, ◌≤◌, List, [], ◌∷◌, length, take, drop, min, slice_get, Some}
use Rattle.std.specs.List.{AllByRecursion}
use Rattle.std.proofs.Common.{ap, arith, sym, subst, get_or}
use Rattle.std.proofs.lemmas.List.{drop_all}
use Rattle.jfr_meta.specs.Written.{capped}
use Rattle.jfr_pool.specs.declared.entry.EntryAt.{EntryAt}
use Rattle.jfr_chunk.specs.Written.{by_pool}
use Rattle.jfr_output.specs.Pools.{leading}
use Rattle.jfr_output.proofs.PoolLaws.{by_first, by_leading, drop_get, fewer}
use Rattle.jfr_scrub.specs.Sizes.{HasRange, entries_size, pool_size, groups_size}

-- What the entries that are left add.
pub record Adding (es : List EntryAt) (i len : ℕ) : Type 0 where
  pub sum : capped (len + entries_size (drop i es)) ≡ capped (entries_size es)
  pub fits : len ≤ 18446744073709551615

pub adding_none : (es : List EntryAt) → Adding es 0 0
adding_none es = record { sum = ap capped (omega arith); fits = omega arith }

pub adding_next : (es : List EntryAt) (i len next : ℕ) (d : EntryAt) → i < length es → Adding es i len → next ≡ min (len + ((get_or es i d).end - (get_or es i d).key_at)) 18446744073709551615
    → Adding es (i + 1) next
adding_next es i len next d h l s =
    let z : entries_size (drop i es) ≡ ((get_or es i d).end - (get_or es i d).key_at) + entries_size (drop (i + 1) es) = ap entries_size (drop_get es i d h) in
    let k = l.sum in
    record { sum = omega arith; fits = omega arith }

pub adding_all : (es : List EntryAt) (i len : ℕ) → length es ≤ i → Adding es i len → len ≡ capped (entries_size es)
adding_all es i len h l = let z : entries_size (drop i es) ≡ 0 = ap entries_size (drop_all i es h) in let k = l.sum in let f = l.fits in omega arith

pub range_get : (n : ℕ) (es : List EntryAt) (i : ℕ) (d : EntryAt) → AllByRecursion (HasRange n) es → i < length es → HasRange n (get_or es i d)
range_get n [] i d a h = absurd (omega arith)
range_get n (e ∷ es) zero d a h = a.0
range_get n (e ∷ es) (suc i) d a h = range_get n es i d a.1 (omega arith)

pub range_order : (n : ℕ) (es : List EntryAt) (i : ℕ) (d : EntryAt) → AllByRecursion (HasRange n) es → i < length es → (get_or es i d).key_at ≤ (get_or es i d).end
range_order n es i d a h = let l = (range_get n es i d a h).order in omega arith

pub range_drop : (n : ℕ) (es : List EntryAt) (i : ℕ) → AllByRecursion (HasRange n) es → AllByRecursion (HasRange n) (drop i es)
range_drop n es zero a = a
range_drop n [] (suc i) a = tt
range_drop n (e ∷ es) (suc i) a = range_drop n es i a.1

pub range_take : (n : ℕ) (es : List EntryAt) (i : ℕ) → AllByRecursion (HasRange n) es → AllByRecursion (HasRange n) (take i es)
range_take n es zero a = tt
range_take n [] (suc i) a = tt
range_take n (e ∷ es) (suc i) a = (a.0, range_take n es i a.1)

-- The pools of the entries that are left to measure.
pub record Measuring (es rest : List EntryAt) (count bytes : ℕ) : Type 0 where
  pub number : count + length (by_pool rest) ≡ length (by_pool es)
  pub sum : capped (bytes + groups_size (by_pool rest)) ≡ capped (groups_size (by_pool es))
  pub fits : bytes ≤ 18446744073709551615
  pub room : ℕ
  pub ranges : AllByRecursion (HasRange room) rest

pub measuring_none : (es : List EntryAt) → ((n : ℕ) × AllByRecursion (HasRange n) es) → Measuring es es 0 0
measuring_none es a = record { number = omega arith; sum = ap capped (omega arith); fits = omega arith; room = a.0; ranges = a.1 }

pub measuring_next : (es rest : List EntryAt) (count bytes size next : ℕ) (e : EntryAt) → Measuring es rest count bytes → slice_get rest 0 ≡ Some e →
    size ≡ capped (pool_size e.class (take (leading e rest) rest)) → next ≡ min (bytes + size) 18446744073709551615 → Measuring es (drop (leading e rest) rest) (count + 1) next
measuring_next es [] count bytes size next e m r s t = cc
measuring_next es (x ∷ behind) count bytes size next e m r s t =
    let same : x ≡ e = cc in
    let rest : List EntryAt = x ∷ behind in
    let b : by_pool rest ≡ record { class = e.class; pool = e.pool; entries = take (leading e rest) rest } ∷ by_pool (drop (leading e rest) rest) =
    subst (λ z. by_pool z ≡ record { class = e.class; pool = e.pool; entries = take (leading e z) z } ∷ by_pool (drop (leading e z) z)) (ap (λ z. z ∷ behind) (sym same)) (by_leading e behind) in
    let l : length (by_pool rest) ≡ suc (length (by_pool (drop (leading e rest) rest))) = ap length b in
    let k : groups_size (by_pool rest) ≡ pool_size e.class (take (leading e rest) rest) + groups_size (by_pool (drop (leading e rest) rest)) = ap groups_size b in
    let n = m.number in
    let u = m.sum in
    record {
      number = omega arith;
      sum = omega arith;
      fits = omega arith;
      room = m.room;
      ranges = range_drop m.room rest (leading e rest) m.ranges;
    }

pub measuring_count : (es rest : List EntryAt) (count bytes : ℕ) (e : EntryAt) → Measuring es rest count bytes → slice_get rest 0 ≡ Some e → count + 1 ≤ length es
measuring_count es [] count bytes e m r = cc
measuring_count es (x ∷ behind) count bytes e m r =
    let b = by_first x behind in
    let l : length (by_pool (x ∷ behind)) ≡ suc (length (by_pool (drop (leading x behind) behind))) = ap length b in
    let f = fewer es in
    let n = m.number in
    omega arith

pub measuring_all : (es rest : List EntryAt) (count bytes : ℕ) → Measuring es rest count bytes → length rest ≤ 0 → (count ≡ length (by_pool es)) × (bytes ≡ capped (groups_size (by_pool es)))
measuring_all es [] count bytes m h =
    let n : count + 0 ≡ length (by_pool es) = m.number in
    let u : capped (bytes + 0) ≡ capped (groups_size (by_pool es)) = m.sum in
    let f = m.fits in
    (omega arith, omega arith)
measuring_all es (e ∷ rest) count bytes m h = absurd (omega arith)
