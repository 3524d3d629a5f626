-- `run` at an offset depends only on the bytes from that offset on.
use Rattle.std.specs.Prelude.{◌≡◌, ℕ, zero, suc, ◌+◌, ◌-◌, ◌≤◌, List, [], ◌∷◌, ◌++◌, length, take, drop, slice_range, slice_index, Some, Ok, option_map, nat_lt, nat_le, true}
use Rattle.std.proofs.Common.{ap, arith, sym, ◌∙◌, subst}
use Rattle.std.proofs.lemmas.List.{length-append, get_or-drop}
use Rattle.jfr_base.specs.declared.integer.Var.{Var}
use Rattle.jfr_base.specs.Integer.{Spells, worth_within}
use Rattle.jfr_base.specs.Formats.{Got, checked, int_at, prefix_length, Format, Done, Stop, Int, Byte, Run, Here, Refuse, Exactly, after_int, run}
use Rattle.jfr_base.proofs.Exact.{found_within}
use Rattle.jfr_base.proofs.Ranges.{range_split, range_length}
use Rattle.jfr_base.proofs.UnitLaws.{one_run}

-- Bytes that lie in a list from one offset to another.
pub record Stands (x : List ℕ) (at to : ℕ) (b : List ℕ) : Type 0 where
  pub order : at ≤ to
  pub within : to ≤ length x
  pub bytes : slice_range x at to ≡ b

pub record Halves (x : List ℕ) (at to : ℕ) (h r : List ℕ) : Type 0 where
  pub first : Stands x at (at + length h) h
  pub second : Stands x (at + length h) to r
  pub place : to ≡ at + length h + length r

-- Both parts of what lies there lie there.
pub stands_split : (x : List ℕ) (at to : ℕ) (b h r : List ℕ) → Stands x at to b → b ≡ h ++ r → Halves x at to h r
stands_split x at to b h r s e =
    let o : at ≤ to = s.order in
    let i : to ≤ length x = s.within in
    let l : to - at ≡ length h + length r = sym (range_length x at to i) ∙ (ap length (s.bytes ∙ e) ∙ length-append h r) in
    let m : at + length h ≤ to = omega arith in
    let d : slice_range x at (at + length h) ++ slice_range x (at + length h) to ≡ h ++ r = sym (range_split x at (at + length h) to (omega arith) m) ∙ (s.bytes ∙ e) in
    let n : length (slice_range x at (at + length h)) ≡ length h = range_length x at (at + length h) (omega arith) ∙ omega arith in
    let p = one_run (slice_range x at (at + length h)) h (slice_range x (at + length h) to) r d n in
    record { first = record { order = omega arith; within = omega arith; bytes = p.0 }; second = record { order = m; within = i; bytes = p.1 }; place = omega arith }

first_of : (n : ℕ) (l : List ℕ) (c : ℕ) → take n l ≡ c ∷ [] → slice_index l 0 ≡ c
first_of zero l c e = cc
first_of (suc n) [] c e = cc
first_of (suc n) (y ∷ l) c e = cc

byte_is : (x : List ℕ) (at c : ℕ) → Stands x at (at + 1) (c ∷ []) → slice_index x at ≡ c
byte_is x at c s =
    let e : slice_index (drop at x) 0 ≡ slice_index x (at + 0) = get_or-drop at x 0 0 in
    let z : at + 0 ≡ at = omega arith in
    ap (slice_index x) (sym z) ∙ (sym e ∙ first_of (at + 1 - at) (drop at x) c s.bytes)

module _ (x : List ℕ) (end : ℕ) (inside : end ≤ length x) where
  int_is : (at : ℕ) (h : List ℕ) (v : ℕ) → Stands x at (at + length h) h → at + length h ≤ end → Spells h v → int_at x at end ≡ Some (record { value = v; end = at + length h })
  unfolding int_at
  int_is at h v s i p =
      let d : slice_range x at end ≡ h ++ slice_range x (at + length h) end = range_split x at (at + length h) end s.order i ∙ ap (λ z. z ++ slice_range x (at + length h) end) s.bytes in
      let f : prefix_length 8 (slice_range x at end) ≡ Some (length h) = ap (prefix_length 8) d ∙ found_within 8 h (slice_range x (at + length h) end) p.form in
      let var : ℕ → ℕ → Var = λ w q. record { value = w; end = q } in
      ap (option_map (λ n. var (worth_within 8 (slice_range x at (at + n))) (at + n))) f
      ∙ ap (λ w. Some (var w (at + length h))) (ap (worth_within 8) s.bytes ∙ sym p.worth)

  pub exact_run : {A : Type 0} (f : Format A) (at to : ℕ) (b : List ℕ) (a : A) → Exactly f b a → Stands x at to b → to ≤ end → run f x end at ≡ Ok (record { value = a; place = to })
  unfolding run
  exact_run {A = A} (Done v) at to b a e s i =
      let got : A → ℕ → Got A = λ w q. record { value = w; place = q } in
      let o : at ≤ to = s.order in
      let l : to - at ≡ 0 = sym (range_length x at to s.within) ∙ ap length (s.bytes ∙ e.1) in
      let q : at ≡ to = omega arith in
      ap (λ w. Ok (got w at)) (sym e.0) ∙ ap (λ z. Ok (got a z)) q
  exact_run (Stop next) at to b a e s i = absurd e
  exact_run (Int check next) at to b a e s i =
      let h = stands_split x at to b e.0 e.1 s e.3 in
      let j : at + length e.0 ≤ end = omega (arith, h.place) in
      ap (after_int x at check (λ v s p. run (next v s) x end p)) (int_is at e.0 e.2 h.first j e.4)
      ∙ (ap (λ o. checked at o (run (next e.2 (slice_range x at (at + length e.0))) x end (at + length e.0))) e.5
      ∙ (ap (λ z. run (next e.2 z) x end (at + length e.0)) h.first.bytes
      ∙ exact_run (next e.2 e.0) (at + length e.0) to e.1 a e.6 h.second i))
  exact_run (Byte check next) at to b a e s i =
      let h = stands_split x at to b (e.0 ∷ []) e.1 s e.2 in
      let f = byte_is x at e.0 h.first in
      let t : nat_lt at end ≡ true = (let j : at + 1 + length e.1 ≡ to = sym h.place in grind arith) in
      rw t (ap (λ z. checked at (check z) (run (next z) x end (at + 1))) f
      ∙ (ap (λ o. checked at o (run (next e.0) x end (at + 1))) e.3
      ∙ exact_run (next e.0) (at + 1) to e.1 a e.4 h.second i))
  exact_run (Run n next) at to b a e s i =
      let h = stands_split x at to b e.0 e.1 s e.2 in
      let j : at + n ≤ end = (let p : to ≡ at + length e.0 + length e.1 = h.place in omega (arith, e.3)) in
      let t : nat_le (at + n) end ≡ true = grind arith in
      let q : at + length e.0 ≡ at + n = ap (λ z. at + z) e.3 in
      let f : slice_range x at (at + n) ≡ e.0 = ap (slice_range x at) (sym q) ∙ h.first.bytes in
      rw t (ap (λ z. run (next z) x end (at + n)) f
      ∙ exact_run (next e.0) (at + n) to e.1 a e.4 (subst (λ z. Stands x z to e.1) q h.second) i)
  exact_run (Here next) at to b a e s i = absurd e
  exact_run (Refuse why) at to b a e s i = absurd e
