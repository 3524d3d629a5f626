-- Strings whose count and integers have one byte each.
use Rattle.std.specs.Prelude.{◌≡◌, ℕ, ◌+◌, ◌-◌, ◌<◌, ◌≤◌, List, length, slice_index, Ok, Err, true}
use Rattle.std.proofs.Common.{ap, refl, sym, arith, ◌∙◌}
use Rattle.jfr_base.specs.Formats.{Answer, Done, checked, integer, times, run, end_or_flaw}
use Rattle.jfr_text.specs.Spans.{AreShort}
use Rattle.jfr_text.specs.Strings.{Units, after_kind, counted_integers, kind_fault, string_format}
use Rattle.jfr_base.proofs.Shorts.{one_byte}
use Rattle.jfr_text.proofs.IntegerSteps.{short_passed}
use Rattle.jfr_text.proofs.ReadSteps.{int_there, done_there, made_of_value, kind_there}

-- An answer that ends at a place has a value.
value_seen : {A : Type 0} (r : Answer A) (to : ℕ) → end_or_flaw r ≡ Ok to → (v : A) × (r ≡ Ok (record { value = v; place = to }))
value_seen (Ok got) to e = let p : got.place ≡ to = cc in (got.value, ap (λ t. Ok (record { value = got.value; place = t })) p)
value_seen (Err flaw) to e = absurd cc

-- Short integers end after the last of them.
module _ (count : ℕ) (x : List ℕ) (from end : ℕ) (inside : from + count ≤ end) (within : end ≤ length x) (short : AreShort x from (from + count)) where
  short_seen : end_or_flaw (run (times count integer) x end from) ≡ Ok (from + count)
  unfolding run
  short_seen =
      let none : count - count ≡ 0 = omega arith in
      sym (short_passed count count x from (from + count) end refl (omega arith) inside within short) ∙ ap (λ n. end_or_flaw (run (times n integer) x end (from + count))) none

  pub short_read : (units : List ℕ) × (run (times count integer) x end from ≡ Ok (record { value = units; place = from + count }))
  short_read = value_seen (run (times count integer) x end from) (from + count) short_seen

-- A string of such integers.
module _ (x : List ℕ) (at end : ℕ) (within : end ≤ length x) (kind : slice_index x at ≡ 4) (small : slice_index x (at + 1) < 128) where
  pub short_units : at + 2 + slice_index x (at + 1) ≤ end → AreShort x (at + 2) (at + 2 + slice_index x (at + 1))
      → (units : List ℕ) × (run (string_format true) x end at ≡ Ok (record { value = Units units; place = at + 2 + slice_index x (at + 1) }))
  short_units inside short =
      let count = slice_index x (at + 1) in
      let to = at + 2 + count in
      let two : at + 1 + 1 ≡ at + 2 = omega arith in
      let (units, read) = short_read count x (at + 2) end inside within short in
      let v = one_byte x (at + 1) end (omega (arith, inside)) within small in
      let counted : run counted_integers x end (at + 1) ≡ Ok (record { value = units; place = to }) =
      int_there x end (at + 1) (λ n s. times n integer) _ v ∙ (ap (λ p. run (times count integer) x end p) two ∙ read) in
      let string : run (after_kind 4) x end (at + 1) ≡ Ok (record { value = Units units; place = to }) =
      made_of_value x end (at + 1) counted_integers (λ us. Done (Units us)) units to counted ∙ done_there x end to (Units units) in
      (units, kind_there x end at (omega (arith, inside)) ∙ (ap (λ k. checked at (kind_fault true k) (run (after_kind k) x end (at + 1))) kind ∙ string))
