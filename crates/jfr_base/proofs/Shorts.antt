-- Integers of one byte or two.
use Rattle.std.specs.Prelude.{◌≡◌, ℕ, zero, suc, ◌+◌, ◌-◌, ◌*◌, ◌%◌, ◌<◌, ◌≤◌, List, [], ◌∷◌, length, slice_range, slice_index, Option, Some, None, IfSome, nat_lt, Bool, true, false, if◌then◌else◌}
use Rattle.std.specs.Option.{option_map}
use Rattle.std.proofs.Common.{ap, arith, sym, ◌∙◌, subst}
use Rattle.jfr_base.specs.declared.integer.Var.{Var}
use Rattle.jfr_base.specs.Integer.{worth_within}
use Rattle.jfr_base.specs.Formats.{prefix_length, int_at}
use Rattle.jfr_base.proofs.Groups.{reading_start, going_last, going_next, going_none, going_on}

-- An integer that continues ends after the next byte at the earliest.
front_one : (k : ℕ) (bs : List ℕ) → IfSome (prefix_length k bs) (λ n. 1 ≤ n)
front_one k [] = tt
front_one zero (b ∷ bs) = omega arith
front_one (suc k) (b ∷ bs) = by_byte (nat_lt b 128) (prefix_length k bs)
  where
    by_byte : (t : Bool) (o : Option ℕ) → IfSome (if t then Some 1 else option_map (λ n. suc n) o) (λ n. 1 ≤ n)
    by_byte true o = omega arith
    by_byte false None = tt
    by_byte false (Some n) = omega arith

going_further : (k : ℕ) (x : List ℕ) (place end value weight : ℕ) → IfSome (going_on k x place end value weight) (λ v. place < v.end)
unfolding going_on
going_further k x place end value weight = by_front (prefix_length k (slice_range x place end)) (front_one k (slice_range x place end))
  where
    by_front : (o : Option ℕ) → IfSome o (λ n. 1 ≤ n)
        → IfSome (option_map (λ n. record { value = value + weight * worth_within k (slice_range x place (place + n)); end = place + n }) o) (λ (v : Var). place < v.end)
    by_front None h = tt
    by_front (Some n) h = omega (arith, h)

module _ (x : List ℕ) (at end : ℕ) where
  -- After a first byte that isn't the last.
  behind_one : at < end → end ≤ length x → 128 ≤ slice_index x at → int_at x at end ≡ going_on 7 x (at + 1) end (0 + 1 * (slice_index x at % 128)) (1 * 128)
  behind_one h i j =
      let r = reading_start x at end in
      let eight : r.groups ≡ suc 7 = omega (arith, r.room) in
      r.same ∙ (ap (λ g. going_on g x at end 0 1) eight ∙ going_next 7 x at end 0 1 h i j)

  pub one_byte : at < end → end ≤ length x → slice_index x at < 128 → int_at x at end ≡ Some (record { value = slice_index x at; end = at + 1 })
  one_byte h i j =
      let r = reading_start x at end in
      let worth : 0 + 1 * slice_index x at ≡ slice_index x at = omega arith in
      r.same ∙ (going_last r.groups x at end 0 1 h i j ∙ ap (λ v. Some (record { value = v; end = at + 1 })) worth)

  pub two_bytes : at + 1 < end → end ≤ length x → 128 ≤ slice_index x at → slice_index x at < 256 → slice_index x (at + 1) < 128
      → int_at x at end ≡ Some (record { value = slice_index x at - 128 + 128 * slice_index x (at + 1); end = at + 2 })
  two_bytes h i j byte k =
      let worth : (0 + 1 * (slice_index x at % 128)) + (1 * 128) * slice_index x (at + 1) ≡ slice_index x at - 128 + 128 * slice_index x (at + 1) = omega arith in
      let behind : (at + 1) + 1 ≡ at + 2 = omega arith in
      behind_one (omega arith) i j
      ∙ (going_last 7 x (at + 1) end (0 + 1 * (slice_index x at % 128)) (1 * 128) h i k
      ∙ (ap (λ v. Some (record { value = v; end = (at + 1) + 1 })) worth ∙ ap (λ p. Some (record { value = slice_index x at - 128 + 128 * slice_index x (at + 1); end = p })) behind))

  -- There is none if there is no byte, or none after a first byte that isn't the last.
  pub none_there : end ≤ at → int_at x at end ≡ None
  none_there h = let r = reading_start x at end in r.same ∙ going_none r.groups x at end 0 1 h

  pub one_alone : at < end → end ≤ at + 1 → end ≤ length x → 128 ≤ slice_index x at → int_at x at end ≡ None
  one_alone h l i j = behind_one h i j ∙ going_none 7 x (at + 1) end (0 + 1 * (slice_index x at % 128)) (1 * 128) l

  -- After two bytes that aren't the last it ends later.
  pub longer : at + 1 < end → end ≤ length x → 128 ≤ slice_index x at → 128 ≤ slice_index x (at + 1) → IfSome (int_at x at end) (λ v. at + 2 < v.end)
  longer h i j k =
      let value = 0 + 1 * (slice_index x at % 128) in
      let more = value + (1 * 128) * (slice_index x (at + 1) % 128) in
      let behind : (at + 1) + 1 ≡ at + 2 = omega arith in
      let same : int_at x at end ≡ going_on 6 x (at + 2) end more (1 * 128 * 128) =
      behind_one (omega arith) i j ∙ (going_next 6 x (at + 1) end value (1 * 128) h i k ∙ ap (λ p. going_on 6 x p end more (1 * 128 * 128)) behind) in
      subst (λ o. IfSome o (λ v. at + 2 < v.end)) (sym same) (going_further 6 x (at + 2) end more (1 * 128 * 128))
