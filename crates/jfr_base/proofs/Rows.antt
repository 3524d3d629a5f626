-- The definitions, computed on integers: AC 02, AC 82 80 00, nine FF, 9C and eight FF, nine 80, and a single
-- 80.
use Rattle.std.specs.Prelude.{◌≡◌, ℕ, List, [], ◌∷◌, Some, None, negsuc, Ok, replicate}
use Rattle.std.specs.Int.{cast_signed, w64}
use Rattle.std.proofs.Common.{refl}
use Rattle.jfr_base.specs.declared.reason.Reason.TheVariants.{Short, Trailing}
use Rattle.jfr_base.specs.Integer.{spell, spell_in}
use Rattle.jfr_base.specs.Formats.{Format, Done, Stop, int_at, integer, run, times, refused, end_or_flaw, ◌>>=◌}

two_bytes : int_at (172 ∷ 2 ∷ []) 0 2 ≡ Some (record { value = 300; end = 2 })
unfolding int_at
two_bytes = refl

four_bytes : int_at (172 ∷ 130 ∷ 128 ∷ 0 ∷ []) 0 4 ≡ Some (record { value = 300; end = 4 })
unfolding int_at
four_bytes = refl

largest : int_at (replicate 9 255) 0 9 ≡ Some (record { value = 18446744073709551615; end = 9 })
unfolding int_at
largest = refl

largest_signed : cast_signed w64 18446744073709551615 ≡ negsuc 0
largest_signed = refl

minus_100 : int_at (156 ∷ replicate 8 255) 0 9 ≡ Some (record { value = 18446744073709551516; end = 9 })
unfolding int_at
minus_100 = refl

minus_100_signed : cast_signed w64 18446744073709551516 ≡ negsuc 99
minus_100_signed = refl

top_bit : int_at (replicate 9 128) 0 9 ≡ Some (record { value = 9223372036854775808; end = 9 })
unfolding int_at
top_bit = refl

cut_short : int_at (128 ∷ []) 0 1 ≡ None
unfolding int_at
cut_short = refl

shortest : spell 300 ≡ 172 ∷ 2 ∷ []
unfolding spell
shortest = refl

in_four : spell_in 4 300 ≡ 172 ∷ 130 ∷ 128 ∷ 0 ∷ []
unfolding spell_in
in_four = refl

-- Two integers, and nothing more.
pair : Format (List ℕ)
pair = times 2 integer >>= λ vs. Stop (Done vs)

pair_reads : run pair (172 ∷ 2 ∷ 5 ∷ []) 3 0 ≡ Ok (record { value = 300 ∷ 5 ∷ []; place = 3 })
unfolding run int_at pair
pair_reads = refl

pair_seen : end_or_flaw (run pair (172 ∷ 2 ∷ 5 ∷ []) 3 0) ≡ Ok 3
unfolding run int_at pair
pair_seen = refl

pair_short : run pair (172 ∷ 2 ∷ 133 ∷ []) 3 0 ≡ refused 2 Short
unfolding run int_at pair
pair_short = refl

pair_trailing : run pair (172 ∷ 2 ∷ 5 ∷ 6 ∷ []) 4 0 ≡ refused 3 Trailing
unfolding run int_at pair
pair_trailing = refl
