-- Sizes that are padded to four bytes.
use Rattle.std.specs.Prelude.{◌≡◌, ℕ, ◌+◌, ◌-◌, ◌*◌, ◌%◌, ◌<◌, ◌≤◌, List, length, slice_index, Some}
use Rattle.std.proofs.Common.{ap, arith, sym, ◌∙◌}
use Rattle.jfr_base.specs.declared.integer.Var.{Var}
use Rattle.jfr_base.specs.Formats.{int_at}
use Rattle.jfr_base.proofs.Groups.{reading_start, going_last, going_next, going_on}

abbrev pub var : ℕ → ℕ → Var
var v q = record { value = v; end = q }

-- The first three bytes have their top bit, and the fourth has not.
pub four_bytes : (x : List ℕ) (at end a b c d : ℕ) → at + 4 ≤ end → end ≤ length x
    → a ≡ slice_index x at → 128 ≤ a → a < 256
    → b ≡ slice_index x (at + 1) → 128 ≤ b → b < 256
    → c ≡ slice_index x (at + 2) → 128 ≤ c → c < 256
    → d ≡ slice_index x (at + 3) → d < 128
    → int_at x at end ≡ Some (var (a - 128 + 128 * (b - 128) + 16384 * (c - 128) + 2097152 * d) (at + 4))
four_bytes x at end a b c d room i ea la ma eb lb mb ec lc mc ed md =
    let r = reading_start x at end in
    let eight : r.groups ≡ 8 = omega (arith, r.room) in
    let one : ℕ = 0 + 1 * (slice_index x at % 128) in
    let two : ℕ = one + 1 * 128 * (slice_index x (at + 1) % 128) in
    let three : ℕ = two + 1 * 128 * 128 * (slice_index x (at + 1 + 1) % 128) in
    let p : at + 1 + 1 ≡ at + 2 = omega arith in
    let q : at + 1 + 1 + 1 ≡ at + 3 = omega arith in
    let fc : c ≡ slice_index x (at + 1 + 1) = ec ∙ ap (slice_index x) (sym p) in
    let fd : d ≡ slice_index x (at + 1 + 1 + 1) = ed ∙ ap (slice_index x) (sym q) in
    let v : three + 1 * 128 * 128 * 128 * slice_index x (at + 1 + 1 + 1) ≡ a - 128 + 128 * (b - 128) + 16384 * (c - 128) + 2097152 * d = omega arith in
    let w : at + 1 + 1 + 1 + 1 ≡ at + 4 = omega arith in
    r.same
    ∙ ap (λ g. going_on g x at end 0 1) eight
    ∙ going_next 7 x at end 0 1 (omega arith) i (omega arith)
    ∙ going_next 6 x (at + 1) end one (1 * 128) (omega arith) i (omega arith)
    ∙ going_next 5 x (at + 1 + 1) end two (1 * 128 * 128) (omega arith) i (omega arith)
    ∙ going_last 5 x (at + 1 + 1 + 1) end three (1 * 128 * 128 * 128) (omega arith) i (omega arith)
    ∙ ap (λ z. Some (var z (at + 1 + 1 + 1 + 1))) v
    ∙ ap (λ z. Some (var (a - 128 + 128 * (b - 128) + 16384 * (c - 128) + 2097152 * d) z)) w
