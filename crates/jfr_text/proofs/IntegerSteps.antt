-- The integers at the front of some bytes, one by one.
use Rattle.std.specs.Prelude.{◌≡◌, ℕ, zero, suc, ◌+◌, ◌-◌, ◌≤◌, List, [], ◌∷◌, length, drop, Some, None, Ok}
use Rattle.std.specs.Option.{option_map_or}
use Rattle.std.proofs.Common.{ap, refl, sym, arith, ◌∙◌}
use Rattle.jfr_base.specs.declared.integer.Var.{Var}
use Rattle.jfr_base.specs.Formats.{Done, int_at, integer, times, run, end_or_flaw}
use Rattle.jfr_base.proofs.FormatEnds.{end_or_flaw-times, then_at}
use Rattle.jfr_base.proofs.Shorts.{one_byte}
use Rattle.jfr_text.specs.Spans.{AreShort, first_integers}
use Rattle.jfr_text.proofs.ReadSteps.{int_there, done_there}

pub none_left : (n : ℕ) (bytes : List ℕ) → n ≡ 0 → first_integers n bytes ≡ []
unfolding first_integers
none_left zero bytes e = refl
none_left (suc n) bytes e = cc

pub none_stands : (n : ℕ) (bytes : List ℕ) → int_at bytes 0 (length bytes) ≡ None → first_integers n bytes ≡ []
unfolding first_integers
none_stands zero bytes e = refl
none_stands (suc n) bytes e = ap (λ o. option_map_or (λ (v : Var). v.value ∷ first_integers n (drop v.end bytes)) o []) e

pub one_stands : (n : ℕ) (bytes : List ℕ) (v : Var) → (n ≡ 0 → ⊥) → int_at bytes 0 (length bytes) ≡ Some v → first_integers n bytes ≡ v.value ∷ first_integers (n - 1) (drop v.end bytes)
unfolding first_integers
one_stands zero bytes v h e = absurd (h refl)
one_stands (suc n) bytes v h e =
    let k : suc n - 1 ≡ n = omega arith in
    ap (λ o. option_map_or (λ (v : Var). v.value ∷ first_integers n (drop v.end bytes)) o []) e ∙ ap (λ m. v.value ∷ first_integers m (drop v.end bytes)) (rw k)

-- So many integers of one byte, one after another.
pub short_passed : (n count : ℕ) (x : List ℕ) (at to end : ℕ) → to ≡ at + n → n ≤ count → to ≤ end → end ≤ length x → AreShort x at to
    → end_or_flaw (run (times (count - n) integer) x end to) ≡ end_or_flaw (run (times count integer) x end at)
short_passed zero count x at to end e i j l short =
    let all : count - 0 ≡ count = omega arith in
    let here : to ≡ at = omega (arith, e) in
    ap (λ m. end_or_flaw (run (times m integer) x end to)) all ∙ ap (λ p. end_or_flaw (run (times count integer) x end p)) here
short_passed (suc n) count x at to end e i j l short =
    let rest = count - 1 in
    let left : count - suc n ≡ rest - n = omega arith in
    let more : count ≡ suc rest = omega arith in
    let later : end_or_flaw (run (times (rest - n) integer) x end to) ≡ end_or_flaw (run (times rest integer) x end (at + 1)) =
    short_passed n rest x (at + 1) to end (omega arith) (omega arith) j l (λ k from below. short k (omega arith) below) in
    let v = one_byte x at end (omega arith) l (short at (omega arith) (omega arith)) in
    let ends : end_or_flaw (run integer x end at) ≡ Ok (at + 1) = ap end_or_flaw (int_there x end at (λ w s. Done w) _ v ∙ done_there x end (at + 1) _) in
    let one : end_or_flaw (run (times count integer) x end at) ≡ end_or_flaw (run (times rest integer) x end (at + 1)) =
    ap (λ m. end_or_flaw (run (times m integer) x end at)) more ∙ (end_or_flaw-times rest integer x end at ∙ ap (λ r. then_at r (λ p. end_or_flaw (run (times rest integer) x end p))) ends) in
    ap (λ m. end_or_flaw (run (times m integer) x end to)) left ∙ (later ∙ sym one)
