-- Adding to counts.
use Rattle.std.specs.Prelude.{◌≡◌, ℕ, zero, suc, ◌+◌, ◌<◌, ◌≤◌, ◌==◌, Bool, true, false, cond, List, ◌++◌, length, Option, None, Some, option_to_list, unwrap_or}
use Rattle.std.specs.Str.{bytes_eq}
use Rattle.std.specs.FinMap as fin
use Rattle.std.proofs.Common.{ap, arith, refl, sym, ◌∙◌, append-nil}
use Rattle.std.proofs.lemmas.Bool.Decides.{nat_tests}
use Rattle.std.proofs.lemmas.List.Sums.{count_by-le-length, sum_by_push}
use Rattle.jfr_stacks.specs.Adding.{AreBelow, Fits, is_text, plus}
use Rattle.jfr_stacks.specs.Folded.{Counts, count_of}

-- What an event adds, if it is counted.
abbrev pub one : Bool → ℕ
one b = cond b 1 0

pub plus_some : (o : Option ℕ) (n : ℕ) → (n == 0) ≡ false → plus o n ≡ Some (unwrap_or o 0 + n)
plus_some o n h = ap (λ b. cond b o (Some (unwrap_or o 0 + n))) h

pub plus_kept : (k n : ℕ) → plus (Some k) n ≡ Some (k + n)
plus_kept k zero = let e : k ≡ k + 0 = omega arith in ap Some e
plus_kept k (suc n) = plus_some (Some k) (suc n) (let z : (suc n == 0) ≡ false = grind (arith, nat_tests) in z)

-- Adding twice is adding the sum.
pub plus_plus : (o : Option ℕ) (a b : ℕ) → plus (plus o a) b ≡ plus o (a + b)
plus_plus o zero b = let e : b ≡ 0 + b = omega arith in ap (plus o) e
plus_plus o (suc a) b =
    let z : (suc a == 0) ≡ false = grind (arith, nat_tests) in
    let y : (suc a + b == 0) ≡ false = grind (arith, nat_tests) in
    let e : unwrap_or o 0 + suc a + b ≡ unwrap_or o 0 + (suc a + b) = omega arith in
    ap (λ x. plus x b) (plus_some o (suc a) z) ∙ (plus_kept (unwrap_or o 0 + suc a) b ∙ (ap Some e ∙ sym (plus_some o (suc a + b) y)))

-- Adding in another order.
pub plus_swap : (o : Option ℕ) (a b : ℕ) → plus (plus o a) b ≡ plus (plus o b) a
plus_swap o a b = let e : a + b ≡ b + a = omega arith in plus_plus o a b ∙ (ap (plus o) e ∙ sym (plus_plus o b a))

pub plus_if : (b : Bool) (o : Option ℕ) (n : ℕ) → cond b (plus o n) o ≡ plus o (cond b n 0)
plus_if true o n = refl
plus_if false o n = refl

-- The texts with one more, if there is one.
pub count_more : (q : List ℕ) (ts : List (List ℕ)) (o : Option (List ℕ)) → count_of q (ts ++ option_to_list o) ≡ count_of q ts + one (is_text q o)
count_more q ts None = let e : count_of q ts ≡ count_of q ts + 0 = omega arith in ap (count_of q) (append-nil ts) ∙ e
count_more q ts (Some t) = sum_by_push (λ t. cond (bytes_eq t q) 1 0) ts t

pub count_most : (q : List ℕ) (ts : List (List ℕ)) → count_of q ts ≤ length ts
count_most q ts = count_by-le-length (λ t. bytes_eq t q) ts

-- What is left of a count, if it and more is at most a bound.
kept_below : (k w c most top : ℕ) (o : Option ℕ) → ((n : ℕ) → o ≡ Some n → n ≤ most) → plus (Some k) w ≡ plus o c → c ≤ top → k ≤ most + top
kept_below k w c most top None h e l = by_count c (sym (plus_kept k w) ∙ e) l
  where
    by_count : (c : ℕ) → Some (k + w) ≡ plus None c → c ≤ top → k ≤ most + top
    by_count zero e l = cc
    by_count (suc c) e l = let x : k + w ≡ 0 + suc c =
        (let y : Some (k + w) ≡ Some (0 + suc c) = e ∙ plus_some None (suc c) (let z : (suc c == 0) ≡ false = grind (arith, nat_tests) in z) in cc) in omega arith
kept_below k w c most top (Some n) h e l =
    let x : k + w ≡ n + c = (let y : Some (k + w) ≡ Some (n + c) = sym (plus_kept k w) ∙ (e ∙ plus_kept n c) in cc) in
    let m : n ≤ most = h n refl in
    omega arith

-- Counts that with others are those before and at most `top` events more.
pub below_by : (old now : Counts) (others count : List ℕ → ℕ) (most top : ℕ) → ((q : List ℕ) → plus (fin.get now q) (others q) ≡ plus (fin.get old q) (count q)) → ((q : List ℕ) → count q ≤ top)
    → AreBelow most old → AreBelow (most + top) now
below_by old now others count most top e l b = record { each = λ q n is. kept_below n (others q) (count q) most top (fin.get old q) (b.each q) (ap (λ o. plus o (others q)) (sym is) ∙ e q) (l q) }

-- A larger bound.
pub below_more : (m n : ℕ) (c : Counts) → m ≤ n → AreBelow m c → AreBelow n c
below_more m n c h b = record { each = λ q k is. (let l = b.each q k is in omega arith) }

-- Below a bound events fit.
pub below_fits : (most n : ℕ) (c : Counts) → most + n < 18446744073709551616 → AreBelow most c → Fits n c
below_fits most n c h b = record { each = λ q k is. (let l = b.each q k is in omega arith) }
