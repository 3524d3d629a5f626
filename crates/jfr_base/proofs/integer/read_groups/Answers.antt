use Rattle.std.proofs.Common.{arith, ◌≡◌, ◌<◌, ◌+◌, ◌*◌, ◌^◌, ◌%◌, inl, inr, length, refl, subst, sym}
use Rattle.std.proofs.Math.Facts.{Fits-of_lt, Fits-lt-pow}
use Rattle.jfr_base.proofs.Groups.{Reading, reading_start, reading_next, sum_fits, last_is}
use Rattle.jfr_base.proofs.integer.read_groups.Goals as goal

pub loop-group-init : goal.loop-group-init
loop-group-init c =
    let x = c.args.bytes.now in
    let e : c.args.at ≡ c.args.at + 0 = omega arith in
    subst (λ z. Reading x c.args.at (length x) z 0 0) e (reading_start x c.args.at (length x))

pub overflow_add-result : goal.overflow_add-result
overflow_add-result c =
    let b : c.from.result < 256 = omega (arith, Fits-lt-pow (c.type_inv.bytes (c.args.at + c.loop-group.group))) in
    let l = c.loop-group in
    Fits-of_lt (sum_fits (7 * l.group) c.from.result (omega (arith, l.invariant.room)) b l.value l.invariant.small)

pub returns-then-byte-lt128-clause-exact : goal.returns-then-byte-lt128-clause-exact
returns-then-byte-lt128-clause-exact c =
    let x = c.args.bytes.now in
    let b : c.from.result < 256 = omega (arith, Fits-lt-pow (c.type_inv.bytes (c.args.at + c.loop-group.group))) in
    let l = c.loop-group in
    last_is (7 * l.group) c.from.result (omega (arith, l.invariant.room)) b x c.args.at (length x) (c.args.at + l.group) l.value l.invariant (omega (arith, c.requires.room, c.loop-group-test.true))
    (omega arith) c.from.ensures (inl (omega arith))

pub overflow_add-value : goal.overflow_add-value
overflow_add-value c =
    let f = c.from-in-loop-group in
    let b : f.result < 256 = omega (arith, f.ensures) in
    let l = c.loop-group in
    Fits-of_lt (sum_fits (7 * l.group) f.result (omega (arith, l.invariant.room)) b l.value l.invariant.small)

pub loop-group-preserved : goal.loop-group-preserved
loop-group-preserved c =
    let x = c.args.bytes.now in
    let f = c.from-in-loop-group in
    let l = c.loop-group in
    let next = reading_next x c.args.at (length x) (c.args.at + l.group) l.value (7 * l.group) _ l.invariant (omega (arith, c.requires.room, c.loop-group-test.true))
    (omega arith) refl c.if-byte-lt128.false (λ e. omega (arith, e, c.loop-group-test.true)) in
    let place : c.args.at + l.group + 1 ≡ c.args.at + (l.group + 1) = omega arith in
    let shift : 7 * l.group + 7 ≡ 7 * (l.group + 1) = omega arith in
    subst (λ z. Reading x c.args.at (length x) z (l.value + f.result * 2 ^ (7 * l.group) % 18446744073709551616) (7 * (l.group + 1))) place
    (subst (λ z. Reading x c.args.at (length x) (c.args.at + l.group + 1) (l.value + f.result * 2 ^ (7 * l.group) % 18446744073709551616) z) shift
    (subst (λ z. Reading x c.args.at (length x) (c.args.at + l.group + 1) (l.value + z * 2 ^ (7 * l.group) % 18446744073709551616) (7 * l.group + 7)) (sym f.ensures) next))

pub returns-clause-exact : goal.returns-clause-exact
returns-clause-exact c =
    let x = c.args.bytes.now in
    let l = c.loop-group in
    let e : l.group ≡ 8 = omega (arith, c.loop-group-test.false, l.auto.group-end) in
    let r : Reading x c.args.at (length x) (c.args.at + 8) l.value 56 = subst (λ z. Reading x c.args.at (length x) (c.args.at + z) l.value (7 * z)) e l.invariant in
    let b : c.from-2.result < 256 = omega (arith, Fits-lt-pow (c.type_inv.bytes (c.args.at + 8))) in
    last_is 56 c.from-2.result (omega arith) b x c.args.at (length x) (c.args.at + 8) l.value r (omega (arith, c.requires.room)) (omega arith) c.from-2.ensures (inr refl)
