use Rattle.std.proofs.Common.{arith, ◌≡◌, ◌<◌, ◌+◌, ◌*◌, ◌^◌, ◌%◌, inl, refl, sym, ◌∙◌, subst}
use Rattle.std.proofs.Math.Facts.{Fits-of_lt, Fits-lt-pow}
use Rattle.jfr_base.proofs.Groups.{Reading, reading_start, reading_next, sum_fits, last_is, going_none}
use Rattle.jfr_base.proofs.integer.read_last.Goals as goal

pub loop-place-init : goal.loop-place-init
loop-place-init c = record { reading = reading_start c.args.bytes.now c.args.at c.args.end; passed = omega arith }

pub overflow_add-result : goal.overflow_add-result
overflow_add-result c =
    let b : c.from.result < 256 = omega (arith, Fits-lt-pow (c.type_inv.bytes c.loop-place.place)) in
    let i = c.loop-place.invariant.reading in
    Fits-of_lt (sum_fits c.loop-place.shift c.from.result (omega (arith, i.room)) b c.loop-place.value i.small)

pub returns-then-byte-lt128-clause-exact : goal.returns-then-byte-lt128-clause-exact
returns-then-byte-lt128-clause-exact c =
    let b : c.from.result < 256 = omega (arith, Fits-lt-pow (c.type_inv.bytes c.loop-place.place)) in
    let l = c.loop-place in
    let i = l.invariant.reading in
    last_is l.shift c.from.result (omega (arith, i.room)) b c.args.bytes.now c.args.at c.args.end l.place l.value i c.loop-place-test.true c.requires.within c.from.ensures (inl (omega arith))

pub overflow_add-value : goal.overflow_add-value
overflow_add-value c =
    let f = c.from-in-loop-place in
    let b : f.result < 256 = omega (arith, f.ensures) in
    let i = c.loop-place.invariant.reading in
    Fits-of_lt (sum_fits c.loop-place.shift f.result (omega (arith, i.room)) b c.loop-place.value i.small)

pub loop-place-preserved : goal.loop-place-preserved
loop-place-preserved c =
    let f = c.from-in-loop-place in
    let l = c.loop-place in
    let n : l.shift ≡ 56 → ⊥ = λ e. omega (arith, e, l.invariant.passed, c.requires.last, c.loop-place-test.true, c.requires.within) in
    let next = reading_next c.args.bytes.now c.args.at c.args.end l.place l.value l.shift _ l.invariant.reading c.loop-place-test.true c.requires.within refl c.if-byte-lt128.false n in
    record {
      reading = subst (λ z. Reading c.args.bytes.now c.args.at c.args.end (l.place + 1) (l.value + z * 2 ^ l.shift % 18446744073709551616) (l.shift + 7)) (sym f.ensures) next;
      passed = omega (arith, l.invariant.passed);
    }

pub returns-clause-exact : goal.returns-clause-exact
returns-clause-exact c =
    let l = c.loop-place in
    let i = l.invariant.reading in
    (i.same ∙ going_none i.groups c.args.bytes.now l.place c.args.end l.value (2 ^ l.shift) (omega arith), c.short.ensures)
