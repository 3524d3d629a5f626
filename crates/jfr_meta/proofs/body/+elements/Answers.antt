use Rattle.std.proofs.Common.{ℕ, sym, ap, ◌∙◌, arith, ◌≡◌, ◌-◌}
use Rattle.std.specs.Prelude.{suc}
use Rattle.std.proofs.lemmas.Result.{err_from_is_err_and}
use Rattle.jfr_base.specs.Formats.{run, times}
use Rattle.jfr_meta.specs.Body.{pair, element_format}
use Rattle.jfr_meta.proofs.Runs.{reading_next, reading_err, reading_end, integer_ok, integer_none}
use Rattle.jfr_meta.proofs.Parts.{carried, too_deep, named_ok, named_err, counted_ok, counted_err, paired_ok, paired_err, numbered_ok, numbered_err, element_ok, element_err}
use Rattle.jfr_meta.proofs.body.+elements.Goals as goal

pub read_element-returns-then-levels-eq0-clause-exact :
    goal.read_element-returns-then-levels-eq0-clause-exact
read_element-returns-then-levels-eq0-clause-exact t c = too_deep c.args.levels c.args.reader.strings c.args.reader.bytes.now c.args.reader.end c.args.at c.if-levels-eq0.true

pub read_element-returns-in_err-name-clause-exact :
    goal.read_element-returns-in_err-name-clause-exact
read_element-returns-in_err-name-clause-exact t c =
    let p = err_from_is_err_and c.from_residual.result c.from_residual.ensures.1 in
    let l : c.args.levels ≡ suc (c.args.levels - 1) = omega arith in
    let whole = λ (z : ℕ). run (element_format z c.args.reader.strings) c.args.reader.bytes.now c.args.reader.end c.args.at in
    rw (p.1, p.2) (ap whole l ∙ named_err (c.args.levels - 1) c.args.reader.strings c.args.reader.bytes.now c.args.reader.end c.args.at c.in_err-name.field-0.0 (sym c.in_err-name.ensures.exact))

pub read_element-returns-in_err-attributes-clause-exact :
    goal.read_element-returns-in_err-attributes-clause-exact
read_element-returns-in_err-attributes-clause-exact t c =
    let p = err_from_is_err_and c.from_residual-in_err-attributes.result c.from_residual-in_err-attributes.ensures.1 in
    let l : c.args.levels ≡ suc (c.args.levels - 1) = omega arith in
    let whole = λ (z : ℕ). run (element_format z c.args.reader.strings) c.args.reader.bytes.now c.args.reader.end c.args.at in
    let named = named_ok (c.args.levels - 1) c.args.reader.strings c.args.reader.bytes.now c.args.reader.end c.args.at c.in_ok-name.name.value c.in_ok-name.name.end (sym c.in_ok-name.ensures.exact) in
    rw (p.1, p.2) (ap whole l ∙ counted_err (c.args.levels - 1) c.args.reader.strings c.args.reader.bytes.now c.args.reader.end c.args.at c.in_ok-name.name.value c.in_ok-name.name.end
    c.in_err-attributes.field-0.0 named (integer_none c.args.reader.bytes.now c.args.reader.end c.in_ok-name.name.end c.in_err-attributes.field-0.0 c.in_err-attributes.ensures.exact))

pub read_element-returns-in_err-pairs-clause-exact :
    goal.read_element-returns-in_err-pairs-clause-exact
read_element-returns-in_err-pairs-clause-exact t c =
    let p = err_from_is_err_and c.from_residual-in_err-pairs.result c.from_residual-in_err-pairs.ensures.1 in
    let l : c.args.levels ≡ suc (c.args.levels - 1) = omega arith in
    let whole = λ (z : ℕ). run (element_format z c.args.reader.strings) c.args.reader.bytes.now c.args.reader.end c.args.at in
    let named = named_ok (c.args.levels - 1) c.args.reader.strings c.args.reader.bytes.now c.args.reader.end c.args.at c.in_ok-name.name.value c.in_ok-name.name.end (sym c.in_ok-name.ensures.exact) in
    let counted = counted_ok (c.args.levels - 1) c.args.reader.strings c.args.reader.bytes.now c.args.reader.end c.args.at c.in_ok-name.name.value c.in_ok-name.name.end
    c.in_ok-attributes.attributes.value c.in_ok-attributes.attributes.end named
    (integer_ok c.args.reader.bytes.now c.args.reader.end c.in_ok-name.name.end c.in_ok-attributes.attributes c.in_ok-attributes.ensures.exact) in
    rw (p.1, p.2) (carried (run (times c.in_ok-attributes.attributes.value (pair c.args.reader.strings)) c.args.reader.bytes.now c.args.reader.end c.in_ok-attributes.attributes.end)
    (whole c.args.levels) c.in_err-pairs.field-0.0 c.in_err-pairs.ensures.exact
    (λ w e. ap whole l ∙ paired_err (c.args.levels - 1) c.args.reader.strings c.args.reader.bytes.now c.args.reader.end c.args.at c.in_ok-name.name.value c.in_ok-attributes.attributes.value
    c.in_ok-attributes.attributes.end w counted e))

pub read_element-returns-in_err-count-clause-exact :
    goal.read_element-returns-in_err-count-clause-exact
read_element-returns-in_err-count-clause-exact t c =
    let p = err_from_is_err_and c.from_residual-in_err-count.result c.from_residual-in_err-count.ensures.1 in
    let l : c.args.levels ≡ suc (c.args.levels - 1) = omega arith in
    let whole = λ (z : ℕ). run (element_format z c.args.reader.strings) c.args.reader.bytes.now c.args.reader.end c.args.at in
    let named = named_ok (c.args.levels - 1) c.args.reader.strings c.args.reader.bytes.now c.args.reader.end c.args.at c.in_ok-name.name.value c.in_ok-name.name.end (sym c.in_ok-name.ensures.exact) in
    let counted = counted_ok (c.args.levels - 1) c.args.reader.strings c.args.reader.bytes.now c.args.reader.end c.args.at c.in_ok-name.name.value c.in_ok-name.name.end
    c.in_ok-attributes.attributes.value c.in_ok-attributes.attributes.end named
    (integer_ok c.args.reader.bytes.now c.args.reader.end c.in_ok-name.name.end c.in_ok-attributes.attributes c.in_ok-attributes.ensures.exact) in
    let paired = paired_ok (c.args.levels - 1) c.args.reader.strings c.args.reader.bytes.now c.args.reader.end c.args.at c.in_ok-name.name.value c.in_ok-attributes.attributes.value
    c.in_ok-attributes.attributes.end c.in_ok-pairs.pairs c.in_ok-pairs.place counted c.in_ok-pairs.ensures.exact in
    rw (p.1, p.2) (ap whole l ∙ numbered_err (c.args.levels - 1) c.args.reader.strings c.args.reader.bytes.now c.args.reader.end c.args.at c.in_ok-name.name.value c.in_ok-pairs.pairs
    c.in_ok-pairs.place c.in_err-count.field-0.0 paired (integer_none c.args.reader.bytes.now c.args.reader.end c.in_ok-pairs.place c.in_err-count.field-0.0 c.in_err-count.ensures.exact))

pub read_element-returns-in_err-children-clause-exact :
    goal.read_element-returns-in_err-children-clause-exact
read_element-returns-in_err-children-clause-exact t c =
    let p = err_from_is_err_and c.from_residual-in_err-children.result c.from_residual-in_err-children.ensures.1 in
    let l : c.args.levels ≡ suc (c.args.levels - 1) = omega arith in
    let whole = λ (z : ℕ). run (element_format z c.args.reader.strings) c.args.reader.bytes.now c.args.reader.end c.args.at in
    let named = named_ok (c.args.levels - 1) c.args.reader.strings c.args.reader.bytes.now c.args.reader.end c.args.at c.in_ok-name.name.value c.in_ok-name.name.end (sym c.in_ok-name.ensures.exact) in
    let counted = counted_ok (c.args.levels - 1) c.args.reader.strings c.args.reader.bytes.now c.args.reader.end c.args.at c.in_ok-name.name.value c.in_ok-name.name.end
    c.in_ok-attributes.attributes.value c.in_ok-attributes.attributes.end named
    (integer_ok c.args.reader.bytes.now c.args.reader.end c.in_ok-name.name.end c.in_ok-attributes.attributes c.in_ok-attributes.ensures.exact) in
    let paired = paired_ok (c.args.levels - 1) c.args.reader.strings c.args.reader.bytes.now c.args.reader.end c.args.at c.in_ok-name.name.value c.in_ok-attributes.attributes.value
    c.in_ok-attributes.attributes.end c.in_ok-pairs.pairs c.in_ok-pairs.place counted c.in_ok-pairs.ensures.exact in
    let numbered = numbered_ok (c.args.levels - 1) c.args.reader.strings c.args.reader.bytes.now c.args.reader.end c.args.at c.in_ok-name.name.value c.in_ok-pairs.pairs c.in_ok-pairs.place
    c.in_ok-count.count.value c.in_ok-count.count.end paired (integer_ok c.args.reader.bytes.now c.args.reader.end c.in_ok-pairs.place c.in_ok-count.count c.in_ok-count.ensures.exact) in
    rw (p.1, p.2) (carried (run (times c.in_ok-count.count.value (element_format (c.args.levels - 1) c.args.reader.strings)) c.args.reader.bytes.now c.args.reader.end c.in_ok-count.count.end)
    (whole c.args.levels) c.in_err-children.field-0.0 c.in_err-children.ensures.exact
    (λ w e. ap whole l ∙ element_err (c.args.levels - 1) c.args.reader.strings c.args.reader.bytes.now c.args.reader.end c.args.at c.in_ok-name.name.value c.in_ok-pairs.pairs c.in_ok-count.count.value
    c.in_ok-count.count.end w numbered e))

pub read_element-returns-clause-exact :
    goal.read_element-returns-clause-exact
read_element-returns-clause-exact t c =
    let l : c.args.levels ≡ suc (c.args.levels - 1) = omega arith in
    let whole = λ (z : ℕ). run (element_format z c.args.reader.strings) c.args.reader.bytes.now c.args.reader.end c.args.at in
    let named = named_ok (c.args.levels - 1) c.args.reader.strings c.args.reader.bytes.now c.args.reader.end c.args.at c.in_ok-name.name.value c.in_ok-name.name.end (sym c.in_ok-name.ensures.exact) in
    let counted = counted_ok (c.args.levels - 1) c.args.reader.strings c.args.reader.bytes.now c.args.reader.end c.args.at c.in_ok-name.name.value c.in_ok-name.name.end
    c.in_ok-attributes.attributes.value c.in_ok-attributes.attributes.end named
    (integer_ok c.args.reader.bytes.now c.args.reader.end c.in_ok-name.name.end c.in_ok-attributes.attributes c.in_ok-attributes.ensures.exact) in
    let paired = paired_ok (c.args.levels - 1) c.args.reader.strings c.args.reader.bytes.now c.args.reader.end c.args.at c.in_ok-name.name.value c.in_ok-attributes.attributes.value
    c.in_ok-attributes.attributes.end c.in_ok-pairs.pairs c.in_ok-pairs.place counted c.in_ok-pairs.ensures.exact in
    let numbered = numbered_ok (c.args.levels - 1) c.args.reader.strings c.args.reader.bytes.now c.args.reader.end c.args.at c.in_ok-name.name.value c.in_ok-pairs.pairs c.in_ok-pairs.place
    c.in_ok-count.count.value c.in_ok-count.count.end paired (integer_ok c.args.reader.bytes.now c.args.reader.end c.in_ok-pairs.place c.in_ok-count.count c.in_ok-count.ensures.exact) in
    ap whole l ∙ rw c.new.ensures (element_ok (c.args.levels - 1) c.args.reader.strings c.args.reader.bytes.now c.args.reader.end c.args.at c.in_ok-name.name.value c.in_ok-pairs.pairs
    c.in_ok-count.count.value c.in_ok-count.count.end c.in_ok-children.children c.in_ok-children.place numbered c.in_ok-children.ensures.exact)

pub read_elements-returns-in_err-element-clause-exact :
    goal.read_elements-returns-in_err-element-clause-exact
read_elements-returns-in_err-element-clause-exact t c =
    let p = err_from_is_err_and c.from_residual-in_err-element.result c.from_residual-in_err-element.ensures.1 in
    rw (p.1, p.2) (carried (run (element_format c.args.levels c.args.reader.strings) c.args.reader.bytes.now c.args.reader.end c.loop.place)
    (run (times c.args.count (element_format c.args.levels c.args.reader.strings)) c.args.reader.bytes.now c.args.reader.end c.args.at) c.in_err-element.field-0.0 c.in_err-element.ensures.exact
    (λ w e. reading_err (element_format c.args.levels c.args.reader.strings) c.args.reader.bytes.now c.args.reader.end c.args.at c.args.count c.loop.counter c.loop.place c.loop.elements w
    c.loop.invariant c.loop-test.true e))

pub read_elements-loop-preserved :
    goal.read_elements-loop-preserved
read_elements-loop-preserved t c =
    rw c.in_ok-push.ensures.ok (reading_next (element_format c.args.levels c.args.reader.strings) c.args.reader.bytes.now c.args.reader.end c.args.at c.args.count c.loop.counter c.loop.place
    c.loop.elements c.in_ok-element.element c.in_ok-element.next c.loop.invariant c.loop-test.true c.in_ok-element.ensures.exact (omega (arith, c.in_ok-element.ensures.range))
    (omega (arith, c.in_ok-element.ensures.range)))

pub read_elements-returns-clause-exact : goal.read_elements-returns-clause-exact
read_elements-returns-clause-exact t c = reading_end (element_format c.args.levels c.args.reader.strings) c.args.reader.bytes.now c.args.reader.end c.args.at c.args.count c.loop.counter c.loop.place
    c.loop.elements c.loop.invariant c.loop-test.false
