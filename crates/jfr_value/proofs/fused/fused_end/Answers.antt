use Rattle.std.proofs.Common.{ap, arith, ◌∙◌, ◌+◌}
use Rattle.std.specs.Prelude.{Ok}
use Rattle.jfr_layout.specs.Classes.{IsFieldLayout}
use Rattle.jfr_layout.specs.Fused.{passed_by}
use Rattle.jfr_value.specs.declared.walk.TheConstants.{INNER_LEVELS}
use Rattle.jfr_value.proofs.FusedLaws.{all_passed, integer_alone, integers_seen, integers_taken, key_seen, key_taken, raw_seen, raw_taken, text_seen, text_taken_all}
use Rattle.jfr_value.proofs.fused.fused_end.Goals as goal

pub returns-in-OneInteger-clause-exact : goal.returns-in-OneInteger-clause-exact
returns-in-OneInteger-clause-exact g c =
    let layouts = c.args.class_layout.now.layouts.items in
    let fused = c.args.fused.now in
    c.integer_end.ensures.exact ∙ integer_alone c.args.walk.classes.now INNER_LEVELS c.args.walk.bytes.now c.args.walk.end (passed_by layouts fused) c.args.at
    (all_passed (IsFieldLayout c.args.walk.classes.now) layouts fused c.requires.layouts) (rw c.in-OneInteger.is at c.requires.fused.passes)

pub returns-in-OneInteger-clause-visited : goal.returns-in-OneInteger-clause-visited
returns-in-OneInteger-clause-visited g c =
    let layouts = c.args.class_layout.now.layouts.items in
    let fused = c.args.fused.now in
    integers_taken c.args.walk.classes.now INNER_LEVELS c.args.walk.bytes.now c.args.walk.end (g.V.VisitKey.takes c.args.walk.with.now) c.args.walk.within 1 (passed_by layouts fused) c.args.at
    c.args.visitor.now c.requires.order
    (all_passed (IsFieldLayout c.args.walk.classes.now) layouts fused c.requires.layouts) (rw c.in-OneInteger.is at c.requires.fused.passes)

pub returns-in-TwoIntegers-clause-exact : goal.returns-in-TwoIntegers-clause-exact
returns-in-TwoIntegers-clause-exact g c =
    let layouts = c.args.class_layout.now.layouts.items in
    let fused = c.args.fused.now in
    c.integers_end.ensures.exact ∙ integers_seen c.args.walk.classes.now INNER_LEVELS c.args.walk.bytes.now c.args.walk.end 2 (passed_by layouts fused) c.args.at
    (all_passed (IsFieldLayout c.args.walk.classes.now) layouts fused c.requires.layouts) (rw c.in-TwoIntegers.is at c.requires.fused.passes)

pub returns-in-TwoIntegers-clause-visited : goal.returns-in-TwoIntegers-clause-visited
returns-in-TwoIntegers-clause-visited g c =
    let layouts = c.args.class_layout.now.layouts.items in
    let fused = c.args.fused.now in
    integers_taken c.args.walk.classes.now INNER_LEVELS c.args.walk.bytes.now c.args.walk.end (g.V.VisitKey.takes c.args.walk.with.now) c.args.walk.within 2 (passed_by layouts fused) c.args.at
    c.args.visitor.now c.requires.order
    (all_passed (IsFieldLayout c.args.walk.classes.now) layouts fused c.requires.layouts) (rw c.in-TwoIntegers.is at c.requires.fused.passes)

pub returns-in-ThreeIntegers-clause-exact : goal.returns-in-ThreeIntegers-clause-exact
returns-in-ThreeIntegers-clause-exact g c =
    let layouts = c.args.class_layout.now.layouts.items in
    let fused = c.args.fused.now in
    c.integers_end-in-ThreeIntegers.ensures.exact ∙ integers_seen c.args.walk.classes.now INNER_LEVELS c.args.walk.bytes.now c.args.walk.end 3 (passed_by layouts fused) c.args.at
    (all_passed (IsFieldLayout c.args.walk.classes.now) layouts fused c.requires.layouts) (rw c.in-ThreeIntegers.is at c.requires.fused.passes)

pub returns-in-ThreeIntegers-clause-visited : goal.returns-in-ThreeIntegers-clause-visited
returns-in-ThreeIntegers-clause-visited g c =
    let layouts = c.args.class_layout.now.layouts.items in
    let fused = c.args.fused.now in
    integers_taken c.args.walk.classes.now INNER_LEVELS c.args.walk.bytes.now c.args.walk.end (g.V.VisitKey.takes c.args.walk.with.now) c.args.walk.within 3 (passed_by layouts fused) c.args.at
    c.args.visitor.now c.requires.order
    (all_passed (IsFieldLayout c.args.walk.classes.now) layouts fused c.requires.layouts) (rw c.in-ThreeIntegers.is at c.requires.fused.passes)

pub returns-in-FourIntegers-clause-exact : goal.returns-in-FourIntegers-clause-exact
returns-in-FourIntegers-clause-exact g c =
    let layouts = c.args.class_layout.now.layouts.items in
    let fused = c.args.fused.now in
    c.integers_end-in-FourIntegers.ensures.exact ∙ integers_seen c.args.walk.classes.now INNER_LEVELS c.args.walk.bytes.now c.args.walk.end 4 (passed_by layouts fused) c.args.at
    (all_passed (IsFieldLayout c.args.walk.classes.now) layouts fused c.requires.layouts) (rw c.in-FourIntegers.is at c.requires.fused.passes)

pub returns-in-FourIntegers-clause-visited : goal.returns-in-FourIntegers-clause-visited
returns-in-FourIntegers-clause-visited g c =
    let layouts = c.args.class_layout.now.layouts.items in
    let fused = c.args.fused.now in
    integers_taken c.args.walk.classes.now INNER_LEVELS c.args.walk.bytes.now c.args.walk.end (g.V.VisitKey.takes c.args.walk.with.now) c.args.walk.within 4 (passed_by layouts fused) c.args.at
    c.args.visitor.now c.requires.order
    (all_passed (IsFieldLayout c.args.walk.classes.now) layouts fused c.requires.layouts) (rw c.in-FourIntegers.is at c.requires.fused.passes)

pub returns-in-Raw-clause-exact : goal.returns-in-Raw-clause-exact
returns-in-Raw-clause-exact g c =
    let layouts = c.args.class_layout.now.layouts.items in
    let fused = c.args.fused.now in
    ap (λ n. Ok (c.args.at + n)) c.from-in-Raw.ensures
    ∙ raw_seen c.args.walk.classes.now INNER_LEVELS c.args.walk.bytes.now c.args.walk.end (passed_by layouts fused) c.in-Raw.count c.args.at
    (all_passed (IsFieldLayout c.args.walk.classes.now) layouts fused c.requires.layouts) (rw c.in-Raw.is at c.requires.fused.passes)
    (omega (arith, c.if-from-walk.true, c.from-in-Raw-1.ensures, c.requires.order))

pub returns-in-Raw-clause-visited : goal.returns-in-Raw-clause-visited
returns-in-Raw-clause-visited g c =
    let layouts = c.args.class_layout.now.layouts.items in
    let fused = c.args.fused.now in
    raw_taken c.args.walk.classes.now INNER_LEVELS c.args.walk.bytes.now c.args.walk.end (g.V.VisitKey.takes c.args.walk.with.now) c.args.walk.within (passed_by layouts fused) c.in-Raw.count
    c.args.at c.args.visitor.now c.requires.order
    (all_passed (IsFieldLayout c.args.walk.classes.now) layouts fused c.requires.layouts) (rw c.in-Raw.is at c.requires.fused.passes)

pub returns-in-Key-clause-exact : goal.returns-in-Key-clause-exact
returns-in-Key-clause-exact g c =
    let layouts = c.args.class_layout.now.layouts.items in
    let fused = c.args.fused.now in
    c.key_end.ensures.exact
    ∙ key_seen c.args.walk.classes.now INNER_LEVELS c.args.walk.bytes.now c.args.walk.end c.in-Key.class (passed_by layouts fused) c.args.at
    (all_passed (IsFieldLayout c.args.walk.classes.now) layouts fused c.requires.layouts) (rw c.in-Key.is at c.requires.fused.passes)

pub returns-in-Key-clause-visited : goal.returns-in-Key-clause-visited
returns-in-Key-clause-visited g c =
    let layouts = c.args.class_layout.now.layouts.items in
    let fused = c.args.fused.now in
    key_taken c.args.walk.classes.now INNER_LEVELS c.args.walk.bytes.now c.args.walk.end (g.V.VisitKey.takes c.args.walk.with.now) c.args.walk.within c.in-Key.class
    (passed_by layouts fused) c.args.at c.args.visitor.now c.key_end.new.visitor c.requires.order
    (all_passed (IsFieldLayout c.args.walk.classes.now) layouts fused c.requires.layouts) (rw c.in-Key.is at c.requires.fused.passes) c.key_end.ensures.visited

pub returns-in-Text-clause-exact : goal.returns-in-Text-clause-exact
returns-in-Text-clause-exact g c =
    let layouts = c.args.class_layout.now.layouts.items in
    let fused = c.args.fused.now in
    c.text_end.ensures.exact
    ∙ text_seen c.args.walk.classes.now INNER_LEVELS c.args.walk.bytes.now c.args.walk.end c.in-Text.class (passed_by layouts fused) c.args.at
    (all_passed (IsFieldLayout c.args.walk.classes.now) layouts fused c.requires.layouts) (rw c.in-Text.is at c.requires.fused.passes)

pub returns-in-Text-clause-visited : goal.returns-in-Text-clause-visited
returns-in-Text-clause-visited g c =
    let layouts = c.args.class_layout.now.layouts.items in
    let fused = c.args.fused.now in
    text_taken_all c.args.walk.classes.now INNER_LEVELS c.args.walk.bytes.now c.args.walk.end (g.V.VisitKey.takes c.args.walk.with.now) c.args.walk.within c.in-Text.class
    (passed_by layouts fused) c.args.at c.args.visitor.now c.text_end.new.visitor c.requires.order
    (all_passed (IsFieldLayout c.args.walk.classes.now) layouts fused c.requires.layouts) (rw c.in-Text.is at c.requires.fused.passes) c.text_end.ensures.visited

pub returns-in-EventPrelude-clause-exact : goal.returns-in-EventPrelude-clause-exact
returns-in-EventPrelude-clause-exact g c =
    let layouts = c.args.class_layout.now.layouts.items in
    let fused = c.args.fused.now in
    c.prelude_end.ensures.exact c.args.walk.classes.now INNER_LEVELS (passed_by layouts fused) (all_passed (IsFieldLayout c.args.walk.classes.now) layouts fused c.requires.layouts)
    (rw (c.from.ensures, c.from-in-EventPrelude.ensures) (rw c.in-EventPrelude.is at c.requires.fused.passes))

pub returns-in-EventPrelude-clause-visited : goal.returns-in-EventPrelude-clause-visited
returns-in-EventPrelude-clause-visited g c =
    let layouts = c.args.class_layout.now.layouts.items in
    let fused = c.args.fused.now in
    c.prelude_end.ensures.visited c.args.walk.classes.now INNER_LEVELS (passed_by layouts fused) (all_passed (IsFieldLayout c.args.walk.classes.now) layouts fused c.requires.layouts)
    (rw (c.from.ensures, c.from-in-EventPrelude.ensures) (rw c.in-EventPrelude.is at c.requires.fused.passes))
