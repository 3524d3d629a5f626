use Rattle.std.proofs.Common.{map, refl, arith}
use Rattle.std.proofs.lemmas.Result.{err_from_is_err_and}
use Rattle.jfr_layout.specs.Names.{AreNumbered}
use Rattle.jfr_layout.proofs.Lists.{zip_push}
use Rattle.jfr_meta.specs.Described.{class_of, class_flaws, heads, classes_of}
use Rattle.jfr_meta.proofs.Judging.{after_ref, judging_next, judging_err, judging_end, refs_end}
use Rattle.jfr_meta.proofs.class.read_classes.Goals as goal

pub read_class-requires : goal.read_class-requires
read_class-requires c = c.loop-element.invariant.1

pub returns-in_err-class-clause-judged : goal.returns-in_err-class-clause-judged
returns-in_err-class-clause-judged c =
    let p = err_from_is_err_and c.from_residual-in_err-class.result c.from_residual-in_err-class.ensures.1 in
    let ts = map (λ e. e.now) c.args.elements.now in
    let l = c.loop-element in
    rw (p.1, p.2) (judging_err (class_flaws c.args.strings.now) (class_of c.args.strings.now (heads c.args.strings.now ts)) ts l.element-index l.classes c.element-item.result.now
    c.in_err-class.field-0.0 l.invariant.0
    (after_ref c.args.elements.now ts l.element-index c.element-item.result refl (omega arith) c.element-item.is) c.in_err-class.ensures.judged)

pub loop-element-preserved : goal.loop-element-preserved
loop-element-preserved c =
    let texts = c.args.strings.now in
    let ts = map (λ e. e.now) c.args.elements.now in
    let l = c.loop-element in
    let read = c.in_ok-class in
    rw (c.in_ok-push.ensures.ok, c.in_ok-push-2.ensures.items) (
      judging_next (class_flaws texts) (class_of texts (heads texts ts)) ts l.element-index l.classes c.element-item.result.now read.class l.invariant.0
          (after_ref c.args.elements.now ts l.element-index c.element-item.result refl (omega arith) c.element-item.is) read.ensures.judged (read.ensures.ok (heads texts ts) c.in_ok-ids.ensures.ok),
      read.ensures.names,
      zip_push (λ c ns. AreNumbered c.fields ns.items) l.classes l.numbers.items read.class read.of_fields l.invariant.2 read.ensures.numbered,
    )

pub returns-clause-ok : goal.returns-clause-ok
unfolding classes_of
returns-clause-ok c =
    let ts = map (λ e. e.now) c.args.elements.now in
    let l = c.loop-element in
    (judging_end (class_flaws c.args.strings.now) (class_of c.args.strings.now (heads c.args.strings.now ts)) ts l.element-index l.classes l.invariant.0
    (refs_end c.args.elements.now ts l.element-index refl (omega arith))).0

pub returns-clause-judged : goal.returns-clause-judged
returns-clause-judged c =
    let ts = map (λ e. e.now) c.args.elements.now in
    let l = c.loop-element in
    (judging_end (class_flaws c.args.strings.now) (class_of c.args.strings.now (heads c.args.strings.now ts)) ts l.element-index l.classes l.invariant.0
    (refs_end c.args.elements.now ts l.element-index refl (omega arith))).1

pub returns-clause-numbered : goal.returns-clause-numbered
returns-clause-numbered c = c.loop-element.invariant.2
