use Rattle.std.proofs.Common.{arith, map, ap, ◌∙◌}
use Rattle.std.proofs.lemmas.Result.{err_from_is_err_and}
use Rattle.jfr_meta.specs.Described.{field_of, field_flaws, field_elements}
use Rattle.jfr_meta.proofs.NameLaws.{numbered, numbers_push}
use Rattle.jfr_meta.proofs.Judging.{after_ref, judging_next, judging_err, judging_end, refs_end}
use Rattle.jfr_meta.proofs.class.read_fields.Goals as goal

pub read_field-requires : goal.read_field-requires
read_field-requires c = c.loop-element.invariant.1

pub returns-in_err-field-clause-judged : goal.returns-in_err-field-clause-judged
returns-in_err-field-clause-judged c =
    let same = ap (map (λ e. e.now)) c.deref-element-items.ensures.value ∙ c.in_ok-elements.ensures.ok in
    let p = err_from_is_err_and c.from_residual-in_err-field.result c.from_residual-in_err-field.ensures.1 in
    let fields = field_elements c.args.strings.now c.args.element.now in
    rw (p.1, p.2) (judging_err (field_flaws c.args.strings.now) (field_of c.args.strings.now) fields c.loop-element.element-index c.loop-element.fields c.element-item.result.now
    c.in_err-field.field-0.0 c.loop-element.invariant.0
    (after_ref c.deref-element-items.result.now fields c.loop-element.element-index c.element-item.result same (omega arith) c.element-item.is) c.in_err-field.ensures.judged)

pub loop-element-preserved : goal.loop-element-preserved
loop-element-preserved c =
    let same = ap (map (λ e. e.now)) c.deref-element-items.ensures.value ∙ c.in_ok-elements.ensures.ok in
    let texts = c.args.strings.now in
    let l = c.loop-element in
    let fields = field_elements texts c.args.element.now in
    let later = c.read_field.new.names in
    let read = c.in_ok-field in
    rw (c.in_ok-push.ensures.ok, c.in_ok-push-2.ensures.items) (
      judging_next (field_flaws texts) (field_of texts) fields l.element-index l.fields c.element-item.result.now read.field l.invariant.0
          (after_ref c.deref-element-items.result.now fields l.element-index c.element-item.result same (omega arith) c.element-item.is) read.ensures.judged read.ensures.ok,
      read.ensures.grow.numbers,
      numbers_push texts l.names later l.fields l.numbers.items read.field read.number l.invariant.2 read.ensures.grow read.ensures.number,
    )

pub returns-clause-ok : goal.returns-clause-ok
returns-clause-ok c =
    let same = ap (map (λ e. e.now)) c.deref-element-items.ensures.value ∙ c.in_ok-elements.ensures.ok in
    let fields = field_elements c.args.strings.now c.args.element.now in
    (judging_end (field_flaws c.args.strings.now) (field_of c.args.strings.now) fields c.loop-element.element-index c.loop-element.fields c.loop-element.invariant.0
    (refs_end c.deref-element-items.result.now fields c.loop-element.element-index same (omega arith))).0

pub returns-clause-judged : goal.returns-clause-judged
returns-clause-judged c =
    let same = ap (map (λ e. e.now)) c.deref-element-items.ensures.value ∙ c.in_ok-elements.ensures.ok in
    let fields = field_elements c.args.strings.now c.args.element.now in
    (judging_end (field_flaws c.args.strings.now) (field_of c.args.strings.now) fields c.loop-element.element-index c.loop-element.fields c.loop-element.invariant.0
    (refs_end c.deref-element-items.result.now fields c.loop-element.element-index same (omega arith))).1

pub returns-clause-numbered : goal.returns-clause-numbered
returns-clause-numbered c = numbered c.args.strings.now c.loop-element.names c.loop-element.fields c.loop-element.numbers.items c.loop-element.invariant.1 c.loop-element.invariant.2

pub returns-clause-names : goal.returns-clause-names
returns-clause-names c = c.loop-element.invariant.1
