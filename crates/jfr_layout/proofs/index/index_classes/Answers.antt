use Rattle.std.proofs.Common.{sym, ◌∙◌, arith, subst, rules, ◌<◌, length, ap}
use Rattle.std.proofs.lemmas.Result.{err_from_is_err_and}
use Rattle.jfr_layout.proofs.IdsSeen.{ids_next, ids_tell, ids_names_tell}
use Rattle.jfr_layout.proofs.Lists.{listed_at}
use Rattle.jfr_layout.specs.Names.{AreNumbered}
use Rattle.jfr_layout.proofs.NamesSeen.{are_numbers_of, numbers_within}
use Rattle.jfr_layout.proofs.index.index_classes.Goals as goal

pub offset_bounds-numbers-at : goal.offset_bounds-numbers-at
offset_bounds-numbers-at c =
    let there = listed_at c.as_slice-class-items.ensures c.loop-at.at c.class-item.result (omega arith) c.class-item.is in
    let within : c.loop-at.at < length c.args.numbers.now = numbers_within c.args.list.now c.args.numbers.now c.loop-at.at c.class-item.result c.requires.numbered there in
    search (rules, within)

pub bounds-numbers-at : goal.bounds-numbers-at
bounds-numbers-at c =
    let there = listed_at c.as_slice-class-items.ensures c.loop-at.at c.class-item.result (omega arith) c.class-item.is in
    numbers_within c.args.list.now c.args.numbers.now c.loop-at.at c.class-item.result c.requires.numbered there

pub check_names-requires : goal.check_names-requires
check_names-requires c =
    let there = listed_at c.as_slice-class-items.ensures c.loop-at.at c.class-item.result (omega arith) c.class-item.is in
    subst (AreNumbered c.class-item.result.fields) (sym c.deref.ensures.value)
    (are_numbers_of c.args.list.now c.args.numbers.now c.loop-at.at c.class-item.result c.index-numbers-at.result _ c.requires.numbered there c.index-numbers-at.is)

pub returns-then-branch-clause-judged : goal.returns-then-branch-clause-judged
returns-then-branch-clause-judged c =
    let there = listed_at c.as_slice-class-items.ensures c.loop-at.at c.class-item.result (omega arith) c.class-item.is in
    ids_tell c.args.list.now c.loop-at.at c.loop-at.index c.class-item.result
    c.loop-at.invariant there (sym c.in_ok-insert.ensures.used ∙ c.if-branch.true)

pub returns-in_err-check_names-clause-judged : goal.returns-in_err-check_names-clause-judged
returns-in_err-check_names-clause-judged c =
    let there = listed_at c.as_slice-class-items.ensures c.loop-at.at c.class-item.result (omega arith) c.class-item.is in
    let p = err_from_is_err_and c.from_residual-in_err-check_names.result c.from_residual-in_err-check_names.ensures.1 in rw (p.1, p.2)
    (ids_names_tell c.args.list.now c.loop-at.at c.loop-at.index c.class-item.result c.in_err-check_names.field-0.0
    c.loop-at.invariant there (sym c.in_ok-insert.ensures.used ∙ c.if-branch.false)
    c.in_err-check_names.ensures)

pub loop-at-preserved : goal.loop-at-preserved
loop-at-preserved c =
    let there = listed_at c.as_slice-class-items.ensures c.loop-at.at c.class-item.result (omega arith) c.class-item.is in
    ids_next c.args.list.now c.loop-at.at c.loop-at.index c.insert.new.self c.class-item.result
    c.loop-at.invariant there (omega (arith, ap length c.as_slice-class-items.ensures)) (sym c.in_ok-insert.ensures.used ∙ c.if-branch.false)
    c.in_ok-insert.ensures.indices c.in_ok-check_names.ensures
