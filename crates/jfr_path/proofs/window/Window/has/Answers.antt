use Rattle.std.proofs.Common.{rules, ◌∙◌, FitsSigned, w64}
use Rattle.std.proofs.lemmas.Int.{to_z-of_z}
use Rattle.jfr_path.proofs.WindowLaws.{ends_before, since_is, starts_within, sum_fits, until_is}
use Rattle.jfr_path.proofs.window.Window.has.Goals as goal

pub overflow_add-until : goal.overflow_add-until
overflow_add-until c =
    let f : FitsSigned w64 c.in-Between.first = search rules in
    let start = c.from.ensures ∙ to_z-of_z w64 c.args.start c.ranges.start in
    let first = c.from-in-Between.ensures ∙ to_z-of_z w64 c.in-Between.first f in
    let duration = c.from-in-Between-2.ensures ∙ to_z-of_z w64 c.args.duration c.ranges.duration in
    sum_fits c.from.result c.from-in-Between.result c.from-in-Between-2.result c.args.start c.in-Between.first c.args.duration start first duration c.ranges.start f c.ranges.duration

pub returns-then-not-ends_from : goal.returns-then-not-ends_from
returns-then-not-ends_from c =
    let f : FitsSigned w64 c.in-Between.first = search rules in
    let start = c.from.ensures ∙ to_z-of_z w64 c.args.start c.ranges.start in
    let first = c.from-in-Between.ensures ∙ to_z-of_z w64 c.in-Between.first f in
    let duration = c.from-in-Between-2.ensures ∙ to_z-of_z w64 c.args.duration c.ranges.duration in
    ends_before c.args.self.now c.in-Between.first c.args.start c.args.duration c.in-Between.from c.in-Between.to c.in-Between.is c.ends_from.result c.ends_from.ensures c.if-not-ends_from.true
    (until_is c.from.result c.from-in-Between.result c.from-in-Between-2.result c.args.start c.in-Between.first c.args.duration start first duration c.ranges.start f c.ranges.duration)

pub returns-else-not-ends_from : goal.returns-else-not-ends_from
returns-else-not-ends_from c =
    let f : FitsSigned w64 c.in-Between.first = search rules in
    let start = c.from.ensures ∙ to_z-of_z w64 c.args.start c.ranges.start in
    let first = c.from-in-Between.ensures ∙ to_z-of_z w64 c.in-Between.first f in
    let duration = c.from-in-Between-2.ensures ∙ to_z-of_z w64 c.args.duration c.ranges.duration in
    starts_within c.args.self.now c.in-Between.first c.args.start c.args.duration c.in-Between.from c.in-Between.to c.in-Between.is c.ends_from.result c.starts_before.result c.ends_from.ensures
    c.if-not-ends_from.false
    (until_is c.from.result c.from-in-Between.result c.from-in-Between-2.result c.args.start c.in-Between.first c.args.duration start first duration c.ranges.start f c.ranges.duration)
    c.starts_before.ensures (since_is c.from.result c.from-in-Between.result c.from-in-Between-2.result c.args.start c.in-Between.first c.args.duration start first duration c.ranges.start f
    c.ranges.duration)
