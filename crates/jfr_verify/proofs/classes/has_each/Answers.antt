use Rattle.std.proofs.Common.{arith, sym, ◌∙◌}
use Rattle.std.proofs.lemmas.Slice.Zip.{AllZip-long}
use Rattle.jfr_meta.specs.Described.{IsNamedBy}
use Rattle.jfr_verify.proofs.ClassLaws.{has_found, has_end, not_found, not_same}
use Rattle.jfr_verify.proofs.NamedLaws.{zip_fact}
use Rattle.jfr_verify.proofs.classes.has_each.Goals as goal

pub at-class-requires-clause-names : goal.at-class-requires-clause-names
at-class-requires-clause-names c = AllZip-long (IsNamedBy c.args.numbers.now.other.now) c.args.b.classes.now c.args.b.names.now c.requires.b

pub returns-in_default : goal.returns-in_default
returns-in_default c = not_found c.args.a.classes.now c.args.b.classes.now c.index_of.ensures.sound c.loop-number.number c.at-class.result.class.now c.at-class.ensures.class
    (sym c.in_default.ensures.class)

pub at-requires-clause-names : goal.at-requires-clause-names
at-requires-clause-names c = AllZip-long (IsNamedBy c.args.numbers.now.one.now) c.args.a.classes.now c.args.a.names.now c.requires.a

pub same_class-requires-clause-one : goal.same_class-requires-clause-one
same_class-requires-clause-one c = zip_fact (IsNamedBy c.args.numbers.now.one.now) c.args.a.classes.now c.args.a.names.now c.in-Some.index c.at.result.class.now c.at.result.names.now c.requires.a
    c.at.ensures.class c.at.ensures.names

pub same_class-requires-clause-other : goal.same_class-requires-clause-other
same_class-requires-clause-other c = zip_fact (IsNamedBy c.args.numbers.now.other.now) c.args.b.classes.now c.args.b.names.now c.loop-number.number c.at-class.result.class.now
    c.at-class.result.names.now c.requires.b c.at-class.ensures.class c.at-class.ensures.names

pub returns-then-not-same_class : goal.returns-then-not-same_class
returns-then-not-same_class c = not_same c.args.a.classes.now c.args.b.classes.now c.index_of.ensures.sound c.loop-number.number c.at-class.result.class.now c.at.result.class.now
    c.at-class.ensures.class (sym c.in-Some.ensures.class ∙ c.at.ensures.class) c.if-not-same_class.ensures

pub loop-number-preserved : goal.loop-number-preserved
loop-number-preserved c = has_found c.args.a.classes.now c.args.b.classes.now c.loop-number.number c.at-class.result.class.now c.at.result.class.now c.loop-number.invariant c.at-class.ensures.class
    (sym c.in-Some.ensures.class ∙ c.at.ensures.class) c.if-not-same_class.ensures

pub returns : goal.returns
returns c = has_end c.args.a.classes.now c.args.b.classes.now c.loop-number.number (omega (arith, c.len-number-end.ensures.exact, c.loop-number-test.false)) c.loop-number.invariant
