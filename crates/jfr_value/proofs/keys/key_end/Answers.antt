use Rattle.std.proofs.Common.{IfOk, ap, sym, subst}
use Rattle.jfr_base.specs.Formats.{end_or_flaw}
use Rattle.jfr_value.proofs.SkipLaws.{key_is}
use Rattle.jfr_value.proofs.keys.key_end.Goals as goal

pub returns-in-Some-clause-exact : goal.returns-in-Some-clause-exact
returns-in-Some-clause-exact g c = sym (ap end_or_flaw (key_is c.args.walk.bytes.now c.args.at c.args.walk.end c.in-Some.integer c.in-Some.ensures.exact))

pub returns-in-Some-clause-visited : goal.returns-in-Some-clause-visited
returns-in-Some-clause-visited g c =
    subst (λ r. IfOk r (λ key. g.V.VisitKey.takes c.args.walk.with.now (record { class = c.args.class; key = key.value; at = c.args.at; end = key.place }) c.args.visitor.now c.visit_key.new.self))
    (sym (key_is c.args.walk.bytes.now c.args.at c.args.walk.end c.in-Some.integer c.in-Some.ensures.exact)) c.visit_key.ensures.takes
