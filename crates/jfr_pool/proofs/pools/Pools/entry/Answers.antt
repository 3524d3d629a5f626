use Rattle.std.proofs.Common.{sym, ap, ◌∙◌}
use Rattle.jfr_pool.specs.Tables.{last_number}
use Rattle.jfr_pool.specs.Entries.{number_in_force}
use Rattle.jfr_pool.proofs.TableLaws.{less_one}
use Rattle.jfr_pool.proofs.pools.Pools.entry.Goals as goal

pub returns-in-Some-eq0 : goal.returns-in-Some-eq0
returns-in-Some-eq0 c =
    ap last_number (sym c.in-Some-eq0.field-0-test)
    ∙ c.self.invariant.1.all (c.args.class, c.args.key) c.in-Some-eq0.field-0 (sym c.ordinal.ensures ∙ c.in-Some-eq0.is)
    ∙ ap (λ es. number_in_force es (c.args.class, c.args.key)) c.self.view_is

pub returns-in-Some : goal.returns-in-Some
returns-in-Some c =
    less_one c.in-Some.ordinal c.in-Some.ordinal-test.1
    ∙ c.self.invariant.1.all (c.args.class, c.args.key) c.in-Some.ordinal (sym c.ordinal.ensures ∙ c.in-Some.is)
    ∙ ap (λ es. number_in_force es (c.args.class, c.args.key)) c.self.view_is
