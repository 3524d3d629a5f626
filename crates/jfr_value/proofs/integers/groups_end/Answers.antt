use Rattle.std.specs.Prelude.{◌≡◌, Ok, ◌+◌, length}
use Rattle.std.proofs.Common.{arith, subst}
use Rattle.jfr_base.specs.Formats.{integer, run, end_or_flaw}
use Rattle.jfr_value.proofs.LastGroups.{last_there}
use Rattle.jfr_value.proofs.integers.groups_end.Goals as goal

pub returns-clause-exact : goal.returns-clause-exact
returns-clause-exact c =
    let x = c.args.bytes.now in
    let at = c.args.at in
    let m = c.groups_with_more in
    let z : at + 0 ≡ at = omega arith in
    subst (λ p. Ok (p + m.result + 1) ≡ end_or_flaw (run integer x (length x) p)) z
    (last_there x at (length x) c.last_groups.result 0 m.result c.last_groups.ensures (record { range = m.ensures.range; more = m.ensures.more; last = m.ensures.last })
    (omega (arith, m.ensures.range)) (omega (arith, m.ensures.range, c.requires.room)) (omega arith))
