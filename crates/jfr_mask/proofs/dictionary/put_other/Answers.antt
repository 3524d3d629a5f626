use Rattle.std.proofs.Common.{Some, cond, subst, ◌≡◌}
use Rattle.std.specs.Str.{bytes_eq}
use Rattle.jfr_mask.specs.Held.{number_under}
use Rattle.jfr_mask.proofs.MapLaws.{number_updated}
use Rattle.jfr_mask.proofs.dictionary.put_other.Goals as goal

pub returns-clause-ok : goal.returns-clause-ok
returns-clause-ok c = λ bytes.
    (let old = c.args.others.now in
    let new = c.insert.new.self in
    subst (λ z. number_under new bytes ≡ cond (bytes_eq z bytes) (Some c.args.number) (number_under old bytes)) c.in_ok-from_str.ensures.ok
    (number_updated old new c.in_ok-from_str.field-0 c.args.number c.in_ok-insert.ensures.updates bytes))
