use Rattle.std.proofs.Common.{◌≡◌, ◌∙◌, ap, false}
use Rattle.std.specs.Str.{chars}
use Rattle.jfr_mask.specs.Pseudonyms.{has_text}
use Rattle.jfr_mask.proofs.FindLaws.{added_last}
use Rattle.jfr_mask.proofs.NumberLaws.{absent_found}
use Rattle.jfr_mask.proofs.dictionary.Dictionary.add.Goals as goal

pub returns-clause-number : goal.returns-clause-number
returns-clause-number c =
    let absent : has_text c.widen.new.self (chars c.args.text.now) ≡ false = ap (λ z. has_text z (chars c.args.text.now)) c.widen.ensures
    ∙ absent_found c.args.self.now (chars c.args.text.now) c.in_default.ensures in
    added_last c.append.result c.widen.new.self c.append.new.self (chars c.args.text.now) absent c.append.ensures.ok c.append.ensures.number
