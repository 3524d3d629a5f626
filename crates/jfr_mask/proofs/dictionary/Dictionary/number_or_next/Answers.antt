use Rattle.std.proofs.Common.{◌+◌, ap, length, sym, ◌∙◌}
use Rattle.std.specs.Str.{chars}
use Rattle.jfr_mask.proofs.NumberLaws.{absent_found, number_absent}
use Rattle.jfr_mask.proofs.dictionary.Dictionary.number_or_next.Goals as goal

pub returns-in-None : goal.returns-in-None
returns-in-None c = ap (λ n. n + 1) (c.len.ensures.length ∙ ap length c.self.view_is)
    ∙ sym (number_absent c.args.self.now (chars c.args.text.now) (absent_found c.args.self.now (chars c.args.text.now) c.in-None.ensures))
