use Rattle.std.proofs.Common.{◌∙◌, ap}
use Rattle.std.proofs.lemmas.Str.{chars-nil}
use Rattle.jfr_layout.specs.Names.{value_under}
use Rattle.jfr_verify.proofs.StringLaws.{numbers_are}
use Rattle.jfr_verify.proofs.strings.Numbers.new.Goals as goal

pub invariant_of-result : goal.invariant_of-result
invariant_of-result c = record {
  numbers = numbers_are c.args.one.now c.args.other.now c.in_ok-firsts.firsts c.in_ok-of_one.of_one.items c.in_ok-of_other.of_other.items c.number_of-of_empty.result
      c.in_ok-firsts.ensures c.in_ok-of_one.ensures c.in_ok-of_other.ensures (c.number_of-of_empty.ensures ∙ ap (value_under c.in_ok-firsts.firsts) chars-nil);
}
