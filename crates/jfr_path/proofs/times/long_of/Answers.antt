use Rattle.std.proofs.Common.{rules, ap, sym, ◌∙◌, ◌<◌, ◌^◌, Some, FitsSigned, w64}
use Rattle.std.proofs.lemmas.Int.{to_z-of_z}
use Rattle.jfr_path.proofs.TimeLaws.{long_is, long_there}
use Rattle.jfr_path.proofs.times.long_of.Goals as goal

pub known_integer-number-requires-clause-known : goal.known_integer-number-requires-clause-known
known_integer-number-requires-clause-known c =
    long_there c.args.chunk.now c.args.node.now c.requires.value c.requires.of_chunk c.if-node.false c.if-node-2.false c.classes.result.now c.classes.ensures
    (ap (λ z. Some z) (sym c.in-Long.is) ∙ (sym c.in_ok-kind.was ∙ c.kind.ensures))

pub returns-in-Long : goal.returns-in-Long
returns-in-Long c =
    let number = c.known_integer-number.result in
    let small : number.value < 2 ^ 64 = search rules in
    let fits : FitsSigned w64 c.signed.result = search rules in
    ap (λ z. Some z) (to_z-of_z w64 c.signed.result fits ∙ c.signed.ensures)
    ∙ long_is c.args.chunk.now c.args.node.now c.requires.value c.requires.of_chunk c.if-node.false c.if-node-2.false c.classes.result.now c.classes.ensures
    (ap (λ z. Some z) (sym c.in-Long.is) ∙ (sym c.in_ok-kind.was ∙ c.kind.ensures)) number small c.known_integer-number.ensures.exact
