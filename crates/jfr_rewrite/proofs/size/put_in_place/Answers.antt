use Rattle.std.proofs.Common.{◌≡◌, ◌+◌, ◌-◌, ◌++◌, ap, arith, drop, length, set, sym, take, ◌∙◌}
use Rattle.jfr_base.specs.Integer.{spell_in}
use Rattle.jfr_rewrite.proofs.SizeLaws.{size_put}
use Rattle.jfr_rewrite.proofs.size.put_in_place.Goals as goal

pub returns-then-count-eq1 : goal.returns-then-count-eq1
returns-then-count-eq1 c =
    let xs = c.args.out.now.items in
    let from = c.args.from in
    let size = length xs - from in
    let one = c.if-count-eq1.true in
    let n : c.len.result ≡ length xs = c.len.ensures ∙ c.args.out.now.ok.0 in
    ap (λ z. set xs from (z - from)) n ∙ (size_put xs from size (omega (arith, one, c.requires.within)) ∙ ap (λ z. take from xs ++ (spell_in z size ++ drop (from + z) xs)) (sym one))
