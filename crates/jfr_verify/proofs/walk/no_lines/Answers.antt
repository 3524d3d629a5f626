use Rattle.std.proofs.Common.{◌≡◌, length, arith, ap, ◌∙◌}
use Rattle.jfr_verify.proofs.SizeLaws.{few_entries, few_events}
use Rattle.jfr_verify.proofs.walk.no_lines.Goals as goal

pub new-requires : goal.new-requires
new-requires c =
    let n : c.len.result ≡ length c.args.chunk.now.entries = c.len.ensures ∙ ap length c.pools.ensures in
    omega (arith, few_entries c.args.chunk.now c.bytes.ensures.whole c.bytes.ensures.parts)

pub returns-clause-few : goal.returns-clause-few
returns-clause-few c = omega (arith, few_events c.args.chunk.now c.bytes.ensures.whole c.bytes.ensures.parts)
