use Rattle.std.proofs.Common.{◌+◌, ◌*◌, ap, arith, drop, sym, ◌∙◌}
use Rattle.jfr_build.specs.LeafWords.{hex_bytes, hex_of}
use Rattle.jfr_build.proofs.WordLaws.{bytes_before, hex_goes, hex_none, hex_stops}
use Rattle.jfr_build.proofs.leaf.push_hex.Goals as goal

pub returns-in_default : goal.returns-in_default
returns-in_default c =
    let bytes = c.as_bytes-bytes.result.now in
    let stops = hex_stops c.loop-i.out.items bytes (2 + 2 * c.loop-i.i) (3 + 2 * c.loop-i.i) (omega arith) (omega (arith, c.loop-i-test.true, c.if-bytes-count.false))
    (sym c.hex_byte.ensures ∙ c.in_default.is) in
    ap (hex_of c.args.count) (sym c.as_bytes-bytes.ensures.value) ∙ hex_none c.args.count bytes c.args.out.now.items c.if-bytes-count.false c.if-bytes-ne48.false c.if-bytes-ne120.false
    (sym stops ∙ c.loop-i.invariant)

pub loop-i-preserved : goal.loop-i-preserved
loop-i-preserved c =
    let bytes = c.as_bytes-bytes.result.now in
    let goes = hex_goes c.loop-i.out.items bytes (2 + 2 * c.loop-i.i) (3 + 2 * c.loop-i.i) (2 + 2 * (c.loop-i.i + 1)) c.in-Some.byte (omega arith) (omega arith)
    (omega (arith, c.loop-i-test.true, c.if-bytes-count.false)) (sym c.hex_byte.ensures ∙ c.in-Some.is) in
    ap (λ z. bytes_before z (hex_bytes (drop (2 + 2 * (c.loop-i.i + 1)) bytes))) c.in_ok-push.ensures.items ∙ (sym goes ∙ c.loop-i.invariant)
