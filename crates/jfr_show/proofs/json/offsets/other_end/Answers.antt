use Rattle.std.proofs.Common.{length, ap, arith, sym, ◌∙◌}
use Rattle.jfr_base.specs.Formats.{run, end_or_flaw}
use Rattle.jfr_value.specs.Reading.{value_format}
use Rattle.jfr_value.proofs.PartLaws.{end_seen}
use Rattle.jfr_show.proofs.json.offsets.other_end.Goals as goal

pub unreachable-requires : goal.unreachable-requires
unreachable-requires c =
    let p = c.args.chunk.now in
    let s = c.args.layout.now.shape in
    let t = c.requires.holds in
    let r = end_seen p.classes p.bytes s c.args.at (length p.bytes) t.0 c.requires.sound t.1 t.1.1.within (omega arith) in
    let e = c.end_of.ensures.exact ∙ (ap (λ z. end_or_flaw (run (value_format z s) c.bytes-bytes.result.now (length c.bytes-bytes.result.now) c.args.at)) c.classes.ensures
    ∙ (ap (λ z. end_or_flaw (run (value_format p.classes s) z (length z) c.args.at)) c.bytes-bytes.ensures.exact ∙ r)) in
    cc (sym c.in-Err.is ∙ e)

pub returns : goal.returns
returns c = λ to t.
    (let p = c.args.chunk.now in
    let s = c.args.layout.now.shape in
    let r = end_seen p.classes p.bytes s c.args.at (length p.bytes) to c.requires.sound t t.1.within (omega arith) in
    let e = c.end_of.ensures.exact ∙ (ap (λ z. end_or_flaw (run (value_format z s) c.bytes-bytes.result.now (length c.bytes-bytes.result.now) c.args.at)) c.classes.ensures
    ∙ (ap (λ z. end_or_flaw (run (value_format p.classes s) z (length z) c.args.at)) c.bytes-bytes.ensures.exact ∙ r)) in
    cc (sym c.in-Ok.is ∙ e))
