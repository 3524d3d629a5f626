use Rattle.std.specs.Prelude.{length, slice_get}
use Rattle.std.proofs.Common.{arith, ap, ◌∙◌}
use Rattle.jfr_verify.proofs.EventLaws.{record_stands}
use Rattle.jfr_verify.proofs.events.content_at.Goals as goal

pub end-requires : goal.end-requires
end-requires c = (record_stands c.args.chunk.now c.args.number c.in_ok-record.record c.in_ok-frame.frame c.bytes.ensures.whole c.bytes.ensures.parts c.in_ok-record.ensures
    (c.in_ok-frame.ensures ∙ ap (λ z. slice_get z c.in_ok-record.record) c.frames.ensures)).small

pub range-requires : goal.range-requires
range-requires c =
    let s = record_stands c.args.chunk.now c.args.number c.in_ok-record.record c.in_ok-frame.frame c.bytes.ensures.whole c.bytes.ensures.parts c.in_ok-record.ensures
    (c.in_ok-frame.ensures ∙ ap (λ z. slice_get z c.in_ok-record.record) c.frames.ensures) in
    record { order = omega (arith, s.order, c.end.ensures); within = omega (arith, s.within, c.end.ensures, ap length c.bytes.ensures.exact) }
