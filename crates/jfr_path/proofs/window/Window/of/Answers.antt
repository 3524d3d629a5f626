use Rattle.std.proofs.Common.{rules, ap, ◌∙◌, ◌<◌, ◌^◌, ◌≡◌, FitsSigned, of_z, to_z, w64}
use Rattle.std.proofs.lemmas.Int.{to_z-of_z}
use Rattle.jfr_header.specs.declared.header.Header.{Header}
use Rattle.jfr_chunk.specs.Windows.{clock_of, signed}
use Rattle.jfr_path.proofs.TimeLaws.{signed_is}
use Rattle.jfr_path.proofs.WindowLaws.{between, empty_by, positive_by, until_same}
use Rattle.jfr_path.proofs.window.Window.of.Goals as goal

pub returns-then-rate-le0 : goal.returns-then-rate-le0
returns-then-rate-le0 c =
    let small : c.header-header.result.now.ticks_per_second < 2 ^ 64 = search rules in
    let fits : FitsSigned w64 c.signed-rate.result = search rules in
    let same = c.signed-rate.ensures ∙ (signed_is c.header-header.result.now.ticks_per_second small ∙ ap (λ (h : Header). signed h.ticks_per_second) c.header-header.ensures) in
    empty_by c.args.filter.now c.args.chunk.now c.signed-rate.result fits same c.if-rate-le0.true

pub returns : goal.returns
returns c =
    let h = c.header-header.result.now in
    let small_rate : h.ticks_per_second < 2 ^ 64 = search rules in
    let small_nanos : h.start_nanos < 2 ^ 64 = search rules in
    let small_ticks : h.start_ticks < 2 ^ 64 = search rules in
    let fits_rate : FitsSigned w64 c.signed-rate.result = search rules in
    let fits_nanos : FitsSigned w64 c.signed-nanos.result = search rules in
    let fits_ticks : FitsSigned w64 c.signed.result = search rules in
    let k = clock_of c.args.chunk.now.bytes in
    let rate : c.signed-rate.result ≡ k.rate = c.signed-rate.ensures ∙ (signed_is h.ticks_per_second small_rate ∙ ap (λ (h : Header). signed h.ticks_per_second) c.header-header.ensures) in
    let nanos : c.signed-nanos.result ≡ k.nanos = c.signed-nanos.ensures ∙ (signed_is h.start_nanos small_nanos ∙ ap (λ (h : Header). signed h.start_nanos) c.header-header.ensures) in
    let ticks : c.signed.result ≡ k.ticks = c.signed.ensures ∙ (signed_is h.start_ticks small_ticks ∙ ap (λ (h : Header). signed h.start_ticks) c.header-header.ensures) in
    let nanos_read = to_z-of_z w64 c.signed-nanos.result fits_nanos ∙ nanos in
    let rate_read = to_z-of_z w64 c.signed-rate.result fits_rate ∙ rate in
    between c.args.filter.now c.args.chunk.now _ c.billionths_until.result c.billionths_until-2.result
    (positive_by c.args.filter.now c.args.chunk.now c.signed-rate.result fits_rate rate c.if-rate-le0.false)
    (to_z-of_z w64 c.signed.result fits_ticks ∙ ticks)
    (until_same c.args.chunk.now c.from.result c.args.filter.now.from (to_z w64 (of_z w64 c.signed-nanos.result))
    (to_z w64 (of_z w64 c.signed-rate.result)) c.billionths_until.result c.billionths_until.ensures c.from.ensures nanos_read rate_read)
    (until_same c.args.chunk.now c.to.result c.args.filter.now.to (to_z w64 (of_z w64 c.signed-nanos.result))
    (to_z w64 (of_z w64 c.signed-rate.result)) c.billionths_until-2.result c.billionths_until-2.ensures c.to.ensures nanos_read rate_read)
