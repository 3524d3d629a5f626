use Rattle.std.proofs.Common.{◌≡◌, ◌<◌, ◌^◌, ◌++◌, length, drop, sym, List, ℕ, ◌∙◌, ap, arith, length-append, length-drop}
use Rattle.std.proofs.lemmas.List.{length-take-le}
use Rattle.jfr_header.specs.Headers.{header_bytes}
use Rattle.jfr_header.specs.Made.{made_header}
use Rattle.jfr_header.proofs.MadeHeaders.{has_made_header}
use Rattle.jfr_sample.proofs.recording.put_header.Goals as goal

pub copy_from_slice-requires : goal.copy_from_slice-requires
copy_from_slice-requires c = length-take-le 68 c.args.chunk.now c.requires.long ∙ sym c.write_header.array_long

pub returns-clause-whole : goal.returns-clause-whole
returns-clause-whole c =
    let old : List ℕ = c.args.chunk.now in
    let header : List ℕ = c.copy_from_slice.new.self in
    let is : header ≡ header_bytes (made_header (length old) c.args.pools) = c.copy_from_slice.ensures.after ∙ (c.write_header.ensures.layout ∙ ap header_bytes c.made-header.ensures) in
    let long : length header ≡ 68 = ap length c.copy_from_slice.ensures.after ∙ c.write_header.array_long in
    let size : length old ≡ length (header ++ drop 68 old) = omega (arith, length-append header (drop 68 old), length-drop 68 old, c.requires.long) in
    let small : length old < 2 ^ 30 = omega (arith, c.requires.short) in
    let fits : c.args.pools < 2 ^ 64 = omega (arith, c.ranges.pools.fits) in
    (has_made_header (header ++ drop 68 old) (drop 68 old) (length old) c.args.pools (ap (λ (h : List ℕ). h ++ drop 68 old) is) size small fits).whole
