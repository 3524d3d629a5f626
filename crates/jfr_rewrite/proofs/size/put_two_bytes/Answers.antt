use Rattle.std.proofs.Common.{◌≡◌, ◌+◌, ◌-◌, ◌/◌, ◌%◌, ap, length, set, ◌∙◌}
use Rattle.jfr_rewrite.proofs.SizeLaws.{size_put_two}
use Rattle.jfr_rewrite.proofs.size.put_two_bytes.Goals as goal

pub returns : goal.returns
returns c =
    let xs = c.args.out.now.items in
    let from = c.args.from in
    let n : c.len.result ≡ length xs = c.len.ensures ∙ c.args.out.now.ok.0 in
    ap (λ z. set (set xs from ((z - from) % 128 + 128)) (from + 1) ((z - from) / 128)) n ∙ size_put_two xs from (length xs - from) c.requires.within
