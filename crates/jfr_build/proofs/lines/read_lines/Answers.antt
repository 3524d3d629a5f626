use Rattle.std.proofs.Common.{◌≡◌, ◌+◌, ◌≤◌, ap, arith, length, ◌∙◌}
use Rattle.jfr_build.specs.Lines.{any_class, any_region, any_value, read_from, read_lines}
use Rattle.jfr_build.specs.Pieces.{pieces}
use Rattle.jfr_build.proofs.PieceLaws.{few_pieces}
use Rattle.jfr_build.proofs.lines.read_lines.Goals as goal

pub lines-init : goal.lines-init
unfolding read_lines
lines-init c =
    let few : length (pieces 10 c.args.text.now) ≤ length c.args.text.now + 1 = few_pieces 10 c.args.text.now in
    let all : length c.of-unread.result ≡ length (pieces 10 c.args.text.now) = ap length c.of-unread.ensures in
    record {
      same = ap (λ z. read_from 1 z c.of-unread.result) c.in_ok-lines.ensures.items ∙ ap (read_from 1 _) c.of-unread.ensures;
      class = ap any_class c.in_ok-lines.ensures.items;
      value = ap any_value c.in_ok-lines.ensures.items;
      region = ap any_region c.in_ok-lines.ensures.items;
      few = omega (arith, few, all, c.requires);
    }
