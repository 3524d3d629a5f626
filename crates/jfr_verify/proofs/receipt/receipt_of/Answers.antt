use Rattle.std.proofs.Common.{◌≡◌, ◌++◌, length, List, ℕ, arith, ap, ◌∙◌}
use Rattle.std.specs.List.{flat_map}
use Rattle.jfr_base.specs.Integer.{spell}
use Rattle.jfr_verify.specs.Receipts.{line_bytes}
use Rattle.jfr_verify.proofs.WalkLaws.{receipt_is}
use Rattle.jfr_verify.proofs.receipt.receipt_of.Goals as goal

pub returns : goal.returns
returns c =
    let n : List ℕ = spell (length c.in_ok-lines.lines.items.items) in
    let m : c.len.result ≡ length c.in_ok-lines.lines.items.items = omega (arith, c.len.ensures) in
    let h : c.push_var.new.out.items ≡ n = c.in_ok-push_var.ensures.ok ∙ (ap (λ z. z ++ spell c.len.result) c.new-bytes.ensures.items ∙ ap spell m) in
    record {
      ok = receipt_is c.args.chunk.now c.in_ok-lines.lines.items.items c.push_var.new.out.items c.push_lines.new.out.items c.in_ok-lines.ensures h
          (c.in_ok-push_lines.ensures.ok ∙ ap (λ z. c.push_var.new.out.items ++ flat_map line_bytes z) c.deref.ensures.value);
    }
