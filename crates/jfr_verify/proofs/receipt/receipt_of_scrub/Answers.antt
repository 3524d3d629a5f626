use Rattle.std.proofs.Common.{◌≡◌, ◌++◌, length, Bool, List, ℕ, arith, ap, subst, ◌∙◌}
use Rattle.std.specs.List.{flat_map}
use Rattle.jfr_base.specs.Integer.{spell}
use Rattle.jfr_verify.specs.Ranks.{AreRanks, ranked_bytes}
use Rattle.jfr_verify.specs.declared.line.Line.{Line}
use Rattle.jfr_verify.proofs.ScrubReceiptLaws.{scrub_receipt_is}
use Rattle.jfr_verify.proofs.receipt.receipt_of_scrub.Goals as goal

pub returns : goal.returns
returns c =
    let marks : List Bool = c.in_ok-lines.lines.flags.items in
    let lines : List Line = c.in_ok-lines.lines.items.items in
    let ranks : List ℕ = c.in_ok-ranks.ranks.items in
    let head : List ℕ = c.push_var.new.out.items in
    let m : c.len.result ≡ length lines = omega (arith, c.len.ensures) in
    let h : head ≡ spell (length lines) = c.in_ok-push_var.ensures.ok ∙ (ap (λ z. z ++ spell c.len.result) c.new-bytes.ensures.items ∙ ap spell m) in
    let b : c.push_ranked.new.out.items ≡ head ++ flat_map (ranked_bytes ranks) lines =
    c.in_ok-push_ranked.ensures.ok ∙ (ap (λ z. head ++ flat_map (ranked_bytes c.deref-3.result.now) z) c.deref-2.ensures.value
    ∙ ap (λ z. head ++ flat_map (ranked_bytes z) lines) c.deref-3.ensures.value) in
    record {
      ok = λ names scrub. scrub_receipt_is c.args.chunk.now c.parts_are_valid.ensures.parts c.args.kept.now names scrub marks ranks lines head c.push_ranked.new.out.items c.in_ok-lines.ensures.lines
          c.in_ok-lines.ensures.size c.in_ok-lines.lines.listed
          (subst (λ z. AreRanks z ranks) c.deref.ensures.value c.in_ok-ranks.ensures) h b;
    }
