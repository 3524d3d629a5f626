use Rattle.std.proofs.Common.{rules, ◌≡◌, List, ℕ, subst}
use Rattle.std.specs.Prelude.{None}
use Rattle.jfr_chunk.specs.Metas.{Names}
use Rattle.jfr_chunk.specs.Reach.{kept_by}
use Rattle.jfr_chunk.specs.Refusal.{refusal_of}
use Rattle.jfr_laws.specs.Laws.{IsKept}
use Rattle.jfr_output.proofs.RecordingLaws.{refused_by}
use Rattle.jfr_verify.specs.Receipts.{receipt_of}
use Rattle.jfr_receipt.specs.Receipting.{scrub_receipt}
use Rattle.jfr_receipt.proofs.ReceiptLaws.{receipt_is}
use Rattle.jfr_receipt.proofs.receipt.ReceiptsMake.make.Goals as goal

pub returns-in_err-chunk-clause-refused : goal.returns-in_err-chunk-clause-refused
returns-in_err-chunk-clause-refused c = search (rules, refused_by)

-- The receipt of the chunk's scrub.
made : (c : goal.After-drop-kept-inside-2) → (refusal_of c.args.chunk.now ≡ None) × (c.in_ok-receipt_of_scrub.field-0 ≡ scrub_receipt c.args.self.now.filter.now c.args.chunk.now)
made c =
    let p = c.in_ok-chunk.chunk in
    let g = c.args.self.now.filter.now in
    let r : List ℕ = c.in_ok-receipt_of_scrub.field-0 in
    receipt_is g c.args.chunk.now r p c.requires c.in_ok-chunk.ensures.exact
    (subst (λ flags. (names : Names) (k : IsKept names p (kept_by p flags)) → r ≡ receipt_of k.parts) c.in_ok-kept.ensures.ok c.in_ok-receipt_of_scrub.ensures.ok)

pub returns-clause-ok : goal.returns-clause-ok
returns-clause-ok c = (made c).0

pub returns-clause-made : goal.returns-clause-made
returns-clause-made c = (made c).1
