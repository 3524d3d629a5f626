use Rattle.std.proofs.Common.{refl, sym, subst}
use Rattle.std.specs.Prelude.{codes}
use Rattle.jfr_words.specs.Words.{order_of, IsRead}
use Rattle.jfr_words.proofs.OrderLaws.{order_at}
use Rattle.jfr_words.proofs.WordLaws.{is_other}
use Rattle.jfr_words.proofs.words.read_command.Goals as goal

pub returns-in-print : goal.returns-in-print
unfolding order_of
returns-in-print c = subst (λ o. IsRead o c.read_print.result (λ order. order)) (sym (order_at c.args.unread.now _ (codes "print") refl c.in-print.is)) c.read_print.ensures

pub returns-in-summary : goal.returns-in-summary
unfolding order_of
returns-in-summary c = subst (λ o. IsRead o c.read_summary.result (λ order. order)) (sym (order_at c.args.unread.now _ (codes "summary") refl c.in-summary.is)) c.read_summary.ensures

pub returns-in-metadata : goal.returns-in-metadata
unfolding order_of
returns-in-metadata c = subst (λ o. IsRead o c.read_metadata.result (λ order. order)) (sym (order_at c.args.unread.now _ (codes "metadata") refl c.in-metadata.is)) c.read_metadata.ensures

pub returns-in-scrub : goal.returns-in-scrub
unfolding order_of
returns-in-scrub c = subst (λ o. IsRead o c.read_scrub.result (λ order. order)) (sym (order_at c.args.unread.now _ (codes "scrub") refl c.in-scrub.is)) c.read_scrub.ensures

pub returns-in-disassemble : goal.returns-in-disassemble
unfolding order_of
returns-in-disassemble c = subst (λ o. IsRead o c.read_split.result (λ order. order)) (sym (order_at c.args.unread.now _ (codes "disassemble") refl c.in-disassemble.is)) c.read_split.ensures

pub returns-in-assemble : goal.returns-in-assemble
unfolding order_of
returns-in-assemble c = subst (λ o. IsRead o c.read_assembly.result (λ order. order)) (sym (order_at c.args.unread.now _ (codes "assemble") refl c.in-assemble.is)) c.read_assembly.ensures

pub returns-in-sample : goal.returns-in-sample
unfolding order_of
returns-in-sample c = subst (λ o. IsRead o c.read_sample.result (λ order. order)) (sym (order_at c.args.unread.now _ (codes "sample") refl c.in-sample.is)) c.read_sample.ensures

pub returns-in-receipt : goal.returns-in-receipt
unfolding order_of
returns-in-receipt c = subst (λ o. IsRead o c.read_receipt.result (λ order. order)) (sym (order_at c.args.unread.now _ (codes "receipt") refl c.in-receipt.is)) c.read_receipt.ensures

pub returns-in-verify : goal.returns-in-verify
unfolding order_of
returns-in-verify c = subst (λ o. IsRead o c.read_verification.result (λ order. order)) (sym (order_at c.args.unread.now _ (codes "verify") refl c.in-verify.is)) c.read_verification.ensures

pub returns-in-stacks : goal.returns-in-stacks
unfolding order_of
returns-in-stacks c = subst (λ o. IsRead o c.read_stacks.result (λ order. order)) (sym (order_at c.args.unread.now _ (codes "stacks") refl c.in-stacks.is)) c.read_stacks.ensures

pub returns-in-build : goal.returns-in-build
unfolding order_of
returns-in-build c = subst (λ o. IsRead o c.read_building.result (λ order. order)) (sym (order_at c.args.unread.now _ (codes "build") refl c.in-build.is)) c.read_building.ensures

pub returns-in-mask : goal.returns-in-mask
unfolding order_of
returns-in-mask c = subst (λ o. IsRead o c.read_mask.result (λ order. order)) (sym (order_at c.args.unread.now _ (codes "mask") refl c.in-mask.is)) c.read_mask.ensures

pub returns-in_default : goal.returns-in_default
unfolding order_of
returns-in_default c =
    rw (
      is_other _ (codes "print") c.utf8.command refl c.in_default.not-print,
      is_other _ (codes "summary") c.utf8.command refl c.in_default.not-summary,
      is_other _ (codes "metadata") c.utf8.command refl c.in_default.not-metadata,
      is_other _ (codes "scrub") c.utf8.command refl c.in_default.not-scrub,
      is_other _ (codes "disassemble") c.utf8.command refl c.in_default.not-disassemble,
      is_other _ (codes "assemble") c.utf8.command refl c.in_default.not-assemble,
      is_other _ (codes "sample") c.utf8.command refl c.in_default.not-sample,
      is_other _ (codes "receipt") c.utf8.command refl c.in_default.not-receipt,
      is_other _ (codes "verify") c.utf8.command refl c.in_default.not-verify,
      is_other _ (codes "stacks") c.utf8.command refl c.in_default.not-stacks,
      is_other _ (codes "build") c.utf8.command refl c.in_default.not-build,
      is_other _ (codes "mask") c.utf8.command refl c.in_default.not-mask,
    )
