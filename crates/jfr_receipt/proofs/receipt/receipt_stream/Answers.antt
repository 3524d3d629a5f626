use Rattle.jfr_receipt.proofs.ReceiptLaws.{is_receipted}
use Rattle.jfr_receipt.proofs.receipt.receipt_stream.Goals as goal

pub returns-clause-each : goal.returns-clause-each
returns-clause-each g c = is_receipted c.kept_is_passed.ensures c.args.filter.now
