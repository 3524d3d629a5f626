use Rattle.jfr_receipt.proofs.PromiseLaws.{are_scrubs}
use Rattle.jfr_receipt.proofs.laws.scrubs_have_receipts.Goals as goal

pub returns : goal.returns
returns c = λ g described x a short. are_scrubs g described x a short
