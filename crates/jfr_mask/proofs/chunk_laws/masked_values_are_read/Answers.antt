use Rattle.jfr_mask.proofs.MaskLaws.{null_written, read_masked}
use Rattle.jfr_mask.proofs.TextLaws.{text_is}
use Rattle.jfr_mask.proofs.chunk_laws.masked_values_are_read.Goals as goal

pub returns-clause-read : goal.returns-clause-read
returns-clause-read c = λ masked show p h v sound f. read_masked masked show p h v sound f

pub returns-clause-text : goal.returns-clause-text
returns-clause-text c = λ p n s b key sound i. text_is p n s b key sound i

pub returns-clause-null : goal.returns-clause-null
returns-clause-null c = null_written
