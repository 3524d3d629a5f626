use Rattle.jfr_mask.proofs.EqualOutputs.{dictionary_exchanged, masked_equal}
use Rattle.jfr_mask.proofs.ItselfLaws.{chunk_itself, no_exchange}
use Rattle.jfr_mask.proofs.SecrecyLaws.{masked_alike}
use Rattle.jfr_mask.proofs.chunk_laws.masks_keep_secrets.Goals as goal

pub returns-clause-value : goal.returns-clause-value
returns-clause-value c = λ known g ex masked p q d h v w a. masked_alike known g ex masked p q d h v w a

pub returns-clause-chunk : goal.returns-clause-chunk
returns-clause-chunk c = λ m g ex p q kept others alike d. masked_equal m g ex p q kept others alike d

pub returns-clause-dictionary : goal.returns-clause-dictionary
returns-clause-dictionary c = λ m g ex p q kept others alike d. dictionary_exchanged m g ex p q kept others alike d

pub returns-clause-itself : goal.returns-clause-itself
returns-clause-itself c = λ m p kept. (no_exchange m.known, chunk_itself m p kept)
