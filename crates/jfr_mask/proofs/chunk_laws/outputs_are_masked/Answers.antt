use Rattle.jfr_chunk.specs.Reach.{kept_by}
use Rattle.jfr_mask.specs.Headline.{IsAccepted}
use Rattle.jfr_mask.proofs.HeadlineLaws.{EachIsMasked, all_masked}
use Rattle.jfr_mask.proofs.chunk_laws.outputs_are_masked.Goals as goal

each : goal.After-masked_chunks_mean_the_same → EachIsMasked
each c m d p flags a whole small =
    let r : IsAccepted m d p (kept_by p flags) = c.masked_chunks_are_accepted.ensures m d p flags a whole small in
    record { accepted = r; meaning = c.masked_chunks_mean_the_same.ensures.paths m d p flags a r; reached = c.masked_chunks_mean_the_same.ensures.reached m d p flags a r }

pub returns-clause-one : goal.returns-clause-one
returns-clause-one c = each c

pub returns-clause-all : goal.returns-clause-all
returns-clause-all c = all_masked (each c)
