use Rattle.jfr_mask.specs.Maskers.{held_by, shown_by}
use Rattle.jfr_mask.proofs.NumberLeaves.{number_keeps}
use Rattle.jfr_mask.proofs.masker.MaskerRewriter.keeps_numbers.Goals as goal

pub returns : goal.returns
returns c = λ masker leaf n. number_keeps (held_by masker.strings) leaf n (shown_by masker) masker.strings.chunk.now
