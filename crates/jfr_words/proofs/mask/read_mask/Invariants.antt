use Rattle.std.proofs.Common.{◌≡◌, length}
use Rattle.jfr_words.specs.Masks.{no_mask_option, mask_from}
use Rattle.jfr_words.proofs.mask.read_mask.Given as goal

-- What is left gives what all the words after the command give.
abbrev pub invariant-options : goal.invariant-options
invariant-options l = mask_from l.given l.unread ≡ mask_from no_mask_option l.fn.unread

abbrev pub decreases-options : goal.decreases-options
decreases-options l = length l.unread
