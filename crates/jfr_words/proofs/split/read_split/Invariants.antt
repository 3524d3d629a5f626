use Rattle.std.proofs.Common.{◌≡◌, length}
use Rattle.jfr_words.specs.Splits.{no_split_option, split_from}
use Rattle.jfr_words.proofs.split.read_split.Given as goal

-- What is left gives what all the words after the command give.
abbrev pub invariant-options : goal.invariant-options
invariant-options l = split_from l.given l.unread ≡ split_from no_split_option l.fn.unread

abbrev pub decreases-options : goal.decreases-options
decreases-options l = length l.unread
