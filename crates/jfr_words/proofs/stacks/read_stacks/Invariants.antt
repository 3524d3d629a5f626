use Rattle.std.proofs.Common.{◌≡◌, length}
use Rattle.jfr_filter.specs.Filters.{nothing_given}
use Rattle.jfr_words.specs.Stacks.{stacks_from}
use Rattle.jfr_words.proofs.stacks.read_stacks.Given as goal

-- What is left gives what all the words after the command give.
abbrev pub invariant-options : goal.invariant-options
invariant-options l = stacks_from l.filter l.unread ≡ stacks_from nothing_given l.fn.unread

abbrev pub decreases-options : goal.decreases-options
decreases-options l = length l.unread
