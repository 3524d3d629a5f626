use Rattle.std.proofs.Common.{◌≡◌, length}
use Rattle.jfr_words.specs.Prints.{no_print_option, print_from}
use Rattle.jfr_words.proofs.print.read_print.Given as goal

-- What is left gives what all the words after the command give.
abbrev pub invariant-options : goal.invariant-options
invariant-options l = print_from l.given l.unread ≡ print_from no_print_option l.fn.unread

abbrev pub decreases-options : goal.decreases-options
decreases-options l = length l.unread
