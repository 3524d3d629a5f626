use Rattle.std.proofs.Common.{◌≡◌, length}
use Rattle.jfr_words.specs.Scrubs.{no_scrub_option, scrub_from}
use Rattle.jfr_words.proofs.scrub.read_scrub.Given as goal

-- What is left gives what all the words after the command give.
abbrev pub invariant-options : goal.invariant-options
invariant-options l = scrub_from l.given l.unread ≡ scrub_from no_scrub_option l.fn.unread

abbrev pub decreases-options : goal.decreases-options
decreases-options l = length l.unread
