use Rattle.std.proofs.Common.{◌≡◌, ℕ, List, length}
use Rattle.std.specs.Prelude.{Option}
use Rattle.jfr_filter.specs.Filters.{Given, nothing_given}
use Rattle.jfr_words.specs.declared.order.Order.{Order}
use Rattle.jfr_words.specs.Filtered.{filtered_from}
use Rattle.jfr_words.proofs.filter.read_filter.Given as goal

-- What is left gives what all the words after the command give.
abbrev pub invariant-options : goal.invariant-options
invariant-options l = (named : Given → List (List ℕ) → Option Order) → filtered_from named l.filter l.unread ≡ filtered_from named nothing_given l.fn.unread

abbrev pub decreases-options : goal.decreases-options
decreases-options l = length l.unread
