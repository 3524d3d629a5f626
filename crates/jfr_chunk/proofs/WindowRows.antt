-- Windows of a clock with a tick for each nanosecond, and which events are in them.
use Rattle.std.specs.Prelude.{◌≡◌, pos, ◌-ℤ◌, true, false, Some, refl}
use Rattle.jfr_filter.specs.Filters.{Given, nothing_given}
use Rattle.jfr_chunk.specs.Windows.{Clock, is_in, or_zero}

abbrev clock : Clock
clock = record { nanos = pos 1000; ticks = pos 0; rate = pos 1000000000 }

abbrev window : Given
window = record nothing_given { from = Some (pos 1010); to = Some (pos 1020) }

ends_at_its_start : is_in window clock (pos 5) (pos 5) ≡ true
unfolding is_in
ends_at_its_start = refl

ends_before : is_in window clock (pos 5) (pos 4) ≡ false
unfolding is_in
ends_before = refl

starts_before_its_end : is_in window clock (pos 19) (pos 100) ≡ true
unfolding is_in
starts_before_its_end = refl

starts_at_its_end : is_in window clock (pos 20) (pos 0) ≡ false
unfolding is_in
starts_at_its_end = refl

lasts_longer : is_in window clock (pos 0) (pos 100) ≡ true
unfolding is_in
lasts_longer = refl

no_rate : is_in window (record clock { rate = pos 0 }) (pos 15) (pos 0) ≡ false
unfolding is_in
no_rate = refl

-- With three ticks in ten nanoseconds, nothing is rounded: tick 3 is at nanosecond 1010 exactly, tick 2 before it.
abbrev slow : Clock
slow = record clock { rate = pos 300000000 }

at_the_third : is_in window slow (pos 3) (pos 0) ≡ true
unfolding is_in
at_the_third = refl

at_the_second : is_in window slow (pos 2) (pos 0) ≡ false
unfolding is_in
at_the_second = refl

negative_duration : or_zero (pos 3 -ℤ pos 5) ≡ pos 0
negative_duration = refl
