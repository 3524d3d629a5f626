-- The positions of an output, one output record after another.
use Rattle.std.specs.Prelude.{◌≡◌, ℕ, ◌<◌, Bool, true, false, ◌==◌, List, [], ◌∷◌, find, Option, Some, None, unwrap_or, if◌then◌else◌}
use Rattle.std.specs.Option.{option_map_or}
use Rattle.std.proofs.Common.{arith, refl}
use Rattle.jfr_chunk.specs.Scrub.{OutputRecord, Whole, Chained, Rebuilt, Written, newest_after, newest_at, record_of, moved}
use Rattle.jfr_output.specs.Positions.{IsBefore, offset_so_far}

-- A place that was seen, or else one that comes later.
abbrev pub or_place : Option ℕ → ℕ → ℕ
or_place (Some place) later = place
or_place None later = later

pub newest_next : (newest : Option ℕ) (w : Written) (ws : List Written) → newest_at newest (w ∷ ws) ≡ newest_at (newest_after w.output_record w.at newest) ws
newest_next None w ws = refl
newest_next (Some at) w ws = refl

pub moved_next : (before : Option ℕ) (w : Written) (ws : List Written) (at : ℕ)
    → or_place before (moved (w ∷ ws) at) ≡ or_place (offset_so_far before ((record_of w.output_record).at == at) w.at) (moved ws at)
moved_next (Some place) w ws at = refl
moved_next None w ws at = by_test ((record_of w.output_record).at == at)
  where
    by_test : (b : Bool) → option_map_or (λ (v : Written). v.at) (if b then Some w else find (λ (v : Written). (record_of v.output_record).at == at) ws) 0 ≡ or_place (offset_so_far None b w.at) (moved ws at)
    by_test true = refl
    by_test false = refl

-- The newest checkpoint is before what comes next.
pub still_before : (s : OutputRecord) (at to : ℕ) (newest : Option ℕ) → IsBefore newest at → at < to → IsBefore (newest_after s at newest) to
still_before (Whole r) at to None h i = tt
still_before (Whole r) at to (Some o) h i = omega (arith, h)
still_before (Rebuilt r x) at to None h i = tt
still_before (Rebuilt r x) at to (Some o) h i = omega (arith, h)
still_before (Chained number l) at to newest h i = i

pub newest_none : (newest : Option ℕ) → newest_at newest [] ≡ unwrap_or newest 0
newest_none None = refl
newest_none (Some at) = refl

pub or_none : (o : Option ℕ) → or_place o 0 ≡ unwrap_or o 0
or_none None = refl
or_none (Some at) = refl
