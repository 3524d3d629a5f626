use Rattle.std.proofs.Common.{◌≡◌, ◌||◌, ℕ, take}
use Rattle.jfr_meta.specs.Stays.{is_in}
use Rattle.jfr_filter.specs.Filters.{describes}
use Rattle.jfr_chunk.specs.Metas.{is_described}
use Rattle.jfr_output.proofs.metadata.add_described.Given as goal

-- The set has, besides what it had, the described ones among the classes before this one.
abbrev pub invariant-loop-class : goal.invariant-loop-class
invariant-loop-class l = (id : ℕ) → is_in l.used.ids id ≡ (is_in l.fn.used.ids id || is_described (describes l.filter) (take l.class-index l.classes) id)
