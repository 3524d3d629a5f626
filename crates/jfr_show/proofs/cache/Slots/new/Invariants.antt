use Rattle.std.specs.Prelude.{IfSome}
use Rattle.std.specs.List.{AllByRecursion}
use Rattle.jfr_chunk.specs.Parts.{Parts}
use Rattle.jfr_show.specs.Cache.{IsCached}
use Rattle.jfr_show.proofs.cache.Slots.new.Given as goal

abbrev pub invariant-loop : goal.invariant-loop
invariant-loop l = (p : Parts) → AllByRecursion (λ o. IfSome o (IsCached p)) l.texts.items
