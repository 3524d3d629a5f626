use Rattle.std.specs.Prelude.{IfSome}
use Rattle.std.specs.List.{AllByRecursion}
use Rattle.jfr_chunk.specs.Parts.{Parts}
use Rattle.jfr_show.specs.CachedJson.{IsCachedJson}
use Rattle.jfr_show.proofs.json.cache.JsonCache.new.Given as goal

abbrev pub invariant-loop : goal.invariant-loop
invariant-loop l = (p : Parts) → AllByRecursion (λ o. IfSome o (IsCachedJson p)) l.texts.items
