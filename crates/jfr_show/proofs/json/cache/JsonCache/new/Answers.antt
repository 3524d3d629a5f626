use Rattle.std.proofs.Common.{[], ◌∷◌, subst, sym}
use Rattle.std.specs.Prelude.{IfSome, None}
use Rattle.std.specs.List.{AllByRecursion}
use Rattle.jfr_chunk.proofs.AllLaws.{all_append}
use Rattle.jfr_show.specs.CachedJson.{IsCachedJson}
use Rattle.jfr_show.proofs.json.cache.JsonCache.new.Goals as goal

pub loop-preserved : goal.loop-preserved
loop-preserved c = λ p. subst (AllByRecursion (λ o. IfSome o (IsCachedJson p))) (sym c.in_ok-push.ensures.items)
    (all_append (λ o. IfSome o (IsCachedJson p)) c.loop.texts.items (None ∷ []) (c.loop.invariant p) (tt, tt))
