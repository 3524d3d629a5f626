use Rattle.std.proofs.Common.{[], ◌∷◌, subst, sym}
use Rattle.std.specs.Prelude.{IfSome, None}
use Rattle.std.specs.List.{AllByRecursion}
use Rattle.jfr_chunk.proofs.AllLaws.{all_append}
use Rattle.jfr_show.specs.Cache.{IsCached}
use Rattle.jfr_show.proofs.cache.Slots.new.Goals as goal

pub loop-preserved : goal.loop-preserved
loop-preserved c = λ p. subst (AllByRecursion (λ o. IfSome o (IsCached p))) (sym c.in_ok-push.ensures.items)
    (all_append (λ o. IfSome o (IsCached p)) c.loop.texts.items (None ∷ []) (c.loop.invariant p) (tt, tt))
