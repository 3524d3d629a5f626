use Rattle.std.proofs.Common.{arith, ap, sym, ◌∙◌, take, drop, subst, ◌+◌}
use Rattle.jfr_meta.specs.Written.{capped}
use Rattle.jfr_scrub.specs.Sizes.{pool_size}
use Rattle.jfr_scrub.proofs.MeasureLaws.{Measuring, measuring_next, measuring_count, measuring_all}
use Rattle.jfr_scrub.proofs.measure.measured.Goals as goal

pub overflow_add-count : goal.overflow_add-count
overflow_add-count c = let h = measuring_count _ _ _ _ _ c.pools.invariant (sym c.in-Some.ensures.value) in let f = c.args.entries in omega arith

pub pools-preserved : goal.pools-preserved
pools-preserved c =
    let n = c.pool_len.ensures.exact in
    subst (λ z. Measuring c.args.entries.now z (c.pools.count + 1) c.saturating_add-bytes.result) (sym (c.split_at.ensures.back ∙ ap (λ k. drop k c.pools.rest.now) n))
    (measuring_next _ _ _ _ _ _ _ c.pools.invariant (sym c.in-Some.ensures.value)
    (c.pool_size.ensures ∙ ap (λ z. capped (pool_size c.in-Some.first.now.class z)) (c.split_at.ensures.front ∙ ap (λ k. take k c.pools.rest.now) n))
    c.saturating_add-bytes.ensures)

pub returns-clause-count : goal.returns-clause-count
returns-clause-count c = (measuring_all _ _ _ _ c.pools.invariant c.in_default.ensures.item.3).0

pub returns-clause-bytes : goal.returns-clause-bytes
returns-clause-bytes c = (measuring_all _ _ _ _ c.pools.invariant c.in_default.ensures.item.3).1
