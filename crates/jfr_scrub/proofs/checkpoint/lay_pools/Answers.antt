use Rattle.std.proofs.Common.{sym, ap, ◌∙◌, ◌∷◌, [], take, drop, length, subst}
use Rattle.jfr_base.specs.Integer.{spell}
use Rattle.jfr_chunk.specs.Written.{by_pool, entry_bytes}
use Rattle.std.specs.List.{AllByRecursion, flat_map}
use Rattle.jfr_output.proofs.PoolLaws.{rest_smaller}
use Rattle.jfr_scrub.specs.declared.piece.MadePart.TheVariants.{EntryCount, PoolClass}
use Rattle.jfr_scrub.specs.Bodies.{pool_parts}
use Rattle.jfr_scrub.specs.Sizes.{HasRange}
use Rattle.jfr_scrub.specs.Pieces.{EntryIsCopied, output_so_far, more}
use Rattle.jfr_scrub.proofs.CheckpointLaws.{LayingPools, laying_none, laying_next, group_laid, pools_parts}
use Rattle.jfr_scrub.proofs.CopiedLaws.{SoFar, grows_then, making_all, making_next, making_none, none_left, so_far_done, so_far_none, so_far_now, so_far_entries}
use Rattle.jfr_scrub.proofs.MeasureLaws.{range_take}
use Rattle.jfr_scrub.proofs.checkpoint.lay_pools.Goals as goal

pub pools-init : goal.pools-init
pools-init c = record { pools = laying_none _ _ c.requires; copied = so_far_none _ _ _; made = making_none _ _ }

pub pools-preserved : goal.pools-preserved
pools-preserved c =
    let n = c.pool_len.ensures.exact in
    let pool = c.split_at.ensures.front ∙ ap (λ k. take k c.pools.rest.now) n in
    let others = c.split_at.ensures.back ∙ ap (λ k. drop k c.pools.rest.now) n in
    let laid = group_laid (output_so_far c.pools.output) (output_so_far c.put_integer.new.self) (output_so_far c.put_integer-in-Some.new.self) (output_so_far c.lay_entries.new.output)
    (spell c.in-Some.first.now.class) (spell (length c.split_at.result.0.now)) (λ z. flat_map (entry_bytes z) c.split_at.result.0.now) c.in_ok-put_integer.ensures.ok
    c.in_ok-put_integer-2.ensures.ok c.in_ok-lay_entries.ensures.ok in
    let grows = grows_then _ _ _ (PoolClass ∷ []) (EntryCount ∷ []) c.in_ok-put_integer.ensures.grows
    (grows_then _ _ _ (EntryCount ∷ []) [] c.in_ok-put_integer-2.ensures.grows c.in_ok-lay_entries.ensures.grows) in
    record {
      pools = subst (λ z. LayingPools (output_so_far c.args.output.now) (output_so_far c.lay_entries.new.output) c.args.entries.now z) (sym others)
          (laying_next _ _ _ _ _ _ c.pools.invariant.pools (sym c.in-Some.ensures.value)
          (laid ∙ ap (λ z. more (more (more (output_so_far c.pools.output) (spell c.in-Some.first.now.class)) (spell (length z))) (flat_map (entry_bytes c.pools.output.chunk) z)) pool));
      copied = subst (λ z. SoFar EntryIsCopied c.lay_entries.new.output.pieces z c.args.entries.now) (sym others)
          (so_far_entries _ _ _ _ _ _ _ c.pools.invariant.copied grows.keeps pool (subst (AllByRecursion (HasRange _)) (sym pool) (range_take _ _ _ c.pools.invariant.pools.ranges))
          c.in_ok-lay_entries.ensures.copied);
      made = making_next _ _ _ (PoolClass ∷ EntryCount ∷ []) _ _ _
          (pools_parts c.pools.rest.now c.split_at.result.1.now c.in-Some.first.now c.pool_len.result (sym c.in-Some.ensures.value) n c.split_at.ensures.back) c.pools.invariant.made grows;
    }

pub pools-smaller : goal.pools-smaller
pools-smaller c = rest_smaller c.pools.rest.now c.split_at.result.1.now c.in-Some.first.now c.pool_len.result (sym c.in-Some.ensures.value) c.pool_len.ensures.exact c.split_at.ensures.back

pub returns-clause-copied : goal.returns-clause-copied
returns-clause-copied c = so_far_now _ _ _ (so_far_done _ _ _ _ c.pools.invariant.copied (none_left c.pools.rest.now c.in_default.ensures.item.3))

pub returns-clause-grows : goal.returns-clause-grows
returns-clause-grows c = making_all _ _ _ _ c.pools.invariant.made (ap (λ es. flat_map pool_parts (by_pool es)) (none_left c.pools.rest.now c.in_default.ensures.item.3))
