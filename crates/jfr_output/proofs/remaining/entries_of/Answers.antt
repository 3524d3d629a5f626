use Rattle.std.proofs.Common.{rules, sym, subst, leb, ltb}
use Rattle.std.proofs.lemmas.List.Sorted.{IsPartitionPoint-from_clause, IsPartitionedBy-leb, IsPartitionedBy-ltb}
use Rattle.jfr_pool.specs.declared.entry.EntryAt.{EntryAt}
use Rattle.jfr_output.specs.Remaining.{NotFalling}
use Rattle.jfr_output.proofs.CheckpointEntries.{falling_at, falling_drop, entries_between}
use Rattle.jfr_output.proofs.remaining.entries_of.Goals as goal

pub returns : goal.returns
returns c =
    let k = c.partition_point.result in
    let rest = c.split_at.ensures.back in
    let a = IsPartitionPoint-from_clause (λ (e : EntryAt). ltb e.checkpoint c.args.number) _ _ c.partition_point.ensures.partitioned
    (IsPartitionedBy-ltb (λ (e : EntryAt). e.checkpoint) c.args.remaining.now c.args.number (λ i j d h l. (falling_at 0 c.args.remaining.now c.requires i j d h l).1)) (λ x r q f. search rules) in
    let b = IsPartitionPoint-from_clause (λ (e : EntryAt). leb e.checkpoint c.args.number) _ _ c.partition_point-2.ensures.partitioned
    (IsPartitionedBy-leb (λ (e : EntryAt). e.checkpoint) c.split_at.result.1.now c.args.number
    (λ i j d h l. (falling_at 0 c.split_at.result.1.now (subst (NotFalling 0) (sym rest) (falling_drop 0 c.args.remaining.now k c.requires)) i j d h l).1)) (λ x r q f. search rules) in
    entries_between c.args.remaining.now c.split_at.result.1.now c.split_at-2.result.0.now c.args.number c.partition_point.result c.partition_point-2.result rest c.split_at-2.ensures.front
    c.partition_point.ensures.bound a.0 a.1 c.partition_point-2.ensures.bound b.0 b.1
