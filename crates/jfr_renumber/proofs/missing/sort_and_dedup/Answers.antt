use Rattle.std.proofs.lemmas.List.Filters.{dedup_is}
use Rattle.std.proofs.lemmas.List.Sorted.{Contains-permutation, IsPermutation-sym}
use Rattle.jfr_renumber.proofs.OrderLaws.{all_kept, in_order, no_more, pair_same}
use Rattle.jfr_renumber.proofs.missing.sort_and_dedup.Goals as goal

pub returns-clause-rising : goal.returns-clause-rising
returns-clause-rising c = in_order c.sort_unstable.new.self.items c.dedup.new.self.items c.sort_unstable.ensures.sorted (dedup_is pair_same _ _ c.dedup.ensures.filtered)

pub returns-clause-kept : goal.returns-clause-kept
returns-clause-kept c = λ t h. all_kept c.sort_unstable.new.self.items c.dedup.new.self.items (dedup_is pair_same _ _ c.dedup.ensures.filtered) t
    (Contains-permutation _ _ t c.sort_unstable.ensures.permutation h)

pub returns-clause-none_added : goal.returns-clause-none_added
returns-clause-none_added c = λ t h. Contains-permutation _ _ t (IsPermutation-sym _ _ c.sort_unstable.ensures.permutation)
    (no_more c.sort_unstable.new.self.items c.dedup.new.self.items (dedup_is pair_same _ _ c.dedup.ensures.filtered) t h)
