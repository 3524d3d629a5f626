use Rattle.std.proofs.Common.{arith}
use Rattle.std.specs.Prelude.{◌≤◌}
use Rattle.jfr_renumber.specs.Numbers.{NumberedPairs, number_or_zero}
use Rattle.jfr_renumber.proofs.UsedPairs.{IsNumbered, all_numbered, numbered_of}
use Rattle.jfr_renumber.proofs.WritingLaws.{numbers_below}
use Rattle.jfr_chunk.specs.Reach.{kept_by}
use Rattle.jfr_renumber.proofs.numbered.NumberedKeys.make.Goals as goal

pub invariant_of-result : goal.invariant_of-result
invariant_of-result c =
    let p = c.args.chunk.now in
    let flags = c.args.kept.now in
    let made : IsNumbered p (kept_by p flags) c.sort_and_dedup.new.pairs.items c.in_ok-numbers.numbers.items =
    all_numbered p c.parts_are_valid.ensures.parts flags c.args.marks.now c.requires.marks c.in_ok-pairs.pairs.items c.push_reached.new.pairs.items c.sort_and_dedup.new.pairs.items c.deref.result.now
    c.in_ok-keys.keys.items c.deref-2.result.now c.in_ok-numbers.numbers.items
    c.in_ok-pairs.ensures.all c.in_ok-pairs.ensures.only c.in_ok-push_reached.ensures.ok c.sort_and_dedup.ensures.rising c.sort_and_dedup.ensures.kept c.sort_and_dedup.ensures.none_added
    c.deref.ensures.value c.in_ok-keys.ensures.pairs c.in_ok-keys.ensures.values c.deref-2.ensures.value c.in_ok-numbers.ensures.ok in
    let k : NumberedPairs = record { pairs = c.sort_and_dedup.new.pairs.items; numbers = c.in_ok-numbers.numbers.items } in (
      c.sort_and_dedup.ensures.rising,
      made.count,
      λ class.
          (let below : number_or_zero k (class, 0) ≤ 0 = numbers_below p c.parts_are_valid.ensures.parts flags k (numbered_of p (kept_by p flags) k.pairs k.numbers made) (class, 0) in
          omega arith),
    )

pub returns : goal.returns
returns c =
    numbered_of c.args.chunk.now (kept_by c.args.chunk.now c.args.kept.now) c.sort_and_dedup.new.pairs.items c.in_ok-numbers.numbers.items
    (all_numbered c.args.chunk.now c.parts_are_valid.ensures.parts c.args.kept.now c.args.marks.now c.requires.marks c.in_ok-pairs.pairs.items c.push_reached.new.pairs.items
    c.sort_and_dedup.new.pairs.items c.deref.result.now c.in_ok-keys.keys.items c.deref-2.result.now c.in_ok-numbers.numbers.items
    c.in_ok-pairs.ensures.all c.in_ok-pairs.ensures.only c.in_ok-push_reached.ensures.ok c.sort_and_dedup.ensures.rising c.sort_and_dedup.ensures.kept c.sort_and_dedup.ensures.none_added
    c.deref.ensures.value c.in_ok-keys.ensures.pairs c.in_ok-keys.ensures.values c.deref-2.ensures.value c.in_ok-numbers.ensures.ok)
