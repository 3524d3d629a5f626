use Rattle.std.proofs.Common.{arith, rules, refl, sym, ◌+◌, ◌∙◌}
use Rattle.jfr_stacks.proofs.MapLaws.{adds_kept, adds_new, get-counts_in}
use Rattle.jfr_stacks.proofs.counts.add_count.Goals as goal

pub overflow_add-kept : goal.overflow_add-kept
overflow_add-kept c = omega (arith, c.requires.each c.args.text.now c.in-Some.kept.now (get-counts_in c.args.counts.now c.args.text.now ∙ sym c.in-Some.ensures.value))

pub returns-in-Some-clause-ok : goal.returns-in-Some-clause-ok
returns-in-Some-clause-ok c =
    let h = c.get_mut.follows.holds (c.in-Some.kept.now + c.args.count) in
    adds_kept c.args.counts.now (c.get_mut.follows.lender (c.in-Some.kept.now + c.args.count)) c.args.text.now c.in-Some.kept.now c.args.count (c.in-Some.kept.now + c.args.count)
    (search rules) c.in-Some.ensures.value refl (h.3 (search rules))

pub returns-in_ok-insert-in-None-clause-ok : goal.returns-in_ok-insert-in-None-clause-ok
returns-in_ok-insert-in-None-clause-ok c = adds_new c.args.counts.now c.get_mut.follows.lender-at-none c.insert.new.self c.in_ok-from_str-in-None.field-0 c.args.text.now c.args.count
    c.get_mut.follows.holds-at-none (search rules) c.in_ok-from_str-in-None.ensures.ok c.in-None.ensures.value c.in_ok-insert-in-None.ensures.updates
