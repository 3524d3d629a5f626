use Rattle.std.proofs.Common.{◌||◌, ◌≤◌, ap, arith, length, sym, ◌∙◌}
use Rattle.jfr_layout.proofs.Lists.{listed_at}
use Rattle.jfr_meta.specs.Stays.{is_in}
use Rattle.jfr_filter.specs.Filters.{describes}
use Rattle.jfr_output.proofs.UsedLaws.{described_end, described_next, or_false}
use Rattle.jfr_output.proofs.metadata.add_described.Goals as goal

pub loop-class-init : goal.loop-class-init
loop-class-init c = λ id. sym (or_false (is_in c.args.used.now.ids id))

pub loop-class-preserved : goal.loop-class-preserved
loop-class-preserved c = λ id.
    let class = c.class-item.result in
    let there = listed_at c.as_slice-class-items.ensures c.loop-class.class-index class (omega arith) c.class-item.is in
    described_next (describes c.args.filter.now) c.args.classes.now c.loop-class.class-index class id (is_in c.args.used.now.ids id) (is_in c.loop-class.used.ids id)
    (is_in c.add_if_described.new.used.ids id) there (c.loop-class.invariant id) (c.in_ok-add_if_described.ensures id)

pub returns : goal.returns
returns c = λ id.
    let n : length c.args.classes.now ≤ c.loop-class.class-index = omega (arith, c.loop-class-test.false, ap length c.as_slice-class-items.ensures) in
    c.loop-class.invariant id ∙ ap (λ z. is_in c.args.used.now.ids id || z) (described_end (describes c.args.filter.now) c.args.classes.now c.loop-class.class-index id n)
