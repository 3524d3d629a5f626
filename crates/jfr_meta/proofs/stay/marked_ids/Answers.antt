use Rattle.std.proofs.Common.{arith, sym, ◌∙◌}
use Rattle.jfr_layout.proofs.Lists.{present}
use Rattle.jfr_meta.specs.Stays.{is_in}
use Rattle.jfr_meta.proofs.PutsLaws.{added, not_added, below_none, below_all}
use Rattle.jfr_meta.proofs.stay.marked_ids.Goals as goal

pub loop-at-init : goal.loop-at-init
loop-at-init c = λ id. c.new-ids.ensures id ∙ sym (below_none c.args.flags.now c.args.classes.now c.requires.sound id)

pub loop-at-preserved-then-not-is_marked : goal.loop-at-preserved-then-not-is_marked
loop-at-preserved-then-not-is_marked c = λ id.
    (let class = present c.args.classes.now c.loop-at.at (omega (arith, c.requires.size)) in
    not_added c.args.flags.now c.args.classes.now c.requires.sound c.loop-at.at id class.0 class.1 (is_in c.loop-at.ids id) (c.loop-at.invariant id) c.if-not-is_marked.true)

pub loop-at-preserved : goal.loop-at-preserved
loop-at-preserved c = λ id.
    added c.args.flags.now c.args.classes.now c.requires.sound c.loop-at.at id c.class_at.result.now c.class_at.ensures (is_in c.loop-at.ids id) (is_in c.insert.new.self id)
    (c.in_ok-insert.ensures.ok id) (c.loop-at.invariant id) c.if-not-is_marked.false

pub returns : goal.returns
returns c = record { ok = λ id. c.loop-at.invariant id ∙ below_all c.args.flags.now c.args.classes.now c.requires.sound c.loop-at.at id (omega (arith, c.requires.size)) }
