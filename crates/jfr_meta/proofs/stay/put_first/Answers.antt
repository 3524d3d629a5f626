use Rattle.std.proofs.Common.{arith, ap, length, ◌∙◌}
use Rattle.jfr_layout.specs.Classes.{class_index}
use Rattle.jfr_layout.proofs.Lists.{listed_at}
use Rattle.jfr_worklist.specs.Marks.{those}
use Rattle.jfr_worklist.proofs.PuttingLaws.{puts_none, puts_size}
use Rattle.jfr_meta.specs.Stays.{is_in}
use Rattle.jfr_meta.proofs.PutsLaws.{first_next, first_end, one_first}
use Rattle.jfr_meta.proofs.stay.put_first.Goals as goal

pub loop-class-init : goal.loop-class-init
loop-class-init c = (puts_none c.args.list.now, c.requires.size)

pub put_first_id-requires : goal.put_first_id-requires
put_first_id-requires c = record { size = c.loop-class.invariant.1 }

pub loop-class-preserved : goal.loop-class-preserved
loop-class-preserved c =
    let k = c.args.classes.now in
    let used = is_in c.args.used.now in
    let class = c.class-item.result in
    let at = listed_at c.as_slice-class-items.ensures c.loop-class.class-index class (omega arith) c.class-item.is in
    let puts = c.put_first_id.ensures.puts in (
      first_next k used c.loop-class.class-index class c.args.list.now c.loop-class.list c.put_first_id.new.list at c.loop-class.invariant.0 puts,
      puts_size (those (class_index k) (one_first k used class)) c.loop-class.list c.put_first_id.new.list puts ∙ c.loop-class.invariant.1,
    )

pub returns : goal.returns
returns c = record {
  puts = first_end c.args.classes.now (is_in c.args.used.now) c.loop-class.class-index c.args.list.now c.loop-class.list
      (omega (arith, ap length c.as_slice-class-items.ensures)) c.loop-class.invariant.0;
}
