use Rattle.std.proofs.Common.{◌≤◌, ◌∙◌, ◌++◌, ◌∷◌, [], List, arith, length, subst, sym, take, drop}
use Rattle.jfr_frame.specs.declared.framed.Framed.{Framed}
use Rattle.jfr_show.specs.Counting.{AreSmall, AreTallies}
use Rattle.jfr_show.proofs.RecordTallies.{counted_small, next_counted}
use Rattle.jfr_show.proofs.SizeLaws.{AreWithin, record_within, records_within}
use Rattle.jfr_show.proofs.counting.class_tallies.Goals as goal

pub count_record-requires-clause-small : goal.count_record-requires-clause-small
count_record-requires-clause-small c =
    let w = subst (λ rs. AreWithin rs (length c.args.chunk.now.bytes)) (sym c.frames-frames.ensures) (records_within c.args.chunk.now.bytes c.args.chunk.now.records c.requires.parts.records) in
    subst AreSmall (sym c.deref_mut.ensures.value)
    (counted_small c.classes-classes.result.now c.in_ok-leaders.leaders.items c.frames-frames.result.now
    (length c.args.chunk.now.bytes) c.loop-number.number c.loop-number.counted.items w c.requires.small c.loop-number.invariant)

pub count_record-requires-clause-size : goal.count_record-requires-clause-size
count_record-requires-clause-size c =
    let w = subst (λ rs. AreWithin rs (length c.args.chunk.now.bytes)) (sym c.frames-frames.ensures) (records_within c.args.chunk.now.bytes c.args.chunk.now.records c.requires.parts.records) in
    let l : c.at.result.size ≤ length c.args.chunk.now.bytes = record_within c.frames-frames.result.now (length c.args.chunk.now.bytes) c.loop-number.number c.at.result w c.at.ensures in
    let s = c.requires.small in
    omega arith

pub loop-number-preserved : goal.loop-number-preserved
loop-number-preserved c =
    let k = c.classes-classes.result.now in
    let leaders = c.in_ok-leaders.leaders.items in
    let old = c.deref_mut.result.now in
    let new = c.count_record.new.counted in
    let step : (rs : List Framed) → AreTallies k leaders rs old → AreTallies k leaders (rs ++ c.at.result ∷ []) new =
    subst (λ leaders. (rs : List Framed) → AreTallies k leaders rs old → AreTallies k leaders (rs ++ c.at.result ∷ []) new) c.deref.ensures.value c.count_record.ensures in
    next_counted k leaders c.frames-frames.result.now c.loop-number.number c.loop-number.counted.len c.at.result old new (drop (length new) c.loop-number.counted.items)
    c.at.ensures (c.count_record.auto.counted ∙ c.deref_mut.ensures.len)
    (subst (AreTallies k leaders (take c.loop-number.number c.frames-frames.result.now)) (sym c.deref_mut.ensures.value) c.loop-number.invariant) step
