use Rattle.std.proofs.Common.{◌++◌, ap, arith, ◌∙◌}
use Rattle.jfr_renumber.proofs.ClassLaws.{ClassStands, some_at, cut_next, class_next, class_keys}
use Rattle.jfr_renumber.proofs.numbering.number_all.Goals as goal

pub loop-from-preserved : goal.loop-from-preserved
loop-from-preserved c =
    let e = c.class_end-to.ensures in
    let to = c.class_end-to.result in
    let s : ClassStands c.args.keys.now c.loop-from.from to = record { order = e.range.0; within = e.range.1; same = e.same; next = e.next } in
    let f = some_at c.args.keys.now c.loop-from.from (omega (arith, c.loop-from-test.true)) in (
      e.range.1,
      λ together us same are.
          let i = c.loop-from.invariant.1 together us same are in (
            cut_next together us c.args.keys.now are c.loop-from.from to s i.0 f.0 f.1,
            c.in_ok-extend_from_slice.ensures.items ∙ (ap (λ z. c.loop-from.numbers.items ++ z) c.deref.ensures.value
                ∙ class_next together us c.args.keys.now are c.loop-from.from to s i.0 f.0 f.1 c.loop-from.numbers.items c.in_ok-these.these.items i.1
                (c.in_ok-these.ensures.ok together us f.0.class same (class_keys together us c.args.keys.now are c.loop-from.from to s i.0 f.0 f.1))),
          ),
    )
