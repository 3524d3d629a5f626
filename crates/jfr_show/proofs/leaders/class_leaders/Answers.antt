use Rattle.std.proofs.Common.{◌≡◌, ◌+◌, Some, ap, arith, length, refl, slice_get, subst, sym, take}
use Rattle.std.specs.List.{AllZip}
use Rattle.std.proofs.lemmas.Option.{slice_get_read}
use Rattle.jfr_show.specs.Counting.{IsLed}
use Rattle.jfr_show.proofs.LeaderLaws.{leaders_all, leaders_next, own_name}
use Rattle.jfr_show.proofs.leaders.class_leaders.Goals as goal

pub loop-index-preserved : goal.loop-index-preserved
loop-index-preserved c =
    let k = c.args.chunk.now.classes in
    let texts = c.args.chunk.now.body.strings in
    let names = c.in_ok-classes.classes.items in
    let index = c.loop-index.index in
    let class = c.class-item.result in
    let there : slice_get names index ≡ Some class =
    subst (λ z. slice_get z index ≡ Some class) c.deref-class-items.ensures.value (slice_get_read c.deref-class-items.result.now _ index class refl (omega arith) c.class-item.is) in
    let found = c.in_ok-leader.ensures.ok k texts c.loop-index.invariant.0 (own_name k texts names index class c.in_ok-classes.ensures.ok there) in (
      found.1,
      subst (AllZip (IsLed k) (take (index + 1) k)) (sym c.in_ok-push.ensures.items)
          (leaders_next k texts names index c.in_ok-leader.leader class c.loop-index.leaders.items c.in_ok-classes.ensures.ok there found.0 c.loop-index.invariant.1),
    )

pub returns : goal.returns
returns c =
    let names = c.in_ok-classes.classes.items in
    record {
      ok = leaders_all c.args.chunk.now.classes c.args.chunk.now.body.strings names c.loop-index.index c.loop-index.leaders.items c.in_ok-classes.ensures.ok
          (omega (arith, ap length c.deref-class-items.ensures.value)) c.loop-index.invariant.1;
    }
