use Rattle.std.proofs.Common.{◌≡◌, ◌+◌, ◌<◌, ap, arith, length, subst, sym, true, ◌∙◌}
use Rattle.std.specs.List.{list_all}
use Rattle.std.specs.Prelude.{IfOk, Some, option_map, slice_get, take}
use Rattle.std.proofs.lemmas.List.{length-set}
use Rattle.std.proofs.lemmas.Option.{slice_get-map}
use Rattle.jfr_chunk.specs.Parts.{events_of}
use Rattle.jfr_chunk.specs.Indexed.{event_at}
use Rattle.jfr_chunk.specs.Chosen.{chosen, is_chosen}
use Rattle.jfr_path.specs.Threads.{Asked}
use Rattle.jfr_path.specs.Verdicts.{is_kept}
use Rattle.jfr_path.proofs.ChosenLaws.{all_chosen}
use Rattle.jfr_path.proofs.ListLaws.{set_next}
use Rattle.jfr_path.proofs.chosen.choose.Goals as goal

pub loop-number-preserved : goal.loop-number-preserved
loop-number-preserved c =
    let s : slice_get (chosen c.args.filter.now c.args.chunk.now) c.loop-number.number ≡ Some c.in_ok-keep.keep =
    slice_get-map (is_chosen c.args.filter.now c.args.chunk.now) (events_of c.args.chunk.now) c.loop-number.number
    ∙ (ap (option_map (is_chosen c.args.filter.now c.args.chunk.now)) c.known_event-event.ensures.exact
    ∙ (ap (λ z. Some (is_chosen z c.args.chunk.now (event_at c.known_event-event.result))) (sym c.loop-number.invariant.filter) ∙ ap (λ z. Some z) (sym c.in_ok-keep.ensures.ok))) in
    let l : c.loop-number.number < length c.loop-number.kept = omega (arith, c.loop-number.invariant.room, c.loop-number-test.true) in
    record {
      filter = ap (λ (z : Asked). z.filter) c.in_ok-keep.ensures.same ∙ c.loop-number.invariant.filter;
      chunk = ap (λ (z : Asked). z.chunk) c.in_ok-keep.ensures.same ∙ c.loop-number.invariant.chunk;
      room = ap length c.set.ensures ∙ (length-set c.loop-number.kept c.loop-number.number c.in_ok-keep.keep ∙ c.loop-number.invariant.room);
      so_far = ap (take (c.loop-number.number + 1)) c.set.ensures ∙ set_next c.loop-number.kept (chosen c.args.filter.now c.args.chunk.now) c.loop-number.number c.in_ok-keep.keep l s
          c.loop-number.invariant.so_far;
    }

pub returns-then-are_all_kept : goal.returns-then-are_all_kept
returns-then-are_all_kept c =
    let k : list_all is_kept c.in_ok-verdicts.verdicts.items ≡ true = ap (list_all is_kept) (sym c.deref.ensures.value) ∙ (sym c.are_all_kept.ensures ∙ c.if-are_all_kept.true) in
    let e = all_chosen c.args.filter.now c.args.chunk.now c.keep_all.ensures.parts c.in_ok-verdicts.verdicts.items c.in_ok-verdicts.ensures.ok k in
    record { ok = subst (λ bs. IfOk c.keep_all.result (λ kept. kept ≡ bs)) (sym e) c.keep_all.ensures.ok }
