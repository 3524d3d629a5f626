use Rattle.std.proofs.Common.{[], ◌∷◌, ◌+◌, ◌++◌, ◌≤◌, ap, arith, drop, length, refl, subst, sym, ◌∙◌}
use Rattle.std.proofs.lemmas.List.{drop_all}
use Rattle.jfr_chunk.specs.Parts.{events_of}
use Rattle.jfr_chunk.specs.Reach.{kept_by, marked}
use Rattle.jfr_mask.specs.Masked.{is_held_masked, is_masked_string}
use Rattle.jfr_mask.specs.ReachBut.{roots_but}
use Rattle.jfr_mask.proofs.EventRows.{rows_all, rows_next, rows_none}
use Rattle.jfr_mask.proofs.PuttingRest.{rests_all, rests_none, rests_size}
use Rattle.jfr_mask.proofs.WalkBut.{EventsRest, events_next}
use Rattle.jfr_mask.proofs.left.put_events.Goals as goal

pub loop-number-init : goal.loop-number-init
loop-number-init c =
    let p = c.args.chunk.now in
    let keep = c.args.kept.now in
    let masked = is_held_masked c.args.masked.now p.classes in
    let events = c.args.reaching.now.events in
    record {
      marks = rests_all (roots_but (is_masked_string masked) p (kept_by p keep)) (roots_but (is_masked_string masked) p (kept_by p keep)) c.args.reaching.now.list refl;
      rows = λ f. rows_none masked p keep events.strings.items events.ends.items c.requires.nothing.strings c.requires.nothing.ends;
    }

pub put_if_kept-requires-clause-size : goal.put_if_kept-requires-clause-size
put_if_kept-requires-clause-size c =
    let p = c.args.chunk.now in
    let keep = c.args.kept.now in
    let stops = is_masked_string (is_held_masked c.args.masked.now p.classes) in
    rests_size (roots_but stops p (kept_by p keep)) (roots_but stops p (marked (drop c.loop-number.number keep) (drop c.loop-number.number (events_of p)))) c.args.reaching.now.list c.loop-number.reaching.list
    c.loop-number.invariant.marks ∙ c.requires.size

pub loop-number-preserved : goal.loop-number-preserved
loop-number-preserved c =
    let p = c.args.chunk.now in
    let keep = c.args.kept.now in
    let masked = is_held_masked c.args.masked.now p.classes in
    let before = c.loop-number.reaching in
    let between = c.put_if_kept.new.reaching in
    let after = c.end_event.new.self in
    record {
      marks = subst (EventsRest (is_masked_string masked) p keep (c.loop-number.number + 1) c.args.reaching.now.list) (sym c.end_event.ensures.list)
          (events_next (is_masked_string masked) p keep c.loop-number.number c.args.reaching.now.list before.list between.list
          (omega (arith, c.loop-number-test.true, c.len-number-end.ensures)) c.loop-number.invariant.marks c.put_if_kept.ensures.puts);
      rows = λ f.
          (let g = c.end_event.ensures.ends.before f in
          let strings = c.end_event.ensures.ends.strings in
          let ended = c.end_event.ensures.ends.ended f in
          rows_next masked p keep c.loop-number.number before.events.strings.items after.events.strings.items before.events.ends.items after.events.ends.items
          (c.loop-number.invariant.rows (c.put_if_kept.ensures.lists.before g))
          (strings ∙ c.put_if_kept.ensures.lists.appended g)
          (ended ∙ (ap (λ z. z ++ length between.events.strings.items ∷ []) c.put_if_kept.ensures.lists.ends ∙ ap (λ z. before.events.ends.items ++ length z ∷ []) (sym strings))));
    }

pub returns : goal.returns
returns c =
    let p = c.args.chunk.now in
    let keep = c.args.kept.now in
    let masked = is_held_masked c.args.masked.now p.classes in
    let stops = is_masked_string masked in
    let done : length keep ≤ c.loop-number.number = omega (arith, c.loop-number-test.false, c.len-number-end.ensures) in
    record {
      puts = rests_none (roots_but stops p (kept_by p keep)) (roots_but stops p (marked (drop c.loop-number.number keep) (drop c.loop-number.number (events_of p)))) c.args.reaching.now.list
          c.loop-number.reaching.list (ap (λ z. roots_but stops p (marked z (drop c.loop-number.number (events_of p)))) (drop_all c.loop-number.number keep done)) c.loop-number.invariant.marks;
      listed = λ f. rows_all masked p keep c.loop-number.number c.loop-number.reaching.events.strings.items c.loop-number.reaching.events.ends.items done (c.loop-number.invariant.rows f);
    }
