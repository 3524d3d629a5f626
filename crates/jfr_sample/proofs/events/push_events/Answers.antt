use Rattle.std.proofs.Common.{◌≡◌, ◌+◌, ap, sym, refl, ◌∙◌, append-nil}
use Rattle.jfr_sample.specs.Sample.{draw, event, next_draw}
use Rattle.jfr_sample.proofs.PartLaws.{parts_next, event_of_draw, draw_more}
use Rattle.jfr_sample.proofs.events.push_events.Goals as goal

pub loop-count-init : goal.loop-count-init
unfolding draw
loop-count-init c = record { drawn = refl; done = sym (append-nil c.args.into.now.items) }

pub loop-count-preserved : goal.loop-count-preserved
loop-count-preserved c =
    let held = c.loop-count.invariant in
    let drawn : c.next_draw-draw.result ≡ draw c.args.seed (c.loop-count.count + 1) = c.next_draw-draw.ensures ∙ ap next_draw held.drawn ∙ sym (draw_more c.args.seed c.loop-count.count) in
    record {
      drawn = drawn;
      done = c.in_ok-push_event.ensures ∙ parts_next (event c.args.seed c.args.events) c.loop-count.count c.args.into.now.items c.loop-count.into.items _ held.done
          (event_of_draw c.args.seed c.args.events (c.loop-count.count + 1) c.next_draw-draw.result drawn);
    }
