use Rattle.std.specs.Str.{chars}
use Rattle.std.specs.Prelude.{Vec, codes, Option, None, option_and_then, option_to_list, replicate, take}
use Rattle.std.specs.declared.alloc.Global.{Global}
use Rattle.std.proofs.Common.{rules, ◌≡◌, ℕ, List, ◌+◌, ◌<◌, ◌≤◌, ◌++◌, [], ap, arith, length, refl, subst, sym, ◌∙◌}
use Rattle.std.proofs.Math.Seq.{take-append_seam}
use Rattle.std.proofs.lemmas.List.{length-replicate}
use Rattle.jfr_chunk.specs.Parts.{events_of}
use Rattle.jfr_value.specs.Nodes.{node_of}
use Rattle.jfr_stacks.specs.Adding.{AreAtMost, AreBelow, HasPending, kept_at, most_counted, most_events}
use Rattle.jfr_stacks.specs.Frames.{after_references, field_numbers}
use Rattle.jfr_stacks.specs.Held.{counts_in}
use Rattle.jfr_stacks.specs.Roles.{WritesFor}
use Rattle.jfr_stacks.specs.declared.writer.StackWriter.{StackWriter}
use Rattle.jfr_stacks.specs.Texts.{entry_text, stack_of, trace_text}
use Rattle.jfr_stacks.proofs.CountLaws.{below_fits, below_more}
use Rattle.jfr_stacks.proofs.EventLaws.{done_next, left, length_more}
use Rattle.jfr_stacks.proofs.PendingLaws.{pending_below, pending_none, pending_same, small_more, zeros_small}
use Rattle.jfr_stacks.proofs.TextLaws.{traced_all}
use Rattle.jfr_stacks.proofs.counting.count_events.Goals.{in-Some+in_ok-count_trace, in_default}
use Rattle.jfr_stacks.proofs.counting.count_events.Goals as goal

pub loop-number-init : goal.loop-number-init
loop-number-init c =
    let p = c.args.chunk.now in
    let old = counts_in c.args.counts.now in
    let n = c.len.result in
    let q : c.in_ok-by_entry.by_entry.items ≡ replicate n 0 = search rules in
    record {
      done = [];
      rest = refl;
      few = omega arith;
      pending = subst (λ ns. HasPending (entry_text p) old [] old 0 ns) (sym q) (pending_none (entry_text p) old n);
      each = ap length q ∙ (length-replicate n 0 ∙ (c.len.ensures ∙ ap length c.pools.ensures));
      small = subst (AreAtMost 0) (sym q) (zeros_small 0 n);
      ready = c.requires.ready;
    }

pub kept_trace-requires : goal.kept_trace-requires
unfolding chars
kept_trace-requires c = c.in_ok-fields.ensures ∙ ap (field_numbers (codes "stackTrace")) c.classes.ensures

pub count_trace-requires-clause-fits : goal.count_trace-requires-clause-fits
count_trace-requires-clause-fits c =
    let i = c.loop-number.invariant in
    let f : length i.done ≤ c.loop-number.number = i.few in
    let t : c.loop-number.number < length (events_of c.args.chunk.now) = subst (λ n. c.loop-number.number < n) c.event_count-number-end.ensures c.loop-number-test.true in
    let r : length (events_of c.args.chunk.now) ≤ most_events = c.requires.few in
    below_fits (most_counted + length i.done) 1 (counts_in c.loop-number.counts) (omega arith)
    (pending_below (entry_text c.args.chunk.now) (counts_in c.args.counts.now) i.done (counts_in c.loop-number.counts) 0 most_counted c.loop-number.by_entry.items i.pending c.requires.below)

pub returns-in_err-count_trace-clause-below : goal.returns-in_err-count_trace-clause-below
returns-in_err-count_trace-clause-below c = λ most b.
    (let i = c.loop-number.invariant in
    let f : length i.done ≤ c.loop-number.number = i.few in
    let t : c.loop-number.number < length (events_of c.args.chunk.now) = subst (λ n. c.loop-number.number < n) c.event_count-number-end.ensures c.loop-number-test.true in
    let r : length (events_of c.args.chunk.now) ≤ most_events = c.requires.few in
    let l : most + length i.done ≤ most + most_events = omega arith in
    subst (AreBelow (most + most_events)) (sym c.in_err-count_trace.ensures.unchanged)
    (below_more (most + length i.done) (most + most_events) (counts_in c.loop-number.counts) l
    (pending_below (entry_text c.args.chunk.now) (counts_in c.args.counts.now) i.done (counts_in c.loop-number.counts) 0 most c.loop-number.by_entry.items i.pending b)))

take_new : (n : ℕ) (new rest : List ℕ) → length new ≡ n → take n (new ++ rest) ≡ new
take_new n new rest l = ap (λ m. take m (new ++ rest)) (sym l) ∙ take-append_seam new rest

pub loop-number-preserved : goal.loop-number-preserved
loop-number-preserved c =
    let p = c.args.chunk.now in
    let old = counts_in c.args.counts.now in
    let i = c.loop-number.invariant in
    let number = c.loop-number.number in
    let f : length i.done ≤ number = i.few in
    let t : number < length (events_of p) = subst (λ n. number < n) c.event_count-number-end.ensures c.loop-number-test.true in
    elim c.match-kept_trace.branch [
      | in-Some+in_ok-count_trace w ↦
          let n = node_of w.in-Some.trace in
          let o : Option (List ℕ) = trace_text p (after_references 16 p n) in
          let k : option_and_then (stack_of p) (kept_at p c.args.kept.now number) ≡ o =
          traced_all p (kept_at p c.args.kept.now number) ∙ ap (option_and_then (λ t. trace_text p (after_references 16 p t))) (sym w.in-Some.ensures.exact) in
          let new = w.count_trace.new.by_entry in
          let d = i.done ++ option_to_list o in
          let q : c.match-kept_trace.by_entry.items ≡ new = ap (λ (v : Vec ℕ Global). v.items) w.by_entry-is ∙ take_new _ new _ (w.count_trace.auto.by_entry ∙ w.deref_mut.ensures.len) in
          let h : HasPending (entry_text p) old d (counts_in w.count_trace.new.counts) 0 new =
          w.in_ok-count_trace.ensures.ok old i.done (subst (λ ns. HasPending (entry_text p) old i.done (counts_in c.loop-number.counts) 0 ns) (sym w.deref_mut.ensures.value) i.pending) in
          record {
            done = d;
            rest = ap (λ z. (i.done ++ option_to_list z) ++ left (stack_of p) p c.args.kept.now (number + 1)) (sym k)
                ∙ done_next (stack_of p) p c.args.kept.now number i.done (kept_at p c.args.kept.now number) t c.requires.each refl i.rest;
            few = let m = length_more i.done o in omega arith;
            pending = subst (λ ns. HasPending (entry_text p) old d (counts_in c.match-kept_trace.counts) 0 ns) (sym q)
                (subst (λ m. HasPending (entry_text p) old d m 0 new) (sym (ap counts_in w.counts-is)) h);
            each = ap length q ∙ (w.count_trace.auto.by_entry ∙ (ap length w.deref_mut.ensures.value ∙ i.each));
            small = subst (AreAtMost (number + 1)) (sym q) (w.in_ok-count_trace.ensures.small number (subst (AreAtMost number) (sym w.deref_mut.ensures.value) i.small));
            ready = subst (λ (z : StackWriter). WritesFor p z.frames) (sym w.writer-is) w.in_ok-count_trace.ensures.ready;
          }
      | in_default w ↦
          let q : c.match-kept_trace.by_entry.items ≡ c.loop-number.by_entry.items = ap (λ (v : Vec ℕ Global). v.items) w.by_entry-is in
          let k : option_and_then (stack_of p) (kept_at p c.args.kept.now number) ≡ None =
          traced_all p (kept_at p c.args.kept.now number) ∙ ap (option_and_then (λ t. trace_text p (after_references 16 p t))) (sym w.in_default.ensures.exact) in
          let d = i.done ++ [] in
          let o : HasPending (entry_text p) old d (counts_in c.loop-number.counts) 0 c.loop-number.by_entry.items =
          pending_same (entry_text p) old i.done (counts_in c.loop-number.counts) c.loop-number.by_entry.items None refl i.pending in
          let l : number ≤ number + 1 = omega arith in
          record {
            done = d;
            rest = ap (λ z. (i.done ++ option_to_list z) ++ left (stack_of p) p c.args.kept.now (number + 1)) (sym k)
                ∙ done_next (stack_of p) p c.args.kept.now number i.done (kept_at p c.args.kept.now number) t c.requires.each refl i.rest;
            few = let m = length_more i.done None in omega arith;
            pending = subst (λ ns. HasPending (entry_text p) old d (counts_in c.match-kept_trace.counts) 0 ns) (sym q)
                (subst (λ m. HasPending (entry_text p) old d m 0 c.loop-number.by_entry.items) (sym (ap counts_in w.counts-is)) o);
            each = ap length q ∙ i.each;
            small = subst (AreAtMost (number + 1)) (sym q) (small_more number (number + 1) c.loop-number.by_entry.items l i.small);
            ready = subst (λ (z : StackWriter). WritesFor p z.frames) (sym w.writer-is) i.ready;
          }
    ]
