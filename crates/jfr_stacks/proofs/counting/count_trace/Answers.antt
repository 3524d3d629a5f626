use Rattle.std.proofs.Common.{◌<◌, ◌≤◌, arith, get_or, length, subst}
use Rattle.std.proofs.lemmas.Option.{slice_get-get_or}
use Rattle.std.proofs.lemmas.Result.{on_ok_weaker}
use Rattle.jfr_value.specs.Nodes.{node_of}
use Rattle.jfr_stacks.specs.Adding.{AddsText, most_events}
use Rattle.jfr_stacks.specs.Frames.{after_references}
use Rattle.jfr_stacks.specs.Held.{counts_in}
use Rattle.jfr_stacks.specs.Texts.{entry_text, trace_text}
use Rattle.jfr_stacks.proofs.PendingLaws.{pending_added, pending_more}
use Rattle.jfr_stacks.proofs.counting.count_trace.Goals as goal

pub overflow_add-by_entry : goal.overflow_add-by_entry
overflow_add-by_entry c =
    let ns = c.args.by_entry.now in
    let number = c.in-Entry.number in
    let w : number < length ns = (let a = c.in-Entry.ensures.within in let b = c.requires.each in omega arith) in
    let l : get_or ns number 0 ≤ most_events = c.requires.small.each number (get_or ns number 0) (slice_get-get_or ns number 0 w) in
    omega arith

pub returns-in-Entry-clause-ok : goal.returns-in-Entry-clause-ok
returns-in-Entry-clause-ok c = λ old done h.
    (let ns = c.args.by_entry.now in
    let number = c.in-Entry.number in
    let p = c.args.chunk.now in
    let w : number < length ns = (let a = c.in-Entry.ensures.within in let b = c.requires.each in omega arith) in
    pending_more (entry_text p) old done (counts_in c.args.counts.now) ns number (get_or ns number 0) (trace_text p (after_references 16 p (node_of c.args.trace.now)))
    (slice_get-get_or ns number 0 w) c.in-Entry.ensures.same h)

pub returns-in-Inline-clause-ok : goal.returns-in-Inline-clause-ok
returns-in-Inline-clause-ok c =
    let p = c.args.chunk.now in
    let now = counts_in c.args.counts.now in
    let new = counts_in c.add_trace.new.counts in
    on_ok_weaker c.add_trace.result (λ adds old done h.
    pending_added (entry_text p) old done now c.args.by_entry.now (trace_text p (after_references 16 p (node_of c.args.trace.now))) new
    (subst (λ z. AddsText now (trace_text p z) 1 new) c.follow_references-value.ensures.exact adds) h) c.add_trace.ensures.ok
