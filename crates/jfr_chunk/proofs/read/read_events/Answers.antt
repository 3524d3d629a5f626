use Rattle.std.proofs.Common.{length, map, ◌+◌, ap, sym, ◌∙◌, subst, arith}
use Rattle.std.proofs.lemmas.Result.{err_from_is_err_and}
use Rattle.jfr_chunk.specs.Indexed.{AreKeysIn, AreRefs, indexed_missing, indexed_refs, used_in}
use Rattle.jfr_chunk.specs.Missing.{AreNotedIn}
use Rattle.jfr_chunk.proofs.CountLaws.{counted_none, counted_next, counted_event, number_fits, whole_small}
use Rattle.jfr_chunk.proofs.EndLaws.{EndIs, end_early, end_full}
use Rattle.jfr_chunk.proofs.EventReading.{ReadTo, record_of, read_none, read_other, read_event, read_stops, read_all}
use Rattle.jfr_chunk.specs.Reach.{node_entries}
use Rattle.jfr_chunk.proofs.KeyLaws.{event_keys, keys_none}
use Rattle.jfr_chunk.proofs.NotedLaws.{event_noted, noted_none}
use Rattle.jfr_chunk.proofs.RefLaws.{event_refs}
use Rattle.jfr_chunk.proofs.UsedLaws.{used_next}
use Rattle.jfr_chunk.proofs.read.read_events.Goals as goal
use Rattle.jfr_chunk.proofs.read.read_events.Goals.{then-end+in_ok-add_early, else-end}

pub fields_end-requires-clause-record : goal.fields_end-requires-clause-record
fields_end-requires-clause-record c = record_of c.args.chunk.now c.args.frames.now c.loop-number.number c.at-frame.result c.requires.records c.at-frame.ensures

pub loop-number-init : goal.loop-number-init
loop-number-init c = record {
  read = read_none c.args.chunk.now c.args.classes.now c.args.frames.now c.clear.new.self c.in_ok-fields.fields.items c.clear.ensures.empty c.in_ok-fields.ensures;
  counted = counted_none c.args.chunk.now c.args.frames.now _ c.requires.records (ap length c.new-refs.ensures.numbers);
  refs_end = λ h. subst (λ z. AreRefs (indexed_refs c.args.pools.now c.args.classes.now c.args.chunk.now c.args.frames.now c.clear.new.self) 0 z c.new-refs.result.numbers.items)
      (sym c.in_ok-fields.ensures) c.new-refs.ensures.numbers;
  even = λ h i. ap length c.new-refs.ensures.keys ∙ sym (ap length c.new-refs.ensures.numbers);
  keys = λ h. keys_none c.args.pools.now c.args.classes.now c.args.chunk.now c.args.frames.now c.clear.new.self c.in_ok-fields.fields.items c.new-refs.result.keys c.in_ok-fields.ensures
      c.new-refs.ensures.keys;
  missing = noted_none _ c.new-refs.result.missing (ap (map (indexed_missing c.args.pools.now c.args.classes.now c.args.chunk.now c.args.frames.now c.clear.new.self)) c.in_ok-fields.ensures)
      c.new-refs.ensures.missing;
  used = λ id. c.clear-2.ensures id ∙ ap (λ z. used_in c.args.frames.now z id) (sym c.in_ok-fields.ensures);
}

pub loop-number-preserved-in_default : goal.loop-number-preserved-in_default
loop-number-preserved-in_default c = record {
  read = read_other c.args.chunk.now c.args.classes.now c.args.frames.now c.loop-number.number c.loop-number.early c.loop-number.fields.items c.at-frame.result c.at-frame.ensures c.in_default.ensures
      c.loop-number.invariant.read;
  counted = counted_next c.args.chunk.now c.args.frames.now c.loop-number.number _ _ c.at-frame.result c.at-frame.ensures (omega arith) c.loop-number.invariant.counted;
  refs_end = c.loop-number.invariant.refs_end;
  even = c.loop-number.invariant.even;
  keys = c.loop-number.invariant.keys;
  missing = c.loop-number.invariant.missing;
  used = c.loop-number.invariant.used;
}

pub fields_end-requires-clause-entries : goal.fields_end-requires-clause-entries
fields_end-requires-clause-entries c =
    let w = whole_small c.args.chunk.now c.requires.whole in
    let e = c.requires.entries in
    omega arith

pub overflow_cast-record : goal.overflow_cast-record
overflow_cast-record c = let f = number_fits c.args.chunk.now c.args.frames.now c.loop-number.number _ c.requires.whole c.loop-number.invariant.counted in omega arith

pub end-requires : goal.end-requires
end-requires c =
    let i = record_of c.args.chunk.now c.args.frames.now c.loop-number.number c.at-frame.result c.requires.records c.at-frame.ensures in
    let w = whole_small c.args.chunk.now c.requires.whole in
    omega (arith, i.within)

pub overflow_cast-end : goal.overflow_cast-end
overflow_cast-end c =
    let i = record_of c.args.chunk.now c.args.frames.now c.loop-number.number c.at-frame.result c.requires.records c.at-frame.ensures in
    let w = whole_small c.args.chunk.now c.requires.whole in
    omega (arith, i.within)

pub overflow_cast-len : goal.overflow_cast-len
overflow_cast-len c =
    let e = counted_event c.args.classes.now c.requires.sound c.args.chunk.now c.args.pools.now c.args.frames.now c.loop-number.number c.in_ok-end.end _ _ _ c.requires.whole c.requires.records
    c.at-frame.ensures (sym c.in_ok-end.was ∙ c.fields_end.ensures.exact) c.in_ok-end.ensures.refs_end.few c.loop-number.invariant.counted in
    omega (arith, e.numbers_fit, c.len-in-loop-number.ensures)

pub loop-number-preserved : goal.loop-number-preserved
loop-number-preserved c =
    let e = counted_event c.args.classes.now c.requires.sound c.args.chunk.now c.args.pools.now c.args.frames.now c.loop-number.number c.in_ok-end.end _ _ _ c.requires.whole c.requires.records
    c.at-frame.ensures (sym c.in_ok-end.was ∙ c.fields_end.ensures.exact) c.in_ok-end.ensures.refs_end.few c.loop-number.invariant.counted in
    let b = c.loop-number.invariant.read.before in
    let i : EndIs c.loop-number.early c.if-end.early c.loop-number.number c.at-frame.result c.in_ok-end.end =
    elim c.if-end.branch [
      | then-end+in_ok-add_early w ↦ subst (λ z. EndIs c.loop-number.early z c.loop-number.number c.at-frame.result c.in_ok-end.end) (sym w.early-is) (end_early _ _ _ _ _ w.in_ok-add_early.ensures)
      | else-end w ↦ subst (λ z. EndIs c.loop-number.early z c.loop-number.number c.at-frame.result c.in_ok-end.end) (sym w.early-is)
          (end_full _ _ _ _ (b.ahead c.loop-number.number (omega arith)) (omega (arith, e.within, w.if-end.false, c.end.ensures)))
    ] in
    record {
      read =
          subst (ReadTo c.args.chunk.now c.args.classes.now c.args.frames.now (c.loop-number.number + 1) c.if-end.early) (sym c.in_ok-push.ensures.items)
          (read_event c.args.chunk.now c.args.classes.now c.args.frames.now c.loop-number.number c.loop-number.early c.if-end.early c.loop-number.fields.items c.at-frame.result c.in_ok-end.end
          c.len-in-loop-number-2.result c.at-frame.ensures c.in-Some.ensures.event (sym c.in_ok-end.was ∙ c.fields_end.ensures.exact) i c.loop-number.invariant.read);
      counted = e.counted;
      refs_end = λ h.
          subst (λ z. AreRefs (indexed_refs c.args.pools.now c.args.classes.now c.args.chunk.now c.args.frames.now c.if-end.early) 0 z c.fields_end.new.refs.numbers.items)
          (sym c.in_ok-push.ensures.items)
          (event_refs (node_entries c.args.pools.now c.args.classes.now c.args.chunk.now) c.args.frames.now c.loop-number.early c.if-end.early c.loop-number.number c.in_ok-end.end
          c.len-in-loop-number-2.result c.at-frame.result c.loop-number.fields.items c.loop-number.refs.numbers.items c.fields_end.new.refs.numbers.items
          c.at-frame.ensures i b.each (c.in_ok-end.ensures.refs_end.appended h) (omega (arith, c.len-in-loop-number-2.ensures))
          (c.loop-number.invariant.refs_end (c.in_ok-end.ensures.refs_end.lacked_none h)));
      even = c.fields_end.ensures.even;
      keys = λ h.
          subst (λ z. AreKeysIn c.args.pools.now c.args.classes.now c.args.chunk.now c.args.frames.now c.if-end.early z c.fields_end.new.refs.keys) (sym c.in_ok-push.ensures.items)
          (event_keys c.args.pools.now c.args.classes.now c.args.chunk.now c.args.frames.now c.loop-number.early c.if-end.early c.loop-number.number c.in_ok-end.end c.len-in-loop-number-2.result
          c.at-frame.result c.loop-number.fields.items c.loop-number.refs.keys c.fields_end.new.refs.keys
          c.at-frame.ensures i b.each c.in_ok-end.ensures.keys (λ l. (let x = c.fields_end.ensures.even h l in omega (arith, c.len-in-loop-number-2.ensures)))
          (c.loop-number.invariant.keys (c.in_ok-end.ensures.refs_end.lacked_none h)));
      missing =
          subst (λ z. AreNotedIn (map (indexed_missing c.args.pools.now c.args.classes.now c.args.chunk.now c.args.frames.now c.if-end.early) z) c.fields_end.new.refs.missing)
          (sym c.in_ok-push.ensures.items)
          (event_noted c.args.pools.now c.args.classes.now c.args.chunk.now c.args.frames.now c.loop-number.early c.if-end.early c.loop-number.number c.in_ok-end.end c.len-in-loop-number-2.result
          c.len-in-loop-number.result c.at-frame.result c.loop-number.fields.items c.loop-number.refs.missing c.fields_end.new.refs.missing
          c.at-frame.ensures i b.each (omega (arith, c.len-in-loop-number.ensures)) c.in_ok-end.ensures.missing c.loop-number.invariant.missing);
      used = λ id.
          used_next c.args.frames.now c.loop-number.fields.items _ c.loop-number.number c.len-in-loop-number-2.result id c.at-frame.result c.at-frame.ensures c.in_ok-push.ensures.items _ _
          (c.loop-number.invariant.used id) (c.in_ok-add.ensures id);
    }

pub returns-in_err-end-clause-refused : goal.returns-in_err-end-clause-refused
returns-in_err-end-clause-refused c =
    let p = err_from_is_err_and c.from_residual-in_err-end.result c.from_residual-in_err-end.ensures.1 in
    rw (p.1, p.2) (read_stops c.args.chunk.now c.args.classes.now c.args.frames.now c.loop-number.number c.loop-number.early c.loop-number.fields.items c.at-frame.result c.in_err-end.field-0.0
    c.requires.records c.at-frame.ensures c.in-Some.ensures.event (sym c.in_err-end.was ∙ c.fields_end.ensures.exact) c.loop-number.invariant.read)

pub returns-clause-ok : goal.returns-clause-ok
returns-clause-ok c = read_all c.args.chunk.now c.args.classes.now c.args.frames.now c.loop-number.number c.loop-number.early c.loop-number.fields.items c.requires.records
    (omega (arith, c.loop-number-test.false, c.len-number-end.ensures)) c.loop-number.invariant.read

pub returns-clause-refs_end : goal.returns-clause-refs_end
returns-clause-refs_end c = c.loop-number.invariant.refs_end c.if-refs.false

pub returns-clause-keys : goal.returns-clause-keys
returns-clause-keys c = c.loop-number.invariant.keys c.if-refs.false
