use Rattle.std.specs.Prelude.{◌≤◌, Some, length, slice_range}
use Rattle.std.proofs.Common.{◌+◌, ◌++◌, ◌∙◌, ap, arith, subst, sym}
use Rattle.std.proofs.lemmas.Option.{slice_get-get_or}
use Rattle.jfr_frame.specs.Records.{record_end}
use Rattle.jfr_mask.specs.NewLeaves.{masked_by}
use Rattle.jfr_mask.proofs.StringsPut.{IsPutUpTo, NextString, next_string, one_put}
use Rattle.jfr_mask.proofs.masker.Masker.put_strings.Goals as goal

is_next : (c : goal.After-start) → NextString c.args.self.now.strings.chunk.now c.loop-number.copied c.index-string.result.now
is_next c = next_string c.loop-number.invariant c.index-string.result.now c.index-string.ensures (omega (arith, c.loop-number-test.true)) c.requires.listed

pub slice_bounds-extend_from_slice-count : goal.slice_bounds-extend_from_slice-count
slice_bounds-extend_from_slice-count c = let order = (is_next c).order in let at = c.start.ensures in omega (arith, order, at)

pub slice_bounds-extend_from_slice-start : goal.slice_bounds-extend_from_slice-start
slice_bounds-extend_from_slice-start c = let order = (is_next c).order in let at = c.start.ensures in omega (arith, order, at)

pub slice_bounds-extend_from_slice-end : goal.slice_bounds-extend_from_slice-end
slice_bounds-extend_from_slice-end c =
    let within = (is_next c).string.within in
    let at = c.start.ensures in
    subst (λ z. c.start.result ≤ length z) (sym c.bytes-bytes.ensures.exact) (omega (arith, within, at))

pub put_string_at-requires-clause-there : goal.put_string_at-requires-clause-there
put_string_at-requires-clause-there c =
    slice_get-get_or c.args.self.now.events.now.strings.items c.loop-number.number c.index-string.result.now (omega (arith, c.loop-number-test.true, c.requires.listed)) ∙ ap Some (sym c.index-string.ensures)

pub put_string_at-requires-clause-string : goal.put_string_at-requires-clause-string
put_string_at-requires-clause-string c = (next_string c.loop-number.invariant c.index-string.result.now c.index-string.ensures (omega (arith, c.loop-number-test.true)) c.requires.listed).string

pub loop-number-preserved : goal.loop-number-preserved
loop-number-preserved c =
    let string = c.index-string.result.now in
    subst (λ z. IsPutUpTo (masked_by c.args.self.now) c.args.self.now.strings.chunk.now c.args.self.now.events.now.strings.items c.args.numbers.start c.args.numbers.end c.args.frame.at (record_end c.args.frame) (c.loop-number.number + 1) z c.args.out.now.items c.put_string_at.new.out.items)
    (sym c.end-copied.ensures)
    (one_put c.loop-number.invariant c.index-string.result.now c.index-string.ensures (omega (arith, c.loop-number-test.true)) c.requires.listed c.put_string_at.new.out.items
    (c.in_ok-put_string_at.ensures.ok
    ∙ ap (λ z. z ++ masked_by c.args.self.now c.index-string.result.now)
    (c.in_ok-extend_from_slice.ensures.items
    ∙ (ap (λ z. c.loop-number.out.items ++ slice_range c.bytes-bytes.result.now c.loop-number.copied z) c.start.ensures
    ∙ ap (λ z. c.loop-number.out.items ++ slice_range z c.loop-number.copied string.at) c.bytes-bytes.ensures.exact))))
