use Rattle.std.proofs.Common.{◌^◌, ◌<◌, ℕ, List, Option, ap, arith, length, rules, sym, ◌∙◌}
use Rattle.std.specs.Prelude.{option_map, slice_get}
use Rattle.jfr_frame.specs.declared.framed.Framed.{Framed}
use Rattle.jfr_frame.proofs.RecordLaws.{rising_of}
use Rattle.jfr_output.proofs.CursorLaws.{none_remain, number_below, number_within, remaining_record_next, told_some, told_none}
use Rattle.jfr_output.proofs.remaining_records.next_remaining_record.Goals as goal

pub pass_record-remaining_record-requires-clause-there : goal.pass_record-remaining_record-requires-clause-there
pass_record-remaining_record-requires-clause-there c = ap (λ rs. option_map (λ (r : Framed). r.at) (slice_get rs c.records.cursor.frame)) (sym c.frames-frames.ensures) ∙ sym c.in-Some.ensures

pub pass_record-remaining_record-requires-clause-more : goal.pass_record-remaining_record-requires-clause-more
pass_record-remaining_record-requires-clause-more c =
    let p = c.args.chunk.now in
    let there = ap (λ rs. option_map (λ (r : Framed). r.at) (slice_get rs c.records.cursor.frame)) (sym c.frames-frames.ensures) ∙ sym c.in-Some.ensures in
    let small : c.in-Some.at < 2 ^ 64 = search rules in
    omega (
      arith,
      small,
      number_below 68 p.records c.records.cursor.frame c.in-Some.at (rising_of p.bytes 68 68 (length p.bytes) p.records (omega arith) c.records.invariant.cursor.parts.records)
          there,
    )

pub returns-then-is_some-clause-exact : goal.returns-then-is_some-clause-exact
returns-then-is_some-clause-exact c = λ new.
    let n = remaining_record_next new c.args.chunk.now c.args.kept.now c.records.cursor c.pass_record-remaining_record.new.cursor _ c.in-Some.at c.pass_record-remaining_record.result
    c.frames-frames.ensures (sym c.in-Some.ensures) c.pass_record-remaining_record.ensures.next (c.pass_record-remaining_record.ensures.exact new) in
    told_some new _ _ _ (c.records.invariant.same new ∙ n) (sym c.is_some.ensures ∙ c.if-is_some.true)

pub records-preserved : goal.records-preserved
records-preserved c =
    let n = λ (new : Option (List ℕ)). remaining_record_next new c.args.chunk.now c.args.kept.now c.records.cursor c.pass_record-remaining_record.new.cursor _ c.in-Some.at
    c.pass_record-remaining_record.result c.frames-frames.ensures (sym c.in-Some.ensures) c.pass_record-remaining_record.ensures.next (c.pass_record-remaining_record.ensures.exact new) in
    record { cursor = c.pass_record-remaining_record.ensures.cursor; same = λ new. told_none new _ _ _ (c.records.invariant.same new ∙ n new) (sym c.is_some.ensures ∙ c.if-is_some.false) }

pub records-smaller : goal.records-smaller
records-smaller c = omega (arith, c.pass_record-remaining_record.ensures.next, number_within c.frames-frames.result.now c.records.cursor.frame c.in-Some.at (sym c.in-Some.ensures))

pub returns-clause-exact : goal.returns-clause-exact
returns-clause-exact c = λ new. c.records.invariant.same new ∙ none_remain new c.args.chunk.now c.args.kept.now c.records.cursor c.frames-frames.result.now c.frames-frames.ensures c.in_default.ensures
