use Rattle.std.specs.Prelude.{◌+◌, ◌<◌, ◌≤◌, ◌^◌, [], length}
use Rattle.std.proofs.Common.{Err, ap, sym, subst, ◌∙◌}
use Rattle.jfr_header.specs.Cuts.{joined}
use Rattle.jfr_plan.specs.Ends.{TooLong}
use Rattle.jfr_plan.specs.Rules.{Stops}
use Rattle.jfr_output.proofs.RecordingLaws.{refused_by}
use Rattle.jfr_mask.specs.Maskers.{masking_of}
use Rattle.jfr_mask.specs.Recordings.{all_masked, dictionary_over, dictionary_with, masked}
use Rattle.jfr_mask.proofs.RecordingSteps.{asks_append, asks_late, asks_refused, asks_unmasked, dictionary_next, length_next, read_accepted, read_dictionary, read_masked}
use Rattle.jfr_mask.proofs.recording.RecordingMasker.mask.Goals as goal

pub returns-in-Err-clause-made : goal.returns-in-Err-clause-made
returns-in-Err-clause-made c = λ before after number.
    let o = c.args.self.now.options in
    asks_refused o.filter.now (masking_of o) (dictionary_over o.filter.now (masking_of o) [] before) (length (joined (all_masked o.filter.now (masking_of o) [] before)))
    (length before + 1) c.args.number c.args.chunk.now _ c.in-Err.fault c.of_chunk.result number (refused_by c.args.chunk.now c.in-Err.fault c.in-Err.ensures.exact) c.of_chunk.ensures

pub returns-then-self-ge-OUTPUT_LIMIT-clause-made : goal.returns-then-self-ge-OUTPUT_LIMIT-clause-made
returns-then-self-ge-OUTPUT_LIMIT-clause-made c = λ before after number.
    let o = c.args.self.now.options in
    let long : 2 ^ 40 ≤ c.args.self.now.written = c.if-self-ge-OUTPUT_LIMIT.true in
    asks_late o.filter.now (masking_of o) (dictionary_over o.filter.now (masking_of o) [] before) (length (joined (all_masked o.filter.now (masking_of o) [] before)))
    (length before + 1) c.args.chunk.now (read_accepted c.args.chunk.now c.in-Ok.chunk c.in-Ok.ensures.exact) (subst (λ n. 2 ^ 40 ≤ n) after.written long)
    ∙ ap (λ n. Stops (TooLong n)) (sym number)

pub returns-in-Err-masked-clause-made : goal.returns-in-Err-masked-clause-made
returns-in-Err-masked-clause-made c = λ before after number.
    let o = c.args.self.now.options in
    let d = dictionary_over o.filter.now (masking_of o) [] before in
    let same = ap (λ z. masked o.filter.now (masking_of o) z c.args.chunk.now) (sym after.dictionary)
    ∙ read_masked o.filter.now (masking_of o) c.args.self.now.dictionary c.args.chunk.now c.in-Ok.chunk c.in-Ok.ensures.exact in
    asks_unmasked o.filter.now (masking_of o) d (length (joined (all_masked o.filter.now (masking_of o) [] before)))
    (length before + 1) c.args.number c.args.chunk.now _ c.in-Err-masked.fault c.ending_of.result number (read_accepted c.args.chunk.now c.in-Ok.chunk c.in-Ok.ensures.exact)
    (λ k. subst (λ z. 2 ^ 30 ≤ length z) (sym same) (c.in-Err-masked.ensures.too_long (ap (λ e. Err e) k))) c.ending_of.ensures

pub returns-clause-made : goal.returns-clause-made
returns-clause-made c = λ before after number.
    let o = c.args.self.now.options in
    let d = dictionary_over o.filter.now (masking_of o) [] before in
    let same = ap (λ z. masked o.filter.now (masking_of o) z c.args.chunk.now) (sym after.dictionary)
    ∙ read_masked o.filter.now (masking_of o) c.args.self.now.dictionary c.args.chunk.now c.in-Ok.chunk c.in-Ok.ensures.exact in
    asks_append o.filter.now (masking_of o) d (length (joined (all_masked o.filter.now (masking_of o) [] before))) (length before + 1) c.args.chunk.now c.in-Ok-masked.bytes.items
    (read_accepted c.args.chunk.now c.in-Ok.chunk c.in-Ok.ensures.exact) (same ∙ sym c.in-Ok-masked.ensures.ok)
    (subst (λ n. n < 2 ^ 40) after.written c.if-self-ge-OUTPUT_LIMIT.false) c.in-Ok-masked.ensures.below

pub returns-clause-after : goal.returns-clause-after
returns-clause-after c = λ before after.
    let o = c.args.self.now.options in
    let g = o.filter.now in
    let m = masking_of o in
    let x = c.args.chunk.now in
    let same = ap (λ z. masked g m z x) (sym after.dictionary) ∙ read_masked g m c.args.self.now.dictionary x c.in-Ok.chunk c.in-Ok.ensures.exact ∙ sym c.in-Ok-masked.ensures.ok in
    record {
      dictionary = c.in-Ok-masked.ensures.dictionary ∙ sym (read_dictionary g m c.args.self.now.dictionary x c.in-Ok.chunk c.in-Ok.ensures.exact) ∙ ap (λ z. dictionary_with g m z x) after.dictionary
          ∙ sym (dictionary_next g m [] before x);
      written = ap (λ n. c.args.self.now.written + n) (c.len.ensures ∙ c.in-Ok-masked.bytes.ok.0) ∙ ap (λ n. n + length c.in-Ok-masked.bytes.items) after.written
          ∙ ap (λ z. length (joined (all_masked g m [] before)) + length z) (sym same) ∙ sym (length_next g m [] before x);
    }
