use borrow.Author.Tests.{tests}
use Rattle.std.specs.Prelude.{◌==◌, ◌||◌, ◌∷◌, [], map}
use Rattle.std.specs.Slice.Iter as slice
use Rattle.std.proofs.Common.{ap, rules, sym, ◌∙◌}
use Rattle.std.proofs.lemmas.Iterator.Consumers.{YieldsList-end}
use Rattle.std.proofs.lemmas.Iterator.Splits.{YieldsList-from_slice_split}
use Rattle.std.proofs.lemmas.List.{map-append}
use Rattle.bstr.specs.Utf8.{lossy_chars}
use Rattle.jfr_mask.specs.Pseudonyms.{is_known}
use Rattle.jfr_mask.proofs.KnownLaws.{known_append, map_now, none_known}
use Rattle.jfr_mask.proofs.known.Known.of.Goals as goal

pub loop-line-init : goal.loop-line-init
loop-line-init c = λ t. none_known c.new-texts.result.keys t c.new-texts.ensures.empty

pub loop-line-preserved : goal.loop-line-preserved
loop-line-preserved c = λ t.
    c.in_ok-add_line.ensures.ok t
    ∙ (ap (λ b. b || is_known (lossy_chars c.in-Some.line.now ∷ []) t) (c.loop-line.invariant t)
    ∙ (sym (known_append (map (λ line. lossy_chars line.now) c.loop-line.yielded) (lossy_chars c.in-Some.line.now ∷ []) t)
    ∙ ap (λ z. is_known z t) (sym (map-append (λ line. lossy_chars line.now) c.loop-line.yielded (c.in-Some.line ∷ [])))))

pub returns : goal.returns
returns c =
    let bytes = c.args.bytes.now in
    let from = c.into_iter-line-iterator.ensures.into_iter_gives in
    let split = c.split-line-items.ensures in
    let all = YieldsList-end (YieldsList-from_slice_split _ (λ b. b == 10) bytes (ap slice.split_rest from ∙ split.rest)
    (ap slice.split_done from ∙ split.done) (ap slice.split_callee from ∙ split.closure) (λ x r q k. search (rules, tests)))
    c.loop-line.yielded _ c.loop-line.yielded_by _ _ c.in-None.is c.next.ensures.steps in
    record {
      ok = λ t. c.loop-line.invariant t ∙ ap (λ z. is_known z t) (map_now c.loop-line.yielded ∙ ap (map lossy_chars) all.0);
    }
