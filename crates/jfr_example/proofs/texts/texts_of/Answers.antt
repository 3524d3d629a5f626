use Rattle.std.proofs.Common.{◌≡◌, ℕ, List, [], ◌∷◌, ◌+◌, ◌++◌, ap, append-nil, sym, ◌∙◌}
use Rattle.std.specs.Prelude.{Option, option_to_list, take}
use Rattle.std.specs.List.{filter_map}
use Rattle.jfr_chunk.specs.Parts.{EventAt, events_of}
use Rattle.jfr_chunk.specs.Paths.{named_text}
use Rattle.jfr_chunk.specs.Indexed.{event_at}
use Rattle.jfr_example.proofs.ListLaws.{made_next}
use Rattle.jfr_example.proofs.texts.texts_of.Goals.{in-Some+in_ok-push_text, in_default}
use Rattle.jfr_example.proofs.texts.texts_of.Goals as goal

pub loop-number-preserved : goal.loop-number-preserved
loop-number-preserved c =
    let p = c.args.chunk.now in
    let h : EventAt → Option (List ℕ) = λ event. named_text p event.node c.args.names.now in
    let made = filter_map h (take c.loop-number.number (events_of p)) in
    let next : filter_map h (take (c.loop-number.number + 1) (events_of p)) ≡ made ++ option_to_list c.in_ok-text.field-0 =
    made_next h (events_of p) c.loop-number.number (event_at c.known_event-event.result) c.known_event-event.ensures.exact ∙ ap (λ o. made ++ option_to_list o) (sym c.in_ok-text.ensures.ok) in
    elim c.match-branch-2.branch [
      | in-Some+in_ok-push_text w ↦ w.texts-is
          ∙ (w.in_ok-push_text.ensures.ok ∙ (ap (λ z. z ++ w.in-Some.text ∷ []) c.loop-number.invariant ∙ (ap (λ o. made ++ option_to_list o) (sym w.in-Some.is) ∙ sym next)))
      | in_default w ↦ w.texts-is ∙ (c.loop-number.invariant ∙ (sym (append-nil made) ∙ (ap (λ o. made ++ option_to_list o) (sym w.in_default.is) ∙ sym next)))
    ]
