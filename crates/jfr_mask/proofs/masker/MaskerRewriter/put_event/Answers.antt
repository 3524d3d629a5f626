use Rattle.std.proofs.Common.{◌++◌, ◌∙◌, ap, sym}
use Rattle.jfr_chunk.specs.Indexed.{event_at}
use Rattle.jfr_mask.proofs.StringsPut.{HasStrings, has_strings}
use Rattle.jfr_mask.proofs.masker.MaskerRewriter.put_event.Goals as goal

strings_are : (c : goal.After-put_strings-arg-2-1) → HasStrings c.args.self.now c.args.chunk.now (event_at c.args.event) c.of_event-numbers.result.start c.of_event-numbers.result.end
strings_are c =
    has_strings c.args.self.now c.args.chunk.now c.args.event.number (event_at c.args.event) c.requires.suits.0 c.parts_are_valid.ensures.parts c.requires.suits.3
    (sym c.is_kept.ensures ∙ c.if-not-is_kept.false) c.requires.listed c.of_event-numbers.ensures.start c.of_event-numbers.ensures.end

pub put_strings-requires-clause-order : goal.put_strings-requires-clause-order
put_strings-requires-clause-order c = (strings_are c).order

pub put_strings-requires-clause-listed : goal.put_strings-requires-clause-listed
put_strings-requires-clause-listed c = (strings_are c).listed

pub put_strings-requires-clause-strings : goal.put_strings-requires-clause-strings
put_strings-requires-clause-strings c = (strings_are c).all

pub put_strings-requires-clause-apart : goal.put_strings-requires-clause-apart
put_strings-requires-clause-apart c = (strings_are c).apart

pub put_strings-requires-clause-within : goal.put_strings-requires-clause-within
put_strings-requires-clause-within c = (strings_are c).within

pub returns-clause-put : goal.returns-clause-put
returns-clause-put c = λ done.
    let strings = has_strings c.args.self.now c.args.chunk.now c.args.event.number (event_at c.args.event) c.requires.suits.0 c.parts_are_valid.ensures.parts c.requires.suits.3
    (sym c.is_kept.ensures ∙ c.if-not-is_kept.false) c.requires.listed c.of_event-numbers.ensures.start c.of_event-numbers.ensures.end in
    c.in_ok-put_strings.ensures.ok ∙ ap (λ z. c.args.out.now.items ++ z) strings.put
