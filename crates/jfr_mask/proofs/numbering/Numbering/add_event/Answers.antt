use Rattle.std.proofs.lemmas.Result.{on_ok_weaker}
use Rattle.jfr_mask.proofs.StringTexts.{EventListed, event_added, event_listed}
use Rattle.jfr_mask.proofs.numbering.Numbering.add_event.Goals as goal

is_listed : (c : goal.After-of_event) → EventListed c.args.self.now c.args.number c.of_event.result.start c.of_event.result.end
is_listed c =
    event_listed c.args.self.now c.args.number c.of_event.result.start c.of_event.result.end c.parts_are_valid.ensures.parts c.requires.listed c.requires.kept c.of_event.ensures.start c.of_event.ensures.end

pub add_strings-requires-clause-order : goal.add_strings-requires-clause-order
add_strings-requires-clause-order c = (is_listed c).order

pub add_strings-requires-clause-within : goal.add_strings-requires-clause-within
add_strings-requires-clause-within c = (is_listed c).within

pub add_strings-requires-clause-strings : goal.add_strings-requires-clause-strings
add_strings-requires-clause-strings c = (is_listed c).all

pub returns-clause-ok : goal.returns-clause-ok
returns-clause-ok c =
    let listed = event_listed c.args.self.now c.args.number c.of_event.result.start c.of_event.result.end c.parts_are_valid.ensures.parts c.requires.listed c.requires.kept c.of_event.ensures.start
    c.of_event.ensures.end in
    on_ok_weaker c.add_strings.result (event_added c.args.self.now c.args.number c.of_event.result.start c.of_event.result.end c.args.growing.now.dictionary c.add_strings.new.growing.dictionary listed)
    c.add_strings.ensures.ok
