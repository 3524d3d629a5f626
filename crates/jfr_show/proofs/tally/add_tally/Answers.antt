use Rattle.std.proofs.Common.{rules, sym, ◌∙◌}
use Rattle.jfr_show.proofs.TallyLaws.{adds_kept, adds_new, get-tallies_in}
use Rattle.jfr_show.proofs.tally.add_tally.Goals as goal

pub plus-requires-clause-events : goal.plus-requires-clause-events
plus-requires-clause-events c = (c.requires.each c.in-Some.kept.now (get-tallies_in c.args.tallies.now c.args.name.now ∙ sym c.in-Some.ensures.value)).0

pub plus-requires-clause-bytes : goal.plus-requires-clause-bytes
plus-requires-clause-bytes c = (c.requires.each c.in-Some.kept.now (get-tallies_in c.args.tallies.now c.args.name.now ∙ sym c.in-Some.ensures.value)).1

pub returns-in-Some-clause-ok : goal.returns-in-Some-clause-ok
returns-in-Some-clause-ok c =
    let h = c.get_mut.follows.holds c.plus.result in
    adds_kept c.args.tallies.now (c.get_mut.follows.lender c.plus.result) c.args.name.now c.in-Some.kept.now c.args.tally c.plus.result (search rules) c.in-Some.ensures.value c.plus.ensures
    (h.3 (search rules))

pub returns-in_ok-insert-in-None-clause-ok : goal.returns-in_ok-insert-in-None-clause-ok
returns-in_ok-insert-in-None-clause-ok c = adds_new c.args.tallies.now c.get_mut.follows.lender-at-none c.insert.new.self c.in_ok-from_str-in-None.field-0 c.args.name.now c.args.tally
    c.get_mut.follows.holds-at-none (search rules) c.in_ok-from_str-in-None.ensures.ok c.in-None.ensures.value c.in_ok-insert-in-None.ensures.updates
