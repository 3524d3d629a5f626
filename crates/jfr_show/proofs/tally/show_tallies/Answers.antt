use Rattle.std.proofs.Common.{rules, ◌≡◌, ◌++◌, ◌∙◌, ap, map, sym}
use Rattle.std.specs.List.{flat_map}
use Rattle.std.specs.Map.Iter.{deref_pair}
use Rattle.std.proofs.lemmas.Map.Iter.{iter_end}
use Rattle.jfr_show.specs.Held.{entry_of}
use Rattle.jfr_show.specs.Totals.{tally_line}
use Rattle.jfr_show.proofs.TallyLaws.{entries-tallies_in}
use Rattle.jfr_show.proofs.tally.show_tallies.Goals as goal

pub returns : goal.returns
returns c =
    let e : map deref_pair c.loop-name.yielded ≡ c.args.tallies.now.entries = search (rules, iter_end) in
    record { ok = c.loop-name.invariant ∙ ap (λ es. c.args.out.now ++ flat_map tally_line es) (ap (map entry_of) e ∙ sym (entries-tallies_in c.args.tallies.now c.iter-name-items.ensures.ordered)) }
