use Rattle.std.proofs.Common.{rules, ◌≡◌, ◌++◌, ◌∙◌, ap, map, sym, string_bytes}
use Rattle.std.specs.List.{flat_map}
use Rattle.std.specs.Map.Iter.{deref_pair}
use Rattle.std.proofs.lemmas.Map.Iter.{iter_end}
use Rattle.jfr_stacks.specs.Held.{entry_in}
use Rattle.jfr_stacks.specs.Folded.{line}
use Rattle.jfr_stacks.proofs.MapLaws.{entries-counts_in}
use Rattle.jfr_stacks.proofs.counts.push_lines.Goals as goal

pub returns : goal.returns
returns c =
    let e : map deref_pair c.loop-text.yielded ≡ c.args.counts.now.entries = search (rules, iter_end) in
    record {
      ok = c.loop-text.invariant ∙ ap (λ es. string_bytes c.args.out.now ++ flat_map line es)
          (ap (map entry_in) e ∙ sym (entries-counts_in c.args.counts.now c.iter-text-items.ensures.ordered));
    }
