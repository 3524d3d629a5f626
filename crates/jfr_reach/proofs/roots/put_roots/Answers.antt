use Rattle.std.proofs.Common.{◌≡◌, ◌<◌, arith, length, true, sym, ◌∙◌, subst}
use Rattle.std.specs.Prelude.{All}
use Rattle.std.specs.List.{list_all}
use Rattle.std.proofs.lemmas.List.Elements.{All-from_recursion}
use Rattle.jfr_chunk.specs.Parts.{events_of}
use Rattle.jfr_worklist.specs.Putting.{Puts}
use Rattle.jfr_reach.proofs.EventWalk.{all_entries}
use Rattle.jfr_reach.proofs.roots.put_roots.Goals as goal

pub put_each-requires : goal.put_each-requires
put_each-requires g c =
    let k : list_all (λ keep. keep) c.args.kept.now ≡ true = sym c.are_all.ensures ∙ c.if-are_all.true in
    let l : length c.args.kept.now ≡ length (events_of c.args.chunk.now) = sym c.len.ensures ∙ (c.if-len-event_count.true ∙ c.event_count.ensures) in
    let a = all_entries c.args.chunk.now c.requires.parts c.args.kept.now c.all_entries.result.now k l c.all_entries.ensures in
    subst (λ z. All (λ n. n < z) c.all_entries.result.now) (sym c.requires.size) (All-from_recursion (λ n. n < length c.args.chunk.now.entries) c.all_entries.result.now a.below)

pub returns-then-len-event_count-clause-puts : goal.returns-then-len-event_count-clause-puts
returns-then-len-event_count-clause-puts g c =
    let k : list_all (λ keep. keep) c.args.kept.now ≡ true = sym c.are_all.ensures ∙ c.if-are_all.true in
    let l : length c.args.kept.now ≡ length (events_of c.args.chunk.now) = sym c.len.ensures ∙ (c.if-len-event_count.true ∙ c.event_count.ensures) in
    let a = all_entries c.args.chunk.now c.requires.parts c.args.kept.now c.all_entries.result.now k l c.all_entries.ensures in
    subst (λ z. Puts z c.args.list.now c.put_each.new.list) a.roots_are c.put_each.ensures.puts

pub returns-then-len-event_count-clause-cost : goal.returns-then-len-event_count-clause-cost
returns-then-len-event_count-clause-cost g c =
    let k : list_all (λ keep. keep) c.args.kept.now ≡ true = sym c.are_all.ensures ∙ c.if-are_all.true in
    let l : length c.args.kept.now ≡ length (events_of c.args.chunk.now) = sym c.len.ensures ∙ (c.if-len-event_count.true ∙ c.event_count.ensures) in
    let a = all_entries c.args.chunk.now c.requires.parts c.args.kept.now c.all_entries.result.now k l c.all_entries.ensures in
    omega (arith, a.few, c.put_each.ensures.cost)
