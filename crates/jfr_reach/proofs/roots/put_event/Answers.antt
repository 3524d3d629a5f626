use Rattle.std.proofs.Common.{◌<◌, arith, length, refl, sym, subst}
use Rattle.std.specs.Prelude.{All, option_to_list}
use Rattle.std.proofs.lemmas.List.Elements.{All-from_recursion}
use Rattle.jfr_chunk.specs.Reach.{roots}
use Rattle.jfr_worklist.specs.Putting.{Puts}
use Rattle.jfr_reach.proofs.EventWalk.{event_entries, no_event}
use Rattle.jfr_reach.proofs.roots.put_event.Goals as goal

pub put_each-requires : goal.put_each-requires
put_each-requires g c =
    let k = event_entries c.args.chunk.now c.requires.parts c.args.number c.in-Some.entries.now c.in-Some.ensures in
    let a = All-from_recursion (λ n. n < length c.args.chunk.now.entries) c.in-Some.entries.now k.below in
    subst (λ z. All (λ n. n < z) c.in-Some.entries.now) (sym c.requires.size) a

pub returns-in-Some-clause-puts : goal.returns-in-Some-clause-puts
returns-in-Some-clause-puts g c =
    let k = event_entries c.args.chunk.now c.requires.parts c.args.number c.in-Some.entries.now c.in-Some.ensures in
    subst (λ z. Puts z c.args.list.now c.put_each.new.list) k.roots_are c.put_each.ensures.puts

pub returns-in-Some-clause-cost : goal.returns-in-Some-clause-cost
returns-in-Some-clause-cost g c =
    let k = event_entries c.args.chunk.now c.requires.parts c.args.number c.in-Some.entries.now c.in-Some.ensures in
    omega (arith, k.few, c.put_each.ensures.cost)

pub returns-in_default-clause-puts : goal.returns-in_default-clause-puts
returns-in_default-clause-puts g c =
    let n = no_event c.args.chunk.now c.args.number c.in_default.ensures in
    subst (λ o. Puts (roots c.args.chunk.now (option_to_list o)) c.args.list.now c.args.list.now) (sym n) (record { marks = refl; order = refl })
