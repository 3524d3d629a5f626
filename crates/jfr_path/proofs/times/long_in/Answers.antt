use Rattle.std.proofs.Common.{◌≡◌, ◌∙◌, ◌<◌, ◌^◌, ap, rules, subst, sym, Some}
use Rattle.std.specs.Prelude.{IsSome, slice_get}
use Rattle.jfr_base.specs.Formats.{int_at}
use Rattle.jfr_value.specs.Nodes.{node_of}
use Rattle.jfr_value.proofs.WalkLaws.{some_there}
use Rattle.jfr_path.proofs.LeadingLaws.{layout_got, long_is_there, long_next, long_order, long_value}
use Rattle.jfr_path.proofs.times.long_in.Goals as goal

pub known_integer-requires-clause-order : goal.known_integer-requires-clause-order
known_integer-requires-clause-order c =
    let there : slice_get c.args.layouts.now c.args.number ≡ Some c.in_ok-layout.layout.now =
    layout_got c.args.layouts.now c.args.number c.in_ok-layout.layout.now _ c.in_ok-layout.ensures.lookup.0 c.in_ok-layout.ensures.lookup.1 in
    long_order c.args.chunk.now (node_of c.args.fields.now) c.args.layouts.now c.requires.layouts c.args.number c.args.at c.in_ok-layout.layout.now there c.in-Long-Integer.is-0 c.in-Long-Integer.is-1
    c.requires.start

pub known_integer-requires-clause-known : goal.known_integer-requires-clause-known
known_integer-requires-clause-known c =
    let there : slice_get c.args.layouts.now c.args.number ≡ Some c.in_ok-layout.layout.now =
    layout_got c.args.layouts.now c.args.number c.in_ok-layout.layout.now _ c.in_ok-layout.ensures.lookup.0 c.in_ok-layout.ensures.lookup.1 in
    subst (λ z. IsSome (int_at z c.args.at c.args.fields.now.end)) (sym c.requires.of_chunk)
    (some_there (int_at c.args.chunk.now.bytes c.args.at c.args.fields.now.end)
    (long_is_there c.args.chunk.now (node_of c.args.fields.now) c.args.layouts.now c.requires.layouts c.args.number c.args.at c.in_ok-layout.layout.now there c.in-Long-Integer.is-0
    c.in-Long-Integer.is-1 c.requires.start))

pub returns-in-Long-Integer-clause-value : goal.returns-in-Long-Integer-clause-value
returns-in-Long-Integer-clause-value c =
    let there : slice_get c.args.layouts.now c.args.number ≡ Some c.in_ok-layout.layout.now =
    layout_got c.args.layouts.now c.args.number c.in_ok-layout.layout.now _ c.in_ok-layout.ensures.lookup.0 c.in_ok-layout.ensures.lookup.1 in
    let small : c.known_integer.result.value < 2 ^ 64 = search rules in
    long_value c.args.chunk.now (node_of c.args.fields.now) c.args.layouts.now c.requires.layouts c.args.number c.args.at c.in_ok-layout.layout.now there c.in-Long-Integer.is-0 c.in-Long-Integer.is-1
    c.requires.start
    c.known_integer.result (ap (λ z. int_at z c.args.at c.args.fields.now.end) (sym c.requires.of_chunk) ∙ c.known_integer.ensures.exact) small

pub returns-in-Long-Integer-clause-next : goal.returns-in-Long-Integer-clause-next
returns-in-Long-Integer-clause-next c =
    let there : slice_get c.args.layouts.now c.args.number ≡ Some c.in_ok-layout.layout.now =
    layout_got c.args.layouts.now c.args.number c.in_ok-layout.layout.now _ c.in_ok-layout.ensures.lookup.0 c.in_ok-layout.ensures.lookup.1 in
    long_next c.args.chunk.now (node_of c.args.fields.now) c.args.layouts.now c.requires.layouts c.args.number c.args.at c.in_ok-layout.layout.now there c.in-Long-Integer.is-0 c.in-Long-Integer.is-1
    c.requires.start
    c.known_integer.result (ap (λ z. int_at z c.args.at c.args.fields.now.end) (sym c.requires.of_chunk) ∙ c.known_integer.ensures.exact)
