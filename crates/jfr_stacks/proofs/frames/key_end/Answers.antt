use Rattle.std.proofs.Common.{◌≡◌, ap, refl, subst, sym, ◌∙◌}
use Rattle.std.specs.Prelude.{IsSome, Some}
use Rattle.jfr_base.specs.declared.integer.Var.{Var}
use Rattle.jfr_value.proofs.VisitLaws.{key_node}
use Rattle.jfr_stacks.proofs.frames.key_end.Goals as goal

pub integer_at-requires-clause-holds : goal.integer_at-requires-clause-holds
integer_at-requires-clause-holds c =
    let t = c.requires.holds in
    let k = key_node c.args.chunk.now.classes c.args.chunk.now.bytes c.args.at t.0 c.args.limit c.args.shape t.2 c.requires.within t.1.0 t.1.1 c.requires.item c.requires.reference in
    subst (λ z. IsSome {T = Var} z) (sym k.found) refl

pub returns : goal.returns
returns c = λ to t l.
    (let k = key_node c.args.chunk.now.classes c.args.chunk.now.bytes c.args.at to c.args.limit c.args.shape l c.requires.within t.0 t.1 c.requires.item c.requires.reference in
    let e : c.integer_at.result ≡ record { value = k.key; end = to } = (let x : Some c.integer_at.result ≡ Some (record { value = k.key; end = to }) = sym c.integer_at.ensures ∙ k.found in cc) in
    ap (λ (z : Var). z.end) e)
