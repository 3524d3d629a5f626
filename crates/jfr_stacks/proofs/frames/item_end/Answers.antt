use Rattle.std.proofs.Common.{ap, subst, sym, ◌∙◌}
use Rattle.std.specs.Prelude.{IsSome}
use Rattle.jfr_base.specs.Formats.{run, end_or_flaw}
use Rattle.jfr_layout.specs.Classes.{find_class}
use Rattle.jfr_layout.specs.declared.shape.Shape.{Shape}
use Rattle.jfr_value.specs.Reading.{value_format}
use Rattle.jfr_value.proofs.ChildLaws.{inline_known}
use Rattle.jfr_value.proofs.PartLaws.{end_seen}
use Rattle.jfr_stacks.proofs.frames.item_end.Goals as goal

pub end_of-requires-clause-known : goal.end_of-requires-clause-known
end_of-requires-clause-known c =
    let t = c.requires.holds in
    let i = t.1.1 in
    subst (λ k. IsSome (find_class k c.args.shape.class)) (sym c.classes.ensures)
    (subst (λ (s : Shape). IsSome (find_class c.args.chunk.now.classes s.class)) (sym i.shape)
    (inline_known c.args.chunk.now.classes t.1.0 (ap (λ (s : Shape). s.array) (sym i.shape) ∙ c.requires.item) (ap (λ (s : Shape). s.constant) (sym i.shape) ∙ c.if-shape.false) i.fits))

pub unreachable-requires : goal.unreachable-requires
unreachable-requires c =
    let p = c.args.chunk.now in
    let s = c.args.shape in
    let t = c.requires.holds in
    let r = end_seen p.classes p.bytes s c.args.at c.args.limit t.0 c.requires.sound t.1 t.2 c.requires.within in
    let e = c.end_of.ensures.exact ∙ (ap (λ z. end_or_flaw (run (value_format z s) c.bytes.result.now c.args.limit c.args.at)) c.classes.ensures
    ∙ (ap (λ z. end_or_flaw (run (value_format p.classes s) z c.args.limit c.args.at)) c.bytes.ensures.exact ∙ r)) in
    cc (sym c.in-Err.is ∙ e)

pub returns : goal.returns
returns c = λ to t l.
    (let p = c.args.chunk.now in
    let s = c.args.shape in
    let r = end_seen p.classes p.bytes s c.args.at c.args.limit to c.requires.sound t l c.requires.within in
    let e = c.end_of.ensures.exact ∙ (ap (λ z. end_or_flaw (run (value_format z s) c.bytes.result.now c.args.limit c.args.at)) c.classes.ensures
    ∙ (ap (λ z. end_or_flaw (run (value_format p.classes s) z c.args.limit c.args.at)) c.bytes.ensures.exact ∙ r)) in
    cc (sym c.in-Ok.is ∙ e))
