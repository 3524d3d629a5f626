use Rattle.std.proofs.Common.{◌≡◌, ap, refl, sym, ◌∙◌, subst}
use Rattle.std.specs.Prelude.{Some, None, option_map, IfOk, IfSome, IsOk, IsSome}
use Rattle.jfr_base.specs.declared.integer.Var.{Var}
use Rattle.jfr_value.specs.Values.{key_of}
use Rattle.jfr_value.proofs.ReferenceLaws.{key_refers, none_refers, text_refers}
use Rattle.jfr_value.proofs.reference.target.Goals as goal

pub reference_key-requires-clause-holds : goal.reference_key-requires-clause-holds
reference_key-requires-clause-holds c =
    let r = key_refers c.args.classes.now c.args.node.now.bytes.now c.args.node.now.at c.args.node.now.end c.layout_of-layout.result c.args.node.now.shape c.requires.0 c.layout_of-layout.ensures.sound
    c.layout_of-layout.ensures.shape c.requires.1 c.layout_of-layout.ensures.form c.layout_of-layout.ensures.known c.in-Key.is in
    subst IsSome (sym r.1) refl

pub returns-in-Key : goal.returns-in-Key
returns-in-Key c =
    let r = key_refers c.args.classes.now c.args.node.now.bytes.now c.args.node.now.at c.args.node.now.end c.layout_of-layout.result c.args.node.now.shape c.requires.0 c.layout_of-layout.ensures.sound
    c.layout_of-layout.ensures.shape c.requires.1 c.layout_of-layout.ensures.form c.layout_of-layout.ensures.known c.in-Key.is in
    let e : c.reference_key.result ≡ r.0 = subst (λ z. IfSome z (λ (key : Var). c.reference_key.result ≡ key.value)) r.1 c.reference_key.ensures in
    ap (λ z. Some (c.args.node.now.shape.class, z)) e ∙ sym r.2

pub string_key-requires-clause-holds : goal.string_key-requires-clause-holds
string_key-requires-clause-holds c =
    let r = text_refers c.args.classes.now c.args.node.now.bytes.now c.args.node.now.at c.args.node.now.end c.layout_of-layout.result c.args.node.now.shape c.requires.0
    c.layout_of-layout.ensures.sound c.layout_of-layout.ensures.shape c.requires.1 c.layout_of-layout.ensures.form c.layout_of-layout.ensures.known c.in-Text.is in
    subst IsOk (sym r.1) refl

pub returns-in_err-key-in-Text : goal.returns-in_err-key-in-Text
returns-in_err-key-in-Text c =
    let r = text_refers c.args.classes.now c.args.node.now.bytes.now c.args.node.now.at c.args.node.now.end c.layout_of-layout.result c.args.node.now.shape c.requires.0
    c.layout_of-layout.ensures.sound c.layout_of-layout.ensures.shape c.requires.1 c.layout_of-layout.ensures.form c.layout_of-layout.ensures.known c.in-Text.is in
    let e : None ≡ key_of r.0 = subst (λ z. IfOk z (λ got. None ≡ key_of got.value)) r.1 c.in_err-key-in-Text.ensures in
    c.from_residual.ensures ∙ (ap (option_map (λ key. (c.args.node.now.shape.class, key))) e ∙ sym r.2)

pub returns-in_ok-key-in-Text : goal.returns-in_ok-key-in-Text
returns-in_ok-key-in-Text c =
    let r = text_refers c.args.classes.now c.args.node.now.bytes.now c.args.node.now.at c.args.node.now.end c.layout_of-layout.result c.args.node.now.shape c.requires.0
    c.layout_of-layout.ensures.sound c.layout_of-layout.ensures.shape c.requires.1 c.layout_of-layout.ensures.form c.layout_of-layout.ensures.known c.in-Text.is in
    let e : Some c.in_ok-key-in-Text.key ≡ key_of r.0 = subst (λ z. IfOk z (λ got. Some c.in_ok-key-in-Text.key ≡ key_of got.value)) r.1 c.in_ok-key-in-Text.ensures in
    ap (option_map (λ key. (c.args.node.now.shape.class, key))) e ∙ sym r.2

pub returns-in_default : goal.returns-in_default
returns-in_default c = sym (none_refers c.args.classes.now c.args.node.now.bytes.now c.args.node.now.at c.args.node.now.end c.layout_of-layout.result c.args.node.now.shape c.requires.0
    c.layout_of-layout.ensures.sound c.layout_of-layout.ensures.shape c.requires.1 c.layout_of-layout.ensures.form c.layout_of-layout.ensures.known c.in_default.not-Key c.in_default.not-Text)
