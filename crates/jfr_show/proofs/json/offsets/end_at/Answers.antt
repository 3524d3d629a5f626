use Rattle.jfr_value.specs.Walks.{IsLayoutIfKnown}
use Rattle.jfr_show.proofs.LayoutForms.{integer_stands, key_stands, is_integer, is_reference}
use Rattle.jfr_show.proofs.json.offsets.end_at.Goals as goal

pub integer_at-number-requires-clause-holds : goal.integer_at-number-requires-clause-holds
integer_at-number-requires-clause-holds c =
    let p = c.args.chunk.now in
    let t = c.requires.holds in
    let s = c.requires.layout in
    let known : IsLayoutIfKnown p.classes c.args.layout.now = record { form = s.form; of_class = λ o h. s } in
    integer_stands p.classes p.bytes c.args.at t.0 c.args.layout.now known t.1.0 t.1.1 c.in-Integer.is

pub integer_at-key-requires-clause-holds : goal.integer_at-key-requires-clause-holds
integer_at-key-requires-clause-holds c =
    let p = c.args.chunk.now in
    let t = c.requires.holds in
    let s = c.requires.layout in
    let known : IsLayoutIfKnown p.classes c.args.layout.now = record { form = s.form; of_class = λ o h. s } in
    key_stands p.classes p.bytes c.args.at t.0 c.args.layout.now known t.1.0 t.1.1 c.in-Key.is

pub returns-in-Integer : goal.returns-in-Integer
returns-in-Integer c = λ to t.
    (let p = c.args.chunk.now in
    let s = c.requires.layout in
    let known : IsLayoutIfKnown p.classes c.args.layout.now = record { form = s.form; of_class = λ o h. s } in
    (is_integer p.classes p.bytes c.args.at to c.args.layout.now known t.0 t.1 c.in-Integer.is c.integer_at-number.result c.integer_at-number.ensures).ends)

pub returns-in-Key : goal.returns-in-Key
returns-in-Key c = λ to t.
    (let p = c.args.chunk.now in
    let s = c.requires.layout in
    let known : IsLayoutIfKnown p.classes c.args.layout.now = record { form = s.form; of_class = λ o h. s } in
    (is_reference p.classes p.bytes c.args.at to c.args.layout.now known t.0 t.1 c.in-Key.is c.integer_at-key.result c.integer_at-key.ensures).ends)
