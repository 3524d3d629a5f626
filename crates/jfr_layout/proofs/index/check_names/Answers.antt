use Rattle.std.proofs.Common.{arith, length, rules, ◌<◌}
use Rattle.jfr_layout.proofs.NamesSeen.{has_its_number, names_end, new_name, old_name}
use Rattle.jfr_layout.proofs.index.check_names.Goals as goal

pub offset_bounds-numbers-field : goal.offset_bounds-numbers-field
offset_bounds-numbers-field c =
    let within : c.loop-field.field < length c.args.numbers.now = has_its_number c.args.fields.now c.args.numbers.now c.loop-field.field c.requires (omega arith) in
    search (rules, within)

pub bounds-numbers-field : goal.bounds-numbers-field
bounds-numbers-field c = has_its_number c.args.fields.now c.args.numbers.now c.loop-field.field c.requires (omega arith)

pub returns-then-not-is_new : goal.returns-then-not-is_new
returns-then-not-is_new c =
    let l = c.loop-field in
    old_name c.args.class c.args.fields.now c.args.numbers.now l.field l.seen c.in_ok-is_new.is_new c.requires l.invariant (omega arith) c.in_ok-is_new.ensures.added c.if-not-is_new.true

pub loop-field-preserved : goal.loop-field-preserved
loop-field-preserved c =
    let l = c.loop-field in
    new_name c.args.class c.args.fields.now c.args.numbers.now l.field l.seen c.in_ok-is_new.is_new c.requires l.invariant
    (omega arith) c.in_ok-is_new.ensures.added c.insert.new.self c.if-not-is_new.false c.in_ok-is_new.ensures.updates

pub returns : goal.returns
returns c = names_end c.args.class c.args.fields.now c.args.numbers.now c.loop-field.field c.loop-field.seen c.loop-field.invariant (omega arith)
