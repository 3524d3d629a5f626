use Rattle.std.proofs.Common.{◌+◌, ◌<◌, sym, subst, [], ◌∷◌, ◌++◌, Err, arith}
use Rattle.std.proofs.lemmas.Result.{err_from_is_err_and}
use Rattle.jfr_split.specs.Parts.{folder_of}
use Rattle.jfr_plan.specs.Effects.{outside, Create, Append}
use Rattle.jfr_plan.specs.Rules.{Asked}
use Rattle.jfr_plan.specs.Parts.{IsAfterPart}
use Rattle.jfr_plan.proofs.Leaving.{leaves_more, leaves_then, counts_then, tallied}
use Rattle.jfr_split.specs.Names.{part_name}
use Rattle.jfr_split.specs.Splits.{closing}
use Rattle.jfr_split.proofs.Filling.{asks_some}
use Rattle.jfr_split.proofs.writing.begin_part.Goals as goal

pub returns-in_err-open_part-clause-contents : goal.returns-in_err-open_part-clause-contents
returns-in_err-open_part-clause-contents g c = λ sink.
    let p = err_from_is_err_and c.from_residual.result c.from_residual.ensures.1 in
    let name = part_name (folder_of c.args.split.rule.now) c.args.split.file.now in
    let x = g.P.Place.state c.args.place.now in
    let y = g.P.Place.state c.open_part.new.place in
    let less : c.args.part.now.number < c.args.split.rule.now.max_parts = omega (arith, c.if-split-part.false) in
    rw (p.1, p.2) (subst (λ (a : Asked). IsAfterPart a (Err c.in_err-open_part.field-0.0) (outside x sink) (outside y sink))
    (sym (asks_some c.args.split.rule.now name c.args.part.now c.args.chunk.now less))
    (leaves_more (closing c.args.part.now ++ Create (name (c.args.part.now.number + 1)) ∷ []) (Append c.args.chunk.now ∷ []) c.in_err-open_part.field-0.0 x y c.in_err-open_part.ensures.contents sink))

pub returns-in_err-open_part-clause-counts : goal.returns-in_err-open_part-clause-counts
returns-in_err-open_part-clause-counts g c = λ sink.
    let p = err_from_is_err_and c.from_residual.result c.from_residual.ensures.1 in
    rw (p.1, p.2) ((tallied (Err c.in_err-open_part.field-0.0) (outside (g.P.Place.state c.args.place.now) sink) (outside (g.P.Place.state c.open_part.new.place) sink)
    (c.in_err-open_part.ensures.counts sink)).1)

pub returns-clause-contents : goal.returns-clause-contents
returns-clause-contents g c = λ sink.
    let name = part_name (folder_of c.args.split.rule.now) c.args.split.file.now in
    let x = g.P.Place.state c.args.place.now in
    let y = g.P.Place.state c.open_part.new.place in
    let z = g.P.Place.state c.append_output.new.place in
    let less : c.args.part.now.number < c.args.split.rule.now.max_parts = omega (arith, c.if-split-part.false) in
    subst (λ (a : Asked). IsAfterPart a c.append_output.result (outside x sink) (outside z sink)) (sym (asks_some c.args.split.rule.now name c.args.part.now c.args.chunk.now less))
    (leaves_then (closing c.args.part.now ++ Create (name (c.args.part.now.number + 1)) ∷ []) (Append c.args.chunk.now ∷ []) c.in_ok-open_part.field-0 c.append_output.result x y z
    c.in_ok-open_part.ensures.counts c.in_ok-open_part.ensures.contents c.append_output.ensures.contents sink)

pub returns-clause-counts : goal.returns-clause-counts
returns-clause-counts g c = λ sink.
    let x = g.P.Place.state c.args.place.now in
    let z = g.P.Place.state c.append_output.new.place in
    let r = c.append_output.result in
    (tallied r (outside x sink) (outside z sink)
    (counts_then c.in_ok-open_part.field-0 r x (g.P.Place.state c.open_part.new.place) z c.in_ok-open_part.ensures.counts c.append_output.ensures.counts sink)).1
