use Rattle.std.proofs.Common.{sym, ◌∙◌, ap, subst, Ok, Err}
use Rattle.std.proofs.lemmas.Result.{err_from_is_err_and}
use Rattle.jfr_plan.specs.Effects.{outside}
use Rattle.jfr_plan.specs.Parts.{IsAfterPart}
use Rattle.jfr_split.specs.Parts.{Part, folder_of, begins, part_with}
use Rattle.jfr_split.specs.Names.{part_name}
use Rattle.jfr_split.specs.Splits.{asks_part}
use Rattle.jfr_split.proofs.Fold.{of_snoc}
use Rattle.jfr_split.proofs.splitting.SplittingStage.chunk.Goals as goal

pub returns-in_err-write_chunk-clause-contents : goal.returns-in_err-write_chunk-clause-contents
returns-in_err-write_chunk-clause-contents g c = λ before seen number.
    let e = err_from_is_err_and c.from_residual.result c.from_residual.ensures.1 in
    let rule = c.args.self.now.split.rule.now in
    let x = c.args.chunk.now in
    let sink = g.O.Sink.state c.args._out.now in
    rw (e.1, e.2) (subst (λ (p : Part). IsAfterPart (asks_part rule (part_name (folder_of rule) c.args.self.now.split.file.now) (begins rule p x) p x) (Err c.in_err-write_chunk.field-0.0)
    (outside (g.P.Place.state c.args.place.now) sink) (outside (g.P.Place.state c.write_chunk.new.place) sink)) (sym seen) (c.in_err-write_chunk.ensures.contents sink))

pub returns-clause-seen : goal.returns-clause-seen
returns-clause-seen g c = λ before seen number.
    let rule = c.args.self.now.split.rule.now in
    of_snoc rule before c.args.chunk.now ∙ ap (λ (p : Part). part_with rule p c.args.chunk.now) seen ∙ sym c.next_part-self.ensures

pub returns-clause-contents : goal.returns-clause-contents
returns-clause-contents g c = λ before seen number.
    let rule = c.args.self.now.split.rule.now in
    let x = c.args.chunk.now in
    let sink = g.O.Sink.state c.args._out.now in
    subst (λ (p : Part). IsAfterPart (asks_part rule (part_name (folder_of rule) c.args.self.now.split.file.now) (begins rule p x) p x) (Ok (tt {0})) (outside (g.P.Place.state c.args.place.now) sink)
    (outside (g.P.Place.state c.write_chunk.new.place) sink)) (sym seen) (c.in_ok-write_chunk.ensures.contents sink)

pub returns-clause-counts : goal.returns-clause-counts
returns-clause-counts g c = c.in_ok-write_chunk.ensures.counts (g.O.Sink.state c.args._out.now)
