use Rattle.std.proofs.Common.{ℕ, ◌+◌, ◌∙◌, ap, subst, Option, List, [], ◌∷◌}
use Rattle.std.proofs.lemmas.Result.{err_from_is_err_and}
use Rattle.jfr_split.specs.Parts.{folder_of}
use Rattle.jfr_plan.specs.Effects.{Create}
use Rattle.jfr_plan.specs.Parts.{IsPlaceAfter}
use Rattle.jfr_plan.proofs.Leaving.{leaves_more, leaves_none, leaves_then, counts_then}
use Rattle.jfr_split.specs.Names.{part_name}
use Rattle.jfr_split.specs.Splits.{closing}
use Rattle.jfr_split.proofs.writing.open_part.Goals as goal

pub returns-in_err-close_part : goal.returns-in_err-close_part
returns-in_err-close_part g c =
    let p = err_from_is_err_and c.from_residual.result c.from_residual.ensures.1 in
    let create = Create (part_name (folder_of c.args.split.rule.now) c.args.split.file.now (c.args.part.now.number + 1)) ∷ [] in
    record {
      contents = rw (p.1, p.2) (leaves_more (closing c.args.part.now) create c.in_err-close_part.field-0.0 (g.P.Place.state c.args.place.now)
          (g.P.Place.state c.close_part.new.place) c.in_err-close_part.ensures.contents);
      counts = rw (p.1, p.2) c.in_err-close_part.ensures.counts;
    }

pub returns-in_err-name : goal.returns-in_err-name
returns-in_err-name g c =
    let p = err_from_is_err_and c.from_residual-in_err-name.result c.from_residual-in_err-name.ensures.1 in
    let create = Create (part_name (folder_of c.args.split.rule.now) c.args.split.file.now (c.args.part.now.number + 1)) ∷ [] in
    record {
      contents = rw (p.1, p.2) (leaves_none (closing c.args.part.now) create c.in_ok-close_part.field-0 (g.P.Place.state c.args.place.now)
          (g.P.Place.state c.close_part.new.place) c.in_ok-close_part.ensures.contents);
      counts = rw (p.1, p.2) c.in_ok-close_part.ensures.counts;
    }

pub returns : goal.returns
returns g c =
    let x = g.P.Place.state c.args.place.now in
    let y = g.P.Place.state c.close_part.new.place in
    let z = g.P.Place.state c.create_output.new.place in
    let o = c.in_ok-close_part.field-0 in
    let r = c.create_output.result in
    let closed = c.in_ok-close_part.ensures in
    record {
      contents = leaves_then (closing c.args.part.now) (Create (part_name (folder_of c.args.split.rule.now) c.args.split.file.now (c.args.part.now.number + 1)) ∷ []) o r x y z closed.counts
          closed.contents
          (subst (λ (n : List ℕ). IsPlaceAfter (Create n ∷ []) r y z)
          (c.as_str.ensures.value ∙ c.in_ok-name.ensures ∙ ap (λ (o : Option (List ℕ)). part_name o c.args.split.file.now (c.args.part.now.number + 1)) c.folder_name-folder.ensures)
          c.create_output.ensures.contents);
      counts = counts_then o r x y z closed.counts c.create_output.ensures.counts;
    }
