use Rattle.std.proofs.Common.{[], ◌∷◌, Ok, Err}
use Rattle.std.proofs.lemmas.Result.{err_from_is_err_and}
use Rattle.jfr_plan.specs.Effects.{Create, Append, Finish}
use Rattle.jfr_plan.proofs.Leaving.{leaves_more, leaves_then, counts_then}
use Rattle.jfr_plan.proofs.effects.write_file.Goals as goal

pub returns-in_err-create_output-clause-contents : goal.returns-in_err-create_output-clause-contents
returns-in_err-create_output-clause-contents g c =
    let p = err_from_is_err_and c.from_residual.result c.from_residual.ensures.1 in
    rw (p.1, p.2) (leaves_more (Create c.args.name.now ∷ []) (Append c.args.bytes.now ∷ Finish ∷ []) c.in_err-create_output.field-0.0 (g.P.Place.state c.args.place.now)
    (g.P.Place.state c.create_output.new.place) c.in_err-create_output.ensures.contents)

pub returns-in_err-create_output-clause-counts : goal.returns-in_err-create_output-clause-counts
returns-in_err-create_output-clause-counts g c =
    let p = err_from_is_err_and c.from_residual.result c.from_residual.ensures.1 in
    rw (p.1, p.2) c.in_err-create_output.ensures.counts

pub returns-in_err-append_output-clause-contents : goal.returns-in_err-append_output-clause-contents
returns-in_err-append_output-clause-contents g c =
    let p = err_from_is_err_and c.from_residual-in_err-append_output.result c.from_residual-in_err-append_output.ensures.1 in
    let create = Create c.args.name.now ∷ [] in
    let append = Append c.args.bytes.now ∷ [] in
    let x = g.P.Place.state c.args.place.now in
    let y = g.P.Place.state c.create_output.new.place in
    let z = g.P.Place.state c.append_output.new.place in
    let made = c.in_ok-create_output.ensures in
    let e = c.in_err-append_output.field-0.0 in
    rw (p.1, p.2) (leaves_more (Create c.args.name.now ∷ append) (Finish ∷ []) e x z
    (leaves_then create append c.in_ok-create_output.field-0 (Err e) x y z made.counts made.contents c.in_err-append_output.ensures.contents))

pub returns-in_err-append_output-clause-counts : goal.returns-in_err-append_output-clause-counts
returns-in_err-append_output-clause-counts g c =
    let p = err_from_is_err_and c.from_residual-in_err-append_output.result c.from_residual-in_err-append_output.ensures.1 in
    let x = g.P.Place.state c.args.place.now in
    let y = g.P.Place.state c.create_output.new.place in
    let z = g.P.Place.state c.append_output.new.place in
    rw (p.1, p.2) (counts_then c.in_ok-create_output.field-0 (Err c.in_err-append_output.field-0.0) x y z c.in_ok-create_output.ensures.counts c.in_err-append_output.ensures.counts)

pub returns : goal.returns
returns g c =
    let create = Create c.args.name.now ∷ [] in
    let append = Append c.args.bytes.now ∷ [] in
    let o = c.in_ok-create_output.field-0 in
    let p = c.in_ok-append_output.field-0 in
    let r = c.finish_output.result in
    let x = g.P.Place.state c.args.place.now in
    let y = g.P.Place.state c.create_output.new.place in
    let z = g.P.Place.state c.append_output.new.place in
    let u = g.P.Place.state c.finish_output.new.place in
    let first = c.in_ok-create_output.ensures in
    let second = c.in_ok-append_output.ensures in
    let third = c.finish_output.ensures in
    let counts = counts_then o (Ok p) x y z first.counts second.counts in
    record {
      contents = leaves_then (Create c.args.name.now ∷ append) (Finish ∷ []) p r x z u counts (leaves_then create append o (Ok p) x y z first.counts first.contents second.contents) third.contents;
      counts = counts_then p r x z u counts third.counts;
    }
