use Rattle.std.specs.Prelude.{Some, option_map}
use Rattle.std.proofs.Common.{[], ◌∷◌, Ok, Err, sym, subst}
use Rattle.std.proofs.lemmas.Result.{err_from_is_err_and}
use Rattle.jfr_plan.specs.Effects.{Finish, outside}
use Rattle.jfr_plan.specs.Parts.{IsPlaceAfter}
use Rattle.jfr_plan.proofs.Leaving.{leaves_more, leaves_then, counts_then, tallied}
use Rattle.jfr_mask.specs.Maskers.{masking_of}
use Rattle.jfr_mask.specs.Recordings.{dictionary_over, table_effects}
use Rattle.jfr_mask.proofs.recording.RecordingMaskerStage.end.Goals as goal

pub returns-in_err-finish_output-clause-contents : goal.returns-in_err-finish_output-clause-contents
returns-in_err-finish_output-clause-contents g c = λ before after.
    let o = c.args.self.now.options in
    let p = err_from_is_err_and c.from_residual.result c.from_residual.ensures.1 in
    rw (p.1, p.2) (leaves_more (Finish ∷ []) (table_effects _ (dictionary_over o.filter.now (masking_of o) [] before)) c.in_err-finish_output.field-0.0 (g.P.Place.state c.args.place.now)
    (g.P.Place.state c.finish_output.new.place) c.in_err-finish_output.ensures.contents (g.O.Sink.state c.args._out.now))

pub returns-in_err-finish_output-clause-counts : goal.returns-in_err-finish_output-clause-counts
returns-in_err-finish_output-clause-counts g c =
    let p = err_from_is_err_and c.from_residual.result c.from_residual.ensures.1 in
    let sink = g.O.Sink.state c.args._out.now in
    rw (p.1, p.2) ((tallied (Err c.in_err-finish_output.field-0.0) (outside (g.P.Place.state c.args.place.now) sink) (outside (g.P.Place.state c.finish_output.new.place) sink)
    (c.in_err-finish_output.ensures.counts sink)).2)

pub returns-in-Some-clause-contents : goal.returns-in-Some-clause-contents
returns-in-Some-clause-contents g c = λ before after.
    let o = c.args.self.now.options in
    let d = dictionary_over o.filter.now (masking_of o) [] before in
    let x = g.P.Place.state c.args.place.now in
    let y = g.P.Place.state c.finish_output.new.place in
    let z = g.P.Place.state c.write_table.new.place in
    subst (λ t. IsPlaceAfter (Finish ∷ table_effects (option_map (λ n. n.now) t) d) c.write_table.result x z) (sym c.in-Some.is)
    (leaves_then (Finish ∷ []) (table_effects (Some c.in-Some.name.now) d) c.in_ok-finish_output.field-0 c.write_table.result x y z c.in_ok-finish_output.ensures.counts
    c.in_ok-finish_output.ensures.contents
    (subst (λ d. IsPlaceAfter (table_effects (Some c.in-Some.name.now) d) c.write_table.result y z) after.dictionary c.write_table.ensures.contents))
    (g.O.Sink.state c.args._out.now)

pub returns-in-Some-clause-counts : goal.returns-in-Some-clause-counts
returns-in-Some-clause-counts g c =
    let x = g.P.Place.state c.args.place.now in
    let y = g.P.Place.state c.finish_output.new.place in
    let z = g.P.Place.state c.write_table.new.place in
    let sink = g.O.Sink.state c.args._out.now in
    (tallied c.write_table.result (outside x sink) (outside z sink)
    (counts_then c.in_ok-finish_output.field-0 c.write_table.result x y z c.in_ok-finish_output.ensures.counts c.write_table.ensures.counts sink)).2

pub returns-in-None-clause-contents : goal.returns-in-None-clause-contents
returns-in-None-clause-contents g c = λ before after.
    let o = c.args.self.now.options in
    let x = g.P.Place.state c.args.place.now in
    let y = g.P.Place.state c.finish_output.new.place in
    subst (λ t. IsPlaceAfter (Finish ∷ table_effects (option_map (λ n. n.now) t) (dictionary_over o.filter.now (masking_of o) [] before)) (Ok c.in_ok-finish_output.field-0) x y)
    (sym c.in-None.is) c.in_ok-finish_output.ensures.contents (g.O.Sink.state c.args._out.now)

pub returns-in-None-clause-counts : goal.returns-in-None-clause-counts
returns-in-None-clause-counts g c =
    let sink = g.O.Sink.state c.args._out.now in
    (tallied (Ok c.in_ok-finish_output.field-0) (outside (g.P.Place.state c.args.place.now) sink) (outside (g.P.Place.state c.finish_output.new.place) sink)
    (c.in_ok-finish_output.ensures.counts sink)).2
