use Rattle.std.proofs.Common.{◌≡◌, ◌∙◌, refl, ap, subst, Bool, [], ◌∷◌, None, Ok, Err, String, string_bytes, arith}
use Rattle.std.specs.declared.alloc.Global.{Global}
use Rattle.jfr_outside.specs.World.{IfKnown}
use Rattle.jfr_plan.specs.Ends.{Ends, Fine, command_end}
use Rattle.jfr_plan.specs.Effects.{Finish, without_sink, no_sink}
use Rattle.jfr_plan.specs.Rules.{Goes, File}
use Rattle.jfr_plan.specs.Outcomes.{OutcomeOf, Unchanged}
use Rattle.jfr_plan.specs.Parts.{PartWorld}
use Rattle.jfr_split.specs.Joins.{adding}
use Rattle.jfr_plan.proofs.Leaving.{counted_after, tallied, tallied_after}
use Rattle.jfr_split.proofs.Joined.{joined_none, file_joined, file_ended, files_ended, fine_done}
use Rattle.jfr_split.proofs.joining.join_files.Goals as goal

pub files-init : goal.files-init
files-init g c = record {
  joined = λ output contents can. joined_none (g.P.Place.state c.args.place.now).contents contents c.first-at.result.start c.first-at.result.number c.first-at.ensures.start c.first-at.ensures.number;
  counts = (refl, refl, refl, refl);
}

pub files-preserved : goal.files-preserved
files-preserved g c =
    let before = g.P.Place.state c.args.place.now in
    let here = g.P.Place.state c.files.place in
    let after = g.P.Place.state c.join_file.new.place in
    let name = c.as_str.result.now in
    let steady : here.steady ≡ before.steady = c.files.invariant.counts.3 in
    record {
      joined = λ output contents can.
          file_joined output c.args.files.now contents c.files.file-index c.files.at.start c.files.at.number c.file-item.result before.steady before.contents here.contents after.contents
          c.join_file.new.at.start c.join_file.new.at.number name
          (omega (arith, c.files-test.true)) (c.as_str.ensures.value ∙ ap (λ (s : String Global). string_bytes s) c.file-item.is) can (c.files.invariant.joined output contents can)
          (λ earlier at. subst (λ (st : Bool). IfKnown here.contents after.contents (OutcomeOf st adding earlier name None None (Ends Fine))) steady (c.in-Done.ensures.contents earlier at))
          (λ earlier at. c.join_file.ensures.later earlier at c.in-Done.is);
      counts = counted_after Unchanged Unchanged Unchanged (without_sink before) (without_sink here) (without_sink after) c.files.invariant.counts c.in-Done.ensures.counts.1;
    }

pub returns-in_default : goal.returns-in_default
returns-in_default g c =
    let before = g.P.Place.state c.args.place.now in
    let here = g.P.Place.state c.files.place in
    let after = g.P.Place.state c.join_file.new.place in
    let name = c.as_str.result.now in
    let ended = command_end c.join_file.result in
    let steady : here.steady ≡ before.steady = c.files.invariant.counts.3 in
    record {
      contents = λ output contents can.
          file_ended output c.args.files.now contents c.files.file-index c.files.at.start c.files.at.number c.file-item.result before.steady before.contents here.contents after.contents ended name
          (omega (arith, c.files-test.true)) (c.as_str.ensures.value ∙ ap (λ (s : String Global). string_bytes s) c.file-item.is) (λ e. c.in_default.not-Done (fine_done c.join_file.result e)) can
          (c.files.invariant.joined output contents can)
          (λ earlier at. subst (λ (st : Bool). IfKnown here.contents after.contents (OutcomeOf st adding earlier name None None ended)) steady (c.join_file.ensures.contents earlier at));
      counts = tallied_after File ended (without_sink before) (without_sink here) (without_sink after) c.files.invariant.counts c.join_file.ensures.counts;
    }

pub returns-in-Ok-clause-contents : goal.returns-in-Ok-clause-contents
returns-in-Ok-clause-contents g c = λ output contents can.
    let before = g.P.Place.state c.args.place.now in
    let here = g.P.Place.state c.files.place in
    let after = g.P.Place.state c.finish_output.new.place in
    let steady : here.steady ≡ before.steady = c.files.invariant.counts.3 in
    files_ended before.steady output c.args.files.now contents c.files.file-index c.files.at.start c.files.at.number
    (Ok c.in-Ok.field-0) before.contents here.contents after.contents c.files-test.false can (c.files.invariant.joined output contents can)
    (subst (λ (st : Bool). IfKnown here.contents after.contents (PartWorld st (Goes (Finish ∷ [])) (Ok c.in-Ok.field-0) None None)) steady (c.in-Ok.ensures.contents no_sink))

pub returns-in-Ok-clause-counts : goal.returns-in-Ok-clause-counts
returns-in-Ok-clause-counts g c = (
  tt,
  counted_after Unchanged Unchanged Unchanged (without_sink (g.P.Place.state c.args.place.now)) (without_sink (g.P.Place.state c.files.place))
      (without_sink (g.P.Place.state c.finish_output.new.place)) c.files.invariant.counts (c.in-Ok.ensures.counts no_sink),
)

pub returns-clause-contents : goal.returns-clause-contents
returns-clause-contents g c = λ output contents can.
    let before = g.P.Place.state c.args.place.now in
    let here = g.P.Place.state c.files.place in
    let after = g.P.Place.state c.finish_output.new.place in
    let steady : here.steady ≡ before.steady = c.files.invariant.counts.3 in
    files_ended before.steady output c.args.files.now contents c.files.file-index c.files.at.start c.files.at.number
    (Err c.in-Err.ending) before.contents here.contents after.contents c.files-test.false can (c.files.invariant.joined output contents can)
    (subst (λ (st : Bool). IfKnown here.contents after.contents (PartWorld st (Goes (Finish ∷ [])) (Err c.in-Err.ending) None None)) steady (c.in-Err.ensures.contents no_sink))

pub returns-clause-counts : goal.returns-clause-counts
returns-clause-counts g c =
    let before = without_sink (g.P.Place.state c.args.place.now) in
    let here = without_sink (g.P.Place.state c.files.place) in
    let after = without_sink (g.P.Place.state c.finish_output.new.place) in
    tallied_after File (command_end c.in-Err.ending) before here after c.files.invariant.counts (tallied (Err c.in-Err.ending) here after (c.in-Err.ensures.counts no_sink)).0
