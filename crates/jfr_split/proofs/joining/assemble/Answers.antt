use Rattle.std.proofs.Common.{IfSome, ◌≡◌, ◌∙◌, sym, subst, Bool, List, [], ◌∷◌, None, Ok, Err, String}
use Rattle.std.specs.FinMap as fin
use Rattle.std.specs.declared.alloc.Global.{Global}
use Rattle.jfr_outside.specs.World.{IfKnown}
use Rattle.jfr_plan.specs.Ends.{command_end}
use Rattle.jfr_plan.specs.Effects.{Create, without_sink, no_sink, snapshot}
use Rattle.jfr_plan.specs.Rules.{Goes, File}
use Rattle.jfr_plan.specs.Outcomes.{Unchanged, Tallied}
use Rattle.jfr_plan.specs.Parts.{PartWorld}
use Rattle.jfr_split.specs.Clauses.{FilesOutcome, AfterFiles}
use Rattle.jfr_split.specs.Joins.{joining_all, files_in, assembling}
use Rattle.jfr_split.proofs.Sorting.{bytes_of}
use Rattle.jfr_split.proofs.Answering.{joined_so, can_create}
use Rattle.jfr_plan.proofs.Leaving.{counted_after, tallied, tallied_after}
use Rattle.jfr_split.proofs.Assembled.{assembled, not_created, told_same}
use Rattle.jfr_split.proofs.joining.assemble.Given.{Over}
use Rattle.jfr_split.proofs.joining.assemble.Goals as goal

-- The folder couldn't be listed.
contents-unlisted : (g : Over) (c : goal.In-Err g)
    → AfterFiles (assembling c.args.folder.now c.args.out.now) (command_end c.in-Err.ending) (without_sink (g.P.Place.state c.args.place.now)) (without_sink (g.P.Place.state c.list_files.new.place))
contents-unlisted g c = c.in-Err.ensures.ended (assembling c.args.folder.now c.args.out.now)

counts-unlisted : (g : Over) (c : goal.In-Err g) → Tallied File (command_end c.in-Err.ending) (without_sink (g.P.Place.state c.args.place.now)) (without_sink (g.P.Place.state c.list_files.new.place))
counts-unlisted g c = c.in-Err.ensures.counts

pub returns-in-Err-clause-ran : goal.returns-in-Err-clause-ran
returns-in-Err-clause-ran g c = joined_so c.args.folder.now c.args.out.now c.in-Err.ending (without_sink (g.P.Place.state c.args.place.now)) (without_sink (g.P.Place.state c.list_files.new.place))
    (contents-unlisted g c) (counts-unlisted g c)

pub returns-in-Err-clause-can_create : goal.returns-in-Err-clause-can_create
returns-in-Err-clause-can_create g c = can_create c.args.folder.now c.args.out.now c.in-Err.ending (without_sink (g.P.Place.state c.args.place.now))
    (without_sink (g.P.Place.state c.list_files.new.place)) (contents-unlisted g c) (counts-unlisted g c)

-- The output couldn't be created.
contents-uncreated : (g : Over) (c : goal.After-drop-files g)
    → AfterFiles (assembling c.args.folder.now c.args.out.now) (command_end c.in-Err-create_output.ending) (without_sink (g.P.Place.state c.args.place.now)) (without_sink (g.P.Place.state c.create_output.new.place))
contents-uncreated g c =
    let before = g.P.Place.state c.args.place.now in
    let listed = g.P.Place.state c.list_files.new.place in
    let after = g.P.Place.state c.create_output.new.place in
    let ending = c.in-Err-create_output.ending in
    not_created before.steady c.args.folder.now c.args.out.now ending before.contents after.contents
    (told_same (λ st. PartWorld st (Goes (Create c.args.out.now ∷ [])) (Err ending) None None) before.steady listed.steady before.contents listed.contents after.contents c.in-Ok.ensures.counts.3
    c.in-Ok.ensures.contents (c.in-Err-create_output.ensures.contents no_sink))

counts-uncreated : (g : Over) (c : goal.After-drop-files g)
    → Tallied File (command_end c.in-Err-create_output.ending) (without_sink (g.P.Place.state c.args.place.now)) (without_sink (g.P.Place.state c.create_output.new.place))
counts-uncreated g c =
    let before = without_sink (g.P.Place.state c.args.place.now) in
    let listed = without_sink (g.P.Place.state c.list_files.new.place) in
    let after = without_sink (g.P.Place.state c.create_output.new.place) in
    let ending = c.in-Err-create_output.ending in
    tallied_after File (command_end ending) before listed after c.in-Ok.ensures.counts (tallied (Err ending) listed after (c.in-Err-create_output.ensures.counts no_sink)).0

pub returns-in-Err-create_output-clause-ran : goal.returns-in-Err-create_output-clause-ran
returns-in-Err-create_output-clause-ran g c = joined_so c.args.folder.now c.args.out.now c.in-Err-create_output.ending (without_sink (g.P.Place.state c.args.place.now))
    (without_sink (g.P.Place.state c.create_output.new.place)) (contents-uncreated g c) (counts-uncreated g c)

pub returns-in-Err-create_output-clause-can_create : goal.returns-in-Err-create_output-clause-can_create
returns-in-Err-create_output-clause-can_create g c = can_create c.args.folder.now c.args.out.now c.in-Err-create_output.ending (without_sink (g.P.Place.state c.args.place.now))
    (without_sink (g.P.Place.state c.create_output.new.place)) (contents-uncreated g c) (counts-uncreated g c)

-- The files were joined, or one of them ended the call.
contents-joined : (g : Over) (c : goal.After-drop-files-2 g)
    → AfterFiles (assembling c.args.folder.now c.args.out.now) (command_end c.join_some.result) (without_sink (g.P.Place.state c.args.place.now)) (without_sink (g.P.Place.state c.join_some.new.place))
contents-joined g c =
    let before = g.P.Place.state c.args.place.now in
    let listed = g.P.Place.state c.list_files.new.place in
    let created = g.P.Place.state c.create_output.new.place in
    let after = g.P.Place.state c.join_some.new.place in
    let folder = c.args.folder.now in
    let out = c.args.out.now in
    let ended = command_end c.join_some.result in
    let o = c.in-Ok-create_output.field-0 in
    let steady : created.steady ≡ before.steady = (c.in-Ok-create_output.ensures.counts no_sink).3 ∙ c.in-Ok.ensures.counts.3 in
    assembled before.steady folder out (bytes_of c.deref.result.now) ended o before.contents created.contents after.contents
    (subst (λ (ss : List (String Global)). IfSome before.contents (λ w. bytes_of ss ≡ fin.keys (files_in folder w.files))) (sym c.deref.ensures.value) c.in-Ok.ensures.files)
    (told_same (λ st. PartWorld st (Goes (Create out ∷ [])) (Ok o) None None) before.steady listed.steady before.contents listed.contents created.contents c.in-Ok.ensures.counts.3
    c.in-Ok.ensures.contents (c.in-Ok-create_output.ensures.contents no_sink))
    (λ contents can. subst (λ (st : Bool). IfKnown created.contents after.contents (λ v u. FilesOutcome st (joining_all contents) ended (snapshot v None) (snapshot u None))) steady
    (c.join_some.ensures.contents out contents can))

counts-joined : (g : Over) (c : goal.After-drop-files-2 g)
    → Tallied File (command_end c.join_some.result) (without_sink (g.P.Place.state c.args.place.now)) (without_sink (g.P.Place.state c.join_some.new.place))
counts-joined g c =
    let before = without_sink (g.P.Place.state c.args.place.now) in
    let listed = without_sink (g.P.Place.state c.list_files.new.place) in
    let created = without_sink (g.P.Place.state c.create_output.new.place) in
    let after = without_sink (g.P.Place.state c.join_some.new.place) in
    tallied_after File (command_end c.join_some.result) before created after
    (counted_after Unchanged Unchanged Unchanged before listed created c.in-Ok.ensures.counts (c.in-Ok-create_output.ensures.counts no_sink)) c.join_some.ensures.counts

pub returns-clause-ran : goal.returns-clause-ran
returns-clause-ran g c = joined_so c.args.folder.now c.args.out.now c.join_some.result (without_sink (g.P.Place.state c.args.place.now)) (without_sink (g.P.Place.state c.join_some.new.place))
    (contents-joined g c) (counts-joined g c)

pub returns-clause-can_create : goal.returns-clause-can_create
returns-clause-can_create g c = can_create c.args.folder.now c.args.out.now c.join_some.result (without_sink (g.P.Place.state c.args.place.now)) (without_sink (g.P.Place.state c.join_some.new.place))
    (contents-joined g c) (counts-joined g c)
