use Rattle.std.proofs.Common.{ap, ◌∙◌, map}
use Rattle.std.specs.Str.{encode_utf8_all}
use Rattle.std.specs.Map.Iter.{deref}
use Rattle.std.specs.BTreeMap as tree
use Rattle.std.proofs.lemmas.Map.Iter.{iter_end}
use Rattle.jfr_outside.specs.World.{rest_in}
use Rattle.jfr_outside.proofs.NameLaws.{one_more, passed_over, all_seen}
use Rattle.jfr_outside.proofs.files.names_in.Goals as goal

pub loop-name-preserved-in-Continue-1 : goal.loop-name-preserved-in-Continue-1
loop-name-preserved-in-Continue-1 c = ap (map encode_utf8_all) c.in_ok-push.ensures.ok
    ∙ one_more c.args.folder.now c.loop-name.names c.loop-name.yielded c.in-Some.name c.in-Some-rest_in.rest.now c.loop-name.invariant
    (c.in-Some-rest_in.ensures.exact ∙ ap (rest_in c.args.folder.now) c.as_str.ensures.value) c.in-Some-rest_in.ensures.text

pub loop-name-preserved : goal.loop-name-preserved
loop-name-preserved c = passed_over c.args.folder.now c.loop-name.names c.loop-name.yielded c.in-Some.name c.loop-name.invariant
    (c.in_default.ensures.exact ∙ ap (rest_in c.args.folder.now) c.as_str.ensures.value)

pub returns : goal.returns
returns c =
    let all = iter_end deref (tree.keys c.args.files.now) c.loop-name.yielded _ c.loop-name.name-iterator c.next.new.self c.next.result
    (c.into_iter-name-iterator.ensures.into_iter_gives ∙ c.keys-name-items.ensures.rest) c.loop-name.yielded_by c.in-None.is c.next.ensures.steps in
    c.loop-name.invariant ∙ all_seen c.args.folder.now c.args.files.now c.loop-name.yielded c.keys-name-items.ensures.ordered all.0
