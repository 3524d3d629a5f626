use Rattle.std.proofs.Common.{◌∙◌, ap, subst}
use Rattle.std.specs.Prelude.{IfOk}
use Rattle.jfr_base.specs.Formats.{run, end_or_flaw}
use Rattle.jfr_frame.specs.Records.{record_end}
use Rattle.jfr_value.specs.Leaves.{keys_in}
use Rattle.jfr_value.specs.Nodes.{node_at, targets}
use Rattle.jfr_value.specs.Reading.{value_format}
use Rattle.jfr_chunk.specs.KeyPlaces.{NotesKeys}
use Rattle.jfr_chunk.specs.Missing.{Notes, node_missing}
use Rattle.jfr_chunk.specs.Refs.{AddsRefs}
use Rattle.jfr_chunk.specs.Reach.{node_entries}
use Rattle.jfr_chunk.proofs.KeyLaws.{all_keys, all_targets}
use Rattle.jfr_chunk.proofs.NotedLaws.{all_missing}
use Rattle.jfr_chunk.proofs.RefLaws.{all_refs}
use Rattle.jfr_chunk.proofs.read.fields_end.Goals as goal

pub returns-clause-exact : goal.returns-clause-exact
returns-clause-exact c = (rw c.end.ensures at c.end_visiting_keys.ensures.exact) ∙ ap
    (λ s. end_or_flaw (run (value_format c.args.reader.classes.now s) c.args.reader.chunk.now (record_end c.args.frame) c.args.frame.body)) c.requires.event.shape

pub returns-clause-refs_end : goal.returns-clause-refs_end
returns-clause-refs_end c =
    subst (λ s. IfOk c.end_visiting_keys.result (λ end. AddsRefs (node_entries c.args.reader.pools.now c.args.reader.classes.now c.args.reader.chunk.now (node_at s c.args.frame.body end)) c.args.refs.now
    c.end_visiting_keys.new.visitor)) c.requires.event.shape
    (all_refs c.args.reader.pools.now (λ to. targets c.args.reader.classes.now c.args.reader.chunk.now (node_at c.args.layout.now.shape c.args.frame.body to)) c.args.refs.now
    c.end_visiting_keys.new.visitor c.end_visiting_keys.result
    (all_targets c.args.reader.pools.now c.args.reader.classes.now c.args.reader.chunk.now c.args.layout.now.shape c.args.frame.body c.end.result c.args.refs.now c.end_visiting_keys.new.visitor
    c.requires.sound c.end_visiting_keys.result c.end_visiting_keys.ensures.ok c.end_visiting_keys.ensures.visited))

pub returns-clause-missing : goal.returns-clause-missing
returns-clause-missing c =
    subst (λ s. IfOk c.end_visiting_keys.result (λ end. Notes (node_missing c.args.reader.pools.now c.args.reader.classes.now c.args.reader.chunk.now (node_at s c.args.frame.body end))
    c.args.refs.now.event c.args.refs.now.missing c.end_visiting_keys.new.visitor.missing)) c.requires.event.shape
    (all_missing c.args.reader.pools.now (λ to. targets c.args.reader.classes.now c.args.reader.chunk.now (node_at c.args.layout.now.shape c.args.frame.body to)) c.args.refs.now
    c.end_visiting_keys.new.visitor c.end_visiting_keys.result
    (all_targets c.args.reader.pools.now c.args.reader.classes.now c.args.reader.chunk.now c.args.layout.now.shape c.args.frame.body c.end.result c.args.refs.now c.end_visiting_keys.new.visitor
    c.requires.sound c.end_visiting_keys.result c.end_visiting_keys.ensures.ok c.end_visiting_keys.ensures.visited))

pub returns-clause-keys : goal.returns-clause-keys
returns-clause-keys c =
    subst (λ s. IfOk c.end_visiting_keys.result (λ end. NotesKeys c.args.reader.pools.now (keys_in c.args.reader.classes.now c.args.reader.chunk.now (node_at s c.args.frame.body end))
    c.args.refs.now.keys c.end_visiting_keys.new.visitor.keys)) c.requires.event.shape
    (all_keys c.args.reader.pools.now c.args.reader.classes.now c.args.reader.chunk.now c.args.layout.now.shape c.args.frame.body c.end.result c.args.refs.now c.end_visiting_keys.new.visitor
    c.end_visiting_keys.result c.end_visiting_keys.ensures.visited)
