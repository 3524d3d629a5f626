use Rattle.std.proofs.Common.{ap, codes, sym, ◌∙◌}
use Rattle.std.specs.Prelude.{Some}
use Rattle.jfr_value.specs.Nodes.{node_of}
use Rattle.jfr_stacks.proofs.TextLaws.{frames_found, items_none, items_some, no_frames}
use Rattle.jfr_stacks.proofs.frames.frames_in.Goals as goal

pub returns-in_default-clause-ok : goal.returns-in_default-clause-ok
returns-in_default-clause-ok c = no_frames c.args.chunk.now (node_of c.args.trace.now) (c.in_default.ensures.exact (codes "frames") c.requires.fields)

pub returns-then-not-array-clause-ok : goal.returns-then-not-array-clause-ok
returns-then-not-array-clause-ok c =
    sym (frames_found c.args.chunk.now (node_of c.args.trace.now) (node_of c.in-Some.field) (node_of c.follow_references-array.result)
    (c.in-Some.ensures.exact (codes "frames") c.requires.fields) c.follow_references-array.ensures.exact ∙ items_none c.args.chunk.now (node_of c.follow_references-array.result) c.if-not-array.true)

pub returns-clause-ok : goal.returns-clause-ok
returns-clause-ok c =
    ap Some c.in_ok-frames.ensures.ok
    ∙ sym (frames_found c.args.chunk.now (node_of c.args.trace.now) (node_of c.in-Some.field) (node_of c.follow_references-array.result)
    (c.in-Some.ensures.exact (codes "frames") c.requires.fields) c.follow_references-array.ensures.exact ∙ items_some c.args.chunk.now (node_of c.follow_references-array.result) c.if-not-array.false)
