use Rattle.std.proofs.Common.{subst, Bool}
use Rattle.jfr_split.specs.Parts.{folder_of}
use Rattle.jfr_plan.specs.Effects.{outside}
use Rattle.jfr_plan.specs.Parts.{IsAfterPart}
use Rattle.jfr_plan.proofs.Leaving.{tallied}
use Rattle.jfr_split.specs.Names.{part_name}
use Rattle.jfr_split.specs.Splits.{asks_part}
use Rattle.jfr_split.proofs.writing.write_chunk.Goals as goal

pub returns-then-starts_part-clause-contents : goal.returns-then-starts_part-clause-contents
returns-then-starts_part-clause-contents g c = λ sink.
    subst (λ (b : Bool). IsAfterPart (asks_part c.args.split.rule.now (part_name (folder_of c.args.split.rule.now) c.args.split.file.now) b c.args.part.now c.args.chunk.now) c.begin_part.result
    (outside (g.P.Place.state c.args.place.now) sink) (outside (g.P.Place.state c.begin_part.new.place) sink)) c.if-starts_part.ensures (c.begin_part.ensures.contents sink)

pub returns-clause-counts : goal.returns-clause-counts
returns-clause-counts g c = λ sink.
    (tallied c.append_output.result (outside (g.P.Place.state c.args.place.now) sink) (outside (g.P.Place.state c.append_output.new.place) sink) (c.append_output.ensures.counts sink)).1
