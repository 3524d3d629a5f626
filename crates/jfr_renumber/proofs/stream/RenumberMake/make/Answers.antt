use Rattle.std.proofs.Common.{rules, ◌∙◌}
use Rattle.jfr_output.proofs.RecordingLaws.{refused_by}
use Rattle.jfr_renumber.proofs.HeadlineLaws.{made_of}
use Rattle.jfr_renumber.proofs.stream.RenumberMake.make.Goals as goal

pub returns-in_err-chunk-clause-refused : goal.returns-in_err-chunk-clause-refused
returns-in_err-chunk-clause-refused c = search (rules, refused_by)

pub returns-clause-ok : goal.returns-clause-ok
returns-clause-ok c = (made_of c.args.self.now.filter.now c.args.chunk.now c.in_ok-renumberer.renumberer.bytes c.in_ok-chunk.chunk c.in_ok-chunk.ensures.exact c.in_ok-renumberer.ensures.bytes).0

pub returns-clause-made : goal.returns-clause-made
returns-clause-made c = c.into_bytes.ensures
    ∙ (made_of c.args.self.now.filter.now c.args.chunk.now c.in_ok-renumberer.renumberer.bytes c.in_ok-chunk.chunk c.in_ok-chunk.ensures.exact c.in_ok-renumberer.ensures.bytes).1
