use Rattle.std.proofs.Common.{subst, Option}
use Rattle.jfr_base.specs.declared.flaw.Flaw.{Flaw}
use Rattle.jfr_header.specs.Cuts.{cut, AreCut}
use Rattle.jfr_header.proofs.CutLaws.{are_cut, joined_all}
use Rattle.jfr_header.proofs.laws.chunks_are_the_recording.Goals as goal

pub returns : goal.returns
returns c = joined_all (cut c.args.recording.now c.args.start c.args.first).chunks c.args.recording.now c.args.start c.args.first
    (subst (λ (o : Option Flaw). AreCut (cut c.args.recording.now c.args.start c.args.first).chunks o c.args.recording.now c.args.start c.args.first) c.requires
    (are_cut c.args.recording.now c.args.start c.args.first))
