use Rattle.jfr_header.specs.Cuts.{cut}
use Rattle.jfr_header.proofs.CutLaws.{are_cut, all_whole}
use Rattle.jfr_header.proofs.laws.chunks_are_whole.Goals as goal

pub returns : goal.returns
returns c = all_whole (cut c.args.recording.now c.args.start c.args.first).chunks (cut c.args.recording.now c.args.start c.args.first).flaw c.args.recording.now c.args.start c.args.first
    (are_cut c.args.recording.now c.args.start c.args.first)
