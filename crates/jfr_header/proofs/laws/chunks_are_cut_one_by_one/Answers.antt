use Rattle.std.proofs.Common.{subst}
use Rattle.jfr_header.specs.Cuts.{Cuts, AreCut}
use Rattle.jfr_header.proofs.CutLaws.{are_cut, cut_is}
use Rattle.jfr_header.proofs.laws.chunks_are_cut_one_by_one.Goals as goal

pub returns : goal.returns
returns g c = (
  cut_is g.cuts.chunks g.cuts.flaw c.args.recording.now c.args.start c.args.first,
  λ e. subst (λ (x : Cuts). AreCut x.chunks x.flaw c.args.recording.now c.args.start c.args.first) e
      (are_cut c.args.recording.now c.args.start c.args.first),
)
