use Rattle.jfr_split.proofs.Round.{returns as round}
use Rattle.jfr_split.proofs.laws.recording_returns.Goals as goal

pub returns : goal.returns
returns c = λ rule folder file output recording before usable into none fine. round rule folder file output recording before usable into none fine
