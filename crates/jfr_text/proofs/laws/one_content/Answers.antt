use Rattle.jfr_text.proofs.StringLaws as laws
use Rattle.jfr_text.proofs.laws.one_content.Goals as goal

pub returns : goal.returns
returns c = laws.one_content
