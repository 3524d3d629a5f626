use Rattle.jfr_cli.proofs.status.doubt_text.Goals as goal

pub returns : goal.returns
returns c = rw (← c.name-name.ensures) c.format.ensures.ok
