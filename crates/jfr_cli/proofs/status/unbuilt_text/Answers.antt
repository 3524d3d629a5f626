use Rattle.jfr_cli.proofs.status.unbuilt_text.Goals as goal

pub returns : goal.returns
returns c = rw (← c.name-name.ensures.exact) c.format.ensures.ok
