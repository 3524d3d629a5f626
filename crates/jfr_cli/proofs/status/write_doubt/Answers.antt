use Rattle.jfr_cli.proofs.status.write_doubt.Goals as goal

pub returns : goal.returns
returns g c = c.write_made_line.ensures _ c.doubt_text.ensures
