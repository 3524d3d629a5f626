use Rattle.jfr_cli.proofs.status.write_unbuilt.Goals as goal

pub returns : goal.returns
returns g c = c.write_made_line.ensures _ c.unbuilt_text.ensures
