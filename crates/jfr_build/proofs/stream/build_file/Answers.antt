use Rattle.jfr_build.proofs.TextRead.{text_failed}
use Rattle.jfr_build.proofs.stream.build_file.Goals as goal

pub returns-in-Err-clause-contents : goal.returns-in-Err-clause-contents
returns-in-Err-clause-contents g c =
    let a = g.P.Place.state c.args.place.now in
    let b = g.P.Place.state c.read_file.new.place in
    rw c.of_file.ensures (text_failed a.steady c.args.name.now c.in-Err.fault a.contents b.contents c.in-Err.ensures.contents c.in-Err.ensures.steady)
