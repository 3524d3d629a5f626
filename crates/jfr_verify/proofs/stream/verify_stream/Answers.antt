use Rattle.jfr_verify.proofs.FileLaws.{lacks_file, told_verified, told_fine}
use Rattle.jfr_verify.proofs.stream.verify_stream.Goals as goal

pub returns-clause-verified : goal.returns-clause-verified
returns-clause-verified g c = told_verified c.args.filter.now c.args.input.now c.args.output.now c.args.receipt.now c.verify_files.result (g.P.Place.state c.args.place.now).contents
    (g.P.Place.state c.verify_files.new.place).contents c.verify_files.ensures.contents

pub returns-clause-complete : goal.returns-clause-complete
returns-clause-complete g c = told_fine c.args.filter.now c.args.input.now c.args.output.now c.args.receipt.now c.verify_files.result (g.P.Place.state c.args.place.now)
    (g.P.Place.state c.verify_files.new.place) c.verify_files.ensures.counts c.verify_files.ensures.contents

pub returns-clause-steady : goal.returns-clause-steady
returns-clause-steady g c = lacks_file c.args.filter.now c.args.input.now c.args.output.now c.args.receipt.now c.verify_files.result (g.P.Place.state c.args.place.now) c.verify_files.ensures.undecided
