use Rattle.jfr_scrub.proofs.AgainLaws.{is_scrubbed}
use Rattle.jfr_scrub.proofs.HeadlineLaws.{headline}
use Rattle.jfr_scrub.proofs.scrub.scrub_stream.Goals as goal

pub returns-clause-headline : goal.returns-clause-headline
returns-clause-headline g c = headline c.args.filter.now c.args.input.now c.args.output.now c.make_stream.result (g.P.Place.state c.args.place.now)
    (g.P.Place.state c.make_stream.new.place) c.make_stream.ensures.ran.done c.make_stream.ensures.ran.refused

pub returns-clause-each : goal.returns-clause-each
returns-clause-each g c = is_scrubbed c.args.filter.now
