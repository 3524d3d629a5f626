use Rattle.std.proofs.Common.{subst}
use Rattle.jfr_plan.specs.Ends.{command_end}
use Rattle.jfr_plan.specs.Effects.{outside}
use Rattle.jfr_plan.specs.Clauses.{over, Ran}
use Rattle.jfr_report.specs.Reports.{describing}
use Rattle.jfr_words.specs.Words.{file_name}
use Rattle.jfr_cli.proofs.Leaving.{over_leaves}
use Rattle.jfr_cli.proofs.Orders.{named}
use Rattle.jfr_cli.proofs.execute.metadata.Goals as goal

pub returns : goal.returns
returns g c =
    let a = outside (g.P.Place.state c.args.place.now) (g.O.Sink.state c.args.out.now) in
    let b = outside (g.P.Place.state c.metadata_stream.new.place) (g.O.Sink.state c.metadata_stream.new.out) in
    let ran = subst (λ z. Ran (over (describing c.args.json) z) c.metadata_stream.result a b) (named c.as_str.result.now c.args.file.now c.as_str.utf8 c.as_str.ensures)
    c.metadata_stream.ensures.ran in
    record {
      leaves = over_leaves (describing c.args.json) (file_name c.args.file.now) (command_end c.metadata_stream.result) a.place b.place a.sink.written b.sink.written ran.contents;
      counts = ran.counts;
      sink = tt;
      text = tt;
      place = tt;
      wrote = tt;
      can_read = λ can. (ran.can_read can).0;
      can_create = λ can. absurd can;
    }
