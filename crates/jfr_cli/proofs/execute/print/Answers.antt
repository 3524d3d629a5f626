use Rattle.std.proofs.Common.{subst}
use Rattle.jfr_plan.specs.Ends.{command_end}
use Rattle.jfr_plan.specs.Effects.{outside}
use Rattle.jfr_plan.specs.Clauses.{over, Ran}
use Rattle.jfr_report.specs.Reports.{printing}
use Rattle.jfr_words.specs.Words.{file_name}
use Rattle.jfr_cli.proofs.Leaving.{over_leaves}
use Rattle.jfr_cli.proofs.Orders.{named}
use Rattle.jfr_cli.proofs.execute.print.Goals as goal

pub returns : goal.returns
returns g c =
    let a = outside (g.P.Place.state c.args.place.now) (g.O.Sink.state c.args.out.now) in
    let b = outside (g.P.Place.state c.print_stream.new.place) (g.O.Sink.state c.print_stream.new.out) in
    let ran = subst (λ z. Ran (over (printing c.args.events.now.filter.now c.args.events.now.depth c.args.events.now.json) z) c.print_stream.result a b)
    (named c.as_str.result.now c.args.events.now.file.now c.as_str.utf8 c.as_str.ensures) c.print_stream.ensures.ran in
    record {
      leaves = over_leaves (printing c.args.events.now.filter.now c.args.events.now.depth c.args.events.now.json) (file_name c.args.events.now.file.now)
          (command_end c.print_stream.result) a.place b.place a.sink.written b.sink.written ran.contents;
      counts = ran.counts;
      sink = tt;
      text = tt;
      place = tt;
      wrote = tt;
      can_read = λ can. (ran.can_read can).0;
      can_create = λ can. absurd can;
    }
