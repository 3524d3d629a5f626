use Rattle.std.specs.Prelude.{None}
use Rattle.std.proofs.Common.{subst, sym, refl}
use Rattle.jfr_plan.specs.Ends.{command_end}
use Rattle.jfr_plan.specs.Effects.{without_sink}
use Rattle.jfr_plan.specs.Clauses.{over, Ran, CanCreate}
use Rattle.jfr_receipt.specs.Receipting.{receipting}
use Rattle.jfr_words.specs.Words.{file_name}
use Rattle.jfr_cli.proofs.Counting.{lifted}
use Rattle.jfr_cli.proofs.Leaving.{over_leaves}
use Rattle.jfr_cli.proofs.Orders.{named}
use Rattle.jfr_cli.proofs.execute.receipt.Goals as goal

pub returns : goal.returns
returns g c =
    let p = g.P.Place.state c.args.place.now in
    let q = g.P.Place.state c.receipt_stream.new.place in
    let input = named c.as_str.result.now c.args.files.now.input.now c.as_str.utf8 c.as_str.ensures in
    let receipt = named c.as_str-2.result.now c.args.files.now.output.now c.as_str-2.utf8 c.as_str-2.ensures in
    let ran =
    subst (λ z. Ran (over (receipting c.args.filter.now (file_name c.args.files.now.output.now)) z) c.receipt_stream.result (without_sink p) (without_sink q)) input
    (subst (λ z. Ran (over (receipting c.args.filter.now z) c.as_str.result.now) c.receipt_stream.result (without_sink p) (without_sink q)) receipt c.receipt_stream.ensures.ran) in
    record {
      leaves = over_leaves (receipting c.args.filter.now (file_name c.args.files.now.output.now)) (file_name c.args.files.now.input.now)
          (command_end c.receipt_stream.result) p q None None ran.contents;
      counts = lifted (command_end c.receipt_stream.result) p q (g.O.Sink.state c.args._out.now) ran.counts;
      sink = refl;
      text = tt;
      place = tt;
      wrote = tt;
      can_read = λ can. (ran.can_read can).0;
      can_create = λ can. (c.receipt_stream.ensures.can_create (subst (λ z. CanCreate z p) (sym receipt) can)).0;
    }
