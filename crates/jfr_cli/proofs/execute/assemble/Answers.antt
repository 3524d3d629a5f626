use Rattle.std.proofs.Common.{subst, sym, refl}
use Rattle.jfr_plan.specs.Ends.{command_end}
use Rattle.jfr_plan.specs.Effects.{without_sink}
use Rattle.jfr_plan.specs.Clauses.{Ran, CanCreate}
use Rattle.jfr_split.specs.Clauses.{joins}
use Rattle.jfr_words.specs.Words.{file_name}
use Rattle.jfr_cli.proofs.Counting.{lifted}
use Rattle.jfr_cli.proofs.Leaving.{join_leaves}
use Rattle.jfr_cli.proofs.Orders.{named}
use Rattle.jfr_cli.proofs.execute.assemble.Goals as goal

pub returns : goal.returns
returns g c =
    let p = g.P.Place.state c.args.place.now in
    let q = g.P.Place.state c.assemble.new.place in
    let folder = named c.as_str.result.now c.args.folder.now c.as_str.utf8 c.as_str.ensures in
    let output = named c.as_str-2.result.now c.args.output.now c.as_str-2.utf8 c.as_str-2.ensures in
    let ran =
    subst (λ z. Ran (joins z (file_name c.args.output.now)) c.assemble.result (without_sink p) (without_sink q)) folder
    (subst (λ z. Ran (joins c.as_str.result.now z) c.assemble.result (without_sink p) (without_sink q)) output c.assemble.ensures.ran) in
    record {
      leaves = join_leaves (file_name c.args.folder.now) (file_name c.args.output.now) (command_end c.assemble.result) p q ran.contents;
      counts = lifted (command_end c.assemble.result) p q (g.O.Sink.state c.args._out.now) ran.counts;
      sink = refl;
      text = tt;
      place = tt;
      wrote = tt;
      can_read = λ can. (ran.can_read can).0;
      can_create = λ can. (c.assemble.ensures.can_create (subst (λ z. CanCreate z p) (sym output) can)).0;
    }
