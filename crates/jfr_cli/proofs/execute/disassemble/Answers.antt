use Rattle.std.specs.Prelude.{None}
use Rattle.std.proofs.Common.{subst, sym, refl}
use Rattle.jfr_plan.specs.Ends.{command_end}
use Rattle.jfr_plan.specs.Effects.{without_sink}
use Rattle.jfr_plan.specs.Clauses.{over, Ran}
use Rattle.jfr_split.specs.Splits.{splitting}
use Rattle.jfr_split.specs.Clauses.{CanCreateAll}
use Rattle.jfr_cli.proofs.Counting.{lifted_parts}
use Rattle.jfr_words.specs.Words.{file_name}
use Rattle.jfr_cli.proofs.Leaving.{over_leaves}
use Rattle.jfr_cli.proofs.Orders.{named}
use Rattle.jfr_cli.proofs.execute.disassemble.Goals as goal

pub returns : goal.returns
returns g c =
    let p = g.P.Place.state c.args.place.now in
    let q = g.P.Place.state c.disassemble.new.place in
    let rule = c.args.rule.now in
    let file = named c.as_str.result.now c.args.file.now c.as_str.utf8 c.as_str.ensures in
    let ran = subst (λ z. Ran (over (splitting rule z) z) c.disassemble.result (without_sink p) (without_sink q)) file c.disassemble.ensures.ran in
    record {
      leaves = over_leaves (splitting rule (file_name c.args.file.now)) (file_name c.args.file.now) (command_end c.disassemble.result) p q None None ran.contents;
      counts = lifted_parts (command_end c.disassemble.result) p q (g.O.Sink.state c.args._out.now) ran.counts;
      sink = refl;
      text = tt;
      place = tt;
      wrote = tt;
      can_read = λ can. (ran.can_read can).0;
      can_create = λ can. (c.disassemble.ensures.can_create (subst (λ z. CanCreateAll (splitting rule z) z p) (sym file) can)).0;
    }
