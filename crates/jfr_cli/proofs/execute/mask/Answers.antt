use Rattle.std.specs.Prelude.{◌≡◌, ◌≢◌, [], option_map}
use Rattle.std.specs.Option.{option_map_or}
use Rattle.std.proofs.Common.{◌∙◌, refl, subst}
use Rattle.jfr_outside.specs.World.{IfKnown}
use Rattle.jfr_header.specs.declared.ending.Ending.TheVariants.{Done, WriteFault}
use Rattle.jfr_plan.specs.Ends.{command_end}
use Rattle.jfr_plan.specs.Effects.{without_sink}
use Rattle.jfr_plan.specs.Clauses.{Ran}
use Rattle.jfr_output.specs.Recordings.{IsByPlan}
use Rattle.jfr_mask.specs.Commands.{CanCreateBoth, Masks, WritesTable, mask_task}
use Rattle.jfr_cli.specs.Works.{mask_work}
use Rattle.jfr_cli.proofs.Counting.{lifted_masked}
use Rattle.jfr_cli.proofs.Leaving.{masks_leave}
use Rattle.jfr_cli.proofs.Masking.{mapped_twice, or_none, same_work}
use Rattle.jfr_cli.proofs.Orders.{named}
use Rattle.jfr_cli.proofs.execute.mask.Goals as goal

pub returns : goal.returns
returns g c =
    let p = g.P.Place.state c.args.place.now in
    let q = g.P.Place.state c.mask_stream.new.place in
    let rule = c.args.rule in
    let files = c.args.files.now in
    let except = option_map (λ x. x.now) rule.except in
    let known = option_map (λ x. x.now) files.known in
    let table = option_map (λ x. x.now) files.table in
    let work = mask_work rule.filter.now rule.strings.now except known table files.input.now files.output.now in
    let input = named c.as_str.result.now files.input.now c.as_str.utf8 c.as_str.ensures in
    let output = named c.as_str-2.result.now files.output.now c.as_str-2.utf8 c.as_str-2.ensures in
    let same = same_work rule.filter.now rule.strings.now (option_map_or (λ x. x.now) rule.except []) _ _ c.as_str.result.now c.as_str-2.result.now except known table files.input.now files.output.now
    (or_none (λ x. x.now) rule.except) (c.name_of.ensures ∙ mapped_twice (λ x. x.now) files.known) (c.name_of-2.ensures ∙ mapped_twice (λ x. x.now) files.table) input output in
    let ran = subst (λ z. Ran (mask_task z) c.mask_stream.result (without_sink p) (without_sink q)) same c.mask_stream.ensures.ran in
    record {
      leaves = masks_leave work (command_end c.mask_stream.result) p q ran.contents;
      counts = lifted_masked (command_end c.mask_stream.result) p q (g.O.Sink.state c.args._out.now) ran.counts;
      sink = refl;
      text = tt;
      place = tt;
      wrote = record {
        output = subst (λ z. IsByPlan c.mask_stream.result → IfKnown p.contents q.contents (Masks z)) same c.mask_stream.ensures.headline;
        table = subst (λ z. c.mask_stream.result ≡ Done → IfKnown p.contents q.contents (WritesTable z)) same c.mask_stream.ensures.table;
      };
      can_read = λ can. (ran.can_read can).0;
      can_create = λ can. (subst (λ z. CanCreateBoth z p → (c.mask_stream.result ≢ WriteFault) × (q.write_faults ≡ p.write_faults)) same c.mask_stream.ensures.can_create can).0;
    }
