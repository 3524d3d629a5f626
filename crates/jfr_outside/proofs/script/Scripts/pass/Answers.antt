use Rattle.std.proofs.Common.{◌∙◌, ap, sym, subst, set, get_or, length, ◌<◌}
use Rattle.std.proofs.lemmas.List.Edits.{map_over_more}
use Rattle.std.proofs.lemmas.List.{get_or_default}
use Rattle.jfr_outside.specs.declared.script.Call.TheVariants.{Open}
use Rattle.jfr_outside.specs.declared.script.Script.{Script}
use Rattle.jfr_outside.specs.Scripts.{passed}
use Rattle.jfr_outside.proofs.script.Scripts.pass.Goals as goal

pub loop-script-preserved : goal.loop-script-preserved
loop-script-preserved c =
    let none : Script = record { call = Open; left = 0; keep = 0 } in
    let script : Script = get_or c.loop-script.script-items c.loop-script.script-index none in
    let here : c.loop-script.script-index < length c.loop-script.script-items = subst (λ n. c.loop-script.script-index < n) (sym c.loop-script.auto.script-items) c.loop-script-test.true in
    ap (set c.loop-script.script-items c.loop-script.script-index) c.pass.ensures
    ∙ map_over_more (passed c.args.call) c.deref_mut-script-items.result.now c.loop-script.script-items c.loop-script.script-index script c.loop-script-test.true c.loop-script.invariant
    (get_or_default c.loop-script.script-items c.loop-script.script-index none script here)
