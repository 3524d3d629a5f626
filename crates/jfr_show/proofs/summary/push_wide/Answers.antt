use Rattle.std.proofs.Common.{◌≡◌, ◌++◌, ◌∙◌, ap}
use Rattle.std.specs.Prelude.{decimal}
use Rattle.std.specs.Str.{chars}
use Rattle.std.proofs.lemmas.Result.{on_ok_weaker}
use Rattle.std.proofs.lemmas.Str.{chars-IsAscii}
use Rattle.jfr_show.proofs.summary.push_wide.Goals as goal

pub returns : goal.returns
returns c =
    let text : c.format.result.now ≡ decimal c.args.number = c.format.ensures.text in
    let e : chars c.format.result.now ≡ decimal c.args.number = chars-IsAscii c.format.result.now c.format.ensures.ascii ∙ text in
    record { ok = on_ok_weaker c.push_str.result (λ g. g ∙ ap (λ z. c.args.out.now ++ z) e) c.push_str.ensures.ok }
