use Rattle.std.proofs.Common.{◌++◌, ◌∙◌, ap, sym}
use Rattle.std.proofs.lemmas.Result.{on_ok_weaker}
use Rattle.serde_json.specs.Written.{compact_text}
use Rattle.jfr_show.specs.Totals.{Totals, totals_json}
use Rattle.jfr_show.proofs.ObjectLaws.{line_added, totals_line}
use Rattle.jfr_show.proofs.summary.json.show_summary.Goals as goal

pub returns-in_ok-push_totals-in-Some : goal.returns-in_ok-push_totals-in-Some
returns-in_ok-push_totals-in-Some c =
    let t = c.args.summary.now in
    let first = ap (λ (z : Totals). z.first) (sym c.summary.view_is) ∙ c.in-Some.is in
    let written = c.as_str.ensures.value ∙ (c.in_ok-push_totals-in-Some.ensures.ok ∙ ap (λ z. z ++ compact_text (totals_json t c.in-Some.first)) c.new-line.ensures.bytes) in
    record {
      ok = on_ok_weaker c.push_line.result
          (λ h. line_added c.args.out.now c.push_line.new.self c.as_str.result.now (totals_json t c.in-Some.first) written h ∙ ap (λ z. c.args.out.now ++ z) (totals_line t c.in-Some.first first))
          c.push_line.ensures.ok;
    }
