use Rattle.std.proofs.Common.{[], ◌∷◌, ap, ◌∙◌, subst}
use Rattle.jfr_report.specs.Gathered.{TextLeaves}
use Rattle.jfr_report.specs.Reports.{totals_bytes}
use Rattle.jfr_report.proofs.PageLaws.{text_bytes}
use Rattle.jfr_report.proofs.summary.SummingReport.end.Goals as goal

pub returns-clause-texts : goal.returns-clause-texts
returns-clause-texts g c = λ ps s.
    subst (λ z. TextLeaves (z ∷ []) c.write_text.result (g.O.Sink.state c.args.out.now).written (g.O.Sink.state c.write_text.new.out).written)
    (c.as_bytes.ensures.value ∙ (text_bytes c.as_str.result.now c.in_ok-text.text c.as_str.utf8 c.as_str.ensures ∙ (c.in_ok-text.ensures.ok ∙ ap (totals_bytes c.args.self.now.json) s)))
    c.write_text.ensures.texts
