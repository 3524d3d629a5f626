use Rattle.std.proofs.Common.{[], ◌∷◌, ap, ◌∙◌, subst}
use Rattle.jfr_stacks.specs.Folded.{lines_of}
use Rattle.jfr_report.specs.Gathered.{TextLeaves}
use Rattle.jfr_report.proofs.PageLaws.{text_bytes}
use Rattle.jfr_report.proofs.stacks.FoldingReport.end.Goals as goal

pub returns-clause-texts : goal.returns-clause-texts
returns-clause-texts g c = λ ps s.
    subst (λ z. TextLeaves (z ∷ []) c.write_text.result (g.O.Sink.state c.args.out.now).written (g.O.Sink.state c.write_text.new.out).written)
    (c.as_bytes.ensures.value ∙ (text_bytes c.as_str.result.now c.in_ok-text.text c.as_str.utf8 c.as_str.ensures ∙ (c.in_ok-text.ensures.bytes ∙ ap lines_of s.1)))
    c.write_text.ensures.texts
