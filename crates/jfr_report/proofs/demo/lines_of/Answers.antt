use Rattle.std.proofs.Common.{ap, ◌∙◌, ◌++◌, length}
use Rattle.std.specs.Prelude.{codes}
use Rattle.jfr_filter.specs.Filters.{describes}
use Rattle.jfr_report.specs.Demo.{only_a}
use Rattle.jfr_chunk.specs.Parts.{events_of}
use Rattle.jfr_chunk.specs.Reach.{remain}
use Rattle.jfr_chunk.specs.Scrub.{scrub_of}
use Rattle.jfr_show.specs.Totals.{number_line}
use Rattle.jfr_report.proofs.DemoLaws.{six_lines}
use Rattle.jfr_report.proofs.demo.lines_of.Goals as goal

pub returns : goal.returns
returns c = record {
  ok = λ kept e n w.
      let p = c.args.chunk.now in
      c.in_ok-into_text.ensures.ok ∙ six_lines
      (number_line (codes "events") (length (events_of p))) (number_line (codes "kept events") (length kept)) (number_line (codes "constants") (length p.entries))
      (number_line (codes "kept constants") (length (remain p kept))) (number_line (codes "bytes") (length p.bytes)) (number_line (codes "kept bytes") (length (scrub_of (describes only_a) p kept)))
      c.push_count.new.text c.push_count-2.new.text c.push_count-3.new.text c.push_count-4.new.text c.push_count-5.new.text c.push_count-6.new.text
      (c.in_ok-push_count.ensures.ok ∙ (ap (λ z. z ++ number_line (codes "events") c.event_count.result) c.new-text.ensures ∙ ap (number_line (codes "events")) c.event_count.ensures))
      (c.in_ok-push_count-2.ensures.ok ∙ ap (λ z. c.push_count.new.text ++ number_line (codes "kept events") z) (c.kept_events.ensures ∙ e))
      (c.in_ok-push_count-3.ensures.ok ∙ ap (λ z. c.push_count-2.new.text ++ number_line (codes "constants") z) (c.len.ensures ∙ ap length c.pools.ensures))
      (c.in_ok-push_count-4.ensures.ok ∙ ap (λ z. c.push_count-3.new.text ++ number_line (codes "kept constants") z) (c.kept_entries.ensures ∙ n))
      (c.in_ok-push_count-5.ensures.ok ∙ ap (λ z. c.push_count-4.new.text ++ number_line (codes "bytes") (length z)) c.bytes.ensures.exact)
      (c.in_ok-push_count-6.ensures.ok ∙ ap (λ z. c.push_count-5.new.text ++ number_line (codes "kept bytes") (length z)) (c.bytes-2.ensures ∙ w));
}
