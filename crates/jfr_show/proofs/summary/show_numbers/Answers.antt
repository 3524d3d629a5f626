use Rattle.std.proofs.Common.{List, ℕ, ◌∙◌, ◌++◌, ap, codes}
use Rattle.std.proofs.lemmas.Result.{on_ok_weaker}
use Rattle.jfr_show.specs.Totals.{Totals, number_line, version_line}
use Rattle.jfr_show.proofs.ListingLaws.{line_more}
use Rattle.jfr_show.proofs.summary.show_numbers.Goals as goal

pub returns : goal.returns
returns c =
    let was = c.args.out.now in
    let t = c.args.summary.now in
    let view = c.summary.view_is in
    let l0 : List ℕ = version_line c.args.first in
    let l1 : List ℕ = l0 ++ number_line (codes "chunks") t.chunks in
    let l2 : List ℕ = l1 ++ number_line (codes "bytes") t.bytes in
    let l3 : List ℕ = l2 ++ number_line (codes "start") c.args.first.start_nanos in
    let l4 : List ℕ = l3 ++ number_line (codes "duration") t.duration in
    let l5 : List ℕ = l4 ++ number_line (codes "events") t.events in
    let l6 : List ℕ = l5 ++ number_line (codes "checkpoints") t.checkpoints in
    let l7 : List ℕ = l6 ++ number_line (codes "constants") t.constants in
    let e0 = c.in_ok-show_version_line.ensures.ok in
    let e1 = line_more was c.show_version_line.new.out c.push_line.new.out l0 (codes "chunks") c.from.result t.chunks e0 c.in_ok-push_line.ensures.ok
    (c.from.ensures ∙ ap (λ (t : Totals). t.chunks) view) in
    let e2 = line_more was c.push_line.new.out c.push_line-2.new.out l1 (codes "bytes") c.from-2.result t.bytes e1 c.in_ok-push_line-2.ensures.ok
    (c.from-2.ensures ∙ ap (λ (t : Totals). t.bytes) view) in
    let e3 = line_more was c.push_line-2.new.out c.push_line-3.new.out l2 (codes "start") c.from-3.result c.args.first.start_nanos e2 c.in_ok-push_line-3.ensures.ok c.from-3.ensures in
    let e4 = line_more was c.push_line-3.new.out c.push_line-4.new.out l3 (codes "duration") c.summary.inside.duration t.duration e3 c.in_ok-push_line-4.ensures.ok
    (ap (λ (t : Totals). t.duration) view) in
    let e5 = line_more was c.push_line-4.new.out c.push_line-5.new.out l4 (codes "events") c.from-4.result t.events e4 c.in_ok-push_line-5.ensures.ok
    (c.from-4.ensures ∙ ap (λ (t : Totals). t.events) view) in
    let e6 = line_more was c.push_line-5.new.out c.push_line-6.new.out l5 (codes "checkpoints") c.from-5.result t.checkpoints e5 c.in_ok-push_line-6.ensures.ok
    (c.from-5.ensures ∙ ap (λ (t : Totals). t.checkpoints) view) in
    let e7 = line_more was c.push_line-6.new.out c.push_line-7.new.out l6 (codes "constants") c.from-6.result t.constants e6 c.in_ok-push_line-7.ensures.ok
    (c.from-6.ensures ∙ ap (λ (t : Totals). t.constants) view) in
    record {
      ok = on_ok_weaker c.push_line-8.result
          (λ next. line_more was c.push_line-7.new.out c.push_line-8.new.out l7 (codes "inert") c.from-7.result t.inert e7 next (c.from-7.ensures ∙ ap (λ (t : Totals). t.inert) view))
          c.push_line-8.ensures.ok;
    }
