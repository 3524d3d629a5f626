use Rattle.std.proofs.Common.{[], ◌∷◌, ◌++◌, ◌∙◌, codes, decimal, string_bytes, ap, refl}
use Rattle.serde_json.specs.Written.{compact_text}
use Rattle.jfr_show.specs.Json.{text_json}
use Rattle.jfr_show.specs.Totals.{Totals, tallies_json, version_shown}
use Rattle.jfr_show.proofs.ListingLaws.{all_added}
use Rattle.jfr_show.proofs.ObjectLaws.{number_added, totals_text}
use Rattle.jfr_show.proofs.summary.json.push_totals.Goals as goal

pub returns : goal.returns
returns c =
    let was = string_bytes c.args.out.now in
    let t = c.args.summary.now in
    let view = c.summary.view_is in
    let t0 = string_bytes c.push_str.new.self in
    let t1 = string_bytes c.push_version.new.out in
    let t2 = string_bytes c.push_total.new.out in
    let t3 = string_bytes c.push_total-2.new.out in
    let t4 = string_bytes c.push_total-3.new.out in
    let t5 = string_bytes c.push_total-4.new.out in
    let t6 = string_bytes c.push_total-5.new.out in
    let t7 = string_bytes c.push_total-6.new.out in
    let t8 = string_bytes c.push_total-7.new.out in
    let t9 = string_bytes c.push_total-8.new.out in
    let t10 = string_bytes c.push_str-2.new.self in
    let t11 = string_bytes c.push_tallies.new.out in
    let t12 = string_bytes c.push_str-3.new.self in
    let e2 = number_added t1 t2 (codes ",\"chunks\":") c.from.result t.chunks (c.from.ensures ∙ ap (λ (t : Totals). t.chunks) view) c.in_ok-push_total.ensures.ok in
    let e3 = number_added t2 t3 (codes ",\"bytes\":") c.from-2.result t.bytes (c.from-2.ensures ∙ ap (λ (t : Totals). t.bytes) view) c.in_ok-push_total-2.ensures.ok in
    let e4 = number_added t3 t4 (codes ",\"start\":") c.from-3.result c.args.first.start_nanos c.from-3.ensures c.in_ok-push_total-3.ensures.ok in
    let e5 = number_added t4 t5 (codes ",\"duration\":") c.summary.inside.duration t.duration (ap (λ (t : Totals). t.duration) view) c.in_ok-push_total-4.ensures.ok in
    let e6 = number_added t5 t6 (codes ",\"events\":") c.from-4.result t.events (c.from-4.ensures ∙ ap (λ (t : Totals). t.events) view) c.in_ok-push_total-5.ensures.ok in
    let e7 = number_added t6 t7 (codes ",\"checkpoints\":") c.from-5.result t.checkpoints (c.from-5.ensures ∙ ap (λ (t : Totals). t.checkpoints) view) c.in_ok-push_total-6.ensures.ok in
    let e8 = number_added t7 t8 (codes ",\"constants\":") c.from-6.result t.constants (c.from-6.ensures ∙ ap (λ (t : Totals). t.constants) view) c.in_ok-push_total-7.ensures.ok in
    let e9 = number_added t8 t9 (codes ",\"inert\":") c.from-7.result t.inert (c.from-7.ensures ∙ ap (λ (t : Totals). t.inert) view) c.in_ok-push_total-8.ensures.ok in
    let e11 = c.in_ok-push_tallies.ensures.ok ∙ ap (λ (t : Totals). t10 ++ compact_text (tallies_json t.tallies)) view in
    record {
      ok = all_added was (
          (codes "{\"version\":", t0)
          ∷ (compact_text (text_json (version_shown c.args.first)), t1)
          ∷ (codes ",\"chunks\":" ++ decimal t.chunks, t2)
          ∷ (codes ",\"bytes\":" ++ decimal t.bytes, t3)
          ∷ (codes ",\"start\":" ++ decimal c.args.first.start_nanos, t4)
          ∷ (codes ",\"duration\":" ++ decimal t.duration, t5)
          ∷ (codes ",\"events\":" ++ decimal t.events, t6)
          ∷ (codes ",\"checkpoints\":" ++ decimal t.checkpoints, t7)
          ∷ (codes ",\"constants\":" ++ decimal t.constants, t8)
          ∷ (codes ",\"inert\":" ++ decimal t.inert, t9)
          ∷ (codes ",\"types\":", t10)
          ∷ (compact_text (tallies_json t.tallies), t11)
          ∷ (codes "}", t12)
          ∷ []) t12 (
            c.in_ok-push_str.ensures.bytes,
            (
              c.in_ok-push_version.ensures.ok,
              (e2, (e3, (e4, (e5, (e6, (e7, (e8, (e9, (c.in_ok-push_str-2.ensures.bytes, (e11, (c.in_ok-push_str-3.ensures.bytes, refl))))))))))),
            ),
          )
          ∙ ap (λ z. was ++ z) (totals_text t c.args.first);
    }
