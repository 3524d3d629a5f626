use Rattle.std.proofs.Common.{[], ◌∷◌, ◌++◌, ◌∙◌, codes, decimal, string_bytes, ap, refl}
use Rattle.serde_json.specs.Data.{string}
use Rattle.serde_json.specs.Written.{compact_text}
use Rattle.jfr_show.proofs.ListingLaws.{all_added}
use Rattle.jfr_show.proofs.ObjectLaws.{number_added, tally_text}
use Rattle.jfr_show.proofs.summary.json.push_tally.Goals as goal

pub returns : goal.returns
returns c =
    let was = string_bytes c.args.out.now in
    let t0 = string_bytes c.push_str.new.self in
    let t1 = string_bytes c.push_string.new.out in
    let t2 = string_bytes c.push_total.new.out in
    let t3 = string_bytes c.push_total-2.new.out in
    let t4 = string_bytes c.push_str-2.new.self in
    let p1 = compact_text (string c.args.name.now) in
    let p2 = codes ",\"events\":" ++ decimal c.args.tally.events in
    let p3 = codes ",\"bytes\":" ++ decimal c.args.tally.bytes in
    let e2 = number_added t1 t2 (codes ",\"events\":") c.from.result c.args.tally.events c.from.ensures c.in_ok-push_total.ensures.ok in
    let e3 = number_added t2 t3 (codes ",\"bytes\":") c.from-2.result c.args.tally.bytes c.from-2.ensures c.in_ok-push_total-2.ensures.ok in
    record {
      ok = all_added was ((codes "{\"name\":", t0) ∷ (p1, t1) ∷ (p2, t2) ∷ (p3, t3) ∷ (codes "}", t4) ∷ []) t4
          (c.in_ok-push_str.ensures.bytes, (c.in_ok-push_string.ensures.ok, (e2, (e3, (c.in_ok-push_str-2.ensures.bytes, refl)))))
          ∙ ap (λ z. was ++ z) (tally_text c.args.name.now c.args.tally);
    }
