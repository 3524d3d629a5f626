use Rattle.std.proofs.Common.{[], ◌∷◌, ◌++◌, ◌∙◌, codes, decimal, string_bytes, ap, refl}
use Rattle.serde_json.specs.Written.{compact_text}
use Rattle.jfr_show.specs.Json.{text_json}
use Rattle.jfr_show.specs.Metadata.{field_json, super_json}
use Rattle.jfr_show.proofs.ArrayLaws.{array_of}
use Rattle.jfr_show.proofs.ListingLaws.{all_added}
use Rattle.jfr_show.proofs.ObjectLaws.{class_text, text_added}
use Rattle.jfr_show.proofs.metadata.json.push_class.Goals as goal

pub returns : goal.returns
returns c =
    let was = string_bytes c.args.out.now in
    let k = c.args.chunk.now.classes in
    let d = c.args.class.now in
    let t0 = string_bytes c.push_str.new.self in
    let t1 = string_bytes c.push_number.new.out in
    let t2 = string_bytes c.push_str-2.new.self in
    let t3 = string_bytes c.push_string.new.out in
    let t4 = string_bytes c.push_str-3.new.self in
    let t5 = string_bytes c.push_number-2.new.out in
    let t6 = string_bytes c.push_str-4.new.self in
    let t7 = string_bytes c.push_super.new.out in
    let t8 = string_bytes c.push_str-5.new.self in
    let t9 = string_bytes c.push_categories.new.out in
    let t10 = string_bytes c.push_str-6.new.self in
    let t11 = string_bytes c.push_fields.new.out in
    let t12 = string_bytes c.push_str-7.new.self in
    let e3 = text_added t2 t3 c.as_str.result.now d.name c.as_str.utf8 c.as_str.ensures c.in_ok-push_string.ensures.ok in
    record {
      ok = all_added was (
          (codes "{\"chunk\":", t0)
          ∷ (decimal c.args.number, t1)
          ∷ (codes ",\"name\":", t2)
          ∷ (compact_text (text_json d.name), t3)
          ∷ (codes ",\"id\":", t4)
          ∷ (decimal d.id, t5)
          ∷ (codes ",\"super\":", t6)
          ∷ (compact_text (super_json d.super_name), t7)
          ∷ (codes ",\"categories\":", t8)
          ∷ (compact_text (array_of text_json d.categories), t9)
          ∷ (codes ",\"fields\":", t10)
          ∷ (compact_text (array_of (field_json k) d.fields), t11)
          ∷ (codes "}", t12)
          ∷ []) t12 (
            c.in_ok-push_str.ensures.bytes,
            (
              c.in_ok-push_number.ensures.ok,
              (
                c.in_ok-push_str-2.ensures.bytes,
                (
                  e3,
                  (
                    c.in_ok-push_str-3.ensures.bytes,
                    (
                      c.in_ok-push_number-2.ensures.ok,
                      (
                        c.in_ok-push_str-4.ensures.bytes,
                        (
                          c.in_ok-push_super.ensures.ok,
                          (
                            c.in_ok-push_str-5.ensures.bytes,
                            (c.in_ok-push_categories.ensures.ok, (c.in_ok-push_str-6.ensures.bytes, (c.in_ok-push_fields.ensures.ok, (c.in_ok-push_str-7.ensures.bytes, refl)))),
                          ),
                        ),
                      ),
                    ),
                  ),
                ),
              ),
            ),
          )
          ∙ ap (λ z. was ++ z) (class_text c.args.number k d);
    }
