use Rattle.std.proofs.Common.{[], ◌∷◌, ◌++◌, ◌∙◌, codes, decimal, string_bytes, ap, refl}
use Rattle.serde_json.specs.Data.{boolean}
use Rattle.serde_json.specs.Written.{compact_text}
use Rattle.jfr_show.specs.Json.{text_json}
use Rattle.jfr_show.specs.Names.{class_name}
use Rattle.jfr_show.proofs.ListingLaws.{all_added}
use Rattle.jfr_show.proofs.ObjectLaws.{field_text, text_added}
use Rattle.jfr_show.proofs.metadata.json.push_field.Goals as goal

pub returns : goal.returns
returns c =
    let was = string_bytes c.args.out.now in
    let k = c.args.chunk.now.classes in
    let f = c.args.field.now in
    let t0 = string_bytes c.push_str.new.self in
    let t1 = string_bytes c.push_string.new.out in
    let t2 = string_bytes c.push_str-2.new.self in
    let t3 = string_bytes c.push_string-2.new.out in
    let t4 = string_bytes c.push_str-3.new.self in
    let t5 = string_bytes c.push_number.new.out in
    let t6 = string_bytes c.push_str-4.new.self in
    let t7 = string_bytes c.push_flag.new.out in
    let t8 = string_bytes c.push_str-5.new.self in
    let t9 = string_bytes c.push_flag-2.new.out in
    let t10 = string_bytes c.push_str-6.new.self in
    let e1 = text_added t0 t1 c.as_str.result.now f.name c.as_str.utf8 c.as_str.ensures c.in_ok-push_string.ensures.ok in
    let e3 = text_added t2 t3 c.class_name.result.now (class_name k f.shape.class) c.class_name.utf8 c.class_name.ensures c.in_ok-push_string-2.ensures.ok in
    record {
      ok = all_added was (
          (codes "{\"name\":", t0)
          ∷ (compact_text (text_json f.name), t1)
          ∷ (codes ",\"class\":", t2)
          ∷ (compact_text (text_json (class_name k f.shape.class)), t3)
          ∷ (codes ",\"class_id\":", t4)
          ∷ (decimal f.shape.class, t5)
          ∷ (codes ",\"constant\":", t6)
          ∷ (compact_text (boolean f.shape.constant), t7)
          ∷ (codes ",\"array\":", t8)
          ∷ (compact_text (boolean f.shape.array), t9)
          ∷ (codes "}", t10)
          ∷ []) t10 (
            c.in_ok-push_str.ensures.bytes,
            (
              e1,
              (
                c.in_ok-push_str-2.ensures.bytes,
                (
                  e3,
                  (
                    c.in_ok-push_str-3.ensures.bytes,
                    (
                      c.in_ok-push_number.ensures.ok,
                      (
                        c.in_ok-push_str-4.ensures.bytes,
                        (
                          c.in_ok-push_flag.ensures.ok,
                          (c.in_ok-push_str-5.ensures.bytes, (c.in_ok-push_flag-2.ensures.ok, (c.in_ok-push_str-6.ensures.bytes, refl))),
                        ),
                      ),
                    ),
                  ),
                ),
              ),
            ),
          )
          ∙ ap (λ z. was ++ z) (field_text k f);
    }
