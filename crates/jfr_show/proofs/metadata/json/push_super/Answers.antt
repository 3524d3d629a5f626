use Rattle.std.proofs.Common.{◌++◌, ◌∙◌, ap, string_bytes, sym}
use Rattle.std.proofs.lemmas.Result.{on_ok_weaker}
use Rattle.serde_json.specs.Written.{compact_text}
use Rattle.jfr_show.specs.Metadata.{super_json}
use Rattle.jfr_show.proofs.ObjectLaws.{text_added}
use Rattle.jfr_show.proofs.metadata.json.push_super.Goals as goal

pub returns-in-Some : goal.returns-in-Some
returns-in-Some c =
    let was = string_bytes c.args.out.now in
    record {
      ok = on_ok_weaker c.push_string.result
          (λ h. text_added was (string_bytes c.push_string.new.out) c.as_str.result.now c.in-Some.name c.as_str.utf8 c.as_str.ensures h
          ∙ ap (λ name. was ++ compact_text (super_json name)) (sym c.in-Some.is)) c.push_string.ensures.ok;
    }
