use Rattle.std.proofs.Common.{◌++◌, ap, sym, ◌∙◌}
use Rattle.std.specs.Option.{option_map}
use Rattle.std.proofs.lemmas.Result.{on_ok_weaker}
use Rattle.jfr_mask.specs.Masked.{string_bytes}
use Rattle.jfr_mask.specs.Maskers.{shown_by}
use Rattle.jfr_mask.specs.Pseudonyms.{has_text}
use Rattle.jfr_mask.specs.Written.{shown_bytes}
use Rattle.jfr_mask.proofs.NotedLaws.{noted_string}
use Rattle.jfr_mask.proofs.masker.Masker.put_string.Goals as goal

pub returns-in-Some : goal.returns-in-Some
returns-in-Some c =
    let m = c.args.self.now in
    let s = c.in-Some.ensures in
    let written = ap (λ o. string_bytes (option_map (shown_by m) o)) s.1 ∙ noted_string (has_text m.known.now) m.dictionary.now s.0 (shown_bytes c.in-Some.shown) s.2 s.3 in
    record { ok = on_ok_weaker c.put_shown.result (λ e. e ∙ ap (λ z. c.args.out.now.items ++ z) (sym written)) c.put_shown.ensures.ok }
