use Rattle.std.proofs.Common.{◌++◌, ap, subst, sym, ◌∙◌}
use Rattle.std.specs.Option.{option_map}
use Rattle.std.proofs.lemmas.Result.{on_ok_weaker}
use Rattle.jfr_mask.specs.Masked.{string_bytes}
use Rattle.jfr_mask.specs.Maskers.{shown_by}
use Rattle.jfr_mask.specs.Noted.{IsNotedFor, text_at}
use Rattle.jfr_mask.specs.Pseudonyms.{has_text}
use Rattle.jfr_mask.specs.Written.{shown_bytes}
use Rattle.jfr_mask.proofs.NotedLaws.{noted_string}
use Rattle.jfr_mask.proofs.masker.Masker.put_string_at.Goals as goal

pub returns-in-Some : goal.returns-in-Some
returns-in-Some c =
    let m = c.args.self.now in
    let found = text_at m.strings.chunk.now c.args.string in
    let noted = c.requires.noted.strings.each c.args.number c.args.string c.requires.there in
    let s = c.in-Some.ensures found (subst (IsNotedFor (has_text m.known.now) m.dictionary.now found) (sym c.string.ensures) noted) in
    let written = ap (λ o. string_bytes (option_map (shown_by m) o)) s.1 ∙ noted_string (has_text m.known.now) m.dictionary.now s.0 (shown_bytes c.in-Some.shown) s.2 s.3 in
    record { ok = on_ok_weaker c.put_shown.result (λ e. e ∙ ap (λ z. c.args.out.now.items ++ z) (sym written)) c.put_shown.ensures.ok }
