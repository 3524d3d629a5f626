use Rattle.std.specs.Prelude.{◌≡◌, ◌||◌, true, false, string_bytes}
use Rattle.std.specs.Str.{bytes_eq, chars}
use Rattle.std.proofs.Common.{ap, sym, ◌∙◌}
use Rattle.std.proofs.lemmas.Str.{IsUtf8-string_bytes}
use Rattle.bstr.specs.Utf8.{lossy_chars}
use Rattle.jfr_mask.specs.Held.{texts_of}
use Rattle.jfr_mask.specs.Pseudonyms.{has_text, is_like_pseudonym}
use Rattle.jfr_mask.proofs.KnownLaws.{line_known, line_unknown, lossy_text, or_false, text_updated}
use Rattle.jfr_mask.proofs.known.add_line.Goals as goal

pub returns-then-is_like_pseudonym : goal.returns-then-is_like_pseudonym
returns-then-is_like_pseudonym c =
    let text : chars (string_bytes c.in_ok-text.text) ≡ lossy_chars c.args.line.now =
    lossy_text (string_bytes c.in_ok-text.text) c.args.line.now (IsUtf8-string_bytes c.in_ok-text.text) c.in_ok-text.ensures.lossy in
    let begins : is_like_pseudonym (lossy_chars c.args.line.now) ≡ true =
    ap is_like_pseudonym (sym text) ∙ (ap (λ z. is_like_pseudonym (chars z)) (sym c.as_str.ensures.value) ∙ (sym c.is_like_pseudonym.ensures ∙ c.if-is_like_pseudonym.true)) in
    record {
      ok = λ t.
          let had = has_text (texts_of c.args.texts.now) t in
          sym (ap (λ b. had || b) (line_unknown (lossy_chars c.args.line.now) t begins) ∙ or_false had);
    }

pub returns : goal.returns
returns c =
    let text : chars (string_bytes c.in_ok-text.text) ≡ lossy_chars c.args.line.now =
    lossy_text (string_bytes c.in_ok-text.text) c.args.line.now (IsUtf8-string_bytes c.in_ok-text.text) c.in_ok-text.ensures.lossy in
    let begins : is_like_pseudonym (lossy_chars c.args.line.now) ≡ false =
    ap is_like_pseudonym (sym text) ∙ (ap (λ z. is_like_pseudonym (chars z)) (sym c.as_str.ensures.value) ∙ (sym c.is_like_pseudonym.ensures ∙ c.if-is_like_pseudonym.false)) in
    record {
      ok = λ t.
          let had = has_text (texts_of c.args.texts.now) t in
          text_updated c.args.texts.now c.insert.new.self c.in_ok-text.text c.in_ok-insert.ensures.updates t
          ∙ (ap (λ z. had || bytes_eq z t) text ∙ ap (λ b. had || b) (sym (line_known (lossy_chars c.args.line.now) t begins)));
    }
