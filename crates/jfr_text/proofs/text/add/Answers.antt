use Rattle.std.proofs.Common.{◌≡◌, true, [], ◌∷◌, ◌++◌, string_bytes, ap, sym, ◌∙◌, rules}
use Rattle.std.proofs.lemmas.List.{append-nil}
use Rattle.std.proofs.lemmas.Str.{chars-append, chars-encodes, IsUtf8-string_bytes}
use Rattle.std.specs.Str.{chars}
use lib.Utf8.{scalar, scalars, encode}
use Rattle.jfr_text.proofs.text.add.Goals as goal

pub returns : goal.returns
returns c =
    let old = string_bytes c.args.text.now in
    let x = c.args.character in
    let s : scalar x ≡ true = search rules in
    let t : scalars (x ∷ []) ≡ true = rw s in
    let one : chars (encode x) ≡ x ∷ [] = ap chars (sym (append-nil (encode x))) ∙ chars-encodes (x ∷ []) t in
    record { ok = ap chars c.in_ok-push.ensures.bytes ∙ (chars-append old (encode x) (IsUtf8-string_bytes c.args.text.now) ∙ ap (λ z. chars old ++ z) one) }
