use Rattle.std.proofs.Common.{◌≡◌, ◌++◌, string_bytes, ap, ◌∙◌, subst}
use Rattle.std.proofs.Common.{rules}
use Rattle.std.proofs.lemmas.Int.{to_z-of_z}
use Rattle.std.specs.Int.{w64}
use Rattle.std.specs.Fmt.{signed_decimal}
use Rattle.std.specs.Str.{IsAscii}
use Rattle.std.proofs.lemmas.Str.{IsUtf8-string_bytes}
use Rattle.jfr_show.proofs.TextLaws.{grown_plain}
use Rattle.jfr_show.proofs.builder.TextBuilder.push_signed.Goals as goal

pub returns : goal.returns
returns c =
    let text : c.format.result.now ≡ signed_decimal c.args.number = c.format.ensures.text ∙ ap signed_decimal (to_z-of_z w64 c.args.number (search rules)) in
    record {
      ok = grown_plain c.args.self.now (string_bytes c.self.inside.text) (string_bytes c.push_str.new.self) (signed_decimal c.args.number) c.self.view_is
          (IsUtf8-string_bytes c.self.inside.text) (subst (λ z. IsAscii z) text c.format.ensures.ascii)
          (c.in_ok-push_str.ensures.bytes ∙ ap (λ z. string_bytes c.self.inside.text ++ z) text);
      unchanged = tt;
    }
