use Rattle.std.proofs.Common.{◌≡◌, ◌++◌, string_bytes, ap, ◌∙◌, subst}
use Rattle.std.specs.Fmt.{decimal}
use Rattle.std.specs.Str.{IsAscii}
use Rattle.std.proofs.lemmas.Str.{IsUtf8-string_bytes}
use Rattle.jfr_show.proofs.TextLaws.{grown_plain}
use Rattle.jfr_show.proofs.builder.TextBuilder.push_number.Goals as goal

pub returns : goal.returns
returns c =
    let text : c.format.result.now ≡ decimal c.args.number = c.format.ensures.text in
    record {
      ok = grown_plain c.args.self.now (string_bytes c.self.inside.text) (string_bytes c.push_str.new.self) (decimal c.args.number) c.self.view_is (IsUtf8-string_bytes c.self.inside.text)
          (subst (λ z. IsAscii z) text c.format.ensures.ascii) (c.in_ok-push_str.ensures.bytes ∙ ap (λ z. string_bytes c.self.inside.text ++ z) text);
      unchanged = tt;
    }
