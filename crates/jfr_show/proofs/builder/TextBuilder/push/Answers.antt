use Rattle.std.proofs.Common.{string_bytes, rules}
use Rattle.std.proofs.lemmas.Str.{IsUtf8-string_bytes}
use Rattle.jfr_show.proofs.TextLaws.{grown_char}
use Rattle.jfr_show.proofs.builder.TextBuilder.push.Goals as goal

pub returns : goal.returns
returns c = record {
  ok = grown_char c.args.self.now (string_bytes c.self.inside.text) (string_bytes c.push.new.self) c.args.character c.self.view_is (IsUtf8-string_bytes c.self.inside.text)
      (search rules) c.in_ok-push.ensures.bytes;
  unchanged = tt;
}
