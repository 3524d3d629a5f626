use Rattle.std.proofs.Common.{string_bytes}
use Rattle.std.proofs.lemmas.Str.{IsUtf8-string_bytes}
use Rattle.jfr_show.proofs.TextLaws.{grown}
use Rattle.jfr_show.proofs.builder.TextBuilder.push_str.Goals as goal

pub returns : goal.returns
returns c = record {
  ok = grown c.args.self.now (string_bytes c.self.inside.text) (string_bytes c.push_str.new.self) c.args.text.now c.self.view_is
      (IsUtf8-string_bytes c.self.inside.text) c.in_ok-push_str.ensures.bytes;
  unchanged = tt;
}
