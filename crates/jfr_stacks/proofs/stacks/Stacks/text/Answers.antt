use Rattle.std.proofs.Common.{rules, ◌≡◌}
use Rattle.std.specs.Prelude.{string_bytes}
use Rattle.std.proofs.lemmas.Str.{IsUtf8-string_bytes}
use Rattle.jfr_stacks.specs.Folded.{lines_of}
use Rattle.jfr_stacks.proofs.BytesLaws.{bytes_back}
use Rattle.jfr_stacks.proofs.stacks.Stacks.text.Goals as goal

pub returns-clause-bytes : goal.returns-clause-bytes
returns-clause-bytes c =
    let lines : string_bytes c.push_lines.new.out ≡ lines_of c.args.self.now.stacks = search rules in
    bytes_back (string_bytes c.push_lines.new.out) (lines_of c.args.self.now.stacks) c.from_string.result (IsUtf8-string_bytes c.push_lines.new.out) lines c.from_string.ensures.ok
