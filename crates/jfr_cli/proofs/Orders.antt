-- Names of files, and what calls over one recording leave.
use Rattle.std.specs.Prelude.{◌≡◌, ℕ, List, encode_utf8_all}
use Rattle.std.specs.Str.{chars, IsUtf8}
use Rattle.std.proofs.Common.{ap, sym, ◌∙◌}
use Rattle.std.proofs.lemmas.Str.{encodes-chars}
use Rattle.jfr_words.specs.Words.{file_name}

-- A text is the name of the file that its characters name.
pub named : (text word : List ℕ) → IsUtf8 text → chars text ≡ word → text ≡ file_name word
named text word u e = sym (encodes-chars text u) ∙ ap encode_utf8_all e
