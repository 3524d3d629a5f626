-- The bytes of a text that was made of bytes.
use Rattle.std.specs.Prelude.{◌≡◌, ℕ, List, Result, Ok, Err, IfOk, encode_utf8_all}
use Rattle.std.specs.Str.{chars, IsUtf8}
use Rattle.std.proofs.Common.{ap, ◌∙◌}
use Rattle.std.proofs.lemmas.Str.{encodes-chars}

-- A text of bytes in UTF-8 has these bytes.
pub bytes_back : {E : Type 0} (bytes lines : List ℕ) (r : Result (List ℕ) E) → IsUtf8 bytes → bytes ≡ lines → IfOk r (λ text. text ≡ chars bytes) → IfOk r (λ text. encode_utf8_all text ≡ lines)
bytes_back bytes lines (Ok text) u e h = ap encode_utf8_all h ∙ (encodes-chars bytes u ∙ e)
bytes_back bytes lines (Err fault) u e h = tt
