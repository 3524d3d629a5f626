-- Texts as lists of characters.
use Rattle.std.specs.Prelude.{ℕ, List, Option, option_map}
use Rattle.std.specs.Str.{chars}
use Rattle.std.specs.Borrow.{Bor}
use Rattle.std.specs.Rc.{rc_str_bytes}
use Rattle.jfr_base.specs.declared.text.Bytes.{Bytes}
use Rattle.jfr_base.specs.declared.text.Bytes.TheVariants.{Brief, Shared}

-- The characters of a text, if there is one.
abbrev pub text_in : Option (Bor (List ℕ)) → Option (List ℕ)
text_in o = option_map (λ x. chars x.now) o

-- The UTF-8 of a text, whether it is kept in place or shared.
abbrev pub bytes_of : Bytes → List ℕ
bytes_of (Brief bytes) = bytes
bytes_of (Shared string) = rc_str_bytes string
