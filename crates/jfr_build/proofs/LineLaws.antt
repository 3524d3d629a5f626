-- What lines say.
use Rattle.std.specs.Prelude.{◌≡◌, Bool, true, false, ℕ, List, None, if◌then◌else◌, codes}
use Rattle.std.specs.Str.{IsUtf8, chars, is_utf8}
use Rattle.std.proofs.Common.{ap, refl, sym, ◌∙◌}
use Rattle.std.proofs.lemmas.Str.{IsUtf8-from_is_utf8, is_utf8-from_IsUtf8}
use Rattle.jfr_build.specs.Pieces.{words_of}
use Rattle.jfr_build.specs.Lines.{line_in, line_of}

-- A line in UTF-8 says what its words say.
pub line_said : (bytes line : List ℕ) → line ≡ bytes → IsUtf8 bytes → line_of bytes ≡ line_in (words_of line)
unfolding line_of
line_said bytes line e u = ap (λ t. if t then line_in (words_of bytes) else None) (is_utf8-from_IsUtf8 bytes u) ∙ ap (λ z. line_in (words_of z)) (sym e)

pub nothing_said : (bytes : List ℕ) → (IsUtf8 bytes → ⊥) → line_of bytes ≡ None
unfolding line_of
nothing_said bytes h = by_test (is_utf8 bytes) refl
  where
    by_test : (t : Bool) → is_utf8 bytes ≡ t → (if t then line_in (words_of bytes) else None) ≡ None
    by_test true e = absurd (h (IsUtf8-from_is_utf8 bytes e))
    by_test false e = refl

-- The super type of events is ASCII.
pub event_chars : chars (codes "jdk.jfr.Event") ≡ codes "jdk.jfr.Event"
unfolding chars
event_chars = refl
