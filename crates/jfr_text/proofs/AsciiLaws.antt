-- Payloads that are the text of their string: bytes below 128, of each kind of string, and UTF-8.
use Rattle.std.specs.Prelude.{◌≡◌, ℕ, ◌+◌, ◌*◌, ◌%◌, ◌^◌, ◌<◌, List, [], ◌∷◌, length, Some, false}
use Rattle.std.specs.Char.Utf16.{utf16_lossy_chars, is_high_surrogate}
use Rattle.std.specs.List.{AllByRecursion}
use Rattle.std.specs.Str.{chars, IsAscii, IsUtf8}
use Rattle.std.proofs.Common.{ap, arith, refl, subst, sym, ◌∙◌}
use Rattle.std.proofs.lemmas.Bool.Decides.{nat_tests}
use Rattle.std.proofs.lemmas.List.Elements.{recursion_from_All}
use Rattle.std.proofs.lemmas.Str.{chars-encodes}
use Rattle.std.proofs.lemmas.Str.Ascii.{All-from_ascii}
use Rattle.bstr.specs.Utf8.{lossy_chars}
use Rattle.bstr.proofs.lemmas.EncodeLemmas.{lossy_chars-encode}
use Rattle.jfr_text.specs.declared.span.StringSpan.{StringSpan}
use Rattle.jfr_text.specs.declared.span.StringKind.TheVariants as kinds
use Rattle.jfr_text.specs.Spans.{content_by, content_of, first_integers}
use Rattle.jfr_text.specs.Strings.{SpellAll, low_units, text_of}
use Rattle.jfr_text.proofs.DecodingSteps.{decode_none, decode_lone, lone_char}
use Rattle.jfr_text.proofs.SpellLaws.{spelled_first}

-- The bytes are ASCII.
abbrev AreBelow : List ℕ → Type 0
AreBelow bytes = AllByRecursion (λ b. b < 128) bytes

-- Each byte is an integer by itself.
spelled : (bytes : List ℕ) → AreBelow bytes → SpellAll bytes bytes
spelled [] all = refl
spelled (b ∷ bytes) all =
    let worth : b ≡ b % 128 + 128 * 0 = omega (arith, all.0) in
    (b ∷ [], bytes, refl, record { form = all.0; worth = worth }, spelled bytes all.1)

-- No byte has more than 16 bits.
low : (bytes : List ℕ) → AreBelow bytes → low_units bytes ≡ bytes
low [] all = refl
low (b ∷ bytes) all =
    let unit : b % 2 ^ 16 ≡ b = omega (arith, all.0) in
    ap (λ v. v ∷ low_units bytes) unit ∙ ap (λ vs. b ∷ vs) (low bytes all.1)

not_high : (b : ℕ) → b < 128 → is_high_surrogate b ≡ false
not_high b small = grind (arith, nat_tests)

lone : (b : ℕ) → b < 128 → lone_char b ≡ b
lone b small = grind (arith, nat_tests)

-- Each byte is the unit of a character, and no surrogate.
decoded : (bytes : List ℕ) → AreBelow bytes → utf16_lossy_chars bytes ≡ bytes
decoded [] all = decode_none [] refl
decoded (b ∷ bytes) all =
    decode_lone (b ∷ bytes) bytes b refl (not_high b all.0)
    ∙ (ap (λ c. c ∷ utf16_lossy_chars bytes) (lone b all.0) ∙ ap (λ cs. b ∷ cs) (decoded bytes all.1))

-- If there is an integer for each byte, the bytes are the text.
units_text : (bytes : List ℕ) → IsAscii bytes → utf16_lossy_chars (low_units (first_integers (length bytes) bytes)) ≡ bytes
units_text bytes ascii =
    let all : AreBelow bytes = recursion_from_All (λ b. b < 128) bytes (All-from_ascii bytes ascii) in
    ap (λ vs. utf16_lossy_chars (low_units vs)) (spelled_first bytes bytes (spelled bytes all))
    ∙ (ap (λ vs. utf16_lossy_chars vs) (low bytes all) ∙ decoded bytes all)

pub units_payload : (span : StringSpan) → span.kind ≡ kinds.Units → span.count ≡ length span.payload.now → IsAscii span.payload.now → text_of (content_of span) ≡ Some span.payload.now
units_payload span kind count ascii =
    let bytes = span.payload.now in
    ap (λ k. text_of (content_by k span)) kind
    ∙ (ap (λ n. Some (utf16_lossy_chars (low_units (first_integers n bytes)))) count ∙ ap (λ cs. Some cs) (units_text bytes ascii))

-- UTF-8 has no piece that is replaced.
pub utf8_text : (bytes : List ℕ) → IsUtf8 bytes → lossy_chars bytes ≡ chars bytes
utf8_text bytes utf8 = subst (λ t. lossy_chars t ≡ chars t) utf8.1.1 (lossy_chars-encode utf8.0 utf8.1.0 ∙ sym (chars-encodes utf8.0 utf8.1.0))
