use Rattle.std.proofs.Common.{◌≡◌, ℕ, List, Option, Some, None, IfSome, arith, ap, ◌∙◌}
use Rattle.std.specs.Str.{chars, IsAscii}
use Rattle.jfr_text.proofs.AsciiLaws.{units_payload}
use Rattle.jfr_text.proofs.text.payload_text.Goals as goal

-- A text with the bytes of the payload is the string's, if the payload is its text.
made : {T : Type 0} (view : T → List ℕ) (o : Option T) (bytes : List ℕ) (text : Option (List ℕ)) → IfSome o (λ t. IsAscii bytes × (bytes ≡ view t)) → (IsAscii bytes → text ≡ Some bytes)
    → IfSome o (λ t. text ≡ Some (view t))
made view None bytes text h is = tt
made view (Some t) bytes text h is = is h.0 ∙ ap (λ cs. Some cs) h.1

pub returns-in-Units : goal.returns-in-Units
returns-in-Units c =
    let span = c.args.span.now in
    made (λ text. chars text.now) c.as_ascii-in-Units.result span.payload.now _ c.as_ascii-in-Units.ensures (units_payload span c.in-Units.is (omega (arith, c.if-span.true)))
