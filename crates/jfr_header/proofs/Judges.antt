-- What the first bytes say, case by case.
use Rattle.std.proofs.Common.{◌≡◌, ℕ, ◌+◌, ◌≤◌, ◌<◌, ◌^◌, ◌∙◌, ap, Bool, true, false, not, List, [], ◌∷◌, ◌++◌, take, length, Some, arith, length-append, append-nil}
use Rattle.std.proofs.lemmas.List.{take_at}
use Rattle.jfr_base.specs.declared.flaw.Flaw.{Flaw}
use Rattle.jfr_base.specs.declared.reason.Reason.TheVariants.{NoChunk, ShortHeader, TooLong}
use Rattle.jfr_header.specs.Fronts.{front, headed, header_flaw, flaw_at}
use Rattle.jfr_header.specs.Judging.{IsJudged}
use Rattle.jfr_header.specs.declared.judge.NextChunk.TheVariants.{Bad}
use Rattle.jfr_header.proofs.Steps.{front_none, front_long, front_short, front_headed}

longer : (bytes left : List ℕ) → 0 < length bytes → 0 < length (bytes ++ left)
longer bytes left h = let e : length (bytes ++ left) ≡ length bytes + length left = length-append bytes left in omega (arith, h, e)

pub judged_none : (bytes : List ℕ) (start : ℕ) → length bytes ≡ 0 → IsJudged bytes start false (Bad (flaw_at 0 NoChunk))
judged_none [] start z = (λ left f. ap (λ (l : List ℕ). front l start true) (f (omega arith)) ∙ front_none start, λ y. cc)
judged_none (b ∷ bytes) start z = absurd (omega (arith, z))

pub judged_long : (bytes : List ℕ) (start : ℕ) (given : Bool) → 0 < length bytes → 2 ^ 40 ≤ start → IsJudged bytes start given (Bad (flaw_at 0 TooLong))
judged_long bytes start given h k = (λ left f. front_long (bytes ++ left) start (not given) (longer bytes left h) k, λ y. cc)

pub judged_short : (bytes : List ℕ) (start : ℕ) (given : Bool) → 0 < length bytes → start < 2 ^ 40 → length bytes < 68 → IsJudged bytes start given (Bad (flaw_at (length bytes) ShortHeader))
judged_short bytes start given h k l = (
  λ left f.
      let e : bytes ++ left ≡ bytes = ap (λ (x : List ℕ). bytes ++ x) (f l) ∙ append-nil bytes in
      ap (λ (x : List ℕ). front x start (not given)) e ∙ front_short bytes start (not given) h k l,
  λ y. cc,
)

pub judged_header : (bytes : List ℕ) (start : ℕ) (given : Bool) (f : Flaw) → length bytes ≡ 68 → start < 2 ^ 40 → header_flaw bytes ≡ Some f → IsJudged bytes start given (Bad f)
judged_header bytes start given f n k e = (
  λ left g.
      let long : 68 ≤ length (bytes ++ left) = omega (arith, n, length-append bytes left) in
      let is : header_flaw (take 68 (bytes ++ left)) ≡ Some f = ap header_flaw (take_at bytes left 68 n) ∙ e in
      front_headed (bytes ++ left) start (not given) k long ∙ ap (headed (bytes ++ left)) is,
  λ y. n,
)
