-- Lines, one after another: the number of a line, and the region.
use Rattle.std.specs.Prelude.{◌≡◌, ℕ, zero, suc, ◌+◌, ◌<◌, false, List, [], ◌∷◌, drop, length, Some}
use Rattle.std.proofs.Common.{ap, arith, get_or, refl, sym, ◌∙◌}
use Rattle.jfr_build.specs.declared.line.BuildLine.TheVariants as lines
use Rattle.jfr_build.specs.declared.lines.NumberedLine.{NumberedLine}
use Rattle.jfr_build.specs.declared.region.Region.{Region}
use Rattle.jfr_build.specs.ClassLines.{number_at, number_from}
use Rattle.jfr_build.specs.Lines.{is_region}
use Rattle.jfr_build.specs.Regions.{region_before, region_in}

drop_at : (ls : List NumberedLine) (i : ℕ) (l : NumberedLine) → l ≡ get_or ls i l → i < length ls → drop i ls ≡ l ∷ drop (i + 1) ls
drop_at [] i l e h = absurd (omega (arith, h))
drop_at (x ∷ xs) zero l e h = ap (λ z. z ∷ xs) (sym e)
drop_at (x ∷ xs) (suc i) l e h = let q : suc i + 1 ≡ suc (i + 1) = omega arith in rw q (drop_at xs i l e (omega (arith, h)))

-- The line with index 0 is the first, unless it is a region.
pub number_here : (ls : List NumberedLine) (i : ℕ) (l : NumberedLine) → l ≡ get_or ls i l → i < length ls → is_region l.line ≡ false → number_at (drop i ls) 0 ≡ l.number
number_here ls i l e h q = ap (λ z. number_at z 0) (drop_at ls i l e h) ∙ rw q refl

-- The line with an index after the first.
pub number_after : (ls : List NumberedLine) (i n : ℕ) → i < length ls → number_from (drop i ls) (Some n) ≡ number_at (drop (i + 1) ls) n
number_after [] i n h = absurd (omega (arith, h))
number_after (x ∷ xs) zero n h = refl
number_after (x ∷ xs) (suc i) n h = let q : suc i + 1 ≡ suc (i + 1) = omega arith in rw q (number_after xs i n (omega (arith, h)))

-- The region is the first one that is found.
pub region_here : (ls : List NumberedLine) (i : ℕ) (l : NumberedLine) (r : Region) → l ≡ get_or ls i l → i < length ls → l.line ≡ lines.Region r → region_in (drop i ls) ≡ Some r
region_here ls i l r e h q = ap region_in (drop_at ls i l e h) ∙ ap (λ z. region_before z (region_in (drop (i + 1) ls))) q
