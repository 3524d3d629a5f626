-- The region of a text: its locale, and its offset from UTC.
use Rattle.std.specs.Prelude.{ℕ, ◌^◌, Bool, false, not, List, [], ◌∷◌, Option, Some, None, is_some}
use Rattle.jfr_build.specs.declared.line.BuildLine.{BuildLine}
use Rattle.jfr_build.specs.declared.line.BuildLine.TheVariants as lines
use Rattle.jfr_build.specs.declared.lines.NumberedLine.{NumberedLine}
use Rattle.jfr_build.specs.declared.region.Region.{Region}
use Rattle.jfr_build.specs.LeafWords.{signed_of}

-- The number that a word spells doesn't fit in 32 bits, with its sign.
abbrev pub is_wide : List ℕ → Bool
is_wide word = not (is_some (signed_of (2 ^ 31) word))

-- The line is a region whose offset doesn't fit in 32 bits.
abbrev pub is_wide_region : BuildLine → Bool
is_wide_region (lines.Class id name event) = false
is_wide_region (lines.Field name shape) = false
is_wide_region (lines.Constant class key words) = false
is_wide_region (lines.Record class words) = false
is_wide_region (lines.Region region) = is_wide region.offset

-- The region of this line, or else of those after it.
abbrev pub region_before : BuildLine → Option Region → Option Region
region_before (lines.Class id name event) later = later
region_before (lines.Field name shape) later = later
region_before (lines.Constant class key words) later = later
region_before (lines.Record class words) later = later
region_before (lines.Region region) later = Some region

-- The region of the lines, if one of them is a region.
abbrev pub region_in : List NumberedLine → Option Region
region_in [] = None
region_in (l ∷ ls) = region_before l.line (region_in ls)
