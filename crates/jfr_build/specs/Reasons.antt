-- The number and the name of each reason.
use Rattle.std.specs.Prelude.{ℕ, List, codes}
use Rattle.jfr_base.specs.Reasons.{reason_number, reason_name}
use Rattle.jfr_build.specs.declared.reason.BuildReason.{BuildReason}
use Rattle.jfr_build.specs.declared.reason.BuildReason.TheVariants.{TooLarge, LineBad, ValueBad, Class}

-- The reason's number.
abbrev pub build_number : BuildReason → ℕ
build_number TooLarge = 41
build_number LineBad = 42
build_number ValueBad = 43
build_number (Class reason) = reason_number reason

-- The name's characters, all ASCII.
abbrev pub build_name : BuildReason → List ℕ
build_name TooLarge = codes "BuildTooLarge"
build_name LineBad = codes "LineBad"
build_name ValueBad = codes "ValueBad"
build_name (Class reason) = reason_name reason
