-- Parents in four bytes.
use Rattle.std.specs.Prelude.{ℕ, ◌-◌, ◌^◌, nat_lt, if◌then◌else◌}
use Rattle.jfr_verify.specs.declared.line.Parent.{Parent}
use Rattle.jfr_verify.specs.declared.line.Parent.TheVariants.{OfEvent, OfEntry}

-- The parent that is kept as this number: an event, or from 2^31 on an entry.
abbrev pub parent_in : ℕ → Parent
parent_in n = if nat_lt n (2 ^ 31) then OfEvent n else OfEntry (n - 2 ^ 31)
