-- Calls that have to fail.
use Rattle.std.specs.Prelude.{ℕ, zero, suc, ◌-◌, ◌==◌, ◌&&◌, min, if◌then◌else◌, List, map, fold, Option, None, Some, IsSome, Bool}
use Rattle.jfr_outside.specs.declared.script.Call.{Call}
use Rattle.jfr_outside.specs.declared.script.Call.TheVariants.{Open, Read, Create, Append, Finish, List as Listing}
use Rattle.jfr_outside.specs.declared.script.Script.{Script}

-- A number for each kind of call.
abbrev pub kind_of : Call → ℕ
kind_of Open = 0
kind_of Read = 1
kind_of Create = 2
kind_of Append = 3
kind_of Finish = 4
kind_of Listing = 5

-- By this script, the next call of this kind has to fail.
abbrev pub is_due : Call → Script → Bool
is_due call s = (kind_of s.call == kind_of call) && (s.left == 1)

-- The script after a call of this kind.
abbrev pub passed : Call → Script → Script
passed call s = if kind_of s.call == kind_of call then record s { left = s.left - 1 } else s

-- The lesser of two numbers, of which the second may be missing.
abbrev pub lesser : ℕ → Option ℕ → ℕ
lesser n None = n
lesser n (Some m) = min n m

-- How many bytes the next call keeps, by this script and those before it, for which `keep` is the result: the
-- least number that one of them gives.
abbrev pub kept_with : Call → Option ℕ → Script → Option ℕ
kept_with call keep s = if is_due call s then Some (lesser s.keep keep) else keep

-- How many bytes the next call of this kind keeps if a script makes it fail: the least number that such a
-- script gives.
abbrev pub kept : Call → List Script → Option ℕ
kept call scripts = fold (kept_with call) None scripts

-- The scripts after a call of this kind.
abbrev pub after_call : Call → List Script → List Script
after_call call scripts = map (passed call) scripts

-- The next call of this kind has to fail.
abbrev pub IsDue : Call → List Script → Type 0
IsDue call scripts = IsSome (kept call scripts)

-- The scripts after n calls of this kind.
abbrev pub after_calls : Call → ℕ → List Script → List Script
after_calls call zero scripts = scripts
after_calls call (suc n) scripts = after_calls call n (after_call call scripts)
