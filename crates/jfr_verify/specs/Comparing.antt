-- How the chunks of an input are compared with those of an output, one by one.
use Rattle.std.specs.Prelude.{ℕ, ◌+◌, List, Result, Ok, Err, ⊤, IsSomeAnd}
use Rattle.std.specs.Slice.Iter.{iter_rest}
use Rattle.jfr_base.specs.declared.flaw.Flaw.{Flaw}
use Rattle.jfr_filter.specs.Filters.{Given}
use Rattle.jfr_outside.specs.World.{World, file}
use Rattle.jfr_header.specs.Taking.{IsKept}
use Rattle.jfr_chunk.specs.Parts.{Parts}
use Rattle.jfr_verify.specs.Outputs.{AreOutputs}
use Rattle.jfr_verify.specs.Recordings.{Recording, recording_of, read_on}
use Rattle.jfr_verify.specs.Verdicts.{ComparedWith, IfDecided}
use Rattle.jfr_verify.specs.declared.comparer.Comparer.{Comparer}
use Rattle.jfr_verify.specs.declared.verdict.Verdict.{Verdict}
use Rattle.jfr_verify.specs.declared.verdict.Verdict.TheVariants.{ReadFault, Memory}

-- The outputs that the comparer has not compared yet have these parts.
abbrev pub HasOutputs : Comparer → List Parts → Type 0
HasOutputs s qs = AreOutputs (iter_rest s.outputs) qs

-- A claim about the verdict with which comparing ends, unless memory ran out. It isn't a read fault, since
-- comparing reads nothing.
abbrev pub IfStopped : Verdict → Type 0 → Type 0
IfStopped ReadFault Claim = ⊥
IfStopped Memory Claim = ⊤
IfStopped _ Claim = Claim

-- After n pairs, the next input was compared with the first of these outputs. Without a verdict the
-- comparison goes on: the verdict for the later inputs and outputs is the verdict for all. Otherwise this
-- verdict is.
abbrev pub Steps : Result (Unit {0}) Verdict → ℕ → Result Parts Flaw → List Parts → Comparer → Comparer → Type 0
Steps (Ok x) n next qs old new = (later : List Parts) × HasOutputs new
    later × ((k : Recording) (y : Verdict) → ComparedWith old.filter.now k later new.receipts.now (n + 1) y → ComparedWith old.filter.now (read_on (n + 1) next k) qs old.receipts.now n y)
Steps (Err x) n next qs old new = IfStopped x ((k : Recording) → ComparedWith old.filter.now (read_on (n + 1) next k) qs old.receipts.now n x)

-- The verdict on the input, if it could be read.
abbrev pub InputRead : Given → List ℕ → List Parts → List ℕ → Verdict → World → World → Type 0
InputRead g name qs r x w v = IsKept w v × IfDecided x (IsSomeAnd (file w name) (λ a. ComparedWith g (recording_of a) qs r 0 x))
