-- Entries that are read one after another.
use Rattle.std.specs.Prelude.{◌≡◌, ℕ, List, [], ◌∷◌, ◌++◌, map, Result, Ok, Err}
use Rattle.jfr_base.specs.declared.flaw.Flaw.{Flaw}
use Rattle.jfr_base.specs.declared.flaw.ReadFault.{ReadFault}
use Rattle.jfr_base.specs.declared.integer.Var.{Var}
use Rattle.jfr_base.specs.Formats.{Format, Run, ◌>>=◌, Answer, integer}
use Rattle.jfr_pool.specs.declared.checkpoint.PoolId.{PoolId}
use Rattle.jfr_pool.specs.declared.entry.EntryAt.{EntryAt}
use Rattle.jfr_pool.specs.Entries.{Constant, PoolAt, entry_of}
use Rattle.jfr_pool.specs.Faults.{TellsFlaw}

-- The entries and the offset after them, or the flaw.
abbrev pub Listing : Type 0
Listing = Result (List EntryAt × ℕ) Flaw

-- The entries in what a format gives.
abbrev pub listed : {A : Type 0} → (A → List EntryAt) → Answer A → Listing
listed entries (Ok g) = Ok (entries g.value, g.place)
listed entries (Err flaw) = Err flaw

-- One entry and the offset after it, or the flaw.
abbrev pub single : Result EntryAt Flaw → Listing
single (Ok e) = Ok (e ∷ [], e.end)
single (Err flaw) = Err flaw

-- The entries of the listing are added to the old ones, and its offset is returned; or its flaw is.
abbrev pub Adds : Listing → List EntryAt → List EntryAt → Result ℕ ReadFault → Type 0
Adds listing old new (Ok to) = (es : List EntryAt) × (listing ≡ Ok (es, to)) × (new ≡ old ++ es)
Adds listing old new (Err fault) = TellsFlaw listing fault

-- An entry of a pool.
abbrev pub entry_in : PoolId → Constant → EntryAt
entry_in pool e = entry_of pool.checkpoint pool.number pool.class e

-- The list of only this entry.
abbrev pub only_entry : PoolId → Constant → List EntryAt
only_entry pool e = entry_in pool e ∷ []

-- The entries of the pool with this number.
abbrev pub pool_entries : ℕ → ℕ → PoolAt → List EntryAt
pool_entries checkpoint number p = map (entry_of checkpoint number p.class) p.constants

-- A checkpoint's body up to the number of its pools.
abbrev pub count_format : Format ℕ
count_format = integer >>= λ start. integer >>= λ duration. integer >>= λ delta. Run 1 λ kind. integer

-- An integer that a format gives and the offset after it, or the flaw.
abbrev pub integer_by : Answer ℕ → Result Var Flaw
integer_by (Ok g) = Ok (record { value = g.value; end = g.place })
integer_by (Err flaw) = Err flaw
