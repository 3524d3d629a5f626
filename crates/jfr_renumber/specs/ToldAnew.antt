-- What an output with new keys tells: the same as one without, with new keys in its events and entries.
use Rattle.std.specs.Prelude.{ℕ, ◌==◌, List, Option, find}
use Rattle.jfr_chunk.specs.Parts.{Parts, EventAt}
use Rattle.jfr_chunk.specs.Scrub.{output_records}
use Rattle.jfr_laws.specs.Told.{Told, told_by}
use Rattle.jfr_renumber.specs.Renumber.{entry_bytes, firsts, new_key, whole_bytes}

-- What the output of a chunk with new keys tells if these events are kept, given the new metadata record, if
-- there is one.
unfoldable pub told_anew : Option (List ℕ) → Parts → List EventAt → Told
told_anew slim p kept =
    let new = new_key p kept in
    told_by (λ r. whole_bytes new p r (find (λ e. e.record_of.at == r.at) kept)) (entry_bytes new p) p (firsts p kept) (output_records slim p kept)
