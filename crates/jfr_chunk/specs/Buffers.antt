-- Memory for the indexes of a chunk, used again for each chunk.
use Rattle.std.specs.Prelude.{◌≡◌, ℕ, [], false}
use Rattle.std.specs.BTreeMap as tree
use Rattle.jfr_meta.specs.Stays.{is_in}
use Rattle.jfr_chunk.specs.declared.event_index.EventIndex.{EventIndex}
use Rattle.jfr_chunk.specs.declared.buffers.Buffers.{Buffers}

-- The index has no events, no early ends, no numbers of entries, no places of keys, no references without an entry, and
-- no classes.
pub record HasNoEvents (index : EventIndex) : Type 0 where
  pub fields : index.fields.items ≡ []
  pub early : tree.IsEmpty index.early
  pub numbers : index.numbers.items ≡ []
  pub keys : index.keys.places.items ≡ []
  pub missing : index.missing.refs.items ≡ []
  pub used : (id : ℕ) → is_in index.used.ids id ≡ false

-- Nothing of an earlier chunk is left in the memory.
pub record IsEmpty (buffers : Buffers) : Type 0 where
  pub frames : buffers.frames ≡ []
  pub events : HasNoEvents buffers.events
