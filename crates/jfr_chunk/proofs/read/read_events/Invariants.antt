use Rattle.std.proofs.Common.{◌≡◌, ℕ, false, length, map}
use Rattle.jfr_meta.specs.Stays.{is_in}
use Rattle.jfr_chunk.specs.Indexed.{AreKeysIn, AreRefs, indexed_missing, indexed_refs, used_in}
use Rattle.jfr_chunk.specs.Missing.{AreNotedIn}
use Rattle.jfr_chunk.specs.Refs.{HasPlaceForEach}
use Rattle.jfr_chunk.proofs.CountLaws.{Counted}
use Rattle.jfr_chunk.proofs.EventReading.{ReadTo}
use Rattle.jfr_chunk.proofs.read.read_events.Given as goal

abbrev pub invariant-loop-number : goal.invariant-loop-number
invariant-loop-number l = record {
  read : ReadTo l.chunk l.classes l.frames l.number l.early l.fields.items;
  counted : Counted l.chunk l.frames l.number (length l.refs.numbers.items);
  refs_end : l.refs.lacks ≡ false → AreRefs (indexed_refs l.pools l.classes l.chunk l.frames l.early) 0 l.fields.items l.refs.numbers.items;
  even : HasPlaceForEach l.refs;
  keys : l.refs.lacks ≡ false → AreKeysIn l.pools l.classes l.chunk l.frames l.early l.fields.items l.refs.keys;
  missing : AreNotedIn (map (indexed_missing l.pools l.classes l.chunk l.frames l.early) l.fields.items) l.refs.missing;
  used : (id : ℕ) → is_in l.used.ids id ≡ used_in l.frames l.fields.items id;
}
