-- When two chunks, and two recordings, differ only in masked texts.
use Rattle.std.specs.Prelude.{◌≡◌, ℕ, zero, suc, ◌+◌, ◌==◌, Bool, true, false, List, Option, None, slice_range, ⊤}
use Rattle.std.specs.Option.{option_map}
use Rattle.jfr_frame.specs.Records.{record_end}
use Rattle.jfr_value.specs.declared.leaf.Holder.{Holder}
use Rattle.jfr_value.specs.Leaves.{part_holder}
use Rattle.jfr_value.specs.Values.{Value, Values, Single, Group, Nil, Cons}
use Rattle.jfr_value.specs.Nodes.{Both, NodeAt, value_of}
use Rattle.jfr_pool.specs.declared.link.Link.{Link}
use Rattle.jfr_pool.specs.declared.entry.EntryAt.{EntryAt}
use Rattle.jfr_pool.specs.Entries.{entry_node}
use Rattle.jfr_chunk.specs.Parts.{Parts, EventAt, metadata_at}
use Rattle.jfr_chunk.specs.Scrub.{OutputRecord, record_of}
use Rattle.jfr_chunk.specs.Written as chunk_written
use Rattle.jfr_laws.specs.Told.{told_header}
use Rattle.jfr_rewrite.specs.Rewritten.{OneToOne}
use Rattle.jfr_mask.specs.Masked.{is_masked_string, string_text}
use Rattle.jfr_mask.specs.MaskOf.{Chosen, Event, Masking, Metadata, Origin, Pools, entries_left, events_kept, is_masked_in, origin_of, records_out}
use Rattle.jfr_mask.specs.Pseudonyms.{is_descriptor, is_unmasked}

-- Other texts in place of texts: different ones for different ones. Texts that are shown as they are, which are the
-- empty and the known ones, stay, and no other text becomes one of these. A text becomes a descriptor exactly if it is
-- one.
pub record IsExchange (known : List ℕ → Bool) (g : List ℕ → List ℕ) : Type 0 where
  pub one : (t u : List ℕ) → g t ≡ g u → t ≡ u
  pub same : (t : List ℕ) → is_unmasked known t ≡ true → g t ≡ t
  pub others : (t : List ℕ) → is_unmasked known (g t) ≡ is_unmasked known t
  pub descriptor : (t : List ℕ) → is_descriptor (g t) ≡ is_descriptor t

-- The bytes and keys of two values without parts: those of masked strings have exchanged texts, or both none, so one can
-- be a key and the other not; any others are equal.
abbrev pub AlikeSingle : Bool → (List ℕ → List ℕ) → Parts → Parts → ℕ → List ℕ → Option ℕ → List ℕ → Option ℕ → Type 0
AlikeSingle true g p q class b key c other = string_text q class c other ≡ option_map g (string_text p class b key)
AlikeSingle false g p q class b key c other = (b ≡ c) × (key ≡ other)

-- Two values with this holder, the first in one chunk and the second in another, are equal, except that each masked
-- string with a text has the exchanged text in the second.
abbrev mutual
  pub AlikeValue : (Option Holder → Bool) → (List ℕ → List ℕ) → Parts → Parts → Option Holder → Value → Value → Type 0
  AlikeValue masked g p q h (Single s kind b key) (Single t other_kind c other) =
      (s ≡ t) × (kind ≡ other_kind) × AlikeSingle (is_masked_string masked h (Single s kind b key)) g p q s.class b key c other
  AlikeValue masked g p q h (Group s head vs) (Group t other_head ws) = (s ≡ t) × (head ≡ other_head) × AlikeValues masked g p q (part_holder s h) vs ws
  AlikeValue masked g p q h (Single s kind b key) (Group t other_head ws) = ⊥
  AlikeValue masked g p q h (Group s head vs) (Single t other_kind c other) = ⊥

  pub AlikeValues : (Option Holder → Bool) → (List ℕ → List ℕ) → Parts → Parts → (ℕ → Option Holder) → Values → Values → Type 0
  AlikeValues masked g p q f Nil Nil = ⊤
  AlikeValues masked g p q f (Cons v vs) (Cons w ws) = AlikeValue masked g p q (f zero) v w × AlikeValues masked g p q (λ n. f (suc n)) vs ws
  AlikeValues masked g p q f Nil (Cons w ws) = ⊥
  AlikeValues masked g p q f (Cons v vs) Nil = ⊥

-- Two nodes that are in no field have such values.
abbrev pub AlikeNode : Masking → (List ℕ → List ℕ) → Parts → Parts → NodeAt → NodeAt → Type 0
AlikeNode m g p q n o = Both (AlikeValue (is_masked_in m p.classes) g p q None) (value_of p.classes p.bytes n) (value_of q.classes q.bytes o)

-- Two events have the same class, spelled the same, such fields, and the same bytes after them.
pub record AlikeEvent (m : Masking) (g : List ℕ → List ℕ) (p q : Parts) (e f : EventAt) : Type 0 where
  pub class : e.record_of.type_id ≡ f.record_of.type_id
  pub type : slice_range p.bytes e.record_of.type_at e.record_of.body ≡ slice_range q.bytes f.record_of.type_at f.record_of.body
  pub fields : AlikeNode m g p q e.node f.node
  pub rest : slice_range p.bytes e.node.end (record_end e.record_of) ≡ slice_range q.bytes f.node.end (record_end f.record_of)

-- Two entries have the same key, and such values.
pub record AlikeEntry (m : Masking) (g : List ℕ → List ℕ) (p q : Parts) (e f : EntryAt) : Type 0 where
  pub key : e.key ≡ f.key
  pub value : AlikeNode m g p q (entry_node e) (entry_node f)

-- Two pools have the same class, and such entries, one to one.
pub record AlikeGroup (m : Masking) (g : List ℕ → List ℕ) (p q : Parts) (x y : chunk_written.Group) : Type 0 where
  pub class : x.class ≡ y.class
  pub entries : OneToOne (AlikeEntry m g p q) x.entries y.entries

-- Two chained checkpoints have the same type, start, duration and type byte, and such pools, one to one. Their sizes and
-- deltas can differ.
pub record AlikePools (m : Masking) (g : List ℕ → List ℕ) (p q : Parts) (l k : Link) (xs ys : List chunk_written.Group) : Type 0 where
  pub type_id : l.frame.type_id ≡ k.frame.type_id
  pub type : slice_range p.bytes l.frame.type_at l.frame.body ≡ slice_range q.bytes k.frame.type_at k.frame.body
  pub times : slice_range p.bytes l.frame.body l.delta_at ≡ slice_range q.bytes k.frame.body k.delta_at
  pub type_byte : slice_range p.bytes l.delta_end (l.delta_end + 1) ≡ slice_range q.bytes k.delta_end (k.delta_end + 1)
  pub pools : OneToOne (AlikeGroup m g p q) xs ys

-- Two events that differ only in masked texts, two equal metadata records, or two such checkpoints.
abbrev pub AlikeOrigin : Masking → (List ℕ → List ℕ) → Parts → Parts → Origin → Origin → Type 0
AlikeOrigin m g p q (Event e) (Event f) = AlikeEvent m g p q e f
AlikeOrigin m g p q (Metadata x) (Metadata y) = x ≡ y
AlikeOrigin m g p q (Pools l xs) (Pools k ys) = AlikePools m g p q l k xs ys
AlikeOrigin m g p q (Event e) (Metadata y) = ⊥
AlikeOrigin m g p q (Event e) (Pools k ys) = ⊥
AlikeOrigin m g p q (Metadata x) (Event f) = ⊥
AlikeOrigin m g p q (Metadata x) (Pools k ys) = ⊥
AlikeOrigin m g p q (Pools l xs) (Event f) = ⊥
AlikeOrigin m g p q (Pools l xs) (Metadata y) = ⊥

-- Two output records differ so, and both or neither are at the metadata position of their header.
pub record AlikeRecord (m : Masking) (g : List ℕ → List ℕ) (p q : Parts) (kept others : List EventAt) (o u : OutputRecord) : Type 0 where
  pub origin : AlikeOrigin m g p q (origin_of p kept (entries_left m p kept) o) (origin_of q others (entries_left m q others) u)
  pub position : ((record_of o).at == metadata_at p.bytes) ≡ ((record_of u).at == metadata_at q.bytes)

-- Two chunks, with the events that are kept of each, have equal classes, and headers that are equal except for the size
-- and the positions. Their output records differ only in masked texts, one to one: each masked text of the first chunk
-- is exchanged in the second. What isn't written can differ, and so can sizes, positions, deltas and spellings of masked
-- strings.
pub record AlikeChunk (m : Masking) (g : List ℕ → List ℕ) (p q : Parts) (kept others : List EventAt) : Type 0 where
  pub classes : p.classes ≡ q.classes
  pub header : told_header p.bytes ≡ told_header q.bytes
  pub records : OneToOne (AlikeRecord m g p q kept others) (records_out m p kept) (records_out m q others)

-- Two recordings: such chunks, one to one.
abbrev pub AlikeAll : Masking → (List ℕ → List ℕ) → List Chosen → List Chosen → Type 0
AlikeAll m g = OneToOne (λ c e. AlikeChunk m g c.parts e.parts (events_kept c) (events_kept e))
