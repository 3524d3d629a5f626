-- A written checkpoint is read as the pools that were written.
use Rattle.std.specs.Prelude.{◌≡◌, ℕ, ◌+◌, ◌-◌, ◌≤◌, List, ◌++◌, length, slice_range}
use Rattle.std.specs.Int.{cast_signed, w64}
use Rattle.std.specs.List.{flat_map, AllByRecursion}
use Rattle.std.proofs.Common.{ap, arith, refl, sym, ◌∙◌, subst, length-append}
use Rattle.jfr_base.specs.Integer.{Spells, IntAt, spell, spell_in}
use Rattle.jfr_base.specs.Formats.{Done, Stop, Here, ◌>>=◌, times, Reads}
use Rattle.jfr_base.proofs.Spelling.{spell_spells, spell_in_spells}
use Rattle.jfr_base.proofs.Ranges.{range_length, range_split}
use Rattle.jfr_base.proofs.Copies.{Copy, copy_cut, copy_int}
use Rattle.jfr_base.proofs.HoldLaws.{Holds, holds_parts, holds_int, holds_copy, holds_narrow, holds_at, holds_range_int, placed_each, times_read}
use Rattle.jfr_base.proofs.ReadLaws.{reads_then}
use Rattle.jfr_layout.specs.Classes.{Classes}
use Rattle.jfr_frame.specs.declared.framed.Framed.{Framed}
use Rattle.jfr_frame.specs.Records.{IsRecord, record_end}
use Rattle.jfr_value.specs.Values.{Value}
use Rattle.jfr_value.specs.Reading.{value_format}
use Rattle.jfr_pool.specs.declared.link.Link.{Link}
use Rattle.jfr_pool.specs.declared.entry.EntryAt.{EntryAt}
use Rattle.jfr_pool.specs.Chains.{head_format}
use Rattle.jfr_pool.specs.Entries.{inline, Constant, constant_format, PoolAt, pool_format, checkpoint_format}
use Rattle.jfr_chunk.specs.Written.{Group, entry_bytes, group_bytes, checkpoint_tail, checkpoint_bytes}
use Rattle.jfr_laws.proofs.PoolBack.{pool_read}
use Rattle.jfr_laws.proofs.Values.{exact_reads, value_in, value_there}
use Rattle.jfr_laws.specs.InChunk.{IsEntryIn, IsGroupIn, IsLinkIn}

-- How many bytes an entry has.
abbrev pub size_of : EntryAt → ℕ
size_of e = e.end - e.key_at

-- The entry that is read if its bytes are at another offset.
abbrev pub placed : List ℕ → Classes → ℕ → EntryAt → Constant
placed c k at e = record { key = e.key; key_at = at; value_at = at + (e.value_at - e.key_at); end = at + size_of e; value = value_in c k e }

-- The pool that is read at the offset where a group is written.
abbrev pub placed_group : List ℕ → Classes → ℕ → Group → PoolAt
placed_group c k at g = record { class = g.class; constants = placed_each (entry_bytes c) (placed c k) (at + length (spell g.class) + length (spell (length g.entries))) g.entries }

-- The length of an entry's bytes.
pub entry_length : (c : List ℕ) (k : Classes) (e : EntryAt) → IsEntryIn c k e → length (entry_bytes c e) ≡ size_of e
entry_length c k e s = range_length c e.key_at e.end s.within

-- The bytes of an entry are in b before an end: those of its key and of its value.
pub record EntryHeld (c b : List ℕ) (end at : ℕ) (e : EntryAt) : Type 0 where
  pub key : Copy c b e.key_at at (e.value_at - e.key_at)
  pub value : slice_range c e.value_at e.end ≡ slice_range b (at + (e.value_at - e.key_at)) (at + size_of e)
  pub before : at + size_of e ≤ end

-- If the bytes of an entry are there, those of its parts are.
pub entry_held : (c : List ℕ) (k : Classes) (b : List ℕ) (end at : ℕ) (e : EntryAt) → IsEntryIn c k e → Holds b end at (entry_bytes c e) → EntryHeld c b end at e
entry_held c k b end at e s h =
    let i : e.key_at ≤ e.value_at = s.key.order in
    let j : e.value_at ≤ e.end = s.order in
    let y : e.end ≤ length c = s.within in
    let m : ℕ = e.value_at - e.key_at in
    let n : ℕ = e.end - e.value_at in
    let f : e.end ≡ e.key_at + (m + n) = omega arith in
    let cp = holds_copy c b end e.key_at at (m + n) (omega arith) (subst (λ q. Holds b end at (slice_range c e.key_at q)) f h) in
    let cut = copy_cut c b e.key_at at m n cp.0 in
    let g : e.key_at + m ≡ e.value_at = omega arith in
    let o : e.key_at + m + n ≡ e.end = omega arith in
    let t : at + m + n ≡ at + size_of e = omega arith in
    record {
      key = cut.0;
      value = ap (λ p. slice_range c p e.end) (sym g) ∙ (ap (slice_range c (e.key_at + m)) (sym o) ∙ (cut.1.same ∙ ap (slice_range b (at + m)) t));
      before = omega (arith, cp.1);
    }

module _ (c : List ℕ) (k : Classes) (b : List ℕ) (end : ℕ) where
  -- An entry is read at the offset of its bytes.
  entry_reads : (e : EntryAt) (class at : ℕ) → IsEntryIn c k e → e.class ≡ class → Holds b end at (entry_bytes c e) → Reads (constant_format k class) b end at (placed c k at e) (at + size_of e)
  entry_reads e class at s w h =
      let i : e.key_at ≤ e.value_at = s.key.order in
      let j : e.value_at ≤ e.end = s.order in
      let m : ℕ = e.value_at - e.key_at in
      let held = entry_held c k b end at e s h in
      let l : at + size_of e ≤ end = held.before in
      let y : end ≤ length b = h.inside in
      let f : e.value_at ≡ e.key_at + m = omega arith in
      let key : IntAt b at (at + m) e.key = copy_int c b e.key_at at m e.key held.key (subst (λ q. IntAt c e.key_at q e.key) f s.key) in
      let read : Reads (value_format k (inline e.class)) b end (at + m) s.value (at + size_of e) =
      exact_reads (value_format k (inline e.class)) b end (at + m) (at + size_of e) (slice_range c e.value_at e.end) s.value s.exact
      (record { order = omega arith; within = omega arith; bytes = sym held.value }) l y in
      let constant : Value → Constant = λ v. record { key = e.key; key_at = at; value_at = at + m; end = at + size_of e; value = v } in
      let same : placed c k at e ≡ constant s.value = ap constant (value_there c k e s.value j s.within s.exact) in
      subst (λ d. Reads (constant_format k d) b end at (placed c k at e) (at + size_of e)) w (
        at + m,
        e.key,
        key,
        omega arith,
        refl,
        reads_then (value_format k (inline e.class)) (λ value. Here λ to. Done (record { key = e.key; key_at = at; value_at = at + m; end = to; value = value })) b end (at + m) s.value
            (at + size_of e) (placed c k at e) (at + size_of e)
            read (same, refl),
      )

  -- A pool: its class, its count and its entries.
  group_reads : (g : Group) (at : ℕ) → IsGroupIn c k g → Holds b end at (group_bytes c g) → Reads (pool_format k) b end at (placed_group c k at g) (at + length (group_bytes c g))
  group_reads g at s h = pool_read (entry_bytes c) (placed c k) (λ e. IsEntryIn c k e × (e.class ≡ g.class)) k b end g.class at g.entries one s.0 s.1 h
    where
      one : (e : EntryAt) (at : ℕ) → IsEntryIn c k e × (e.class ≡ g.class) → Holds b end at (entry_bytes c e)
          → Reads (constant_format k g.class) b end at (placed c k at e) (at + length (entry_bytes c e))
      one e at s h = let l : length (entry_bytes c e) ≡ size_of e = entry_length c k e s.0 in rw l (entry_reads e g.class at s.0 s.1 h)

  -- Pools, one after another.
  groups_read : (gs : List Group) (at : ℕ) → AllByRecursion (IsGroupIn c k) gs → Holds b end at (flat_map (group_bytes c) gs)
      → Reads (times (length gs) (pool_format k)) b end at (placed_each (group_bytes c) (placed_group c k) at gs) (at + length (flat_map (group_bytes c) gs))
  groups_read gs at s h = times_read (pool_format k) (group_bytes c) (placed_group c k) (IsGroupIn c k) b end (λ g at s h. group_reads g at s h) gs at s h

-- A record at another place, of another size.
abbrev pub moved_frame : ℕ → Framed → ℕ → Framed
moved_frame at f n = record { at = at; size = n; type_at = at + (f.type_at - f.at); type_id = f.type_id; body = at + (f.body - f.at) }

-- The link that is read from a written checkpoint of n bytes.
abbrev pub moved_link : ℕ → Link → ℕ → ℕ → Link
moved_link at l delta n = record {
  frame = moved_frame at l.frame n;
  delta_at = at + (l.delta_at - l.frame.at);
  delta_end = at + (l.delta_at - l.frame.at) + length (spell delta);
  delta = cast_signed w64 delta;
}

-- The offset at which the pools of a written checkpoint start, after their number.
abbrev pub pools_place : ℕ → Link → ℕ → ℕ → ℕ
pools_place at l delta count = at + (l.delta_at - l.frame.at) + length (spell delta) + 1 + length (spell count)

-- The bytes are a checkpoint's record, with its link and its pools; those of the pools start at an offset.
pub record CheckpointStands (k : Classes) (b : List ℕ) (m : Link) (pools : List PoolAt) (place : ℕ) (bytes : List ℕ) : Type 0 where
  pub held : Holds b (record_end m.frame) place bytes
  pub record_stands : IsRecord b m.frame
  pub head : Reads head_format b (record_end m.frame) m.frame.body (record { at = m.delta_at; end = m.delta_end; value = m.delta }) m.delta_end
  pub pools_stand : Reads (checkpoint_format k) b (record_end m.frame) m.frame.body pools (record_end m.frame)

module _ (c : List ℕ) (l : Link) (delta : ℕ) (gs : List Group) where
  -- The lengths of the parts after the size.
  pub record TailLengths : Type 0 where
    pub type : length (slice_range c l.frame.type_at l.frame.body) ≡ l.frame.body - l.frame.type_at
    pub head : length (slice_range c l.frame.body l.delta_at) ≡ l.delta_at - l.frame.body
    pub kind : length (slice_range c l.delta_end (l.delta_end + 1)) ≡ 1
    pub whole : length (checkpoint_tail c l delta gs) ≡ (l.frame.body - l.frame.type_at) + ((l.delta_at - l.frame.body) + (length (spell delta) + (1 + (length (spell (length gs)) + length (flat_map (group_bytes c) gs)))))

  pub tail_lengths : IsLinkIn c l → TailLengths
  tail_lengths s =
      let t : List ℕ = slice_range c l.frame.type_at l.frame.body in
      let h : List ℕ = slice_range c l.frame.body l.delta_at in
      let d : List ℕ = spell delta in
      let kind : List ℕ = slice_range c l.delta_end (l.delta_end + 1) in
      let n : List ℕ = spell (length gs) in
      let p : List ℕ = flat_map (group_bytes c) gs in
      let x : length t ≡ l.frame.body - l.frame.type_at = range_length c l.frame.type_at l.frame.body s.record_stands.type_spelled.within in
      let y : length h ≡ l.delta_at - l.frame.body = range_length c l.frame.body l.delta_at s.duration_spelled.within in
      let z : length kind ≡ 1 = range_length c l.delta_end (l.delta_end + 1) s.kind_within ∙ omega arith in
      record {
        type = x;
        head = y;
        kind = z;
        whole = omega (
          arith,
          length-append t (h ++ (d ++ (kind ++ (n ++ p)))),
          length-append h (d ++ (kind ++ (n ++ p))),
          length-append d (kind ++ (n ++ p)),
          length-append kind
              (n ++ p),
          length-append n p,
        );
      }

  -- With a delta and pools that take no more room than before, it is no longer.
  pub tail_small : IsLinkIn c l → l.delta_at + length (spell delta) ≤ l.delta_end
      → l.delta_end + 1 + length (spell (length gs)) + length (flat_map (group_bytes c) gs) ≤ record_end l.frame
      → length (checkpoint_tail c l delta gs) + (l.frame.type_at - l.frame.at) ≤ l.frame.size
  tail_small s h i =
      let a : l.frame.at ≤ l.frame.type_at = s.record_stands.size_spelled.order in
      let b : l.frame.type_at ≤ l.frame.body = s.record_stands.type_spelled.order in
      let d : l.frame.body ≤ s.middle = s.start_spelled.order in
      let e : s.middle ≤ l.delta_at = s.duration_spelled.order in
      let t = tail_lengths s in
      omega (arith, t.whole)

  -- How many bytes the size has, and what it says.
  abbrev width : ℕ
  width = l.frame.type_at - l.frame.at

  abbrev new_size : ℕ
  new_size = width + length (checkpoint_tail c l delta gs)

  -- The size that is written is right, in the same number of bytes as the old one.
  record SizeWritten : Type 0 where
    spelled : Spells (spell_in width new_size) new_size
    size : length (spell_in width new_size) ≡ width
    whole : length (checkpoint_bytes c l delta gs) ≡ new_size

  size_written : IsRecord c l.frame → length (checkpoint_tail c l delta gs) + (l.frame.type_at - l.frame.at) ≤ l.frame.size → SizeWritten
  size_written s small =
      let old : List ℕ = slice_range c l.frame.at l.frame.type_at in
      let e : length old ≡ width = range_length c l.frame.at l.frame.type_at s.size_spelled.within in
      let i = spell_in_spells old new_size l.frame.size s.size_spelled.spelled (omega arith) in
      let n : length (spell_in width new_size) ≡ width = subst (λ m. length (spell_in m new_size) ≡ m) e i.1 in
      record {
        spelled = subst (λ m. Spells (spell_in m new_size) new_size) e i.0;
        size = n;
        whole = omega (arith, length-append (spell_in width new_size) (checkpoint_tail c l delta gs));
      }

  -- So the whole checkpoint is no longer than it was.
  pub checkpoint_small : IsRecord c l.frame → length (checkpoint_tail c l delta gs) + (l.frame.type_at - l.frame.at) ≤ l.frame.size → length (checkpoint_bytes c l delta gs) ≤ l.frame.size
  checkpoint_small s small = let w = size_written s small in omega (arith, w.whole)

-- The parts of what is written for a checkpoint, one after another, up to an end.
pub record CheckpointHeld (c b : List ℕ) (l : Link) (delta at end : ℕ) (gs : List Group) : Type 0 where
  pub size : Holds b end at (spell_in (l.frame.type_at - l.frame.at) (l.frame.type_at - l.frame.at + length (checkpoint_tail c l delta gs)))
  pub type : Holds b end (at + (l.frame.type_at - l.frame.at)) (slice_range c l.frame.type_at l.frame.body)
  pub head : Holds b end (at + (l.frame.body - l.frame.at)) (slice_range c l.frame.body l.delta_at)
  pub word : Holds b end (at + (l.delta_at - l.frame.at)) (spell delta)
  pub kind : Holds b end (at + (l.delta_at - l.frame.at) + length (spell delta)) (slice_range c l.delta_end (l.delta_end + 1))
  pub count : Holds b end (at + (l.delta_at - l.frame.at) + length (spell delta) + 1) (spell (length gs))
  pub pools : Holds b end (pools_place at l delta (length gs)) (flat_map (group_bytes c) gs)

pub checkpoint_held : (c b : List ℕ) (l : Link) (delta at : ℕ) (gs : List Group) → IsLinkIn c l → length (checkpoint_tail c l delta gs) + (l.frame.type_at - l.frame.at) ≤ l.frame.size
    → Holds b (length b) at (checkpoint_bytes c l delta gs) → CheckpointHeld c b l delta at (at + length (checkpoint_bytes c l delta gs)) gs
checkpoint_held c b l delta at gs s small h =
    let f : Framed = l.frame in
    let a1 : f.at ≤ f.type_at = s.record_stands.size_spelled.order in
    let a2 : f.type_at ≤ f.body = s.record_stands.type_spelled.order in
    let a3 : f.body ≤ s.middle = s.start_spelled.order in
    let a4 : s.middle ≤ l.delta_at = s.duration_spelled.order in
    let w = size_written c l delta gs s.record_stands small in
    let t = tail_lengths c l delta gs s in
    let tail : List ℕ = checkpoint_tail c l delta gs in
    let size_bytes : List ℕ = spell_in (f.type_at - f.at) (f.type_at - f.at + length tail) in
    let type_bytes : List ℕ = slice_range c f.type_at f.body in
    let head_bytes : List ℕ = slice_range c f.body l.delta_at in
    let delta_bytes : List ℕ = spell delta in
    let kind_bytes : List ℕ = slice_range c l.delta_end (l.delta_end + 1) in
    let count_bytes : List ℕ = spell (length gs) in
    let pool_bytes : List ℕ = flat_map (group_bytes c) gs in
    let end : ℕ = at + length (checkpoint_bytes c l delta gs) in
    let type_at : ℕ = at + (f.type_at - f.at) in
    let body : ℕ = at + (f.body - f.at) in
    let delta_at : ℕ = at + (l.delta_at - f.at) in
    let kind_at : ℕ = delta_at + length delta_bytes in
    let count_at : ℕ = kind_at + 1 in
    let whole : Holds b end at (size_bytes ++ tail) = holds_narrow b (length b) at end (size_bytes ++ tail) (omega arith) h.within h in
    let p0 = holds_parts b end at size_bytes tail whole in
    let p1 = holds_parts b end type_at type_bytes (head_bytes ++ (delta_bytes ++ (kind_bytes ++ (count_bytes ++ pool_bytes))))
    (holds_at b end (at + length size_bytes) type_at tail (omega (arith, w.size)) p0.1) in
    let p2 = holds_parts b end body head_bytes (delta_bytes ++ (kind_bytes ++ (count_bytes ++ pool_bytes)))
    (holds_at b end (type_at + length type_bytes) body (head_bytes ++ (delta_bytes ++ (kind_bytes ++ (count_bytes ++ pool_bytes)))) (omega (arith, t.type)) p1.1) in
    let p3 = holds_parts b end delta_at delta_bytes (kind_bytes ++ (count_bytes ++ pool_bytes))
    (holds_at b end (body + length head_bytes) delta_at (delta_bytes ++ (kind_bytes ++ (count_bytes ++ pool_bytes))) (omega (arith, t.head)) p2.1) in
    let p4 = holds_parts b end kind_at kind_bytes (count_bytes ++ pool_bytes) p3.1 in
    let p5 = holds_parts b end count_at count_bytes pool_bytes (holds_at b end (kind_at + length kind_bytes) count_at (count_bytes ++ pool_bytes) (omega (arith, t.kind)) p4.1) in
    record { size = p0.0; type = p1.0; head = p2.0; word = p3.0; kind = p4.0; count = p5.0; pools = p5.1 }

-- What is written for a checkpoint, if it is no longer than it was, is a checkpoint.
pub checkpoint_stands : (c : List ℕ) (k : Classes) (b : List ℕ) (l : Link) (delta at : ℕ) (gs : List Group) → IsLinkIn c l → AllByRecursion (IsGroupIn c k) gs
    → length (checkpoint_tail c l delta gs) + (l.frame.type_at - l.frame.at) ≤ l.frame.size
    → Holds b (length b) at (checkpoint_bytes c l delta gs)
    → CheckpointStands k b (moved_link at l delta (length (checkpoint_bytes c l delta gs))) (placed_each (group_bytes c) (placed_group c k) (pools_place at l delta (length gs)) gs) (pools_place at l delta (length gs)) (flat_map (group_bytes c) gs)
unfolding checkpoint_format
checkpoint_stands c k b l delta at gs s gss small h =
    let f : Framed = l.frame in
    let a1 : f.at ≤ f.type_at = s.record_stands.size_spelled.order in
    let a2 : f.type_at ≤ f.body = s.record_stands.type_spelled.order in
    let a3 : f.body ≤ s.middle = s.start_spelled.order in
    let a4 : s.middle ≤ l.delta_at = s.duration_spelled.order in
    let tail : List ℕ = checkpoint_tail c l delta gs in
    let w = size_written c l delta gs s.record_stands small in
    let t = tail_lengths c l delta gs s in
    let p = checkpoint_held c b l delta at gs s small h in
    let size_bytes : List ℕ = spell_in (f.type_at - f.at) (f.type_at - f.at + length tail) in
    let delta_bytes : List ℕ = spell delta in
    let kind_bytes : List ℕ = slice_range c l.delta_end (l.delta_end + 1) in
    let count : ℕ = length gs in
    let count_bytes : List ℕ = spell count in
    let pool_bytes : List ℕ = flat_map (group_bytes c) gs in
    let all : ℕ = length (checkpoint_bytes c l delta gs) in
    let end : ℕ = at + all in
    let type_at : ℕ = at + (f.type_at - f.at) in
    let body : ℕ = at + (f.body - f.at) in
    let middle : ℕ = at + (s.middle - f.at) in
    let delta_at : ℕ = at + (l.delta_at - f.at) in
    let kind_at : ℕ = delta_at + length delta_bytes in
    let count_at : ℕ = kind_at + 1 in
    let place : ℕ = count_at + length count_bytes in
    let start_bytes : List ℕ = slice_range c f.body s.middle in
    let duration_bytes : List ℕ = slice_range c s.middle l.delta_at in
    let start_length : length start_bytes ≡ s.middle - f.body = range_length c f.body s.middle s.start_spelled.within in
    let q = holds_parts b end body start_bytes duration_bytes (subst (Holds b end body) (range_split c f.body s.middle l.delta_at a3 a4) p.head) in
    -- The integers that they spell.
    let size_int : IntAt b at type_at all =
    subst (λ n. IntAt b at type_at n) (sym w.whole)
    (subst (λ n. IntAt b at n (f.type_at - f.at + length tail)) (ap (λ n. at + n) w.size) (holds_int b end at size_bytes (f.type_at - f.at + length tail) p.size w.spelled)) in
    let type_int = holds_range_int c b f.type_at f.body f.type_id end type_at body s.record_stands.type_spelled p.type (omega arith) in
    let start_int = holds_range_int c b f.body s.middle s.start end body middle s.start_spelled q.0 (omega arith) in
    let duration_int = holds_range_int c b s.middle l.delta_at s.duration end middle delta_at s.duration_spelled (holds_at b end (body + length start_bytes) middle duration_bytes (omega arith) q.1)
    (omega arith) in
    let delta_int : IntAt b delta_at kind_at delta = holds_int b end delta_at delta_bytes delta p.word (spell_spells delta) in
    let count_int : IntAt b count_at place count = holds_int b end count_at count_bytes count p.count (spell_spells count) in
    -- The pools, and the end after them.
    let pools : List PoolAt = placed_each (group_bytes c) (placed_group c k) place gs in
    let read = groups_read c k b end gs place gss p.pools in
    let e0 : kind_at ≤ end = p.word.within in
    let e1 : kind_at + length kind_bytes ≤ end = p.kind.within in
    let e2 : place ≤ end = p.count.within in
    let ends : place + length pool_bytes ≡ end = omega (arith, w.whole, t.whole) in
    let stopped : Reads (times count (pool_format k) >>= λ pools. Stop (Done pools)) b end place pools end =
    reads_then (times count (pool_format k)) (λ pools. Stop (Done pools)) b end place pools end pools end (subst (Reads (times count (pool_format k)) b end place pools) ends read)
    (omega arith, (refl, refl)) in
    record {
      held = p.pools;
      record_stands = record { size_spelled = size_int; type_spelled = type_int.0; covers = type_int.1; within = h.within };
      head = (middle, s.start, start_int.0, start_int.1, refl, (delta_at, s.duration, duration_int.0, duration_int.1, refl, (kind_at, delta, delta_int, e0, refl, (refl, refl))));
      pools_stand = (
        middle,
        s.start,
        start_int.0,
        start_int.1,
        refl,
        (
          delta_at,
          s.duration,
          duration_int.0,
          duration_int.1,
          refl,
          (
            kind_at,
            delta,
            delta_int,
            e0,
            refl,
            (omega (arith, t.kind), (place, count, count_int, e2, refl, stopped)),
          ),
        ),
      );
    }
