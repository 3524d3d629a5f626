-- For the parts of a chunk, its classes are sound, and its entries and events are nodes.
use Rattle.std.specs.Prelude.{◌≡◌, ℕ, zero, suc, ◌+◌, ◌≤◌, List, [], ◌∷◌, ◌++◌, length, map, reverse, slice_get, Option, Some, None, Ok, Err}
use Rattle.std.specs.List.{AllByRecursion}
use Rattle.std.proofs.Common.{refl, sym, subst}
use Rattle.jfr_base.specs.declared.flaw.Flaw.{Flaw}
use Rattle.jfr_base.specs.Formats.{Format, Done, Stop, Here, ◌>>=◌, times, Reads, Answer, run}
use Rattle.jfr_base.proofs.Exact.{ReadsOrFails, run_reads_or_fails}
use Rattle.jfr_base.proofs.ReadLaws.{reads_parted, reads_within}
use Rattle.jfr_layout.specs.Classes.{Classes, Sound, class_faults}
use Rattle.jfr_frame.specs.declared.framed.Framed.{Framed}
use Rattle.jfr_frame.specs.Records.{IsRecord, Tiles, record_end}
use Rattle.jfr_meta.specs.Trees.{Tree, element_offset}
use Rattle.jfr_meta.specs.Body.{Body}
use Rattle.jfr_meta.specs.Described.{class_elements, classes_of, tree_flaws, class_flaws, list_flaws, placed, first_or, described_classes, described}
use Rattle.std.specs.List.{flat_map}
use Rattle.jfr_value.specs.Values.{Value}
use Rattle.jfr_value.specs.Reading.{value_format}
use Rattle.jfr_value.specs.declared.node.Node.{Node}
use Rattle.jfr_value.specs.Nodes.{IsNode, IsValue, node_of}
use Rattle.jfr_value.proofs.NodeLaws.{read_node}
use Rattle.jfr_pool.specs.declared.link.Link.{Link}
use Rattle.jfr_pool.specs.declared.entry.EntryAt.{EntryAt}
use Rattle.jfr_pool.specs.Chains.{IsLink, IsChain}
use Rattle.jfr_pool.specs.Entries.{inline, Constant, constant_format, PoolAt, pool_format, checkpoint_format, entry_of, entries_from, AreEntries, entry_node}
use Rattle.jfr_chunk.specs.Parts.{Parts, EventAt, event_by, event_of, event_records, events_of, AreParts, pools_at}
use Rattle.jfr_worklist.specs.Members.{In}
use Rattle.jfr_worklist.proofs.Members.{contains_in, get_in}
use Rattle.jfr_chunk.proofs.AllLaws.{all_get, all_append, all_reverse, all_in, in_filter, in_filter_map}
use Rattle.jfr_pool.proofs.ForceLaws.{numbered}
use Rattle.jfr_chunk.proofs.PathLaws.{HasNodes}

append_none : {X : Type 0} (xs ys : List X) → xs ++ ys ≡ [] → ys ≡ []
append_none [] ys e = e
append_none (x ∷ xs) ys e = cc

map_none : {X Y : Type 0} (f : X → Y) (xs : List X) → map f xs ≡ [] → xs ≡ []
map_none f [] e = refl
map_none f (x ∷ xs) e = cc

-- Classes that a body describes are sound.
pub described_sound : (b : Body) (k : Classes) → described b ≡ Ok k → Sound k
unfolding described
described_sound b k e = by_elements (class_elements b.strings b.root) e
  where
    by_flaws : (ts : List Tree) (fs : List Flaw) → tree_flaws b.strings ts ≡ fs → first_or fs (classes_of b.strings ts) ≡ Ok k → Sound k
    by_flaws ts [] q e =
        let h : classes_of b.strings ts ≡ k = cc in
        let f : list_flaws b.strings ts ≡ [] = append_none (flat_map (class_flaws b.strings) ts) (list_flaws b.strings ts) q in
        subst Sound h (record { none = map_none (placed b.strings ts) (class_faults (classes_of b.strings ts)) f })
    by_flaws ts (f ∷ fs) q e = cc

    by_elements : (o : Option (List Tree)) → described_classes b.strings (element_offset b.root) o ≡ Ok k → Sound k
    by_elements None e = cc
    by_elements (Some ts) e = by_flaws ts (tree_flaws b.strings ts) refl e

-- Records that tile are records.
pub tiles_each : (c : List ℕ) (p q : ℕ) (rs : List Framed) → Tiles c p rs q → AllByRecursion (IsRecord c) rs
tiles_each c p q [] t = tt
tiles_each c p q (r ∷ rs) t = (t.1, tiles_each c (record_end r) q rs t.2)

-- The links of a chain are checkpoints among the records.
pub links_each : (c : List ℕ) (rs : List Framed) (at : ℕ) (ls : List Link) → IsChain c rs at ls → AllByRecursion (IsLink c rs) ls
links_each c rs at [] h = absurd h
links_each c rs at (l ∷ []) h = (h.0, tt)
links_each c rs at (l ∷ m ∷ ls) h = (h.0, links_each c rs m.frame.at (m ∷ ls) h.3)

-- Each of n values that are read one after another.
times_each : {A : Type 0} (P : A → Type 0) (f : Format A) (c : List ℕ) (end : ℕ) → ((at : ℕ) (a : A) (to : ℕ) → at ≤ end → Reads f c end at a to → P a)
    → (n at : ℕ) (vs : List A) (to : ℕ) → at ≤ end → Reads (times n f) c end at vs to → AllByRecursion P vs
times_each P f c end each zero at vs to h r = subst (AllByRecursion P) (sym r.0) tt
times_each P f c end each (suc n) at vs to h r =
    let a = reads_parted f (λ a. times n f >>= λ rest. Done (a ∷ rest)) c end at vs to r in
    let w : a.place ≤ end = reads_within f c end at a.value a.place h a.first in
    let b = reads_parted (times n f) (λ rest. Done (a.value ∷ rest)) c end a.place vs to a.second in
    subst (AllByRecursion P) (sym b.second.0) (each at a.value a.place h a.first, times_each P f c end each n a.place b.value b.place w b.first)

module _ (c : List ℕ) (k : Classes) where
  abbrev pub IsEntryNode : EntryAt → Type 0
  IsEntryNode e = (v : Value) × IsNode k c (entry_node e) v

  abbrev IsConstant : ℕ → Constant → Type 0
  IsConstant class x = (v : Value) × IsNode k c (record { shape = inline class; at = x.value_at; end = x.end }) v

  constant_is : (end : ℕ) → end ≤ length c → (class at : ℕ) (x : Constant) (to : ℕ) → at ≤ end → Reads (constant_format k class) c end at x to → IsConstant class x
  constant_is end l class at x to h r =
      let place : ℕ = r.0 in
      let a = reads_parted (value_format k (inline class)) (λ value. Here λ end. Done (record { key = r.1; key_at = at; value_at = place; end = end; value = value })) c end place x to r.5 in
      let n = read_node k (inline class) c end place a.place a.value l r.3 a.first in
      subst (IsConstant class) (sym a.second.0) (a.value, n.0)

  pool_is : (end : ℕ) → end ≤ length c → (at : ℕ) (x : PoolAt) (to : ℕ) → at ≤ end → Reads (pool_format k) c end at x to → AllByRecursion (IsConstant x.class) x.constants
  pool_is end l at x to h r =
      let class : ℕ = r.1 in
      let s = r.5 in
      let a = reads_parted (times s.1 (constant_format k class)) (λ constants. Done (record { class = class; constants = constants })) c end s.0 x to s.5 in
      let n = times_each (IsConstant class) (constant_format k class) c end (constant_is end l class) s.1 s.0 a.value a.place s.3 a.first in
      subst (λ (y : PoolAt). AllByRecursion (IsConstant y.class) y.constants) (sym a.second.0) n

  checkpoint_is : (end : ℕ) → end ≤ length c → (at : ℕ) (xs : List PoolAt) (to : ℕ) → Reads (checkpoint_format k) c end at xs to
      → AllByRecursion (λ x. AllByRecursion (IsConstant x.class) x.constants) xs
  unfolding checkpoint_format
  checkpoint_is end l at xs to r =
      let s = r.5.5.5.1 in
      let a = reads_parted (times s.1 (pool_format k)) (λ pools. Stop (Done pools)) c end s.0 xs to s.5 in
      let n = times_each (λ x. AllByRecursion (IsConstant x.class) x.constants) (pool_format k) c end (pool_is end l) s.1 s.0 a.value a.place s.3 a.first in
      subst (AllByRecursion (λ (x : PoolAt). AllByRecursion (IsConstant x.class) x.constants)) (sym a.second.1.0) n

  constants_are : (checkpoint pool class : ℕ) (xs : List Constant) → AllByRecursion (IsConstant class) xs → AllByRecursion IsEntryNode (map (entry_of checkpoint pool class) xs)
  constants_are checkpoint pool class [] a = tt
  constants_are checkpoint pool class (x ∷ xs) a = (a.0, constants_are checkpoint pool class xs a.1)

  pools_are : (checkpoint pool : ℕ) (xs : List PoolAt) → AllByRecursion (λ x. AllByRecursion (IsConstant x.class) x.constants) xs → AllByRecursion IsEntryNode (entries_from checkpoint pool xs)
  pools_are checkpoint pool [] a = tt
  pools_are checkpoint pool (x ∷ xs) a =
      all_append IsEntryNode (map (entry_of checkpoint pool x.class) x.constants) (entries_from checkpoint (pool + 1) xs) (constants_are checkpoint pool x.class x.constants a.0)
      (pools_are checkpoint (pool + 1) xs a.1)

  entries_each : (number : ℕ) (ls : List Link) (es : List EntryAt) → AllByRecursion (λ l. record_end l.frame ≤ length c) ls → AreEntries c k number ls es → AllByRecursion IsEntryNode es
  entries_each number [] es a e = subst (AllByRecursion IsEntryNode) (sym e) tt
  entries_each number (l ∷ ls) es a e =
      let p = checkpoint_is (record_end l.frame) a.0 l.frame.body e.0 (record_end l.frame) e.1 in
      subst (AllByRecursion IsEntryNode) (sym e.3) (all_append IsEntryNode (entries_from number 0 e.0) e.2 (pools_are number 0 e.0 p) (entries_each (number + 1) ls e.2 a.1 e.4))

-- An event lies in its record.
pub record IsEvent (p : Parts) (e : EventAt) : Type 0 where
  pub listed : In p.records e.record_of
  pub shape : e.node.shape ≡ inline e.record_of.type_id
  pub at : e.node.at ≡ e.record_of.body
  pub within : e.node.end ≤ record_end e.record_of
  pub value : Value
  pub node : IsNode p.classes p.bytes e.node value
  pub reads : Reads (value_format p.classes (inline e.record_of.type_id)) p.bytes (record_end e.record_of) e.record_of.body value e.node.end

module _ (p : Parts) (parts : AreParts p) where
  abbrev recorded : AllByRecursion (IsRecord p.bytes) p.records
  recorded = tiles_each p.bytes 68 (length p.bytes) p.records parts.records

  chain_within : (ls : List Link) → AllByRecursion (IsLink p.bytes p.records) ls → AllByRecursion (λ l. record_end l.frame ≤ length p.bytes) ls
  chain_within [] a = tt
  chain_within (l ∷ ls) a = ((all_in (IsRecord p.bytes) p.records l.frame recorded (contains_in p.records l.frame a.0.framed)).within, chain_within ls a.1)

  abbrev entry_nodes : AllByRecursion (IsEntryNode p.bytes p.classes) p.entries
  entry_nodes =
      entries_each p.bytes p.classes 0 (reverse p.chain) p.entries
      (all_reverse (λ l. record_end l.frame ≤ length p.bytes) p.chain (chain_within p.chain (links_each p.bytes p.records (pools_at p.bytes) p.chain parts.chain)))
      parts.entries

  pub has_nodes : HasNodes p
  has_nodes = record {
    sound = described_sound p.body p.classes parts.metadata.classes;
    entries = λ t e q. (let n = numbered p.entries t e q in all_get (IsEntryNode p.bytes p.classes) p.entries n.number e entry_nodes n.there);
  }

  pub event_is : (e : EventAt) → In (events_of p) e → IsEvent p e
  unfolding events_of
  event_is e i =
      let r = in_filter_map (event_of p.bytes p.classes) (event_records p.classes p.records) e i in
      let j = in_filter _ p.records r.0 r.1 in
      let k = all_in (IsRecord p.bytes) p.records r.0 recorded j in
      by_answer r.0 j k (run (value_format p.classes (inline r.0.type_id)) p.bytes (record_end r.0) r.0.body)
      (run_reads_or_fails (value_format p.classes (inline r.0.type_id)) p.bytes (record_end r.0) r.0.body k.covers k.within) r.2
    where
      by_answer : (r : Framed) → In p.records r → IsRecord p.bytes r → (a : Answer Value) → ReadsOrFails (value_format p.classes (inline r.type_id)) p.bytes (record_end r) r.body a
          → event_by r a ≡ Some e → IsEvent p e
      by_answer r j k (Err f) s q = cc
      by_answer r j k (Ok g) s q =
          let n = read_node p.classes (inline r.type_id) p.bytes (record_end r) r.body g.place g.value k.within k.covers s in
          let h : record { record_of = r; node = record { shape = inline r.type_id; at = r.body; end = g.place } } ≡ e = cc in
          subst (IsEvent p) h (record { listed = j; shape = refl; at = refl; within = n.1; value = g.value; node = n.0; reads = s })

  -- The event, or the entry, with a number is a value at the offset that the code has for it.
  pub event_value : (number : ℕ) (e : EventAt) (n : Node) → slice_get (events_of p) number ≡ Some e → node_of n ≡ e.node → n.bytes.now ≡ p.bytes → IsValue p.classes n
  event_value number e n q h b =
      let i = event_is e (get_in (events_of p) number e q) in
      (i.value, subst (λ z. IsNode p.classes z (node_of n) i.value) (sym b) (subst (λ z. IsNode p.classes p.bytes z i.value) (sym h) i.node))

  pub entry_value : (number : ℕ) (e : EntryAt) (n : Node) → slice_get p.entries number ≡ Some e → node_of n ≡ entry_node e → n.bytes.now ≡ p.bytes → IsValue p.classes n
  entry_value number e n q h b =
      let v = all_get (IsEntryNode p.bytes p.classes) p.entries number e entry_nodes q in
      (v.0, subst (λ z. IsNode p.classes z (node_of n) v.0) (sym b) (subst (λ z. IsNode p.classes p.bytes z v.0) (sym h) v.1))
