-- The entries of a chunk are no more than its bytes, nor are their leaves.
use Rattle.std.specs.Prelude.{◌≡◌, ℕ, zero, suc, ◌+◌, ◌-◌, ◌<◌, ◌≤◌, Bool, true, false, List, [], ◌∷◌, ◌++◌, length, map, reverse, cond, nat_lt, ⊤}
use Rattle.std.specs.List.{AllByRecursion}
use Rattle.std.proofs.Common.{ap, arith, refl, sym, subst, inl, inr}
use Rattle.std.proofs.lemmas.List.{reverse-append}
use Rattle.std.proofs.lemmas.Bool.{ltb-true}
use Rattle.jfr_base.specs.Formats.{Format, Done, Stop, Here, ◌>>=◌, times, Reads}
use Rattle.jfr_base.proofs.Copies.{int_some}
use Rattle.jfr_base.proofs.ReadLaws.{reads_parted, reads_within}
use Rattle.jfr_layout.specs.Classes.{Classes, Sound, is_event_class}
use Rattle.jfr_frame.specs.declared.framed.Framed.{Framed}
use Rattle.jfr_frame.specs.Records.{IsRecord, AreRecords, Tiles, record_end}
use Rattle.jfr_value.specs.Reading.{value_format}
use Rattle.jfr_value.specs.Leaves.{leaves}
use Rattle.jfr_value.proofs.NodeLaws.{read_node}
use Rattle.jfr_value.proofs.TargetLaws.{node_leaves_within}
use Rattle.jfr_pool.specs.declared.link.Link.{Link}
use Rattle.jfr_pool.specs.declared.entry.EntryAt.{EntryAt}
use Rattle.jfr_pool.specs.Chains.{IsLink, IsChain}
use Rattle.jfr_pool.specs.Entries.{inline, Constant, constant_format, PoolAt, pool_format, checkpoint_format, entry_of, entries_from, AreEntries, entry_node}
use Rattle.jfr_chunk.specs.Parts.{event_records}
use Rattle.jfr_worklist.specs.Members.{In}
use Rattle.jfr_worklist.proofs.Members.{contains_in}
use Rattle.jfr_chunk.proofs.AllLaws.{all_reverse}
use Rattle.jfr_chunk.proofs.PartsLaws.{links_record}
use Rattle.jfr_chunk.proofs.HasNodesLaws.{links_each, tiles_each}
use Rattle.jfr_chunk.proofs.TestLaws.{left_true}

-- The sum of what a function gives at each member.
abbrev pub total : {X : Type 0} → (X → ℕ) → List X → ℕ
total w [] = 0
total w (x ∷ xs) = w x + total w xs

total_append : {X : Type 0} (w : X → ℕ) (xs ys : List X) → total w (xs ++ ys) ≡ total w xs + total w ys
total_append w [] ys = omega arith
total_append w (x ∷ xs) ys = let i : total w (xs ++ ys) ≡ total w xs + total w ys = total_append w xs ys in omega arith

total_map : {X Y : Type 0} (w : Y → ℕ) (f : X → Y) (xs : List X) → total w (map f xs) ≡ total (λ x. w (f x)) xs
total_map w f [] = refl
total_map w f (x ∷ xs) = ap (λ z. w (f x) + z) (total_map w f xs)

-- What is read one after another weighs no more than its bytes.
times_total : {A : Type 0} (w : A → ℕ) (f : Format A) (c : List ℕ) (end : ℕ) → ((at : ℕ) (a : A) (to : ℕ) → at ≤ end → Reads f c end at a to → at + w a ≤ to)
    → (n at : ℕ) (vs : List A) (to : ℕ) → at ≤ end → Reads (times n f) c end at vs to → at + total w vs ≤ to
times_total w f c end each zero at vs to h r = subst (λ z. at + total w z ≤ to) (sym r.0) (let e : to ≡ at = r.1 in omega arith)
times_total w f c end each (suc n) at vs to h r =
    let a = reads_parted f (λ a. times n f >>= λ rest. Done (a ∷ rest)) c end at vs to r in
    let m : a.place ≤ end = reads_within f c end at a.value a.place h a.first in
    let b = reads_parted (times n f) (λ rest. Done (a.value ∷ rest)) c end a.place vs to a.second in
    let i : at + w a.value ≤ a.place = each at a.value a.place h a.first in
    let j : a.place + total w b.value ≤ b.place = times_total w f c end each n a.place b.value b.place m b.first in
    let e : to ≡ b.place = b.second.1 in
    subst (λ z. at + total w z ≤ to) (sym b.second.0) (omega arith)

-- The size of a record, and of a link's record.
abbrev pub record_size : Framed → ℕ
record_size r = r.size

abbrev pub link_size : Link → ℕ
link_size l = l.frame.size

-- The leaves of an entry, and those and itself.
abbrev pub leaves_of : List ℕ → Classes → EntryAt → ℕ
leaves_of c k e = length (leaves k c (entry_node e))

abbrev entry_weight : List ℕ → Classes → EntryAt → ℕ
entry_weight c k e = suc (leaves_of c k e)

module _ (c : List ℕ) (k : Classes) (sound : Sound k) where
  abbrev constant_weight : ℕ → Constant → ℕ
  constant_weight class x = suc (length (leaves k c (record { shape = inline class; at = x.value_at; end = x.end })))

  abbrev pool_weight : PoolAt → ℕ
  pool_weight x = total (constant_weight x.class) x.constants

  constant_within : (end : ℕ) → end ≤ length c → (class at : ℕ) (x : Constant) (to : ℕ) → at ≤ end → Reads (constant_format k class) c end at x to → at + constant_weight class x ≤ to
  constant_within end l class at x to h r =
      let place : ℕ = r.0 in
      let q : at < place = int_some c at place r.1 r.2 in
      let a = reads_parted (value_format k (inline class)) (λ value. Here λ end. Done (record { key = r.1; key_at = at; value_at = place; end = end; value = value })) c end place x to r.5 in
      let n = read_node k (inline class) c end place a.place a.value l r.3 a.first in
      let w : length (leaves k c (record { shape = inline class; at = place; end = a.place })) ≤ a.place - place =
      node_leaves_within k sound c (record { shape = inline class; at = place; end = a.place }) a.value n.0 in
      let o : place ≤ a.place = n.0.order in
      let e : to ≡ a.place = a.second.1 in
      subst (λ z. at + constant_weight class z ≤ to) (sym a.second.0) (omega arith)

  pool_within : (end : ℕ) → end ≤ length c → (at : ℕ) (x : PoolAt) (to : ℕ) → at ≤ end → Reads (pool_format k) c end at x to → at + pool_weight x ≤ to
  pool_within end l at x to h r =
      let class : ℕ = r.1 in
      let p : at ≤ r.0 = r.2.order in
      let s = r.5 in
      let q : r.0 ≤ s.0 = s.2.order in
      let a = reads_parted (times s.1 (constant_format k class)) (λ constants. Done (record { class = class; constants = constants })) c end s.0 x to s.5 in
      let n : s.0 + total (constant_weight class) a.value ≤ a.place =
      times_total (constant_weight class) (constant_format k class) c end (constant_within end l class) s.1 s.0 a.value a.place s.3 a.first in
      let e : to ≡ a.place = a.second.1 in
      subst (λ z. at + pool_weight z ≤ to) (sym a.second.0) (omega arith)

  checkpoint_within : (end : ℕ) → end ≤ length c → (at : ℕ) (xs : List PoolAt) (to : ℕ) → Reads (checkpoint_format k) c end at xs to → at + total pool_weight xs ≤ to
  unfolding checkpoint_format
  checkpoint_within end l at xs to r =
      let i : at ≤ r.0 = r.2.order in
      let d = r.5 in
      let j : r.0 ≤ d.0 = d.2.order in
      let f = d.5 in
      let m : d.0 ≤ f.0 = f.2.order in
      let s = f.5.1 in
      let o : f.0 + 1 ≤ s.0 = s.2.order in
      let a = reads_parted (times s.1 (pool_format k)) (λ pools. Stop (Done pools)) c end s.0 xs to s.5 in
      let n : s.0 + total pool_weight a.value ≤ a.place = times_total pool_weight (pool_format k) c end (pool_within end l) s.1 s.0 a.value a.place s.3 a.first in
      let e : to ≡ a.place = a.second.1.1 in
      subst (λ z. at + total pool_weight z ≤ to) (sym a.second.1.0) (omega arith)

  pools_total : (checkpoint pool : ℕ) (xs : List PoolAt) → total (entry_weight c k) (entries_from checkpoint pool xs) ≡ total pool_weight xs
  pools_total checkpoint pool [] = refl
  pools_total checkpoint pool (x ∷ xs) =
      let a = total_append (entry_weight c k) (map (entry_of checkpoint pool x.class) x.constants) (entries_from checkpoint (pool + 1) xs) in
      let b : total (entry_weight c k) (map (entry_of checkpoint pool x.class) x.constants) ≡ pool_weight x = total_map (entry_weight c k) (entry_of checkpoint pool x.class) x.constants in
      let d = pools_total checkpoint (pool + 1) xs in
      omega arith

  entries_within : (number : ℕ) (ls : List Link) (es : List EntryAt) → AllByRecursion (λ l. IsRecord c l.frame) ls → AreEntries c k number ls es → total (entry_weight c k) es ≤ total link_size ls
  entries_within number [] es a e = subst (λ z. total (entry_weight c k) z ≤ 0) (sym e) (omega arith)
  entries_within number (l ∷ ls) es a e =
      let i : l.frame.body + total pool_weight e.0 ≤ record_end l.frame = checkpoint_within (record_end l.frame) a.0.within l.frame.body e.0 (record_end l.frame) e.1 in
      let o : l.frame.at ≤ l.frame.type_at = a.0.size_spelled.order in
      let q : l.frame.type_at ≤ l.frame.body = a.0.type_spelled.order in
      let b = pools_total number 0 e.0 in
      let d = total_append (entry_weight c k) (entries_from number 0 e.0) e.2 in
      let r : total (entry_weight c k) e.2 ≤ total link_size ls = entries_within (number + 1) ls e.2 a.1 e.4 in
      subst (λ z. total (entry_weight c k) z ≤ link_size l + total link_size ls) (sym e.3) (omega arith)

-- Links whose places rise.
abbrev Up : ℕ → List Link → Type 0
Up lo [] = ⊤
Up lo (l ∷ ls) = (lo ≤ l.frame.at) × Up (l.frame.at + 1) ls

up_last : (lo : ℕ) (ls : List Link) (l : Link) → Up lo ls → AllByRecursion (λ m. m.frame.at < l.frame.at) ls → lo ≤ l.frame.at → Up lo (ls ++ l ∷ [])
up_last lo [] l u a h = (h, tt)
up_last lo (m ∷ ls) l u a h = (u.0, up_last (m.frame.at + 1) ls l u.1 a.1 (let i : m.frame.at < l.frame.at = a.0 in omega arith))

all_less : (m n : ℕ) → m < n → (ls : List Link) → AllByRecursion (λ l. l.frame.at ≤ m) ls → AllByRecursion (λ l. l.frame.at < n) ls
all_less m n h [] a = tt
all_less m n h (l ∷ ls) a = ((let i : l.frame.at ≤ m = a.0 in omega arith), all_less m n h ls a.1)

all_most : (m n : ℕ) → m < n → (ls : List Link) → AllByRecursion (λ l. l.frame.at ≤ m) ls → AllByRecursion (λ l. l.frame.at ≤ n) ls
all_most m n h [] a = tt
all_most m n h (l ∷ ls) a = ((let i : l.frame.at ≤ m = a.0 in omega arith), all_most m n h ls a.1)

-- The links of a chain, oldest first.
chain_rises : (c : List ℕ) (rs : List Framed) (at : ℕ) (ls : List Link) → IsChain c rs at ls → Up 0 (reverse ls) × AllByRecursion (λ l. l.frame.at ≤ at) ls
chain_rises c rs at [] h = absurd h
chain_rises c rs at (l ∷ []) h = ((omega arith, tt), ((let e : l.frame.at ≡ at = h.1 in omega arith), tt))
chain_rises c rs at (l ∷ m ∷ ls) h =
    let e : l.frame.at ≡ at = h.1 in
    let s : m.frame.at < at = h.2.earlier in
    let i = chain_rises c rs m.frame.at (m ∷ ls) h.3 in
    let t : m.frame.at < l.frame.at = omega arith in
    let a = all_reverse (λ (x : Link). x.frame.at < l.frame.at) (m ∷ ls) (all_less m.frame.at l.frame.at t (m ∷ ls) i.1) in
    (subst (Up 0) (sym (reverse-append (l ∷ []) (m ∷ ls))) (up_last 0 (reverse (m ∷ ls)) l i.0 a (omega arith)), ((omega arith), all_most m.frame.at at s (m ∷ ls) i.1))

-- The link is a checkpoint among these records.
abbrev Linked : List Framed → Link → Type 0
Linked rs l = In rs l.frame × (l.frame.type_id ≡ 1)

at_least : (c : List ℕ) (p q : ℕ) (rs : List Framed) (x : Framed) → Tiles c p rs q → In rs x → p ≤ x.at
at_least c p q [] x t i = absurd i
at_least c p q (r ∷ rs) x t (inl e) = let a : r.at ≡ p = t.0 in let b : r.at ≡ x.at = ap (λ (z : Framed). z.at) e in omega arith
at_least c p q (r ∷ rs) x t (inr i) = let a : r.at ≡ p = t.0 in let b : r.at + r.size ≤ x.at = at_least c (record_end r) q rs x t.2 i in omega arith

-- Links after a record, and checkpoints other than an event, are among the records after it.
behind : (r : Framed) (rs : List Framed) (lo : ℕ) (ls : List Link) → r.at < lo → Up lo ls → AllByRecursion (Linked (r ∷ rs)) ls → AllByRecursion (Linked rs) ls
behind r rs lo [] h u a = tt
behind r rs lo (l ∷ ls) h u a = ((by_place a.0.0, a.0.1), behind r rs (l.frame.at + 1) ls (let i : lo ≤ l.frame.at = u.0 in omega arith) u.1 a.1)
  where
    by_place : In (r ∷ rs) l.frame → In rs l.frame
    by_place (inl e) = let b : r.at ≡ l.frame.at = ap (λ (z : Framed). z.at) e in let i : lo ≤ l.frame.at = u.0 in absurd (omega arith)
    by_place (inr i) = i

beside : (r : Framed) (rs : List Framed) (ls : List Link) → 1 < r.type_id → AllByRecursion (Linked (r ∷ rs)) ls → AllByRecursion (Linked rs) ls
beside r rs [] h a = tt
beside r rs (l ∷ ls) h a = ((by_type a.0.0, a.0.1), beside r rs ls h a.1)
  where
    by_type : In (r ∷ rs) l.frame → In rs l.frame
    by_type (inl e) = let b : r.type_id ≡ l.frame.type_id = ap (λ (z : Framed). z.type_id) e in let i : l.frame.type_id ≡ 1 = a.0.1 in absurd (omega arith)
    by_type (inr i) = i

event_type : (k : Classes) (id : ℕ) → is_event_class k id ≡ true → 1 < id
unfolding is_event_class
event_type k id e = ltb-true 1 id (left_true (nat_lt 1 id) _ e)

-- From an offset on, the events and these checkpoints together are no longer than the bytes.
abbrev Apart : Classes → ℕ → ℕ → List Framed → Type 0
Apart k p q rs = (lo : ℕ) (ls : List Link) → Up lo ls → AllByRecursion (Linked rs) ls → p + (total record_size (event_records k rs) + total link_size ls) ≤ q

apart : (c : List ℕ) (k : Classes) (p q : ℕ) (rs : List Framed) → Tiles c p rs q → Apart k p q rs
apart c k p q [] t lo [] u a = omega (arith, t)
apart c k p q [] t lo (l ∷ ls) u a = absurd a.0.0
apart c k p q (r ∷ rs) t lo ls u a = by_test (is_event_class k r.type_id) refl (apart c k (record_end r) q rs t.2)
  where
    by_place : (lo : ℕ) (l : Link) (ls : List Link) → Up lo (l ∷ ls) → AllByRecursion (Linked (r ∷ rs)) (l ∷ ls) → In (r ∷ rs) l.frame → Apart k (record_end r) q rs
        → p + (total record_size (event_records k rs) + (l.frame.size + total link_size ls)) ≤ q
    by_place lo l ls u a (inl e) go =
        let b : r.at ≡ l.frame.at = ap (λ (z : Framed). z.at) e in
        let s : r.size ≡ l.frame.size = ap (λ (z : Framed). z.size) e in
        let d : r.at ≡ p = t.0 in
        let i : r.at + r.size + (total record_size (event_records k rs) + total link_size ls) ≤ q = go (l.frame.at + 1) ls u.1 (behind r rs (l.frame.at + 1) ls (omega arith) u.1 a.1) in
        omega arith
    by_place lo l ls u a (inr j) go =
        let d : r.at ≡ p = t.0 in
        let m : r.at + r.size ≤ l.frame.at = at_least c (record_end r) q rs l.frame t.2 j in
        let i : r.at + r.size + (total record_size (event_records k rs) + (l.frame.size + total link_size ls)) ≤ q =
        go lo (l ∷ ls) u ((j, a.0.1), behind r rs (l.frame.at + 1) ls (omega arith) u.1 a.1) in
        omega arith

    by_link : (lo : ℕ) (ls : List Link) → Up lo ls → AllByRecursion (Linked (r ∷ rs)) ls → Apart k (record_end r) q rs → p + (total record_size (event_records k rs) + total link_size ls) ≤ q
    by_link lo [] u a go = let e : r.at ≡ p = t.0 in let i : r.at + r.size + (total record_size (event_records k rs) + 0) ≤ q = go lo [] tt tt in omega arith
    by_link lo (l ∷ ls) u a go = by_place lo l ls u a a.0.0 go

    by_test : (b : Bool) → is_event_class k r.type_id ≡ b → Apart k (record_end r) q rs → p + (total record_size (cond b (r ∷ event_records k rs) (event_records k rs)) + total link_size ls) ≤ q
    by_test true e go =
        let d : r.at ≡ p = t.0 in
        let i : r.at + r.size + (total record_size (event_records k rs) + total link_size ls) ≤ q = go lo ls u (beside r rs ls (event_type k r.type_id e) a) in
        omega arith
    by_test false e go = by_link lo ls u a go

linked : (c : List ℕ) (rs : List Framed) (ls : List Link) → AllByRecursion (IsLink c rs) ls → AllByRecursion (Linked rs) ls
linked c rs [] a = tt
linked c rs (l ∷ ls) a = ((contains_in rs l.frame a.0.framed, a.0.checkpoint), linked c rs ls a.1)

total_suc : {X : Type 0} (w : X → ℕ) (xs : List X) → total (λ x. suc (w x)) xs ≡ total w xs + length xs
total_suc w [] = refl
total_suc w (x ∷ xs) = let i = total_suc w xs in omega arith

module _ (c : List ℕ) (rs : List Framed) (records : AreRecords c rs) (at : ℕ) (ls : List Link) (chain : IsChain c rs at ls) (k : Classes) (sound : Sound k) (es : List EntryAt) (valid : AreEntries c k 0 (reverse ls) es) where
  -- The events' records, the entries and their leaves.
  pub entries_apart : total record_size (event_records k rs) + (total (leaves_of c k) es + length es) ≤ length c
  entries_apart =
      let links = links_each c rs at ls chain in
      let up = (chain_rises c rs at ls chain).0 in
      let a : 68 + (total record_size (event_records k rs) + total link_size (reverse ls)) ≤ length c =
      apart c k 68 (length c) rs records 0 (reverse ls) up (all_reverse (Linked rs) ls (linked c rs ls links)) in
      let each = all_reverse (λ (l : Link). IsRecord c l.frame) ls (links_record c rs (tiles_each c 68 (length c) rs records) ls links) in
      let b : total (entry_weight c k) es ≤ total link_size (reverse ls) = entries_within c k sound 0 (reverse ls) es each valid in
      let d = total_suc (leaves_of c k) es in
      omega arith

  -- There are no more entries than bytes.
  pub entries_few : length es ≤ length c
  entries_few = let a = entries_apart in omega arith
