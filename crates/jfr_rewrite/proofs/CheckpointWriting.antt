-- A checkpoint that is rewritten.
use Rattle.std.specs.Prelude.{◌≡◌, ℕ, suc, ◌+◌, ◌-◌, ◌≤◌, List, [], ◌∷◌, ◌++◌, length, take, drop, slice_get, slice_range, Some}
use Rattle.std.specs.List.{AllByRecursion, flat_map}
use Rattle.std.proofs.Common.{ap, arith, refl, sym, ◌∙◌, append_assoc}
use Rattle.std.proofs.lemmas.List.{append-nil}
use Rattle.jfr_base.specs.Integer.{spell}
use Rattle.jfr_base.specs.Formats.{Reads}
use Rattle.jfr_base.proofs.Ranges.{range_length, range_none, range_split}
use Rattle.jfr_layout.specs.Classes.{Classes}
use Rattle.jfr_value.specs.Nodes.{IsNode}
use Rattle.jfr_value.specs.Reading.{value_format}
use Rattle.jfr_value.proofs.NodeLaws.{read_node}
use Rattle.jfr_pool.specs.declared.entry.EntryAt.{EntryAt}
use Rattle.jfr_pool.specs.declared.link.Link.{Link}
use Rattle.jfr_pool.specs.Entries.{inline, entry_node}
use Rattle.jfr_chunk.specs.Parts.{Parts}
use Rattle.jfr_chunk.specs.Written.{Group, by_pool}
use Rattle.jfr_chunk.proofs.AllLaws.{all_append}
use Rattle.jfr_laws.specs.InChunk.{IsEntryIn, IsGroupIn, IsLinkIn}
use Rattle.jfr_laws.proofs.Values.{exact_reads}
use Rattle.jfr_output.specs.Pools.{leading}
use Rattle.jfr_output.proofs.PoolLaws.{by_first_of}
use Rattle.jfr_rewrite.specs.Rewrite.{Rewrite, changed_bytes, checkpoint_tail, entry_bytes, group_bytes, pair_of}
use Rattle.jfr_rewrite.specs.Writing.{changed_within}

-- An entry is a node.
pub entry_is : (k : Classes) (c : List ℕ) (e : EntryAt) → (s : IsEntryIn c k e) → IsNode k c (entry_node e) s.value
entry_is k c e s =
    let o : e.value_at ≤ e.end = s.order in
    let w : e.end ≤ length c = s.within in
    let r : Reads (value_format k (inline e.class)) c e.end e.value_at s.value e.end =
    exact_reads (value_format k (inline e.class)) c e.end e.value_at e.end (slice_range c e.value_at e.end) s.value s.exact (record { order = o; within = w; bytes = refl }) (omega arith) w in
    (read_node k (inline e.class) c e.end e.value_at e.end s.value w o r).0

-- The entries of these groups are in the chunk.
pub entries_stand : (c : List ℕ) (k : Classes) (gs : List Group) → AllByRecursion (IsGroupIn c k) gs → AllByRecursion (IsEntryIn c k) (flat_map (λ g. g.entries) gs)
entries_stand c k [] h = tt
entries_stand c k (g ∷ gs) h = all_append (IsEntryIn c k) g.entries (flat_map (λ g. g.entries) gs) (in_group g.class g.entries h.0.1) (entries_stand c k gs h.1)
  where
    in_group : (class : ℕ) (es : List EntryAt) → AllByRecursion (λ e. IsEntryIn c k e × (e.class ≡ class)) es → AllByRecursion (IsEntryIn c k) es
    in_group class [] h = tt
    in_group class (e ∷ es) h = (h.0.0, in_group class es h.1)

-- One pool more.
pub counted : (rest others : List EntryAt) (e : EntryAt) (n : ℕ) → slice_get rest 0 ≡ Some e → n ≡ leading e rest → others ≡ drop n rest → length (by_pool rest) ≡ suc (length (by_pool others))
counted rest others e n g l r =
    ap length (by_first_of rest e g) ∙ ap (λ z. suc (length (by_pool z))) (ap (λ m. drop m rest) (sym l) ∙ sym r)

module _ (w : Rewrite) (p : Parts) where
  -- An entry: nothing is around its value.
  pub entry_put : (e : EntryAt) (old o1 o2 : List ℕ) (key : ℕ) → key ≡ w.key (pair_of e) → o1 ≡ old ++ spell key → o2 ≡ o1 ++ changed_within w.change p (entry_node e) e.value_at e.end
      → o2 ≡ old ++ entry_bytes w p e
  entry_put e old o1 o2 key k a b =
      let x : List ℕ = changed_bytes w.change p.classes p.bytes (entry_node e) in
      let alone : changed_within w.change p (entry_node e) e.value_at e.end ≡ x =
      ap (λ z. z ++ (x ++ slice_range p.bytes e.end e.end)) (range_none p.bytes e.value_at e.value_at (omega arith))
      ∙ (ap (λ z. x ++ z) (range_none p.bytes e.end e.end (omega arith)) ∙ append-nil x) in
      b ∙ (ap (λ z. o1 ++ z) alone ∙ (ap (λ z. z ++ x) (a ∙ ap (λ z. old ++ spell z) k) ∙ append_assoc old (spell (w.key (pair_of e))) x))

  pub pool_next : (old o1 o2 o3 : List ℕ) (rest pool others : List EntryAt) (e : EntryAt) (n : ℕ) → slice_get rest 0 ≡ Some e → n ≡ leading e rest → pool ≡ take n rest → others ≡ drop n rest
      → o1 ≡ old ++ spell e.class → o2 ≡ o1 ++ spell (length pool) → o3 ≡ o2 ++ flat_map (entry_bytes w p) pool
      → o3 ++ flat_map (group_bytes w p) (by_pool others) ≡ old ++ flat_map (group_bytes w p) (by_pool rest)
  pool_next old o1 o2 o3 rest pool others e n g l q r a b d =
      let later : List ℕ = flat_map (group_bytes w p) (by_pool others) in
      let items : List ℕ = flat_map (entry_bytes w p) pool in
      let m : pool ≡ take (leading e rest) rest = q ∙ ap (λ z. take z rest) l in
      let k : others ≡ drop (leading e rest) rest = r ∙ ap (λ z. drop z rest) l in
      let groups : by_pool rest ≡ record { class = e.class; pool = e.pool; entries = pool } ∷ by_pool others =
      by_first_of rest e g ∙ (ap (λ z. record { class = e.class; pool = e.pool; entries = z } ∷ by_pool (drop (leading e rest) rest)) (sym m)
      ∙ ap (λ z. record { class = e.class; pool = e.pool; entries = pool } ∷ by_pool z) (sym k)) in
      let these : o3 ≡ ((old ++ spell e.class) ++ spell (length pool)) ++ items = d ∙ ap (λ z. z ++ items) (b ∙ ap (λ z. z ++ spell (length pool)) a) in
      ap (λ z. z ++ later) these ∙ (regroup old (spell e.class) (spell (length pool)) items later ∙ ap (λ z. old ++ flat_map (group_bytes w p) z) (sym groups))
    where
      regroup : (o c n i z : List ℕ) → (((o ++ c) ++ n) ++ i) ++ z ≡ o ++ ((c ++ (n ++ i)) ++ z)
      regroup o c n i z = simp append_assoc

  -- A checkpoint's old size, and its tail.
  module _ (l : Link) (s : IsLinkIn p.bytes l) (delta : ℕ) (es : List EntryAt) where
    abbrev c : List ℕ
    c = p.bytes

    abbrev pub old_size : List ℕ
    old_size = slice_range c l.frame.at l.frame.type_at

    pub old_width : length old_size ≡ l.frame.type_at - l.frame.at
    old_width = range_length c l.frame.at l.frame.type_at s.record_stands.size_spelled.within

    pub parts_written : (old o1 o2 o3 o4 o5 : List ℕ) (count : ℕ) → o1 ≡ old ++ slice_range c l.frame.at l.delta_at → o2 ≡ o1 ++ spell delta → o3 ≡ o2 ++ slice_range c l.delta_end (l.delta_end + 1)
        → count ≡ length (by_pool es) → o4 ≡ o3 ++ spell count
        → o5 ≡ o4 ++ flat_map (group_bytes w p) (by_pool es) → o5 ≡ old ++ (old_size ++ checkpoint_tail w p l delta (by_pool es))
    parts_written old o1 o2 o3 o4 o5 count a b d n e f =
        let x : List ℕ = slice_range c l.frame.type_at l.frame.body in
        let y : List ℕ = slice_range c l.frame.body l.delta_at in
        let k : List ℕ = slice_range c l.delta_end (l.delta_end + 1) in
        let m : List ℕ = spell (length (by_pool es)) in
        let g : List ℕ = flat_map (group_bytes w p) (by_pool es) in
        let i : l.frame.at ≤ l.frame.type_at = s.record_stands.size_spelled.order in
        let j : l.frame.type_at ≤ l.frame.body = s.record_stands.type_spelled.order in
        let u : l.frame.body ≤ s.middle = s.start_spelled.order in
        let v : s.middle ≤ l.delta_at = s.duration_spelled.order in
        let h : slice_range c l.frame.at l.delta_at ≡ old_size ++ (x ++ y) =
        range_split c l.frame.at l.frame.type_at l.delta_at i (omega arith) ∙ ap (λ z. old_size ++ z) (range_split c l.frame.type_at l.frame.body l.delta_at j (omega arith)) in
        let e4 : o4 ≡ o3 ++ m = e ∙ ap (λ z. o3 ++ spell z) n in
        let all : o5 ≡ ((((old ++ (old_size ++ (x ++ y))) ++ spell delta) ++ k) ++ m) ++ g =
        f ∙ ap (λ z. z ++ g) (e4 ∙ ap (λ z. z ++ m) (d ∙ ap (λ z. z ++ k) (b ∙ ap (λ z. z ++ spell delta) (a ∙ ap (λ z. old ++ z) h)))) in
        all ∙ regroup old old_size x y (spell delta) k m g
      where
        regroup : (o a x y d k m g : List ℕ) → ((((o ++ (a ++ (x ++ y))) ++ d) ++ k) ++ m) ++ g ≡ o ++ (a ++ (x ++ (y ++ (d ++ (k ++ (m ++ g))))))
        regroup o a x y d k m g = simp append_assoc
