-- The kept events and the entries of a chunk together have at most one leaf for each byte of the chunk.
use Rattle.std.specs.Prelude.{◌≡◌, ℕ, ◌+◌, ◌≤◌, Bool, true, false, List, [], ◌∷◌, length, replicate, slice_get, Ok, Err}
use Rattle.std.specs.List.{filter_map, cons_option}
use Rattle.std.specs.Option.{option_map_or}
use Rattle.std.proofs.Common.{ap, arith, refl, inl, inr}
use Rattle.jfr_base.specs.Formats.{Answer, run}
use Rattle.jfr_layout.specs.Classes.{Classes}
use Rattle.jfr_frame.specs.declared.framed.Framed.{Framed}
use Rattle.jfr_frame.specs.Records.{IsRecord, record_end}
use Rattle.jfr_value.specs.Values.{Value}
use Rattle.jfr_value.specs.Reading.{value_format}
use Rattle.jfr_pool.specs.Entries.{inline}
use Rattle.jfr_chunk.specs.Parts.{Parts, EventAt, event_by, event_of, event_records, events_of, AreParts, pools_at}
use Rattle.jfr_chunk.specs.Reach.{marked, kept_by}
use Rattle.jfr_worklist.specs.Members.{In}
use Rattle.jfr_chunk.proofs.AllLaws.{all_in}
use Rattle.jfr_chunk.proofs.BoundLaws.{total, record_size, leaves_of, entries_apart}
use Rattle.jfr_chunk.proofs.CountLaws.{leaves_few}
use Rattle.jfr_chunk.proofs.HasNodesLaws.{has_nodes, event_is, tiles_each}
use Rattle.jfr_reach.specs.Walks.{node_leaves, event_leaves, entry_leaves}
use Rattle.jfr_worklist.proofs.PutLaws.{weigh}

total_most : {X : Type 0} (v w : X → ℕ) (xs : List X) → ((x : X) → In xs x → v x ≤ w x) → total v xs ≤ total w xs
total_most v w [] h = omega arith
total_most v w (x ∷ xs) h = let a : v x ≤ w x = h x (inl refl) in let b : total v xs ≤ total w xs = total_most v w xs (λ y i. h y (inr i)) in omega arith

total_marked : {X : Type 0} (w : X → ℕ) (flags : List Bool) (xs : List X) → total w (marked flags xs) ≤ total w xs
total_marked w [] xs = omega arith
total_marked w (b ∷ flags) [] = omega arith
total_marked w (true ∷ flags) (x ∷ xs) = let i = total_marked w flags xs in omega arith
total_marked w (false ∷ flags) (x ∷ xs) = let i = total_marked w flags xs in omega arith

events_size : (c : List ℕ) (k : Classes) (rs : List Framed) → total (λ e. e.record_of.size) (filter_map (event_of c k) rs) ≤ total record_size rs
events_size c k [] = omega arith
events_size c k (r ∷ rs) = by_answer (run (value_format k (inline r.type_id)) c (record_end r) r.body) (events_size c k rs)
  where
    by_answer : (a : Answer Value) → total (λ e. e.record_of.size) (filter_map (event_of c k) rs) ≤ total record_size rs
        → total (λ e. e.record_of.size) (cons_option (event_by r a) (filter_map (event_of c k) rs)) ≤ r.size + total record_size rs
    by_answer (Ok g) i = omega arith
    by_answer (Err f) i = omega arith

weigh_total : {X : Type 0} (w : X → ℕ) (xs : List X) → weigh (replicate (length xs) true) (λ i. option_map_or w (slice_get xs i) 0) ≡ total w xs
weigh_total w [] = refl
weigh_total w (x ∷ xs) = ap (λ z. w x + z) (weigh_total w xs)

events_total : (p : Parts) (es : List EventAt) → event_leaves p es ≡ total (λ e. node_leaves p e.node) es
events_total p [] = refl
events_total p (e ∷ es) = ap (λ z. node_leaves p e.node + z) (events_total p es)

module _ (p : Parts) (parts : AreParts p) where
  event_within : (e : EventAt) → In (events_of p) e → node_leaves p e.node ≤ e.record_of.size
  event_within e i =
      let v = event_is p parts e i in
      let r = all_in (IsRecord p.bytes) p.records e.record_of (tiles_each p.bytes 68 (length p.bytes) p.records parts.records) v.listed in
      leaves_few p.classes (has_nodes p parts).sound p.bytes e.record_of e.node v.value r v.at v.within v.node

  events_within : total (λ e. node_leaves p e.node) (events_of p) ≤ total record_size (event_records p.classes p.records)
  unfolding events_of
  events_within =
      let a : total (λ e. node_leaves p e.node) (events_of p) ≤ total (λ e. e.record_of.size) (events_of p) =
      total_most (λ e. node_leaves p e.node) (λ e. e.record_of.size) (events_of p) event_within in
      let b : total (λ e. e.record_of.size) (events_of p) ≤ total record_size (event_records p.classes p.records) = events_size p.bytes p.classes (event_records p.classes p.records) in
      omega arith

  -- Each kept event and each entry once.
  pub leaves_bound : (flags : List Bool) → event_leaves p (kept_by p flags) + weigh (replicate (length p.entries) true) (entry_leaves p) ≤ length p.bytes
  leaves_bound flags =
      let a = entries_apart p.bytes p.records parts.records (pools_at p.bytes) p.chain parts.chain p.classes (has_nodes p parts).sound p.entries parts.entries in
      let g = events_total p (kept_by p flags) in
      let d : weigh (replicate (length p.entries) true) (entry_leaves p) ≡ total (leaves_of p.bytes p.classes) p.entries = weigh_total (leaves_of p.bytes p.classes) p.entries in
      let e : total (λ e. node_leaves p e.node) (kept_by p flags) ≤ total (λ e. node_leaves p e.node) (events_of p) = total_marked (λ e. node_leaves p e.node) flags (events_of p) in
      let f = events_within in
      omega arith
