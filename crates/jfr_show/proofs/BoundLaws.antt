-- What a chunk adds to the totals is no more than its bytes.
use Rattle.std.specs.Prelude.{◌≡◌, ℕ, ◌+◌, ◌*◌, ◌^◌, ◌<◌, ◌≤◌, List, [], ◌∷◌, filter, length, Option}
use Rattle.std.specs.List.{AllByRecursion}
use Rattle.std.proofs.Common.{ap, arith}
use Rattle.std.proofs.lemmas.List.{length-map}
use Rattle.jfr_layout.specs.Classes.{is_event_class}
use Rattle.jfr_frame.specs.declared.framed.Framed.{Framed}
use Rattle.jfr_frame.specs.Records.{IsRecord}
use Rattle.jfr_frame.proofs.RecordLaws.{some_bytes}
use Rattle.jfr_pool.specs.declared.link.Link.{Link}
use Rattle.jfr_pool.specs.Chains.{IsChain, IsLink}
use Rattle.jfr_chunk.specs.Parts.{AreParts, Parts, events_of, is_inert, pools_at}
use Rattle.jfr_chunk.proofs.AllLaws.{all_in}
use Rattle.jfr_chunk.proofs.BoundLaws.{entries_few}
use Rattle.jfr_worklist.proofs.Members.{contains_in}
use Rattle.jfr_chunk.proofs.HasNodesLaws.{described_sound, tiles_each}
use Rattle.jfr_show.specs.Counting.{AreBelow}
use Rattle.jfr_show.specs.Summing.{IsBounded}
use Rattle.jfr_show.specs.Totals.{Tallies, Totals, occurrences}
use Rattle.jfr_show.specs.declared.beginning.Beginning.{Beginning}
use Rattle.jfr_show.proofs.SizeLaws.{chosen_within, occurrences_are, records_within}
use Rattle.jfr_chunk.proofs.CountLaws.{filter_most}

-- Each number of a chunk is at most its length.
pub record IsShort (p : Parts) : Type 0 where
  pub events : length (events_of p) ≤ length p.bytes
  pub checkpoints : length p.chain ≤ length p.bytes
  pub entries : length p.entries ≤ length p.bytes
  pub inert : length (filter (is_inert p) p.records) ≤ length p.bytes

-- The offsets of the checkpoints fall.
chain_short : (c : List ℕ) (rs : List Framed) (at : ℕ) (ls : List Link) → IsChain c rs at ls → length ls ≤ at + 1
chain_short c rs at [] h = absurd h
chain_short c rs at (l ∷ []) h = omega arith
chain_short c rs at (l ∷ m ∷ ls) h = let s : m.frame.at < at = h.2.earlier in let i : length (m ∷ ls) ≤ m.frame.at + 1 = chain_short c rs m.frame.at (m ∷ ls) h.3 in omega arith

link_within : (c : List ℕ) (rs : List Framed) (at : ℕ) (l : Link) → AllByRecursion (IsRecord c) rs → IsLink c rs l → l.frame.at ≡ at → at + 1 ≤ length c
link_within c rs at l each i e =
    let r = all_in (IsRecord c) rs l.frame each (contains_in rs l.frame i.framed) in
    let s : l.frame.at < l.frame.at + l.frame.size = some_bytes c l.frame r in
    let w : l.frame.at + l.frame.size ≤ length c = r.within in
    omega arith

last_within : (c : List ℕ) (rs : List Framed) (at : ℕ) (ls : List Link) → AllByRecursion (IsRecord c) rs → IsChain c rs at ls → at + 1 ≤ length c
last_within c rs at [] each h = absurd h
last_within c rs at (l ∷ []) each h = link_within c rs at l each h.0 h.1
last_within c rs at (l ∷ m ∷ ls) each h = link_within c rs at l each h.0 h.1

pub chunk_short : (p : Parts) → AreParts p → IsShort p
chunk_short p a =
    let w = records_within p.bytes p.records a.records in
    let n = w.count in
    let e = (chosen_within p.classes (λ r. is_event_class p.classes r.type_id) p.records (length p.bytes) w).events in
    let o : length (occurrences p) ≡ length (events_of p) = length-map (events_of p) _ in
    let q = ap length (occurrences_are p a) in
    let s = chain_short p.bytes p.records (pools_at p.bytes) p.chain a.chain in
    let l = last_within p.bytes p.records (pools_at p.bytes) p.chain (tiles_each p.bytes 68 (length p.bytes) p.records a.records) a.chain in
    let f = filter_most (is_inert p) p.records in
    record {
      events = omega arith;
      checkpoints = omega arith;
      entries = entries_few p.bytes p.records a.records (pools_at p.bytes) p.chain a.chain p.classes (described_sound p.body p.classes a.metadata.classes) p.entries a.entries;
      inert = omega arith;
    }

-- A larger bound.
pub below_more : (m n : ℕ) (t : Tallies) → m ≤ n → AreBelow m t → AreBelow n t
below_more m n t h b = record { each = λ q tally is. (let k = b.each q tally is in let e = k.0 in let f = k.1 in (omega arith, omega arith)) }

-- A number that is kept, and what a chunk adds to it.
pub sum_fits : (kept more bytes chunks size : ℕ) → chunks ≤ 17000000000 → bytes ≤ 2 ^ 30 * chunks → kept ≤ bytes → more ≤ size → size < 2 ^ 30 → kept + more < 2 ^ 64
sum_fits kept more bytes chunks size a b c d e = omega arith

-- The totals with a chunk more stay in bounds.
pub bounded_next : (t : Totals) (first : Option Beginning) (size duration events checkpoints constants inert : ℕ) (m : Tallies) → IsBounded t → t.chunks < 17000000000 → size < 2 ^ 30
    → duration < 2 ^ 64 → events ≤ size → checkpoints ≤ size → constants ≤ size → inert ≤ size → AreBelow (t.bytes + size) m
    → IsBounded (record { first = first; chunks = t.chunks + 1; bytes = t.bytes + size; duration = t.duration + duration; events = t.events + events; checkpoints = t.checkpoints + checkpoints; constants = t.constants + constants; inert = t.inert + inert; tallies = m })
bounded_next t first size duration events checkpoints constants inert m b few small short e c k i below =
    let u = b.bytes in
    let v = b.duration in
    let w = b.events in
    let x = b.checkpoints in
    let y = b.constants in
    let z = b.inert in
    record {
      chunks = omega arith;
      bytes = omega arith;
      duration = omega arith;
      events = omega arith;
      checkpoints = omega arith;
      constants = omega arith;
      inert = omega arith;
      tallies = below;
    }
