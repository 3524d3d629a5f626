-- The checkpoint of a built chunk: its record, its head, and its entries.
use Rattle.std.specs.Prelude.{◌≡◌, ℕ, ◌+◌, ◌^◌, ◌<◌, ◌≤◌, pos, List, [], ◌∷◌, ◌++◌, length, reverse}
use Rattle.std.specs.List.{flat_map, AllByRecursion, AllZip}
use Rattle.std.proofs.Common.{ap, arith, refl, sym, subst, length-append, append-nil}
use Rattle.jfr_base.specs.Integer.{Spells, IntAt, spell}
use Rattle.jfr_base.specs.Formats.{Reads, Done, Stop, ◌>>=◌, times}
use Rattle.jfr_base.proofs.HoldLaws.{Holds, holds_parts, holds_int}
use Rattle.jfr_base.proofs.ReadLaws.{reads_then}
use Rattle.jfr_frame.specs.declared.framed.Framed.{Framed}
use Rattle.jfr_frame.specs.Records.{IsRecord, record_end}
use Rattle.jfr_frame.specs.Written.{record_in}
use Rattle.jfr_frame.proofs.WrittenRecords.{framed, length-record_in, spelled_int, written_record}
use Rattle.jfr_layout.specs.Classes.{Classes, Sound}
use Rattle.jfr_pool.specs.declared.link.Link.{Link}
use Rattle.jfr_pool.specs.declared.entry.EntryAt.{EntryAt}
use Rattle.jfr_pool.specs.Chains.{head_format}
use Rattle.jfr_pool.specs.Entries.{AreEntries, checkpoint_format, entries_from, pool_format}
use Rattle.jfr_chunk.specs.Parts.{Parts}
use Rattle.jfr_build.specs.declared.lines.NumberedLine.{NumberedLine}
use Rattle.jfr_build.specs.Built.{checkpoint_of, pool_of, pools_of, with_classes}
use Rattle.jfr_build.specs.Accepted.{IsEntryOf, constant_lines, plain_lines}
use Rattle.jfr_build.proofs.EventsRead.{IsGood}
use Rattle.jfr_build.proofs.PoolsRead.{all_known, pools_stand}

-- What follows the type of the checkpoint.
abbrev pub after_type : Classes → List NumberedLine → List ℕ
after_type k ls = 0 ∷ 0 ∷ 0 ∷ 0 ∷ pools_of k ls

checkpoint_is : (k : Classes) (ls : List NumberedLine) → checkpoint_of k ls ≡ record_in 5 (spell 1 ++ after_type k ls)
unfolding spell
checkpoint_is k ls = refl

zero_spelled : Spells (0 ∷ []) 0
zero_spelled = record { form = omega arith; worth = refl }

-- One byte, and those after it.
one_more : (c : List ℕ) (end at b : ℕ) (rest : List ℕ) → Holds c end at (b ∷ rest) → Holds c end at (b ∷ []) × Holds c end (at + 1) rest
one_more c end at b rest h = holds_parts c end at (b ∷ []) rest h

abbrev pub checkpoint_at : ℕ → Classes → List NumberedLine → Framed
checkpoint_at at k ls = framed 5 at 1 (after_type k ls)

abbrev pub body_at : ℕ → ℕ
body_at at = at + 5 + length (spell 1)

abbrev pub link_at : ℕ → Classes → List NumberedLine → Link
link_at at k ls = record { frame = checkpoint_at at k ls; delta_at = body_at at + 1 + 1; delta_end = body_at at + 1 + 1 + 1; delta = pos 0 }

-- The checkpoint: its record, its head, and its entries, which are the constants of the lines.
pub record CheckpointStands (p : Parts) (at : ℕ) (ls : List NumberedLine) : Type 0 where
  pub is : IsRecord p.bytes (checkpoint_at at p.classes ls)
  pub end : record_end (checkpoint_at at p.classes ls) ≡ at + length (checkpoint_of p.classes ls)
  pub head : Reads head_format p.bytes (record_end (checkpoint_at at p.classes ls)) (body_at at) (record { at = body_at at + 1 + 1; end = body_at at + 1 + 1 + 1; value = pos 0 }) (body_at at + 1 + 1 + 1)
  pub entries : List EntryAt
  pub are : AreEntries p.bytes p.classes 0 (reverse (link_at at p.classes ls ∷ [])) entries
  pub of_lines : AllZip (IsEntryOf p) (constant_lines ls) entries

-- The checkpoint of these lines is read back.
pub checkpoint_stands : (p : Parts) (at : ℕ) (ls : List NumberedLine) → Sound p.classes → length p.bytes < 2 ^ 30 → AllByRecursion (IsGood p.classes) (plain_lines ls)
    → Holds p.bytes (length p.bytes) at (checkpoint_of p.classes ls) → CheckpointStands p at ls
unfolding checkpoint_format
checkpoint_stands p at ls sound small good h =
    let c : List ℕ = p.bytes in
    let k : Classes = p.classes in
    let pools : List ℕ = pools_of k ls in
    let ids : List ℕ = with_classes [] ls in
    let items : List ℕ = flat_map (pool_of k ls) ids in
    let n : ℕ = length ids in
    let s = written_record c 5 at 1 (after_type k ls) (omega arith) (omega arith) (omega (arith, small)) (subst (Holds c (length c) at) (checkpoint_is k ls) h) in
    let end : ℕ = record_end (checkpoint_at at k ls) in
    let q : ℕ = body_at at in
    let a = one_more c end q 0 (0 ∷ 0 ∷ 0 ∷ pools) s.body in
    let b = one_more c end (q + 1) 0 (0 ∷ 0 ∷ pools) a.1 in
    let d = one_more c end (q + 1 + 1) 0 (0 ∷ pools) b.1 in
    let e = one_more c end (q + 1 + 1 + 1) 0 pools d.1 in
    let f = holds_parts c end (q + 1 + 1 + 1 + 1) (spell n) items e.1 in
    let first : ℕ = q + 1 + 1 + 1 + 1 + length (spell n) in
    let start : IntAt c q (q + 1) 0 = holds_int c end q (0 ∷ []) 0 a.0 zero_spelled in
    let duration : IntAt c (q + 1) (q + 1 + 1) 0 = holds_int c end (q + 1) (0 ∷ []) 0 b.0 zero_spelled in
    let delta : IntAt c (q + 1 + 1) (q + 1 + 1 + 1) 0 = holds_int c end (q + 1 + 1) (0 ∷ []) 0 d.0 zero_spelled in
    let count : IntAt c (q + 1 + 1 + 1 + 1) first n = spelled_int c end (q + 1 + 1 + 1 + 1) n f.0 in
    let ea : q + 1 ≤ end = a.0.within in
    let eb : q + 1 + 1 ≤ end = b.0.within in
    let ed : q + 1 + 1 + 1 ≤ end = d.0.within in
    let ee : q + 1 + 1 + 1 + 1 ≤ end = e.0.within in
    let ef : first ≤ end = f.0.within in
    let read_pools = pools_stand p sound end ls good 0 ids first (all_known k [] ls good tt) f.1 in
    let last : ℕ = first + length items in
    let ends : last ≡ end = omega (arith, length-append (spell 1) (after_type k ls), length-append (spell n) items) in
    let read : Reads (times n (pool_format k)) c end first read_pools.pools last = read_pools.reads in
    let all : Reads (times n (pool_format k) >>= λ pools. Stop (Done pools)) c end first read_pools.pools last =
    reads_then (times n (pool_format k)) (λ pools. Stop (Done pools)) c end first read_pools.pools last read_pools.pools last read (omega arith, (refl, refl)) in
    let whole : Reads (checkpoint_format k) c end q read_pools.pools last =
    (q + 1, 0, start, ea, refl, (q + 1 + 1, 0, duration, eb, refl, (q + 1 + 1 + 1, 0, delta, ed, refl, (ee, (first, n, count, ef, refl, all))))) in
    record {
      is = s.is;
      end = omega (arith, ap length (checkpoint_is k ls), length-record_in 5 (spell 1 ++ after_type k ls));
      head = (q + 1, 0, start, ea, refl, (q + 1 + 1, 0, duration, eb, refl, (q + 1 + 1 + 1, 0, delta, ed, refl, (refl, refl))));
      entries = entries_from 0 0 read_pools.pools;
      are = (read_pools.pools, subst (Reads (checkpoint_format k) c end q read_pools.pools) ends whole, [], sym (append-nil (entries_from 0 0 read_pools.pools)), refl);
      of_lines = read_pools.entries;
    }
