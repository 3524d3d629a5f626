-- The pools of a built chunk, one after another: each class is known, and the entries are the constants.
use Rattle.std.specs.Prelude.{◌≡◌, ℕ, ◌+◌, ◌==◌, Bool, true, false, not, List, [], ◌∷◌, ◌++◌, length, map, Option, Some, None, is_some, if◌then◌else◌}
use Rattle.std.specs.List.{flat_map, list_any, AllByRecursion, AllZip}
use Rattle.std.specs.Option.{option_map_or}
use Rattle.std.proofs.Common.{ap, arith, refl, sym, subst, length-append, ◌∙◌}
use Rattle.jfr_base.specs.declared.reason.Reason.TheVariants.{PoolType}
use Rattle.jfr_base.specs.Integer.{spell}
use Rattle.jfr_base.specs.Formats.{Reads, Done, ◌>>=◌, times}
use Rattle.jfr_base.proofs.HoldLaws.{Holds, holds_parts}
use Rattle.jfr_base.proofs.ReadLaws.{reads_then}
use Rattle.jfr_frame.proofs.WrittenRecords.{spelled_int}
use Rattle.jfr_layout.specs.Classes.{Classes, Sound, find_class}
use Rattle.jfr_layout.specs.declared.class.ClassInfo.{ClassInfo}
use Rattle.jfr_value.specs.Values.{Value}
use Rattle.jfr_pool.specs.Entries.{PoolAt, constant_format, entries_from, entry_of, pool_check, pool_format}
use Rattle.jfr_chunk.specs.Parts.{Parts}
use Rattle.jfr_build.specs.declared.line.BuildLine.{BuildLine}
use Rattle.jfr_build.specs.declared.line.BuildLine.TheVariants.{Class, Field, Constant, Record, Region}
use Rattle.jfr_build.specs.declared.lines.NumberedLine.{NumberedLine}
use Rattle.jfr_build.specs.LineValues.{spelled_value}
use Rattle.jfr_build.specs.Built.{constant_class, entries_of, entry_count, pool_of, with_class, with_classes}
use Rattle.jfr_build.specs.Accepted.{IsEntryOf, plain_lines}
use Rattle.jfr_build.proofs.UnknownLaws.{unknown_none}
use Rattle.jfr_build.proofs.EventsRead.{IsGood}
use Rattle.jfr_build.proofs.EntriesRead.{bytes_in, constants_stand, lines_of, plain_bytes, plain_count}

-- A pool of this class is read.
abbrev pub IsKnown : Classes → ℕ → Type 0
IsKnown k id = pool_check k id ≡ None

-- The class of a value is known.
value_known : (k : Classes) (class : ℕ) (words : List (List ℕ)) (value : Option Value) → spelled_value k class words ≡ value → is_some value ≡ true → IsKnown k class
value_known k class words value e g = by_class (find_class k class) refl
  where
    by_class : (o : Option ClassInfo) → find_class k class ≡ o → (if is_some o then None else Some PoolType) ≡ None
    by_class (Some found) q = refl
    by_class None q = let n : value ≡ None = sym e ∙ unknown_none k class words q in let h : false ≡ true = sym (ap is_some n) ∙ g in cc

line_known : (k : Classes) (class key : ℕ) (words : List (List ℕ)) → IsGood k (Constant class key words) → IsKnown k class
line_known k class key words good = value_known k class words (spelled_value k class words) refl (by_some (is_some (spelled_value k class words)) good)
  where
    by_some : (t : Bool) → not t ≡ false → t ≡ true
    by_some true e = refl
    by_some false e = cc

one_more : (P : ℕ → Type 0) (xs : List ℕ) (x : ℕ) → AllByRecursion P xs → P x → AllByRecursion P (xs ++ x ∷ [])
one_more P [] x h g = (g, tt)
one_more P (y ∷ ys) x h g = (h.0, one_more P ys x h.1 g)

more_known : (k : Classes) (ids : List ℕ) (line : BuildLine) → IsGood k line → AllByRecursion (IsKnown k) ids → AllByRecursion (IsKnown k) (option_map_or (with_class ids) (constant_class line) ids)
more_known k ids (Class id name event) good h = h
more_known k ids (Field name shape) good h = h
more_known k ids (Record class words) good h = h
more_known k ids (Region region) good h = h
more_known k ids (Constant class key words) good h = by_test (list_any (λ c. c == class) ids)
  where
    by_test : (t : Bool) → AllByRecursion (IsKnown k) (if t then ids else ids ++ class ∷ [])
    by_test true = h
    by_test false = one_more (IsKnown k) ids class h (line_known k class key words good)

-- Each class that has constants is known.
pub all_known : (k : Classes) (ids : List ℕ) (ls : List NumberedLine) → AllByRecursion (IsGood k) (plain_lines ls) → AllByRecursion (IsKnown k) ids → AllByRecursion (IsKnown k) (with_classes ids ls)
all_known k ids [] good h = h
all_known k ids (l ∷ ls) good h = all_known k (option_map_or (with_class ids) (constant_class l.line) ids) ls good.1 (more_known k ids l.line good.0 h)

zip_append : {A B : Type 0} (R : A → B → Type 0) (xs us : List A) (ys vs : List B) → AllZip R xs ys → AllZip R us vs → AllZip R (xs ++ us) (ys ++ vs)
zip_append R [] us [] vs h g = g
zip_append R [] us (y ∷ ys) vs h g = absurd h
zip_append R (x ∷ xs) us [] vs h g = absurd h
zip_append R (x ∷ xs) us (y ∷ ys) vs h g = (h.0, zip_append R xs us ys vs h.1 g)

-- Pools one after another, of these classes, whose entries are the constants of these lines.
pub record PoolsStand (p : Parts) (end at to number : ℕ) (ids : List ℕ) (ls : List BuildLine) : Type 0 where
  pub pools : List PoolAt
  pub reads : Reads (times (length ids) (pool_format p.classes)) p.bytes end at pools to
  pub entries : AllZip (IsEntryOf p) (flat_map (λ id. lines_of id ls) ids) (entries_from 0 number pools)

-- A pool: its class, the number of its entries, and the entries.
pub record PoolStands (p : Parts) (end at to number id : ℕ) (ls : List BuildLine) : Type 0 where
  pub pool : PoolAt
  pub reads : Reads (pool_format p.classes) p.bytes end at pool to
  pub entries : AllZip (IsEntryOf p) (lines_of id ls) (map (entry_of 0 number pool.class) pool.constants)

module _ (p : Parts) (sound : Sound p.classes) (end : ℕ) (ls : List NumberedLine) (good : AllByRecursion (IsGood p.classes) (plain_lines ls)) where
  abbrev k : Classes
  k = p.classes

  abbrev c : List ℕ
  c = p.bytes

  pool_stands : (number id at : ℕ) → IsKnown k id → Holds c end at (pool_of k ls id) → PoolStands p end at (at + length (pool_of k ls id)) number id (plain_lines ls)
  pool_stands number id at known h =
      let n : ℕ = entry_count ls id in
      let items : List ℕ = entries_of k ls id in
      let q = holds_parts c end at (spell id) (spell n ++ items) h in
      let m : ℕ = at + length (spell id) in
      let r = holds_parts c end m (spell n) items q.1 in
      let first : ℕ = m + length (spell n) in
      let e : items ≡ flat_map (bytes_in k id) (plain_lines ls) = plain_bytes k id ls in
      let s = constants_stand p sound end number id (plain_lines ls) first good (subst (Holds c end first) e r.1) in
      let to : ℕ = at + length (pool_of k ls id) in
      let l : first + length (flat_map (bytes_in k id) (plain_lines ls)) ≡ to = omega (arith, ap length e, length-append (spell id) (spell n ++ items), length-append (spell n) items) in
      let read : Reads (times n (constant_format k id)) c end first s.constants to =
      subst (λ z. Reads (times z (constant_format k id)) c end first s.constants to) (sym (plain_count id ls))
      (subst (Reads (times (length (lines_of id (plain_lines ls))) (constant_format k id)) c end first s.constants) l s.reads) in
      let pool : PoolAt = record { class = id; constants = s.constants } in
      let behind = reads_then (times n (constant_format k id)) (λ constants. Done (record { class = id; constants = constants })) c end first s.constants to pool to read (refl, refl) in
      record {
        pool = pool;
        reads = (m, id, spelled_int c end at id q.0, q.0.within, known, (first, n, spelled_int c end m n r.0, r.0.within, refl, behind));
        entries = s.entries;
      }

  -- The pools of all classes, one after another.
  pub pools_stand : (number : ℕ) (ids : List ℕ) (at : ℕ) → AllByRecursion (IsKnown k) ids → Holds c end at (flat_map (pool_of k ls) ids)
      → PoolsStand p end at (at + length (flat_map (pool_of k ls) ids)) number ids (plain_lines ls)
  pools_stand number [] at known h = record { pools = []; reads = (refl, omega arith); entries = tt }
  pools_stand number (id ∷ ids) at known h =
      let one : List ℕ = pool_of k ls id in
      let more : List ℕ = flat_map (pool_of k ls) ids in
      let q = holds_parts c end at one more h in
      let s = pool_stands number id at known.0 q.0 in
      let rest = pools_stand (number + 1) ids (at + length one) known.1 q.1 in
      let to : ℕ = at + length (one ++ more) in
      let l : at + length one + length more ≡ to = omega (arith, length-append one more) in
      let n : ℕ = length ids in
      let later = subst (Reads (times n (pool_format k)) c end (at + length one) rest.pools) l rest.reads in
      record {
        pools = s.pool ∷ rest.pools;
        reads = reads_then (pool_format k) (λ a. times n (pool_format k) >>= λ rest. Done (a ∷ rest)) c end at s.pool (at + length one) (s.pool ∷ rest.pools) to s.reads
            (reads_then (times n (pool_format k)) (λ rest. Done (s.pool ∷ rest)) c end (at + length one) rest.pools to (s.pool ∷ rest.pools) to later (refl, refl));
        entries = zip_append (IsEntryOf p) (lines_of id (plain_lines ls)) (flat_map (λ id. lines_of id (plain_lines ls)) ids) (map (entry_of 0 number s.pool.class) s.pool.constants)
            (entries_from 0 (number + 1) rest.pools) s.entries rest.entries;
      }
