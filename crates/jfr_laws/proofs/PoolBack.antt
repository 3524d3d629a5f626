-- A written pool is read, however its entries are written.
use Rattle.std.specs.Prelude.{◌≡◌, ℕ, ◌+◌, List, ◌++◌, length, None}
use Rattle.std.specs.List.{flat_map, AllByRecursion}
use Rattle.std.proofs.Common.{arith, refl, subst, length-append}
use Rattle.jfr_base.specs.Integer.{spell}
use Rattle.jfr_base.specs.Formats.{Done, times, Reads}
use Rattle.jfr_base.proofs.Spelling.{spell_spells}
use Rattle.jfr_base.proofs.HoldLaws.{Holds, holds_parts, holds_int, placed_each, times_read}
use Rattle.jfr_base.proofs.ReadLaws.{reads_then}
use Rattle.jfr_layout.specs.Classes.{Classes}
use Rattle.jfr_pool.specs.Entries.{pool_check, Constant, constant_format, PoolAt, pool_format}

module _ {E : Type 0} (bytes : E → List ℕ) (placed : ℕ → E → Constant) where
  -- A pool as it is written: its class, its count and its entries; and as it is read at an offset.
  abbrev pub bytes_of_pool : ℕ → List E → List ℕ
  bytes_of_pool class es = spell class ++ (spell (length es) ++ flat_map bytes es)

  abbrev pub pool_at : ℕ → ℕ → List E → PoolAt
  pool_at at class es = record { class = class; constants = placed_each bytes placed (at + length (spell class) + length (spell (length es))) es }

  -- If each entry is read, so is the pool.
  pub pool_read : (P : E → Type 0) (k : Classes) (b : List ℕ) (end class at : ℕ) (es : List E)
      → ((e : E) (at : ℕ) → P e → Holds b end at (bytes e) → Reads (constant_format k class) b end at (placed at e) (at + length (bytes e)))
      → pool_check k class ≡ None → AllByRecursion P es → Holds b end at (bytes_of_pool class es) → Reads (pool_format k) b end at (pool_at at class es) (at + length (bytes_of_pool class es))
  pool_read P k b end class at es one known all h =
      let n : ℕ = length es in
      let items : List ℕ = flat_map bytes es in
      let p = holds_parts b end at (spell class) (spell n ++ items) h in
      let m : ℕ = at + length (spell class) in
      let q = holds_parts b end m (spell n) items p.1 in
      let o : ℕ = m + length (spell n) in
      let i = times_read (constant_format k class) bytes placed P b end one es o all q.1 in
      let to : ℕ = at + length (bytes_of_pool class es) in
      let e : o + length items ≡ to = omega (arith, length-append (spell class) (spell n ++ items), length-append (spell n) items) in
      let xs : List Constant = placed_each bytes placed o es in (
        m,
        class,
        holds_int b end at (spell class) class p.0 (spell_spells class),
        p.0.within,
        known,
        (
          o,
          n,
          holds_int b end m (spell n) n q.0 (spell_spells n),
          q.0.within,
          refl,
          reads_then (times n (constant_format k class)) (λ constants. Done (record { class = class; constants = constants })) b end o xs to (pool_at at class es) to
              (subst (Reads (times n (constant_format k class)) b end o xs) e i) (refl, refl),
        ),
      )
