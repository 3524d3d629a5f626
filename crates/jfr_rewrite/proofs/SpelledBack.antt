-- What is written of entries, however their keys and values are spelled, is read as these.
use Rattle.std.specs.Prelude.{◌≡◌, ℕ, ◌+◌, List, ◌++◌, length, slice_range, None}
use Rattle.std.specs.List.{flat_map, AllByRecursion}
use Rattle.std.proofs.Common.{arith, refl, subst, length-append}
use Rattle.jfr_base.specs.Integer.{Spells, IntAt, spell}
use Rattle.jfr_base.specs.Formats.{Done, Here, times, Exactly, Reads}
use Rattle.jfr_base.proofs.RunLaws.{Stands}
use Rattle.jfr_base.proofs.HoldLaws.{Holds, holds_parts, holds_int, placed_each, times_read}
use Rattle.jfr_base.proofs.ReadLaws.{reads_then}
use Rattle.jfr_layout.specs.Classes.{Classes}
use Rattle.jfr_value.specs.Values.{Value, bytes_of}
use Rattle.jfr_value.specs.Reading.{value_format}
use Rattle.jfr_pool.specs.Entries.{inline, pool_check, Constant, constant_format, PoolAt, pool_format}
use Rattle.jfr_laws.proofs.PoolBack.{pool_read}
use Rattle.jfr_laws.proofs.Values.{exact_reads}

-- An entry as it is written: its class, its key and how that is spelled, and its value.
pub record Spelled : Type 0 where
  pub class : ℕ
  pub key : ℕ
  pub key_bytes : List ℕ
  pub value : Value

abbrev pub bytes_of_entry : Spelled → List ℕ
bytes_of_entry e = e.key_bytes ++ bytes_of e.value

-- The class is known, the bytes spell the key, and the value is read from its own bytes.
pub record IsSpelled (k : Classes) (e : Spelled) : Type 0 where
  pub known : pool_check k e.class ≡ None
  pub key : Spells e.key_bytes e.key
  pub value : Exactly (value_format k (inline e.class)) (bytes_of e.value) e.value

-- A pool as it is written.
pub record SpelledPool : Type 0 where
  pub class : ℕ
  pub entries : List Spelled

abbrev pub bytes_of_pool : SpelledPool → List ℕ
bytes_of_pool g = spell g.class ++ (spell (length g.entries) ++ flat_map bytes_of_entry g.entries)

abbrev pub IsSpelledPool : Classes → SpelledPool → Type 0
IsSpelledPool k g = (pool_check k g.class ≡ None) × AllByRecursion (λ e. IsSpelled k e × (e.class ≡ g.class)) g.entries

-- The entry, and the pool, as they are read from their bytes at an offset.
abbrev pub constant_at : ℕ → Spelled → Constant
constant_at at e = record { key = e.key; key_at = at; value_at = at + length e.key_bytes; end = at + length (bytes_of_entry e); value = e.value }

abbrev pub pool_at : ℕ → SpelledPool → PoolAt
pool_at at g = record { class = g.class; constants = placed_each bytes_of_entry constant_at (at + length (spell g.class) + length (spell (length g.entries))) g.entries }

module _ (k : Classes) (b : List ℕ) (end : ℕ) where
  entry_reads : (e : Spelled) (class at : ℕ) → IsSpelled k e → e.class ≡ class → Holds b end at (bytes_of_entry e)
      → Reads (constant_format k class) b end at (constant_at at e) (at + length (bytes_of_entry e))
  entry_reads e class at s w h =
      let p = holds_parts b end at e.key_bytes (bytes_of e.value) h in
      let m : ℕ = at + length e.key_bytes in
      let to : ℕ = at + length (bytes_of_entry e) in
      let l : m + length (bytes_of e.value) ≡ to = omega (arith, length-append e.key_bytes (bytes_of e.value)) in
      let key : IntAt b at m e.key = holds_int b end at e.key_bytes e.key p.0 s.key in
      let holds : Stands b m to (bytes_of e.value) =
      record { order = omega arith; within = (let x = p.1.within in let y = h.inside in omega arith); bytes = subst (λ z. slice_range b m z ≡ bytes_of e.value) l p.1.bytes } in
      let read : Reads (value_format k (inline e.class)) b end m e.value to = exact_reads (value_format k (inline e.class)) b end m to (bytes_of e.value) e.value s.value holds h.within h.inside in
      subst (λ d. Reads (constant_format k d) b end at (constant_at at e) to) w (
        m,
        e.key,
        key,
        p.0.within,
        refl,
        reads_then (value_format k (inline e.class)) (λ value. Here λ to. Done (record { key = e.key; key_at = at; value_at = m; end = to; value = value })) b end m e.value to
            (constant_at at e) to read (refl, refl),
      )

  pool_reads : (g : SpelledPool) (at : ℕ) → IsSpelledPool k g → Holds b end at (bytes_of_pool g) → Reads (pool_format k) b end at (pool_at at g) (at + length (bytes_of_pool g))
  pool_reads g at s h = pool_read bytes_of_entry constant_at (λ e. IsSpelled k e × (e.class ≡ g.class)) k b end g.class at g.entries (λ e at s h. entry_reads e g.class at s.0 s.1 h) s.0 s.1 h

  -- Pools, one after another.
  pub pools_read : (gs : List SpelledPool) (at : ℕ) → AllByRecursion (IsSpelledPool k) gs → Holds b end at (flat_map bytes_of_pool gs)
      → Reads (times (length gs) (pool_format k)) b end at (placed_each bytes_of_pool pool_at at gs) (at + length (flat_map bytes_of_pool gs))
  pools_read gs at s h = times_read (pool_format k) bytes_of_pool pool_at (IsSpelledPool k) b end (λ g at s h. pool_reads g at s h) gs at s h
