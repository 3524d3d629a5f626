-- What is read as a value ends after the value's bytes.
use Rattle.std.specs.Prelude.{◌≡◌, ℕ, ◌+◌, ◌-◌, ◌≤◌, List, length, slice_range, Ok, Err, IfOk}
use Rattle.std.proofs.Common.{ap, arith, ◌∙◌}
use Rattle.jfr_base.specs.Formats.{Answer, Exactly, Format, run, end_or_flaw}
use Rattle.jfr_base.proofs.Exact.{ReadsOrFails, run_reads_or_fails}
use Rattle.jfr_base.proofs.FreeLaws.{PlaceFree, reads_exact}
use Rattle.jfr_base.proofs.Ranges.{range_length}
use Rattle.jfr_layout.specs.Classes.{Classes}
use Rattle.jfr_layout.specs.declared.shape.Shape.{Shape}
use Rattle.jfr_value.specs.Values.{Value, bytes_of}
use Rattle.jfr_value.specs.Reading.{class_format, item_format, shape_format}
use Rattle.jfr_value.proofs.NodeLaws.{class_free, item_free, shape_free}
use Rattle.jfr_value.proofs.TreeLaws.{class_whole, item_whole, shape_whole}

-- A value that was read from an offset on ends after its bytes, and by the end.
abbrev pub IsPlaced : ℕ → ℕ → Answer Value → Type 0
IsPlaced end at answer = IfOk answer (λ got. (got.place ≡ at + length (bytes_of got.value)) × (got.place ≤ end))

-- All that the format reads does.
abbrev pub ReadsPlaced : List ℕ → ℕ → Format Value → Type 0
ReadsPlaced x end f = (at : ℕ) → at ≤ end → IsPlaced end at (run f x end at)

-- The place by itself.
pub placed_within : (end at to : ℕ) (r : Answer Value) → end_or_flaw r ≡ Ok to → IsPlaced end at r → to ≤ end
placed_within end at to (Ok g) e p = let q : g.place ≡ to = cc in omega (arith, p.1)
placed_within end at to (Err w) e p = cc

module _ (x : List ℕ) (end : ℕ) (within : end ≤ length x) where
  reads_placed : (f : Format Value) → PlaceFree f → ((b : List ℕ) (v : Value) → Exactly f b v → bytes_of v ≡ b) → ReadsPlaced x end f
  reads_placed f free tells at order = by_answer (run f x end at) (run_reads_or_fails f x end at order within)
    where
      by_answer : (r : Answer Value) → ReadsOrFails f x end at r → IsPlaced end at r
      by_answer (Ok g) q =
          let e = reads_exact f x end at g.value g.place within order free q in
          let l : length (bytes_of g.value) ≡ g.place - at = ap length (tells (slice_range x at g.place) g.value e.exact) ∙ range_length x at g.place (omega (arith, e.within)) in
          (omega (arith, e.order), e.within)
      by_answer (Err w) q = tt

  module _ (depth : ℕ) (k : Classes) (s : Shape) where
    pub class_placed : ReadsPlaced x end (class_format depth k s)
    class_placed = reads_placed (class_format depth k s) (class_free depth k s) (λ b v e. (class_whole k depth s b v e).bytes)

    pub item_placed : ReadsPlaced x end (item_format (class_format depth k) s)
    item_placed = reads_placed (item_format (class_format depth k) s) (item_free (class_format depth k) (class_free depth k) s)
        (λ b v e. (item_whole (class_format depth k) (class_whole k depth) s b v e).bytes)

    pub shape_placed : ReadsPlaced x end (shape_format (class_format depth k) s)
    shape_placed = reads_placed (shape_format (class_format depth k) s) (shape_free (class_format depth k) (class_free depth k) s)
        (λ b v e. (shape_whole (class_format depth k) (class_whole k depth) s b v e).bytes)
