-- Values of a sample, by their bytes.
use Rattle.std.specs.Prelude.{◌≡◌, ℕ, ◌+◌, ◌≤◌, List, length}
use Rattle.std.proofs.Common.{arith}
use Rattle.jfr_base.specs.Formats.{Reads}
use Rattle.jfr_base.proofs.HoldLaws.{Holds}
use Rattle.jfr_base.proofs.RunLaws.{Stands}
use Rattle.jfr_layout.specs.Classes.{Classes, Sound}
use Rattle.jfr_value.specs.Values.{Value, shape_of, bytes_of, Fits}
use Rattle.jfr_value.specs.Reading.{value_format}
use Rattle.jfr_value.proofs.NodeLaws.{stands_node}
use Rattle.jfr_value.proofs.AnswerLaws.{node_reads}

-- A value that fits its shape is read from its bytes.
pub value_read : (k : Classes) (c : List ℕ) (end at : ℕ) (v : Value) → Sound k → Fits k v → Holds c end at (bytes_of v) → Reads (value_format k (shape_of v)) c end at v (at + length (bytes_of v))
value_read k c end at v sound fits h =
    let w : at + length (bytes_of v) ≤ end = h.within in
    let i : end ≤ length c = h.inside in
    let s : Stands c at (at + length (bytes_of v)) (bytes_of v) = record { order = omega arith; within = omega arith; bytes = h.bytes } in
    node_reads k c (shape_of v) at (at + length (bytes_of v)) end v sound (stands_node k c at (at + length (bytes_of v)) v s fits) w (omega arith) i
