-- How deep a tree is that was read.
use Rattle.std.specs.Prelude.{ℕ, ◌-◌, ◌<◌, ◌≤◌, List, length}
use Rattle.std.proofs.Common.{arith}
use Rattle.jfr_frame.specs.declared.framed.Framed.{Framed}
use Rattle.jfr_frame.specs.Records.{record_end}
use Rattle.jfr_layout.specs.Classes.{Classes}
use Rattle.jfr_meta.specs.Trees.{Tree, Node, Trees, Nil, Cons}
use Rattle.jfr_meta.specs.Body.{Body, IsElement, AreElements}
use Rattle.jfr_meta.specs.Described.{IsMetadata}
use Rattle.jfr_meta.specs.Written.{depth, depths}
use Rattle.jfr_meta.proofs.ElementsStand.{root_stands}

mutual
  element_depth : (x : List ℕ) (limit levels p q : ℕ) (t : Tree) → IsElement x limit levels p q t → depth t ≤ levels
  element_depth x limit levels p q (Node place name pairs children) e =
      let d = elements_depth x limit (levels - 1) e.5 q children e.11 in
      let o : 0 < levels = e.1 in
      omega arith

  elements_depth : (x : List ℕ) (limit levels p q : ℕ) (ts : Trees) → AreElements x limit levels p q ts → depths ts ≤ levels
  elements_depth x limit levels p q Nil e = omega arith
  elements_depth x limit levels p q (Cons t ts) e = omega (arith, element_depth x limit levels p e.0 t e.1, elements_depth x limit levels e.0 q ts e.2)

pub shallow : (x : List ℕ) (r : Framed) (b : Body) (k : Classes) → IsMetadata x r b k → depth b.root ≤ 16
shallow x r b k m = let s = root_stands x r b k m in element_depth x (length b.strings) 16 s.after_strings (record_end r) b.root s.root
