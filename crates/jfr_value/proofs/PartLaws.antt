-- One of several values that follow one another, and its node.
use Rattle.std.specs.Prelude.{◌≡◌, ℕ, ◌+◌, ◌<◌, ◌≤◌, List, length, slice_get, Some, Ok, Bool, true, false, not, replicate, IfSome, IsTrue, ◌↔◌}
use Rattle.std.proofs.Common.{ap, refl, sym, ◌∙◌, subst}
use Rattle.jfr_base.specs.Formats.{run, end_or_flaw}
use Rattle.jfr_layout.specs.Classes.{Classes, Sound}
use Rattle.jfr_layout.specs.declared.shape.Shape.{Shape}
use Rattle.jfr_layout.specs.declared.field_layout.FieldLayout.{FieldLayout}
use Rattle.jfr_value.specs.Values.{Values, list_of, IsHollow, IsLayoutOrKey}
use Rattle.jfr_value.specs.Reading.{value_format}
use Rattle.jfr_value.specs.Nodes.{node_at, IsNode, AreValues, EndsAt, laid}
use Rattle.jfr_value.proofs.NodeLaws.{node_read}
use Rattle.jfr_value.proofs.RowLaws.{start_of, row_at, replicate_get, hollow_starts}
use Rattle.jfr_value.proofs.LayoutLaws.{layout_class}

pub end_seen : (k : Classes) (c : List ℕ) (s : Shape) (at end to : ℕ) → Sound k → EndsAt k c s at to → to ≤ end → end ≤ length c → end_or_flaw (run (value_format k s) c end at) ≡ Ok to
end_seen k c s at end to sound e l h = ap end_or_flaw (node_read k c (node_at s at to) e.0 end sound e.1 l h)

pub record There (k : Classes) (c : List ℕ) (at end : ℕ) (vs : Values) (i : ℕ) (s : Shape) (place : ℕ) : Type 0 where
  pub to : ℕ
  pub ends : EndsAt k c s place to
  pub order : place ≤ to
  pub within : to ≤ end
  pub next : to ≡ start_of at vs (i + 1)
  pub is : slice_get (laid at (list_of vs)) i ≡ Some (node_at s place to)

pub part_there : (k : Classes) (c : List ℕ) (at end : ℕ) (ss : List Shape) (vs : Values) (i : ℕ) (s : Shape) (place : ℕ) → AreValues k c at end ss vs → slice_get ss i ≡ Some s
    → place ≡ start_of at vs i → There k c at end vs i s place
part_there k c at end ss vs i s place r e p =
    let x = row_at k c at end ss vs i s r e in
    let n : IsNode k c (node_at s place (start_of at vs (i + 1))) x.value = subst (λ z. IsNode k c (node_at s z (start_of at vs (i + 1))) x.value) (sym p) x.node in
    record {
      to = start_of at vs (i + 1);
      ends = (x.value, n);
      order = n.order;
      within = x.within;
      next = refl;
      is = x.is ∙ ap (λ z. Some (node_at s z (start_of at vs (i + 1)))) (sym p);
    }

-- Items without bytes are all at one offset.
pub hollow_part : (k : Classes) (c : List ℕ) (at end : ℕ) (s : FieldLayout) (count i : ℕ) (vs : Values) (b : Bool) → IsLayoutOrKey k s → s.shape.array ≡ false → s.shape.constant ≡ false
    → IfSome (slice_get k s.class_index) (λ c. IsTrue b ↔ IsHollow c) → b ≡ true
    → AreValues k c at end (replicate count s.shape) vs → i < count → slice_get (laid at (list_of vs)) i ≡ Some (node_at s.shape at at)
hollow_part k c at end s count i vs b p a o h t r l =
    let d = layout_class k s (p.of_class o) in
    let w = (subst (λ z. IfSome z (λ c. IsTrue b ↔ IsHollow c)) d.there h).0 t in
    let x = row_at k c at end (replicate count s.shape) vs i s.shape r (replicate_get count i s.shape l) in
    let e = hollow_starts k s.shape d.class a o d.found w count vs r.of_shapes r.fit at in
    x.is ∙ (ap (λ z. Some (node_at s.shape z (start_of at vs (i + 1)))) (e i) ∙ ap (λ z. Some (node_at s.shape at z)) (e (i + 1)))

pub not_so : (b : Bool) → not b ≡ true → b ≡ false
not_so true e = cc
not_so false e = refl
