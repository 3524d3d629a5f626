-- Listing what the value of an event or of an entry refers to.
use Rattle.std.specs.Prelude.{◌≡◌, ℕ, false, List, Result, IfOk, IsSome}
use Rattle.std.proofs.Common.{ap, arith, sym, subst, ◌∙◌}
use Rattle.jfr_base.specs.declared.flaw.Flaw.{Flaw}
use Rattle.jfr_base.specs.Formats.{run, end_or_flaw}
use Rattle.jfr_layout.specs.Classes.{Classes, IsFieldLayout, Sound, find_class}
use Rattle.jfr_layout.specs.declared.field_layout.FieldLayout.{FieldLayout}
use Rattle.jfr_layout.specs.declared.shape.Shape.{Shape}
use Rattle.jfr_value.specs.Values.{Value, shape_of}
use Rattle.jfr_value.specs.Nodes.{EndsAt, IsNode, NodeAt, node_at, targets}
use Rattle.jfr_value.specs.Reading.{value_format}
use Rattle.jfr_value.specs.Visits.{TakesAll}
use Rattle.jfr_value.proofs.ChildLaws.{inline_known}
use Rattle.jfr_value.proofs.PartLaws.{end_seen}

-- A walk over the bytes of a value ends where the value does, and so all that it refers to is visited.
pub all_visited : {A : Type 0} (takes : ℕ × ℕ → A → A → Type 0) (k : Classes) (c : List ℕ) (s t : Shape) (at end : ℕ) (v : Value) (r : Result ℕ Flaw) (old new : A) → Sound k
    → IsNode k c (node_at t at end) v → s ≡ t
    → r ≡ end_or_flaw (run (value_format k s) c end at) → IfOk r (λ to. TakesAll takes (targets k c (node_at s at to)) old new) → TakesAll takes (targets k c (node_at t at end)) old new
all_visited takes k c s t at end v r old new sound i e x h =
    let there : EndsAt k c s at end = (v, subst (λ z. IsNode k c (node_at z at end) v) (sym e) i) in
    let q = x ∙ end_seen k c s at end end sound there (omega arith) i.within in
    subst (λ z. TakesAll takes (targets k c (node_at z at end)) old new) e (subst (λ z. IfOk z (λ to. TakesAll takes (targets k c (node_at s at to)) old new)) q h)

-- The layout of an inline value is that of its class.
pub inline_layout : (k : Classes) (c : List ℕ) (n : NodeAt) (v : Value) (l : FieldLayout) → IsNode k c n v → l.shape ≡ n.shape → (l.shape.array ≡ false) × (l.shape.constant ≡ false)
    → (IsSome (find_class k n.shape.class) → IsFieldLayout k l) → IsFieldLayout k l
inline_layout k c n v l i e m known =
    let s : l.shape ≡ shape_of v = e ∙ i.shape in
    let a = ap (λ (z : Shape). z.array) (sym s) ∙ m.0 in
    let o = ap (λ (z : Shape). z.constant) (sym s) ∙ m.1 in
    known (subst (λ (z : Shape). IsSome (find_class k z.class)) (sym i.shape) (inline_known k v a o i.fits))
