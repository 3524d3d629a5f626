-- The law of bytes, and that a value is the only one of its bytes.
use Rattle.std.specs.Prelude.{◌≡◌, ℕ, ◌≤◌, List, length, Option, Some, None}
use Rattle.std.proofs.Common.{sym, ◌∙◌, subst}
use Rattle.jfr_layout.specs.Classes.{Classes, Agree, Sound}
use Rattle.jfr_value.specs.Values.{Value}
use Rattle.jfr_value.specs.Nodes.{NodeAt, node_bytes, IsNode, child, Both}
use Rattle.jfr_value.specs.Laws.{SameNode, SameSteps}
use Rattle.jfr_value.proofs.InsideLaws.{fits_agree}
use Rattle.jfr_value.proofs.NodeLaws.{part, child_is}

-- A node of the same shape and bytes, under classes that agree, has the same value.
pub node_agree : (k m : Classes) (c d : List ℕ) (n o : NodeAt) (v : Value) → IsNode k c n v → n.shape ≡ o.shape → node_bytes c n ≡ node_bytes d o → o.at ≤ o.end → o.end ≤ length d
    → Agree k m n.shape.class → IsNode m d o v
node_agree k m c d n o v i s b p q a = record {
  shape = sym s ∙ i.shape;
  order = p;
  within = q;
  bytes = sym b ∙ i.bytes;
  fits = fits_agree k m v (subst (λ z. Agree k m z.class) i.shape a) i.fits;
}

pub both_join : {A B C : Type 0} (R : A → C → Type 0) (S : B → C → Type 0) (T : A → B → Type 0) → ((a : A) (b : B) (c : C) → R a c → S b c → T a b) → (x : Option A) (y : Option B) (z : Option C)
    → Both R x z → Both S y z → Both T x y
both_join R S T f None None None r s = tt
both_join R S T f (Some a) (Some b) (Some c) r s = f a b c r s
both_join R S T f None (Some b) None r s = absurd s
both_join R S T f None y (Some c) r s = absurd r
both_join R S T f (Some a) y None r s = absurd r
both_join R S T f (Some a) None (Some c) r s = absurd s

-- Nodes of equal shape and bytes have the same steps, to nodes of equal shape and bytes.
pub law_of_bytes : (k m : Classes) (c d : List ℕ) (n o : NodeAt) (v : Value) → Sound k → Sound m → IsNode k c n v → SameNode c d n o → o.at ≤ o.end → o.end ≤ length d → Agree k m n.shape.class
    → SameSteps k m c d n o
law_of_bytes k m c d n o v sound also i e p q a step =
    both_join (IsNode k c) (IsNode m d) (SameNode c d)
    (λ x y w g h. record { shape = g.shape ∙ sym h.shape; bytes = g.bytes ∙ sym h.bytes })
    (child k c n step) (child m d o step) (part v step) (child_is k c n v sound i step) (child_is m d o v also (node_agree k m c d n o v i e.shape e.bytes p q a) step)
