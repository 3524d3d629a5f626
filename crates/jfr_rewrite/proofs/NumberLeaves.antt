-- A leaf that is a number has no key.
use Rattle.std.specs.Prelude.{◌≡◌, ◌≢◌, None}
use Rattle.std.proofs.Common.{ap, refl, ◌∙◌}
use Rattle.jfr_layout.specs.declared.kind.Kind.{Kind}
use Rattle.jfr_layout.specs.declared.kind.Kind.TheVariants as kinds
use Rattle.jfr_value.specs.declared.leaf.LeafKind.TheVariants as leaf_kinds
use Rattle.jfr_value.specs.Leaves.{LeafAt, leaf_key}
use Rattle.jfr_value.specs.Visits.{IsNumber}

pub number_key : (l : LeafAt) → IsNumber l → leaf_key l.kind l.spelled ≡ None
number_key l n = ap (λ k. leaf_key k l.spelled) n.1 ∙ by_kind n.0 n.2
  where
    by_kind : (kind : Kind) → kind ≢ kinds.Text → leaf_key (leaf_kinds.Base kind) l.spelled ≡ None
    by_kind kinds.Text m = absurd (m refl)
    by_kind kinds.Boolean m = refl
    by_kind kinds.Byte m = refl
    by_kind kinds.Char m = refl
    by_kind kinds.Short m = refl
    by_kind kinds.Int m = refl
    by_kind kinds.Long m = refl
    by_kind kinds.Float m = refl
    by_kind kinds.Double m = refl
    by_kind kinds.Composite m = refl
