use Rattle.std.proofs.Common.{◌≡◌, Option, Some, None, refl, sym, ◌∙◌}
use Rattle.std.specs.Option.{IsSome, option_map}
use Rattle.jfr_tests_values.proofs.visit.walk_to_end.Goals as goal

known : {A B : Type 0} (f : A → B) (o : Option A) (b : B) → option_map f o ≡ Some b → IsSome o
known f (Some a) b h = refl
known f None b h = cc

pub end_visiting-end-requires-clause-layout : goal.end_visiting-end-requires-clause-layout
end_visiting-end-requires-clause-layout c = c.layout_of-layout.ensures.known (known _ _ c.in_ok-kind.field-0 (sym c.kind.ensures ∙ c.in_ok-kind.was))
