use Rattle.std.proofs.Common.{◌≡◌, ℕ, drop}
use Rattle.std.specs.Prelude.{◌||◌}
use Rattle.jfr_layout.specs.Classes.{has_id}
use Rattle.jfr_meta.specs.Stays.{is_in}
use Rattle.jfr_build.proofs.described.ids_of.Given as goal

abbrev pub invariant-loop-class : goal.invariant-loop-class
invariant-loop-class l = (id : ℕ) → (is_in l.ids id || has_id (drop l.class-index l.classes) id) ≡ has_id l.classes id
