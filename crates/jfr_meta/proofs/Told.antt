-- The first of some flaws.
use Rattle.std.specs.Prelude.{◌≡◌, ℕ, List, [], ◌∷◌, ◌++◌, map}
use Rattle.std.proofs.Common.{ap, sym, ◌∙◌}
use Rattle.std.specs.List.{flat_map}
use Rattle.jfr_base.specs.declared.flaw.Flaw.{Flaw}
use Rattle.jfr_base.specs.declared.flaw.ReadFault.{ReadFault}
use Rattle.jfr_base.specs.declared.flaw.ReadFault.TheVariants.{Flawed, Memory}
use Rattle.jfr_layout.specs.Classes.{Classes, Sound, class_faults}
use Rattle.jfr_meta.specs.Trees.{Tree}
use Rattle.jfr_meta.specs.Answers.{IsFirstFlaw}
use Rattle.jfr_meta.specs.Described.{class_flaws, list_flaws, tree_flaws, placed, classes_of}

-- The first flaw of one stage comes before those of the next.
pub append_tells : (fs gs : List Flaw) (e : ReadFault) → IsFirstFlaw fs e → IsFirstFlaw (fs ++ gs) e
append_tells [] gs (Flawed f) h = cc
append_tells (g ∷ fs) gs (Flawed f) h = h
append_tells fs gs Memory h = tt

pub then_tells : (fs gs : List Flaw) (e : ReadFault) → fs ≡ [] → IsFirstFlaw gs e → IsFirstFlaw (fs ++ gs) e
then_tells fs gs (Flawed f) h t = rw h t
then_tells fs gs Memory h t = tt

-- A sound list has no flaws.
pub no_flaws : (texts : List (List ℕ)) (ts : List Tree) (k : Classes) → flat_map (class_flaws texts) ts ≡ [] → k ≡ classes_of texts ts → Sound k → tree_flaws texts ts ≡ []
no_flaws texts ts k h e s = ap (λ z. z ++ list_flaws texts ts) h ∙ ap (map (placed texts ts)) (sym (ap class_faults e) ∙ s.none)
