-- The entries that are left are values of the chunk, in the order of their checkpoints.
use Rattle.std.specs.Prelude.{◌≡◌, ℕ, suc, Bool, true, false, List, [], ◌∷◌, slice_get, Some, option_and_then}
use Rattle.std.specs.List.{AllByRecursion}
use Rattle.std.proofs.Common.{ap, refl, ◌∙◌}
use Rattle.jfr_worklist.specs.Marks.{IsMarked}
use Rattle.jfr_chunk.specs.Parts.{AreParts, Parts}
use Rattle.jfr_chunk.specs.Reach.{kept_by, marked}
use Rattle.jfr_chunk.proofs.HasNodesLaws.{has_nodes}
use Rattle.jfr_laws.proofs.Same.{chosen_events}
use Rattle.jfr_output.specs.Remaining.{NotFalling}
use Rattle.jfr_output.proofs.CheckpointEntries.{marked_order}
use Rattle.jfr_rewrite.specs.Paths.{Stops}
use Rattle.jfr_mask.specs.Maskers.{IsEntryValue}
use Rattle.jfr_mask.specs.ReachBut.{marks_but, remain_but}
use Rattle.jfr_mask.proofs.Remains.{remains_reached}

each_marked : {X : Type 0} (P : X → Type 0) (marks : List Bool) (xs : List X) → ((n : ℕ) (x : X) → IsMarked marks n → slice_get xs n ≡ Some x → P x) → AllByRecursion P (marked marks xs)
each_marked P [] xs f = tt
each_marked P (b ∷ ms) [] f = tt
each_marked P (true ∷ ms) (x ∷ xs) f = (f 0 x refl refl, each_marked P ms xs (λ n y i e. f (suc n) y i e))
each_marked P (false ∷ ms) (x ∷ xs) f = each_marked P ms xs (λ n y i e. f (suc n) y i e)

module _ (stops : Stops) (p : Parts) (a : AreParts p) (flags : List Bool) where
  pub left_values : AllByRecursion (IsEntryValue p) (remain_but stops p (kept_by p flags))
  unfolding remain_but
  left_values = each_marked (IsEntryValue p) (marks_but stops p (kept_by p flags)) p.entries (λ n e i q.
      (let r = remains_reached stops p (kept_by p flags) a (chosen_events p flags) n i in
      (has_nodes p a).entries r.key e (ap (option_and_then (λ n. slice_get p.entries n)) r.in_force ∙ q)))

  pub left_order : NotFalling 0 (remain_but stops p (kept_by p flags))
  unfolding remain_but
  left_order = marked_order p (marks_but stops p (kept_by p flags)) a
