-- What lists of targets and of events refer to, one list after another.
use Rattle.std.specs.Prelude.{◌≡◌, ℕ, List, [], ◌∷◌, ◌++◌, Option, Some, None}
use Rattle.std.proofs.Common.{ap, refl, sym, ◌∙◌, subst}
use Rattle.std.proofs.lemmas.List.{append_assoc, append-nil}
use Rattle.jfr_value.specs.Nodes.{targets}
use Rattle.jfr_value.specs.Visits.{TakesAll}
use Rattle.jfr_pool.specs.Entries.{number_in_force}
use Rattle.jfr_worklist.specs.Marks.{add, those}
use Rattle.jfr_worklist.proofs.Members.{those_append}
use Rattle.jfr_chunk.specs.Parts.{Parts, EventAt}
use Rattle.jfr_chunk.specs.Reach.{all_targets, node_entries, nodes_of, roots}

-- If each target takes the numbers for it, targets that are taken take the numbers for them.
pub takes_those : {A : Type 0} (R : List ℕ → A → A → Type 0) → ((a : A) → R [] a a) → ((xs ys : List ℕ) (a b c : A) → R xs a b → R ys b c → R (xs ++ ys) a c)
    → (f : ℕ × ℕ → Option ℕ) (ts : List (ℕ × ℕ)) (old new : A) → TakesAll (λ t a b. R (those f (t ∷ [])) a b) ts old new → R (those f ts) old new
takes_those R none both f [] old new e = subst (λ z. R [] old z) e (none old)
takes_those R none both f (t ∷ ts) old new h = by_number (f t) (those f ts) h.1 (takes_those R none both f ts h.0 new h.2)
  where
    by_number : (o : Option ℕ) (is : List ℕ) → R (add o []) old h.0 → R is h.0 new → R (add o is) old new
    by_number None is p q = both [] is old h.0 new p q
    by_number (Some i) is p q = both (i ∷ []) is old h.0 new p q

module _ (p : Parts) where
  targets_append : (xs ys : List EventAt) → all_targets p (nodes_of (xs ++ ys)) ≡ all_targets p (nodes_of xs) ++ all_targets p (nodes_of ys)
  targets_append [] ys = refl
  targets_append (x ∷ xs) ys = ap (λ z. targets p.classes p.bytes x.node ++ z) (targets_append xs ys)
      ∙ sym (append_assoc (targets p.classes p.bytes x.node) (all_targets p (nodes_of xs)) (all_targets p (nodes_of ys)))

  -- Two lists of events.
  pub roots_append : (xs ys : List EventAt) → roots p (xs ++ ys) ≡ roots p xs ++ roots p ys
  roots_append xs ys = ap (those (number_in_force p.entries)) (targets_append xs ys) ∙ those_append (number_in_force p.entries) (all_targets p (nodes_of xs)) (all_targets p (nodes_of ys))

  -- One event more.
  pub roots_one : (xs : List EventAt) (e : EventAt) → roots p (xs ++ e ∷ []) ≡ roots p xs ++ node_entries p.entries p.classes p.bytes e.node
  roots_one xs e = roots_append xs (e ∷ []) ∙ ap (λ z. roots p xs ++ those (number_in_force p.entries) z) (append-nil (targets p.classes p.bytes e.node))
