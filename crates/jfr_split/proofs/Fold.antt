-- Parts, chunk by chunk.
use Rattle.std.proofs.Common.{◌≡◌, ℕ, refl, sym, ◌∙◌, ap, Bool, true, false, List, [], ◌∷◌, ◌++◌}
use Rattle.std.specs.List.{flat_map}
use Rattle.jfr_split.specs.Parts.{SplitRule, Part, no_part, begins, part_with, part_after, part_of}

after_snoc : (rule : SplitRule) (p : Part) (cs : List (List ℕ)) (c : List ℕ) → part_after rule p (cs ++ c ∷ []) ≡ part_with rule (part_after rule p cs) c
after_snoc rule p [] c = refl
after_snoc rule p (d ∷ cs) c = after_snoc rule (part_with rule p d) cs c

-- The last part after one chunk more.
pub of_snoc : (rule : SplitRule) (cs : List (List ℕ)) (c : List ℕ) → part_of rule (cs ++ c ∷ []) ≡ part_with rule (part_of rule cs) c
unfolding part_of
of_snoc rule cs c = after_snoc rule no_part cs c

-- The last part of all chunks, and of none.
pub of_all : (rule : SplitRule) (cs : List (List ℕ)) → part_of rule cs ≡ part_after rule no_part cs
unfolding part_of
of_all rule cs = refl

pub of_none : (rule : SplitRule) → part_of rule [] ≡ no_part
unfolding part_of
of_none rule = refl

-- The chunks that still belong to the current part, and the parts after it.
pub record Groups : Type 0 where
  pub here : List (List ℕ)
  pub later : List (List (List ℕ))

abbrev pub grouped : Bool → List ℕ → Groups → Groups
grouped true c g = record { here = []; later = (c ∷ g.here) ∷ g.later }
grouped false c g = record { here = c ∷ g.here; later = g.later }

abbrev pub groups_after : SplitRule → Part → List (List ℕ) → Groups
groups_after rule p [] = record { here = []; later = [] }
groups_after rule p (c ∷ cs) = grouped (begins rule p c) c (groups_after rule (part_with rule p c) cs)

-- The chunks of each part.
abbrev pub groups : SplitRule → List (List ℕ) → List (List (List ℕ))
groups rule cs = (groups_after rule no_part cs).later

-- Groups, one after another.
abbrev pub flat : List (List (List ℕ)) → List (List ℕ)
flat gs = flat_map (λ g. g) gs

grouped_flat : (b : Bool) (c : List ℕ) (g : Groups) → (grouped b c g).here ++ flat (grouped b c g).later ≡ c ∷ (g.here ++ flat g.later)
grouped_flat true c g = refl
grouped_flat false c g = refl

after_flat : (rule : SplitRule) (p : Part) (cs : List (List ℕ)) → (groups_after rule p cs).here ++ flat (groups_after rule p cs).later ≡ cs
after_flat rule p [] = refl
after_flat rule p (c ∷ cs) = grouped_flat (begins rule p c) c (groups_after rule (part_with rule p c) cs) ∙ ap (λ (x : List (List ℕ)). c ∷ x) (after_flat rule (part_with rule p c) cs)

no_here : (rule : SplitRule) (cs : List (List ℕ)) → (groups_after rule no_part cs).here ≡ []
no_here rule [] = refl
no_here rule (c ∷ cs) = refl

-- The groups are all chunks.
pub groups_flat : (rule : SplitRule) (cs : List (List ℕ)) → flat (groups rule cs) ≡ cs
groups_flat rule cs = ap (λ (x : List (List ℕ)). x ++ flat (groups rule cs)) (sym (no_here rule cs)) ∙ after_flat rule no_part cs
