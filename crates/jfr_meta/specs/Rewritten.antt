-- A tree that is written while its new table of strings is built.
use Rattle.std.specs.Prelude.{◌≡◌, ℕ, List, ◌∷◌, ◌++◌, [], length}
use Rattle.std.specs.List.{flat_map}
use Rattle.jfr_base.specs.Integer.{spell}
use Rattle.jfr_worklist.specs.Members.{In}
use Rattle.jfr_meta.specs.declared.rewriting.NewTree.{NewTree}
use Rattle.jfr_meta.specs.Trees.{Tree, name_of, pairs_of}
use Rattle.jfr_meta.specs.Written.{tree_bytes}
use Rattle.jfr_meta.specs.Slimmed.{renumbered, uses}
use Rattle.jfr_meta.specs.NewTables.{Tabled, number_in}

-- The texts of the strings with these old indices were added to the table, and `spelled`, a function of
-- the new indices, was written. It depends on no new index except those of these strings.
pub record Wrote (texts : List (List ℕ)) (is : List ℕ) (spelled : (ℕ → ℕ) → List ℕ) (old new : NewTree) : Type 0 where
  pub tabled : Tabled texts is old.table new.table
  pub written : new.bytes.items ≡ old.bytes.items ++ spelled (number_in new.table.words texts)
  pub only : (f g : ℕ → ℕ) → ((i : ℕ) → In is i → f i ≡ g i) → spelled f ≡ spelled g

-- The indices that an attribute uses.
abbrev pub pair_uses : ℕ × ℕ → List ℕ
pair_uses p = p.0 ∷ p.1 ∷ []

-- An attribute with new indices.
abbrev pub new_pair : (ℕ → ℕ) → ℕ × ℕ → List ℕ
new_pair f p = spell (f p.0) ++ spell (f p.1)

-- An element with new indices.
abbrev pub new_tree : (ℕ → ℕ) → Tree → List ℕ
new_tree f t = tree_bytes (renumbered f t)

-- The attributes were written.
abbrev pub WrotePairs : List (List ℕ) → List (ℕ × ℕ) → NewTree → NewTree → Type 0
WrotePairs texts ps old new = Wrote texts (flat_map pair_uses ps) (λ f. flat_map (new_pair f) ps) old new

-- The name of the element, its attributes and this number of children were written.
abbrev pub WroteHead : List (List ℕ) → Tree → ℕ → NewTree → NewTree → Type 0
WroteHead texts t n old new =
    Wrote texts (name_of t ∷ flat_map pair_uses (pairs_of t)) (λ f. spell (f (name_of t)) ++ (spell (length (pairs_of t)) ++ (flat_map (new_pair f) (pairs_of t) ++ spell n))) old new

-- The element was written.
abbrev pub WroteTree : List (List ℕ) → Tree → NewTree → NewTree → Type 0
WroteTree texts t old new = Wrote texts (uses t) (λ f. new_tree f t) old new

-- The elements were written, one after another.
abbrev pub WroteTrees : List (List ℕ) → List Tree → NewTree → NewTree → Type 0
WroteTrees texts ts old new = Wrote texts (flat_map uses ts) (λ f. flat_map (new_tree f) ts) old new
