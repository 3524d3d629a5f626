-- The next leaf of a walk: it is the first of those that were left, and the others are left.
use Rattle.std.specs.Prelude.{◌≡◌, ℕ, List, [], ◌∷◌, length, Option, Some, None, MatchOption}
use Rattle.std.specs.Iterator.{YieldsFirstBy, MakesProgress, item_count}
use Rattle.std.proofs.Common.{ap, arith, sym, ◌∙◌}
use Rattle.jfr_layout.specs.Classes.{Classes}
use Rattle.jfr_value.specs.declared.cursor.Cursor.{Cursor}
use Rattle.jfr_value.specs.declared.leaf.Leaf.{Leaf}
use Rattle.jfr_value.specs.Leaves.{LeafAt, leaf_of}
use Rattle.jfr_value.specs.Values.{Values}
use Rattle.jfr_value.specs.Walks.{AreFrames, AreRemaining, IsWalk, leaves_held, remaining_holders, remaining_leaves}
use Rattle.jfr_value.proofs.WalkLaws.{leaves_are_remaining, walk_on}

module _ (k : Classes) (c : List ℕ) (end : ℕ) (old new : Cursor) (w : IsWalk k c end old) (f : AreFrames k 0 new.stack) where
  pub goes_on : (r : Option Leaf)
      → MatchOption r ((ws : Values) × AreRemaining k c end new ws × (remaining_leaves k c end old ≡ []) × (leaves_held (remaining_holders k new.stack) new.at ws ≡ []))
      (λ leaf. (ws : Values) × AreRemaining k c end new ws × (remaining_leaves k c end old ≡ leaf_of leaf ∷ leaves_held (remaining_holders k new.stack) new.at ws))
      → IsWalk k c end new × YieldsFirstBy leaf_of (λ l. l) (remaining_leaves k c end old) r (remaining_leaves k c end new)
  goes_on None e = (walk_on k c end new e.0 w.sound f e.1, (e.2, leaves_are_remaining k c end new e.0 w.sound e.1 ∙ e.3))
  goes_on (Some leaf) e = (walk_on k c end new e.0 w.sound f e.1, e.2 ∙ ap (λ z. leaf_of leaf ∷ z) (sym (leaves_are_remaining k c end new e.0 w.sound e.1)))

pub nearer_end : (r : Option Leaf) (l m : List LeafAt) → YieldsFirstBy leaf_of (λ l. l) l r m → MakesProgress {S = List LeafAt} {A = Leaf} (λ l. Unit {0}) (item_count (λ l. l)) l r m
nearer_end None l m e = record { on = λ h. tt; keeps = tt; rests = λ h. tt }
nearer_end (Some x) l m e = record { on = λ h. (tt, tt, (let q : length l ≡ length (leaf_of x ∷ m) = ap length e in omega arith)); keeps = tt; rests = λ h. tt }
