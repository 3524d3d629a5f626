-- Which claims are confirmed once parents have been visited.
use Rattle.std.specs.Prelude.{◌≡◌, ◌⊎◌, ◌<◌, ℕ, List, length, slice_get, Some}
use Rattle.jfr_worklist.specs.Marks.{IsMarked, marked_at}
use Rattle.jfr_chunk.specs.Parts.{Parts}
use Rattle.jfr_verify.specs.declared.claims.Claims.{Claims}
use Rattle.jfr_verify.specs.declared.line.Parent.{Parent}
use Rattle.jfr_verify.specs.declared.line.Parent.TheVariants.{OfEvent, OfEntry}
use Rattle.jfr_verify.specs.Claims.{children, RefersTo, IsConfirmed}

-- The claims of those entries with these numbers whose claimed parent is the current one are confirmed too.
pub record Confirms (numbers : List ℕ) (old new : Claims) : Type 0 where
  pub confirmed : new.confirmed.items ≡ marked_at old.confirmed.items (children old.parents.items old.parent numbers)
  pub parents : new.parents.items ≡ old.parents.items
  pub parent : new.parent ≡ old.parent

-- As `Confirms`, with this parent as the current one, whichever was current before.
pub record ConfirmsOf (parent : Parent) (numbers : List ℕ) (old new : Claims) : Type 0 where
  pub confirmed : new.confirmed.items ≡ marked_at old.confirmed.items (children old.parents.items parent numbers)
  pub parents : new.parents.items ≡ old.parents.items

-- Confirmed claims stay confirmed. For each newly confirmed claim, the claimed parent refers to the entry.
pub record ConfirmsMore (p : Parts) (old new : Claims) : Type 0 where
  pub size : length new.confirmed.items ≡ length old.confirmed.items
  pub parents : new.parents.items ≡ old.parents.items
  pub kept : (t : ℕ) → IsMarked old.confirmed.items t → IsMarked new.confirmed.items t
  pub sound : (t : ℕ) → IsMarked new.confirmed.items t → IsMarked old.confirmed.items t ⊎ IsConfirmed p old.parents.items t

-- Each entry whose claimed parent is one of the first `count` events and refers to it has its claim
-- confirmed.
pub record ConfirmsEvents (p : Parts) (count : ℕ) (old new : Claims) : Type 0 where
  pub more : ConfirmsMore p old new
  pub all : (i t : ℕ) → i < count → slice_get old.parents.items t ≡ Some (OfEvent i) → RefersTo p (OfEvent i) t → IsMarked new.confirmed.items t

-- Each entry whose claimed parent is one of the first `count` entries and refers to it has its claim
-- confirmed.
pub record ConfirmsEntries (p : Parts) (count : ℕ) (old new : Claims) : Type 0 where
  pub more : ConfirmsMore p old new
  pub all : (i t : ℕ) → i < count → slice_get old.parents.items t ≡ Some (OfEntry i) → RefersTo p (OfEntry i) t → IsMarked new.confirmed.items t
