-- Marked numbers, and what follows if a marked number leads to others.
use Rattle.std.specs.Prelude.{◌≡◌, ℕ, zero, suc, Bool, true, false, List, [], ◌∷◌, ◌++◌, slice_set, slice_index_or, Option, Some, None}

-- The list with this value in front, if there is one.
abbrev pub add : {A : Type 0} → Option A → List A → List A
add None xs = xs
add (Some x) xs = x ∷ xs

-- The values of a partial function at the members of a list, in order.
abbrev pub those : {A B : Type 0} → (A → Option B) → List A → List B
those f [] = []
those f (x ∷ xs) = add (f x) (those f xs)

-- Whether this number is marked.
abbrev pub is_marked : List Bool → ℕ → Bool
is_marked marks i = slice_index_or marks i false

-- This number is marked.
abbrev pub IsMarked : List Bool → ℕ → Type 0
IsMarked marks i = is_marked marks i ≡ true

-- The marks with these numbers marked too.
abbrev pub marked_at : List Bool → List ℕ → List Bool
marked_at marks [] = marks
marked_at marks (i ∷ is) = marked_at (slice_set marks i true) is

-- All numbers to which marked numbers lead.
abbrev pub led_to : List Bool → (ℕ → List ℕ) → List ℕ
led_to [] next = []
led_to (true ∷ marks) next = next 0 ++ led_to marks (λ i. next (suc i))
led_to (false ∷ marks) next = led_to marks (λ i. next (suc i))

-- The marks after n rounds, each of which marks what the marked numbers lead to.
abbrev pub swept : ℕ → (ℕ → List ℕ) → List Bool → List Bool
swept zero next marks = marks
swept (suc n) next marks = marked_at (swept n next marks) (led_to (swept n next marks) next)
