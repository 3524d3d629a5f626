-- Targets that are taken one after another, as marks at the numbers of their entries.
use Rattle.std.specs.Prelude.{◌≡◌, ℕ, ◌+◌, ◌<◌, true, List, [], ◌∷◌, length, take, slice_index_or, slice_set}
use Rattle.std.proofs.Common.{subst, sym}
use Rattle.std.proofs.lemmas.List.{take_more}
use Rattle.jfr_value.specs.Visits.{TakesAll}
use Rattle.jfr_pool.specs.declared.entry.EntryAt.{EntryAt}
use Rattle.jfr_pool.specs.Entries.{number_in_force}
use Rattle.jfr_worklist.specs.Marks.{those}
use Rattle.jfr_worklist.specs.declared.worklist.Worklist.{Worklist}
use Rattle.jfr_worklist.specs.Worklists.{ordered}
use Rattle.jfr_worklist.specs.Putting.{Puts}
use Rattle.jfr_worklist.proofs.PuttingLaws.{puts_then, puts_none}
use Rattle.jfr_chunk.proofs.RootLaws.{takes_those}

-- Targets that are taken put the numbers of their entries.
pub puts_all : (es : List EntryAt) (ts : List (ℕ × ℕ)) (old new : Worklist) → TakesAll (λ t a b. Puts (those (number_in_force es) (t ∷ [])) a b) ts old new
    → Puts (those (number_in_force es) ts) old new
puts_all es = takes_those Puts puts_none puts_then (number_in_force es)

-- One number more of a list.
pub puts_more : (xs : List ℕ) (n : ℕ) (a b c : Worklist) → n < length xs → Puts (take n xs) a b → c.flags.items ≡ slice_set b.flags.items (slice_index_or xs n 0) true
    → c.order.items ≡ ordered b.flags.items b.order.items (slice_index_or xs n 0) → Puts (take (n + 1) xs) a c
puts_more xs n a b c h p x y = subst (λ z. Puts z a c) (sym (take_more xs n 0 h)) (puts_then (take n xs) (slice_index_or xs n 0 ∷ []) a b c p (record { marks = x; order = y }))
