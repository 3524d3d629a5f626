-- The entries that remain, while they are collected.
use Rattle.std.specs.Prelude.{◌≡◌, ℕ, zero, suc, ◌+◌, ◌<◌, ◌≤◌, Bool, true, false, List, [], ◌∷◌, ◌++◌, length, replicate, slice_get, slice_set, take, drop, Some, if◌then◌else◌}
use Rattle.std.proofs.Common.{ap, arith, refl, sym, ◌∙◌, add-one, append_assoc}
use Rattle.std.proofs.lemmas.List.{drop_all, append-nil, length-set, length-replicate, take_all}
use Rattle.jfr_worklist.specs.Marks.{is_marked, led_to, marked_at, swept}
use Rattle.jfr_pool.specs.declared.entry.EntryAt.{EntryAt}
use Rattle.jfr_chunk.specs.Parts.{Parts, EventAt}
use Rattle.jfr_chunk.specs.Reach.{marked, next_entries, reached_marks, remain, roots}

-- The marked members from a place on.
marked_suc : (ms : List Bool) (es : List EntryAt) (i : ℕ) (e : EntryAt) → i < length ms → slice_get es i ≡ Some e
    → marked (drop i ms) (drop i es) ≡ (if is_marked ms i then e ∷ [] else []) ++ marked (drop (suc i) ms) (drop (suc i) es)
marked_suc [] es i e h g = absurd (omega arith)
marked_suc (m ∷ ms) [] i e h g = cc
marked_suc (true ∷ ms) (x ∷ es) zero e h g = let s : x ≡ e = cc in ap (λ z. z ∷ marked ms es) s
marked_suc (false ∷ ms) (x ∷ es) zero e h g = refl
marked_suc (m ∷ ms) (x ∷ es) (suc i) e h g = marked_suc ms es i e (omega arith) g

pub marked_next : (ms : List Bool) (es remaining new : List EntryAt) (i : ℕ) (e : EntryAt) (keep : Bool) → i < length ms → slice_get es i ≡ Some e → keep ≡ is_marked ms i
    → remaining ++ marked (drop i ms) (drop i es) ≡ marked ms es →
    new ≡ remaining ++ (if keep then e ∷ [] else []) → new ++ marked (drop (i + 1) ms) (drop (i + 1) es) ≡ marked ms es
marked_next ms es remaining new i e keep h g k l n =
    let s : marked (drop i ms) (drop i es) ≡ (if keep then e ∷ [] else []) ++ marked (drop (i + 1) ms) (drop (i + 1) es) =
    marked_suc ms es i e h g ∙ (ap (λ b. (if b then e ∷ [] else []) ++ marked (drop (suc i) ms) (drop (suc i) es)) (sym k)
    ∙ ap (λ j. (if keep then e ∷ [] else []) ++ marked (drop j ms) (drop j es)) (sym (add-one i))) in
    ap (λ z. z ++ marked (drop (i + 1) ms) (drop (i + 1) es)) n
    ∙ (append_assoc remaining (if keep then e ∷ [] else []) (marked (drop (i + 1) ms) (drop (i + 1) es)) ∙ (ap (λ z. remaining ++ z) (sym s) ∙ l))

pub marked_all : (ms : List Bool) (es remaining : List EntryAt) (i : ℕ) → length ms ≤ i → remaining ++ marked (drop i ms) (drop i es) ≡ marked ms es → remaining ≡ marked ms es
marked_all ms es remaining i h l = sym (append-nil remaining) ∙ (ap (λ z. remaining ++ marked z (drop i es)) (sym (drop_all i ms h)) ∙ l)

-- While all members so far are marked.
whole_suc : (ms : List Bool) (es : List EntryAt) (i : ℕ) → i < length ms → length ms ≡ length es → is_marked ms i ≡ true
    → take (suc i) es ++ marked (drop (suc i) ms) (drop (suc i) es) ≡ take i es ++ marked (drop i ms) (drop i es)
whole_suc [] es i h n m = absurd (omega arith)
whole_suc (b ∷ ms) [] i h n m = absurd (omega arith)
whole_suc (true ∷ ms) (x ∷ es) zero h n m = refl
whole_suc (false ∷ ms) (x ∷ es) zero h n m = cc
whole_suc (b ∷ ms) (x ∷ es) (suc i) h n m = ap (λ z. x ∷ z) (whole_suc ms es i (omega arith) (omega arith) m)

pub whole_next : (ms : List Bool) (es : List EntryAt) (i : ℕ) → i < length ms → length ms ≡ length es → is_marked ms i ≡ true → take i es ++ marked (drop i ms) (drop i es) ≡ marked ms es
    → take (i + 1) es ++ marked (drop (i + 1) ms) (drop (i + 1) es) ≡ marked ms es
whole_next ms es i h n m l = ap (λ j. take j es ++ marked (drop j ms) (drop j es)) (add-one i) ∙ (whole_suc ms es i h n m ∙ l)

pub whole_all : (ms : List Bool) (es : List EntryAt) (i : ℕ) → length ms ≤ i → length ms ≡ length es → take i es ++ marked (drop i ms) (drop i es) ≡ marked ms es → marked ms es ≡ es
whole_all ms es i h n l = sym (marked_all ms es (take i es) i h l) ∙ take_all i es (omega arith)

-- As many marks as entries.
marked_length : (ms : List Bool) (is : List ℕ) → length (marked_at ms is) ≡ length ms
marked_length ms [] = refl
marked_length ms (i ∷ is) = marked_length (slice_set ms i true) is ∙ length-set ms i true

swept_length : (n : ℕ) (next : ℕ → List ℕ) (ms : List Bool) → length (swept n next ms) ≡ length ms
swept_length zero next ms = refl
swept_length (suc n) next ms = marked_length (swept n next ms) (led_to (swept n next ms) next) ∙ swept_length n next ms

pub marks_length : (p : Parts) (kept : List EventAt) → length (reached_marks p kept) ≡ length p.entries
unfolding reached_marks
marks_length p kept = swept_length (length p.entries) (next_entries p) (marked_at (replicate (length p.entries) false) (roots p kept))
    ∙ (marked_length (replicate (length p.entries) false) (roots p kept) ∙ length-replicate (length p.entries) false)

-- The entries that are marked remain.
pub left_is : (p : Parts) (kept : List EventAt) (ms : List Bool) (es remaining : List EntryAt) → ms ≡ reached_marks p kept → es ≡ p.entries → remaining ≡ marked ms es → remaining ≡ remain p kept
unfolding remain
left_is p kept ms es remaining m e l = l ∙ (λ i. marked (m i) (e i))
