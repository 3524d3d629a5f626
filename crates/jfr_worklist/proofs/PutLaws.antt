-- Marks in a list of flags, and numbers in the order of their marking.
use Rattle.std.specs.Prelude.{◌≡◌, ℕ, zero, suc, ◌+◌, ◌<◌, ◌≤◌, Bool, true, false, List, [], ◌∷◌, ◌++◌, length, replicate, drop, slice_set, if◌then◌else◌, ◌⊎◌}
use Rattle.std.proofs.Common.{ap, arith, refl, sym, inl, inr}
use Rattle.std.proofs.lemmas.List.{length-set, length-append}
use Rattle.jfr_worklist.specs.Marks.{is_marked, IsMarked, marked_at}
use Rattle.jfr_worklist.specs.Members.{In}
use Rattle.jfr_worklist.proofs.MarkLaws.{set_here, set_stays, set_only, set_old}
use Rattle.jfr_worklist.proofs.SweepLaws.{AllBelow}
use Rattle.jfr_worklist.specs.Worklists.{ordered, ordered_all}
use Rattle.jfr_worklist.proofs.ClosureLaws.{Work, work_puts}

-- The sum of weights over what is marked, and over what is listed.
abbrev pub weigh : List Bool → (ℕ → ℕ) → ℕ
weigh [] w = 0
weigh (true ∷ ms) w = w 0 + weigh ms (λ i. w (suc i))
weigh (false ∷ ms) w = weigh ms (λ i. w (suc i))

abbrev pub waiting : List ℕ → (ℕ → ℕ) → ℕ
waiting [] w = 0
waiting (i ∷ is) w = w i + waiting is w

-- What is listed from a place on.
put_up : (ms : List Bool) (order : List ℕ) (at j i : ℕ) → at ≤ length order → In (drop at order) i → In (drop at (ordered ms order j)) i
put_up ms order at j i h p = by_mark (is_marked ms j)
  where
    longer : (at : ℕ) (xs : List ℕ) → In (drop at xs) i → In (drop at (xs ++ (j ∷ []))) i
    longer zero [] p = absurd p
    longer zero (x ∷ xs) (inl e) = inl e
    longer zero (x ∷ xs) (inr q) = inr (longer zero xs q)
    longer (suc at) [] p = absurd p
    longer (suc at) (x ∷ xs) p = longer at xs p

    by_mark : (b : Bool) → In (drop at (if b then order else order ++ (j ∷ []))) i
    by_mark true = p
    by_mark false = longer at order p

put_down : (ms : List Bool) (order : List ℕ) (at j i : ℕ) → at ≤ length order → In (drop at (ordered ms order j)) i → In (drop at order) i ⊎ (j ≡ i)
put_down ms order at j i h q = by_mark (is_marked ms j) q
  where
    shorter : (at : ℕ) (xs : List ℕ) → at ≤ length xs → In (drop at (xs ++ (j ∷ []))) i → In (drop at xs) i ⊎ (j ≡ i)
    shorter zero [] h (inl e) = inr e
    shorter zero [] h (inr p) = absurd p
    shorter zero (x ∷ xs) h (inl e) = inl (inl e)
    shorter zero (x ∷ xs) h (inr p) = by_rest (shorter zero xs (omega arith) p)
      where
        by_rest : In xs i ⊎ (j ≡ i) → In (x ∷ xs) i ⊎ (j ≡ i)
        by_rest (inl p) = inl (inr p)
        by_rest (inr e) = inr e
    shorter (suc at) [] h p = absurd (omega arith)
    shorter (suc at) (x ∷ xs) h p = shorter at xs (omega arith) p

    by_mark : (b : Bool) → In (drop at (if b then order else order ++ (j ∷ []))) i → In (drop at order) i ⊎ (j ≡ i)
    by_mark true q = inl q
    by_mark false q = shorter at order h q

put_new : (ms : List Bool) (order : List ℕ) (at j : ℕ) → at ≤ length order → IsMarked ms j ⊎ In (drop at (ordered ms order j)) j
put_new ms order at j h = by_mark (is_marked ms j) refl
  where
    last : (at : ℕ) (xs : List ℕ) → at ≤ length xs → In (drop at (xs ++ (j ∷ []))) j
    last zero [] h = inl refl
    last zero (x ∷ xs) h = inr (last zero xs (omega arith))
    last (suc at) [] h = absurd (omega arith)
    last (suc at) (x ∷ xs) h = last at xs (omega arith)

    by_mark : (b : Bool) → is_marked ms j ≡ b → IsMarked ms j ⊎ In (drop at (if b then order else order ++ (j ∷ []))) j
    by_mark true e = inl e
    by_mark false e = inr (last at order h)

-- A place in the order is one after a number is put, too.
pub put_longer : (ms : List Bool) (order : List ℕ) (at j : ℕ) → at ≤ length order → at ≤ length (ordered ms order j)
put_longer ms order at j h = by_mark (is_marked ms j)
  where
    by_mark : (b : Bool) → at ≤ length (if b then order else order ++ (j ∷ []))
    by_mark true = h
    by_mark false = (let l : length (order ++ (j ∷ [])) ≡ length order + 1 = length-append order (j ∷ []) in omega arith)

-- All that are left are put.
pub work_all : (next : ℕ → List ℕ) (roots : List ℕ) (ms : List Bool) (order : List ℕ) (at : ℕ) (left : List ℕ) → at ≤ length order → AllBelow (length ms) left
    → Work next roots (IsMarked ms) (In (drop at order)) left → Work next roots (IsMarked (marked_at ms left)) (In (drop at (ordered_all ms order left))) []
work_all next roots ms order at [] h b w = w
work_all next roots ms order at (j ∷ left) h b w =
    let l : length (slice_set ms j true) ≡ length ms = length-set ms j true in
    work_all next roots (slice_set ms j true) (ordered ms order j) at left (put_longer ms order at j h) (λ i k. (let m : i < length ms = b i (inr k) in omega arith))
    (work_puts next roots (IsMarked ms) (IsMarked (slice_set ms j true)) (In (drop at order)) (In (drop at (ordered ms order j))) j left w
    (set_stays ms j) (set_here ms j (b j (inl refl))) (set_only ms j) (λ i. put_up ms order at j i h) (λ i. put_down ms order at j i h) (put_new ms order at j h))

-- Weights.
weigh_set : (ms : List Bool) (j : ℕ) (w : ℕ → ℕ) → j < length ms → is_marked ms j ≡ false → weigh (slice_set ms j true) w ≡ weigh ms w + w j
weigh_set [] j w h m = absurd (omega arith)
weigh_set (true ∷ ms) zero w h m = cc
weigh_set (false ∷ ms) zero w h m = omega arith
weigh_set (true ∷ ms) (suc j) w h m = let i : weigh (slice_set ms j true) (λ i. w (suc i)) ≡ weigh ms (λ i. w (suc i)) + w (suc j) = weigh_set ms j (λ i. w (suc i)) (omega arith) m in omega arith
weigh_set (false ∷ ms) (suc j) w h m = weigh_set ms j (λ i. w (suc i)) (omega arith) m

waiting_more : (xs : List ℕ) (j : ℕ) (w : ℕ → ℕ) → waiting (xs ++ (j ∷ [])) w ≡ waiting xs w + w j
waiting_more [] j w = omega arith
waiting_more (x ∷ xs) j w = let i : waiting (xs ++ (j ∷ [])) w ≡ waiting xs w + w j = waiting_more xs j w in omega arith

-- What is listed weighs what was marked.
put_weighs : (ms : List Bool) (order : List ℕ) (j : ℕ) (w : ℕ → ℕ) → j < length ms → waiting (ordered ms order j) w + weigh ms w ≡ waiting order w + weigh (slice_set ms j true) w
put_weighs ms order j w h = by_mark (is_marked ms j) refl
  where
    by_mark : (b : Bool) → is_marked ms j ≡ b → waiting (if b then order else order ++ (j ∷ [])) w + weigh ms w ≡ waiting order w + weigh (slice_set ms j true) w
    by_mark true e = ap (λ z. waiting order w + weigh z w) (sym (set_old ms j e))
    by_mark false e = (let a = waiting_more order j w in let b = weigh_set ms j w h e in omega arith)

pub all_weigh : (ms : List Bool) (order left : List ℕ) (w : ℕ → ℕ) → AllBelow (length ms) left → waiting (ordered_all ms order left) w + weigh ms w ≡ waiting order w + weigh (marked_at ms left) w
all_weigh ms order [] w b = refl
all_weigh ms order (j ∷ left) w b =
    let l : length (slice_set ms j true) ≡ length ms = length-set ms j true in
    let i : waiting (ordered_all (slice_set ms j true) (ordered ms order j) left) w + weigh (slice_set ms j true) w ≡ waiting (ordered ms order j) w + weigh (marked_at (slice_set ms j true) left) w =
    all_weigh (slice_set ms j true) (ordered ms order j) left w (λ i k. (let m : i < length ms = b i (inr k) in omega arith)) in
    let p = put_weighs ms order j w (b j (inl refl)) in
    omega arith

pub weigh_all : (ms : List Bool) (w : ℕ → ℕ) → weigh ms w ≤ weigh (replicate (length ms) true) w
weigh_all [] w = omega arith
weigh_all (true ∷ ms) w = let i = weigh_all ms (λ i. w (suc i)) in omega arith
weigh_all (false ∷ ms) w = let i = weigh_all ms (λ i. w (suc i)) in omega arith
