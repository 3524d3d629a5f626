-- The loop that walks what is marked.
use Rattle.std.specs.Prelude.{◌≡◌, ◌↔◌, ℕ, zero, suc, ◌+◌, ◌<◌, ◌≤◌, Bool, true, false, List, [], ◌∷◌, ◌++◌, length, replicate, drop, take, slice_set, slice_index, ◌⊎◌, if◌then◌else◌}
use Rattle.std.proofs.Common.{ap, arith, refl, sym, ◌∙◌, inl, inr, subst}
use Rattle.std.proofs.lemmas.List.{length-replicate}
use Rattle.jfr_worklist.specs.Marks.{is_marked, IsMarked, marked_at}
use Rattle.jfr_worklist.specs.Members.{In}
use Rattle.jfr_worklist.proofs.SweepLaws.{Reach, AllBelow}
use Rattle.jfr_worklist.specs.Worklists.{ordered, ordered_all}
use Rattle.jfr_worklist.proofs.MarkLaws.{all_size, none_marked}
use Rattle.jfr_worklist.proofs.ClosureLaws.{Work, work_starts, work_takes, work_done}
use Rattle.jfr_worklist.proofs.PutLaws.{weigh, waiting, put_longer, work_all, all_weigh, weigh_all}

put_front : (f : List Bool) (o : List ℕ) (k t : ℕ) → k ≤ length o → take k (ordered f o t) ≡ take k o
put_front f o k t h = by_mark (is_marked f t)
  where
    front : (k : ℕ) (xs : List ℕ) → k ≤ length xs → take k (xs ++ (t ∷ [])) ≡ take k xs
    front zero xs h = refl
    front (suc k) [] h = absurd (omega arith)
    front (suc k) (x ∷ xs) h = ap (λ z. x ∷ z) (front k xs (omega arith))

    by_mark : (b : Bool) → take k (if b then o else o ++ (t ∷ [])) ≡ take k o
    by_mark true = refl
    by_mark false = front k o h

all_long : (f : List Bool) (o ts : List ℕ) (k : ℕ) → k ≤ length o → k ≤ length (ordered_all f o ts)
all_long f o [] k h = h
all_long f o (t ∷ ts) k h = all_long (slice_set f t true) (ordered f o t) ts k (put_longer f o k t h)

all_front : (f : List Bool) (o ts : List ℕ) (k : ℕ) → k ≤ length o → take k (ordered_all f o ts) ≡ take k o
all_front f o [] k h = refl
all_front f o (t ∷ ts) k h = all_front (slice_set f t true) (ordered f o t) ts k (put_longer f o k t h) ∙ put_front f o k t h

waiting_take : (o : List ℕ) (at : ℕ) (w : ℕ → ℕ) → at < length o → waiting (take (suc at) o) w ≡ waiting (take at o) w + w (slice_index o at)
waiting_take [] at w h = absurd (omega arith)
waiting_take (x ∷ o) zero w h = omega arith
waiting_take (x ∷ o) (suc at) w h = let i : waiting (take (suc at) o) w ≡ waiting (take at o) w + w (slice_index o at) = waiting_take o at w (omega arith) in omega arith

waiting_whole : (o : List ℕ) (at : ℕ) (w : ℕ → ℕ) → length o ≤ at → waiting (take at o) w ≡ waiting o w
waiting_whole [] zero w h = refl
waiting_whole [] (suc at) w h = refl
waiting_whole (x ∷ o) zero w h = absurd (omega arith)
waiting_whole (x ∷ o) (suc at) w h = let i : waiting (take at o) w ≡ waiting o w = waiting_whole o at w (omega arith) in omega arith

here_in : (o : List ℕ) (at : ℕ) → at < length o → In (drop at o) (slice_index o at)
here_in [] at h = absurd (omega arith)
here_in (x ∷ o) zero h = inl refl
here_in (x ∷ o) (suc at) h = here_in o at (omega arith)

less_in : (o : List ℕ) (at i : ℕ) → In (drop (suc at) o) i → In (drop at o) i
less_in [] zero i p = absurd p
less_in [] (suc at) i p = absurd p
less_in (x ∷ o) zero i p = inr p
less_in (x ∷ o) (suc at) i p = less_in o at i p

here_or_in : (o : List ℕ) (at i : ℕ) → In (drop at o) i → In (drop (suc at) o) i ⊎ (slice_index o at ≡ i)
here_or_in [] zero i p = absurd p
here_or_in [] (suc at) i p = absurd p
here_or_in (x ∷ o) zero i (inl e) = inr e
here_or_in (x ∷ o) zero i (inr p) = inl p
here_or_in (x ∷ o) (suc at) i p = here_or_in o at i p

none_past : (o : List ℕ) (at i : ℕ) → length o ≤ at → In (drop at o) i → ⊥
none_past [] zero i h p = p
none_past [] (suc at) i h p = p
none_past (x ∷ o) zero i h p = omega arith
none_past (x ∷ o) (suc at) i h p = none_past o at i (omega arith) p

weigh_none : (f : List Bool) (w : ℕ → ℕ) → ((i : ℕ) → IsMarked f i → ⊥) → weigh f w ≡ 0
weigh_none [] w h = refl
weigh_none (true ∷ f) w h = absurd (h 0 refl)
weigh_none (false ∷ f) w h = weigh_none f (λ i. w (suc i)) (λ i m. h (suc i) m)

module _ (n : ℕ) (next : ℕ → List ℕ) (roots : List ℕ) (weight : ℕ → ℕ) where
  -- What holds before each round.
  pub record Walking (steps : ℕ) (f : List Bool) (o : List ℕ) (at s : ℕ) : Type 0 where
    pub size : length f ≡ n
    pub within : at ≤ length o
    pub work : Work next roots (IsMarked f) (In (drop at o)) []
    pub weights : waiting o weight ≡ weigh f weight
    pub cost : s ≤ steps + waiting (take at o) weight

  -- What holds after the last round.
  pub record Walked (steps : ℕ) (f : List Bool) (s : ℕ) : Type 0 where
    pub size : length f ≡ n
    pub exact : (i : ℕ) → IsMarked f i ↔ Reach next roots i
    pub cost : s ≤ steps + weigh (replicate n true) weight

  pub walking_ends : (steps : ℕ) (f : List Bool) (o : List ℕ) (at s : ℕ) → length o ≤ at → Walking steps f o at s → Walked steps f s
  walking_ends steps f o at s h w =
      let a = waiting_whole o at weight h in
      let b : weigh f weight ≤ weigh (replicate n true) weight = subst (λ z. weigh f weight ≤ weigh (replicate z true) weight) w.size (weigh_all f weight) in
      let d = w.weights in
      let e = w.cost in
      record {
        size = w.size;
        exact = λ i. (w.work.found i, λ r. work_done next roots (IsMarked f) (In (drop at o)) w.work (λ i p. none_past o at i h p) r);
        cost = omega arith;
      }

  module _ (below : AllBelow n roots) (kept : (j : ℕ) → AllBelow n (next j)) where
    walking_starts : (steps s : ℕ) → s ≤ steps → Walking steps (marked_at (replicate n false) roots) (ordered_all (replicate n false) [] roots) 0 s
    walking_starts steps s few =
        let l : length (replicate n false) ≡ n = length-replicate n false in
        let c : AllBelow (length (replicate n false)) roots = λ i p. (let h : i < n = below i p in omega arith) in
        let z = weigh_none (replicate n false) weight (none_marked n) in
        let a = all_weigh (replicate n false) [] roots weight c in
        record {
          size = all_size (replicate n false) roots ∙ l;
          within = omega arith;
          work = work_all next roots (replicate n false) [] 0 roots (omega arith) c (work_starts next roots (IsMarked (replicate n false)) (In (drop 0 [])) (none_marked n) (λ i p. p));
          weights = omega arith;
          cost = omega arith;
        }

    walking_next : (steps : ℕ) (f : List Bool) (o : List ℕ) (at s : ℕ) → at < length o → Walking steps f o at s
        → Walking steps (marked_at f (next (slice_index o at))) (ordered_all f o (next (slice_index o at))) (suc at) (s + weight (slice_index o at))
    walking_next steps f o at s h w =
        let j : ℕ = slice_index o at in
        let l : length f ≡ n = w.size in
        let c : AllBelow (length f) (next (slice_index o at)) = λ i p. (let h : i < n = kept (slice_index o at) i p in omega arith) in
        let t = work_takes next roots (IsMarked f) (In (drop at o)) (In (drop (suc at) o)) (slice_index o at) w.work (here_in o at h) (less_in o at) (here_or_in o at) in
        let a = all_weigh f o (next (slice_index o at)) weight c in
        let e = ap (λ z. waiting z weight) (all_front f o (next (slice_index o at)) (suc at) (omega arith)) in
        let d = waiting_take o at weight h in
        let g = w.weights in
        let k = w.cost in
        record {
          size = all_size f (next (slice_index o at)) ∙ l;
          within = all_long f o (next (slice_index o at)) (suc at) (omega arith);
          work = work_all next roots f o (suc at) (next (slice_index o at)) (omega arith) c t;
          weights = omega arith;
          cost = omega arith;
        }

    pub started : (steps s : ℕ) (g : List Bool) (p : List ℕ) → g ≡ marked_at (replicate n false) roots → p ≡ ordered_all (replicate n false) [] roots → s ≤ steps → Walking steps g p 0 s
    started steps s g p h i few =
        subst (λ z. Walking steps z p 0 s) (sym h) (subst (λ z. Walking steps (marked_at (replicate n false) roots) z 0 s) (sym i) (walking_starts steps s few))

    pub went_on : (steps : ℕ) (f g : List Bool) (o p : List ℕ) (at s t j : ℕ) → at < length o → Walking steps f o at s
        → j ≡ slice_index o at → g ≡ marked_at f (next j) → p ≡ ordered_all f o (next j) → t ≡ s + weight j → Walking steps g p (at + 1) t
    went_on steps f g o p at s t j h w e x y z =
        let v = walking_next steps f o at s h w in
        let a : suc at ≡ at + 1 = omega arith in
        let q : Walking steps (marked_at f (next j)) (ordered_all f o (next j)) (suc at) (s + weight j) =
        subst (λ m. Walking steps (marked_at f (next m)) (ordered_all f o (next m)) (suc at) (s + weight m)) (sym e) v in
        subst (λ m. Walking steps g p m t) a
        (subst (λ m. Walking steps m p (suc at) t) (sym x)
        (subst (λ m. Walking steps (marked_at f (next j)) m (suc at) t) (sym y) (subst (λ m. Walking steps (marked_at f (next j)) (ordered_all f o (next j)) (suc at) m) (sym z) q)))
