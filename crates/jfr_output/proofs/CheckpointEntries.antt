-- Entries in the order of their checkpoints.
use Rattle.std.specs.Prelude.{◌≡◌, ℕ, zero, suc, ◌+◌, ◌<◌, ◌≤◌, Bool, true, false, ◌==◌, List, [], ◌∷◌, ◌++◌, length, map, reverse, take, drop, filter, cond}
use Rattle.std.specs.List.{AllByRecursion, AllWithin}
use Rattle.std.proofs.Common.{ap, arith, refl, sym, ◌∙◌, subst, get_or, ltb, leb, ltb-true, ltb-false, leb-true, leb-false}
use Rattle.std.proofs.lemmas.List.{append-nil, take-append-drop}
use Rattle.std.proofs.lemmas.Bool.Decides.{nat_tests}
use Rattle.jfr_layout.specs.Classes.{Classes}
use Rattle.jfr_pool.specs.declared.link.Link.{Link}
use Rattle.jfr_pool.specs.declared.entry.EntryAt.{EntryAt}
use Rattle.jfr_pool.specs.Entries.{Constant, PoolAt, entry_of, entries_from, AreEntries}
use Rattle.jfr_chunk.specs.Parts.{Parts, AreParts}
use Rattle.jfr_chunk.specs.Reach.{marked}
use Rattle.jfr_output.specs.Remaining.{NotFalling}

pub falling_less : (m n : ℕ) (es : List EntryAt) → m ≤ n → NotFalling n es → NotFalling m es
falling_less m n [] h b = tt
falling_less m n (e ∷ es) h b = let i : n ≤ e.checkpoint = b.0 in (omega arith, b.1)

-- The entries of the checkpoints before number n, of this one, and of those after it.
pub record Parted (es before rest here behind : List EntryAt) (n : ℕ) : Type 0 where
  pub all : es ≡ before ++ rest
  pub some : rest ≡ here ++ behind
  pub low : AllByRecursion (λ e. e.checkpoint < n) before
  pub this : AllByRecursion (λ e. e.checkpoint ≡ n) here
  pub high : AllByRecursion (λ e. e.checkpoint ≡ n → ⊥) behind

abbrev none_of : ℕ → EntryAt → Bool
none_of n e = e.checkpoint == n

filter_append : (n : ℕ) (xs ys : List EntryAt) → filter (none_of n) (xs ++ ys) ≡ filter (none_of n) xs ++ filter (none_of n) ys
filter_append n [] ys = refl
filter_append n (x ∷ xs) ys = by_test (none_of n x) (filter_append n xs ys)
  where
    by_test : (b : Bool) → filter (none_of n) (xs ++ ys) ≡ filter (none_of n) xs ++ filter (none_of n) ys
        → cond b (x ∷ filter (none_of n) (xs ++ ys)) (filter (none_of n) (xs ++ ys)) ≡ cond b (x ∷ filter (none_of n) xs) (filter (none_of n) xs) ++ filter (none_of n) ys
    by_test true h = ap (λ z. x ∷ z) h
    by_test false h = h

filter_none : (n : ℕ) (xs : List EntryAt) → AllByRecursion (λ e. e.checkpoint ≡ n → ⊥) xs → filter (none_of n) xs ≡ []
filter_none n [] a = refl
filter_none n (x ∷ xs) a = let t : (x.checkpoint == n) ≡ false = differs x.checkpoint n a.0 in ap (λ b. cond b (x ∷ filter (none_of n) xs) (filter (none_of n) xs)) t ∙ filter_none n xs a.1
  where
    differs : (k m : ℕ) → (k ≡ m → ⊥) → (k == m) ≡ false
    differs k m h = by_test (k == m) refl
      where
        by_test : (b : Bool) → (k == m) ≡ b → b ≡ false
        by_test true t = absurd (h (grind (arith, t)))
        by_test false t = refl

filter_all : (n : ℕ) (xs : List EntryAt) → AllByRecursion (λ e. e.checkpoint ≡ n) xs → filter (none_of n) xs ≡ xs
filter_all n [] a = refl
filter_all n (x ∷ xs) a = let q : x.checkpoint ≡ n = a.0 in let t : (x.checkpoint == n) ≡ true =
    grind (arith, nat_tests) in ap (λ b. cond b (x ∷ filter (none_of n) xs) (filter (none_of n) xs)) t ∙ ap (λ z. x ∷ z) (filter_all n xs a.1)

low_differ : (n : ℕ) (xs : List EntryAt) → AllByRecursion (λ e. e.checkpoint < n) xs → AllByRecursion (λ e. e.checkpoint ≡ n → ⊥) xs
low_differ n [] a = tt
low_differ n (x ∷ xs) a = ((λ e. let h : x.checkpoint < n = a.0 in absurd (omega arith)), low_differ n xs a.1)

pub parted_here : (es before rest here behind : List EntryAt) (n : ℕ) → Parted es before rest here behind n → here ≡ filter (λ e. e.checkpoint == n) es
parted_here es before rest here behind n p =
    sym (ap (filter (none_of n)) p.all ∙ (filter_append n before rest ∙ (ap (λ z. z ++ filter (none_of n) rest) (filter_none n before (low_differ n before p.low))
    ∙ (ap (filter (none_of n)) p.some ∙ (filter_append n here behind
    ∙ (ap (λ z. filter (none_of n) here ++ z) (filter_none n behind p.high) ∙ (append-nil (filter (none_of n) here) ∙ filter_all n here p.this)))))))

-- What holds at the first places holds of the first members, and so for the others.
within_take : (P : EntryAt → Type 0) (xs : List EntryAt) (k : ℕ) → k ≤ length xs → AllWithin P xs 0 k → AllByRecursion P (take k xs)
within_take P xs zero h a = tt
within_take P [] (suc k) h a = tt
within_take P (x ∷ xs) (suc k) h a = (a 0 x (omega arith) (omega arith), within_take P xs k (omega arith) (λ i d l m. a (suc i) d (omega arith) (omega arith)))

within_drop : (P : EntryAt → Type 0) (xs : List EntryAt) (k : ℕ) → AllWithin P xs k (length xs) → AllByRecursion P (drop k xs)
within_drop P [] zero a = tt
within_drop P [] (suc k) a = tt
within_drop P (x ∷ xs) zero a = (a 0 x (omega arith) (omega arith), within_drop P xs zero (λ i d l m. a (suc i) d (omega arith) (omega arith)))
within_drop P (x ∷ xs) (suc k) a = within_drop P xs k (λ i d l m. a (suc i) d (omega arith) (omega arith))

-- Entries that don't fall, by their places.
pub falling_at : (n : ℕ) (es : List EntryAt) → NotFalling n es → (i j : ℕ) (d : EntryAt) → i ≤ j → j < length es
    → (n ≤ (get_or es i d).checkpoint) × ((get_or es i d).checkpoint ≤ (get_or es j d).checkpoint)
falling_at n [] a i j d h l = absurd (omega arith)
falling_at n (e ∷ es) a zero zero d h l = (a.0, omega arith)
falling_at n (e ∷ es) a zero (suc j) d h l = let r = falling_at e.checkpoint es a.1 j j d (omega arith) (omega arith) in (a.0, r.0)
falling_at n (e ∷ es) a (suc i) zero d h l = absurd (omega arith)
falling_at n (e ∷ es) a (suc i) (suc j) d h l = let r = falling_at e.checkpoint es a.1 i j d (omega arith) (omega arith) in let q : n ≤ e.checkpoint = a.0 in (omega (arith, r.0), r.1)

pub falling_drop : (n : ℕ) (es : List EntryAt) (k : ℕ) → NotFalling n es → NotFalling 0 (drop k es)
falling_drop n es zero a = falling_less 0 n es (omega arith) a
falling_drop n [] (suc k) a = tt
falling_drop n (e ∷ es) (suc k) a = falling_drop e.checkpoint es k a.1

low_of : (n : ℕ) (es : List EntryAt) → AllByRecursion (λ e. ltb e.checkpoint n ≡ true) es → AllByRecursion (λ e. e.checkpoint < n) es
low_of n [] a = tt
low_of n (e ∷ es) a = (ltb-true e.checkpoint n a.0, low_of n es a.1)

this_of : (n k : ℕ) (es : List EntryAt) → AllByRecursion (λ e. ltb e.checkpoint n ≡ false) es → AllByRecursion (λ e. leb e.checkpoint n ≡ true) (take k es)
    → AllByRecursion (λ e. e.checkpoint ≡ n) (take k es)
this_of n zero es a b = tt
this_of n (suc k) [] a b = tt
this_of n (suc k) (e ∷ es) a b = let f = ltb-false e.checkpoint n a.0 in let g = leb-true e.checkpoint n b.0 in (omega arith, this_of n k es a.1 b.1)

high_of : (n : ℕ) (es : List EntryAt) → AllByRecursion (λ e. leb e.checkpoint n ≡ false) es → AllByRecursion (λ e. e.checkpoint ≡ n → ⊥) es
high_of n [] a = tt
high_of n (e ∷ es) a = ((λ q. let f = leb-false e.checkpoint n a.0 in absurd (omega arith)), high_of n es a.1)

-- The entries of checkpoint n, between two indices.
pub entries_here : (es : List EntryAt) (n k m : ℕ) → k ≤ length es → AllWithin (λ e. ltb e.checkpoint n ≡ true) es 0 k → AllWithin (λ e. ltb e.checkpoint n ≡ false) es k (length es) →
    m ≤ length (drop k es) → AllWithin (λ e. leb e.checkpoint n ≡ true) (drop k es) 0 m → AllWithin (λ e. leb e.checkpoint n ≡ false) (drop k es) m (length (drop k es)) →
    take m (drop k es) ≡ filter (λ e. e.checkpoint == n) es
entries_here es n k m h a b i c d =
    parted_here es (take k es) (drop k es) (take m (drop k es)) (drop m (drop k es)) n
    (record {
      all = sym (take-append-drop k es);
      some = sym (take-append-drop m (drop k es));
      low = low_of n (take k es) (within_take _ es k h a);
      this = this_of n m (drop k es) (within_drop _ es k b) (within_take _ (drop k es) m i c);
      high = high_of n (drop m (drop k es)) (within_drop _ (drop k es) m d);
    })

pub entries_between : (es rest here : List EntryAt) (n k m : ℕ) → rest ≡ drop k es → here ≡ take m rest → k ≤ length es → AllWithin (λ e. ltb e.checkpoint n ≡ true) es 0 k
    → AllWithin (λ e. ltb e.checkpoint n ≡ false) es k (length es) →
    m ≤ length rest → AllWithin (λ e. leb e.checkpoint n ≡ true) rest 0 m → AllWithin (λ e. leb e.checkpoint n ≡ false) rest m (length rest) → here ≡ filter (λ e. e.checkpoint == n) es
entries_between es rest here n k m r t h a b i c d =
    t ∙ (ap (take m) r ∙ entries_here es n k m h a b (subst (λ z. m ≤ length z) r i) (subst (λ z. AllWithin (λ e. leb e.checkpoint n ≡ true) z 0 m) r c)
    (subst (λ z. AllWithin (λ e. leb e.checkpoint n ≡ false) z m (length z)) r d))

pub falling_marked : (n : ℕ) (ms : List Bool) (es : List EntryAt) → NotFalling n es → NotFalling n (marked ms es)
falling_marked n [] es b = tt
falling_marked n (m ∷ ms) [] b = tt
falling_marked n (true ∷ ms) (e ∷ es) b = (b.0, falling_marked e.checkpoint ms es b.1)
falling_marked n (false ∷ ms) (e ∷ es) b = falling_less n e.checkpoint (marked ms es) b.0 (falling_marked e.checkpoint ms es b.1)

-- Entries of one checkpoint, and then later ones.
falling_append : (n : ℕ) (xs ys : List EntryAt) → AllByRecursion (λ e. e.checkpoint ≡ n) xs → NotFalling n ys → NotFalling n (xs ++ ys)
falling_append n [] ys b d = d
falling_append n (x ∷ xs) ys b d =
    let q : x.checkpoint ≡ n = b.0 in
    (omega arith, subst (λ m. NotFalling m (xs ++ ys)) (sym q) (falling_append n xs ys b.1 d))

constants_number : (checkpoint number class : ℕ) (xs : List Constant) (ys : List EntryAt) → AllByRecursion (λ e. e.checkpoint ≡ checkpoint) ys
    → AllByRecursion (λ e. e.checkpoint ≡ checkpoint) (map (entry_of checkpoint number class) xs ++ ys)
constants_number checkpoint number class [] ys b = b
constants_number checkpoint number class (x ∷ xs) ys b = (refl, constants_number checkpoint number class xs ys b)

pub pools_number : (checkpoint number : ℕ) (ps : List PoolAt) → AllByRecursion (λ e. e.checkpoint ≡ checkpoint) (entries_from checkpoint number ps)
pools_number checkpoint number [] = tt
pools_number checkpoint number (p ∷ ps) = constants_number checkpoint number p.class p.constants (entries_from checkpoint (number + 1) ps) (pools_number checkpoint (number + 1) ps)

entries_order : (c : List ℕ) (k : Classes) (n : ℕ) (ls : List Link) (es : List EntryAt) → AreEntries c k n ls es → NotFalling n es
entries_order c k n [] es b = subst (NotFalling n) (sym b) tt
entries_order c k n (l ∷ ls) es b =
    subst (NotFalling n) (sym b.3) (falling_append n (entries_from n 0 b.0) b.2 (pools_number n 0 b.0) (falling_less n (n + 1) b.2 (omega arith) (entries_order c k (n + 1) ls b.2 b.4)))

-- The entries of a chunk are in this order, and so are those of them that are marked.
pub marked_order : (p : Parts) (ms : List Bool) → AreParts p → NotFalling 0 (marked ms p.entries)
marked_order p ms a = falling_marked 0 ms p.entries (entries_order p.bytes p.classes 0 (reverse p.chain) p.entries a.entries)
