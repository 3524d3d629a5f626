-- Entries that correspond, in the same pools, give the same pools of the output.
use Rattle.std.specs.Prelude.{◌≡◌, ℕ, ◌&&◌, ◌==◌, Bool, true, false, List, [], ◌∷◌, map, filter, if◌then◌else◌, ⊤}
use Rattle.std.specs.List.{AllByRecursion}
use Rattle.std.proofs.Common.{ap, arith, refl, sym, ◌∙◌}
use Rattle.std.proofs.lemmas.Bool.Decides.{nat_tests}
use Rattle.jfr_pool.specs.declared.entry.EntryAt.{EntryAt}
use Rattle.jfr_chunk.specs.Written.{Group, add_entry, by_pool}
use Rattle.jfr_laws.specs.Told.{told_pool, told_pools}
use Rattle.jfr_laws.specs.SameKept.{SamePools}

module _ (R : EntryAt → EntryAt → Type 0) where
  -- The entries correspond one to one, in order, and are in the same pools.
  abbrev pub Related : List EntryAt → List EntryAt → Type 0
  Related [] [] = ⊤
  Related (e ∷ es) (f ∷ fs) = R e f × SamePools e f es fs × Related es fs
  Related [] (f ∷ fs) = ⊥
  Related (e ∷ es) [] = ⊥

  -- A test that answers alike for both.
  abbrev pub AnswersAlike : (EntryAt → Bool) → (EntryAt → Bool) → Type 0
  AnswersAlike t u = (e f : EntryAt) → R e f → t e ≡ u f

  pub pools_filter : (t u : EntryAt → Bool) → AnswersAlike t u → (x y : EntryAt) (es fs : List EntryAt) → Related es fs → SamePools x y es fs → SamePools x y (filter t es) (filter u fs)
  pools_filter t u l x y [] [] r s = tt
  pools_filter t u l x y [] (f ∷ fs) r s = absurd r
  pools_filter t u l x y (e ∷ es) [] r s = absurd r
  pools_filter t u l x y (e ∷ es) (f ∷ fs) r s = by_test (t e) (u f) (l e f r.0) (pools_filter t u l x y es fs r.2 s.1)
    where
      by_test : (b c : Bool) → b ≡ c → SamePools x y (filter t es) (filter u fs) → SamePools x y (if b then e ∷ filter t es else filter t es) (if c then f ∷ filter u fs else filter u fs)
      by_test true true h i = (s.0, i)
      by_test false false h i = i
      by_test true false h i = cc
      by_test false true h i = cc

  pub related_filter : (t u : EntryAt → Bool) → AnswersAlike t u → (es fs : List EntryAt) → Related es fs → Related (filter t es) (filter u fs)
  related_filter t u l [] [] r = tt
  related_filter t u l [] (f ∷ fs) r = absurd r
  related_filter t u l (e ∷ es) [] r = absurd r
  related_filter t u l (e ∷ es) (f ∷ fs) r = by_test (t e) (u f) (l e f r.0) (related_filter t u l es fs r.2)
    where
      by_test : (b c : Bool) → b ≡ c → Related (filter t es) (filter u fs) → Related (if b then e ∷ filter t es else filter t es) (if c then f ∷ filter u fs else filter u fs)
      by_test true true h i = (r.0, pools_filter t u l e f es fs r.2 r.1, i)
      by_test false false h i = i
      by_test true false h i = cc
      by_test false true h i = cc

  -- The pools of a checkpoint.
  module _ (left right : EntryAt → List ℕ) (class : (e f : EntryAt) → R e f → e.class ≡ f.class) (checkpoint : (e f : EntryAt) → R e f → e.checkpoint ≡ f.checkpoint) (bytes : (e f : EntryAt) → R e f → left e ≡ right f) where
    abbrev Groups : List Group → List Group → Type 0
    Groups [] [] = ⊤
    Groups (g ∷ gs) (h ∷ hs) = (g.class ≡ h.class) × (map left g.entries ≡ map right h.entries) × Groups gs hs
    Groups [] (h ∷ hs) = ⊥
    Groups (g ∷ gs) [] = ⊥

    groups_told : (gs hs : List Group) → Groups gs hs → map (told_pool left) gs ≡ map (told_pool right) hs
    groups_told [] [] r = refl
    groups_told [] (h ∷ hs) r = absurd r
    groups_told (g ∷ gs) [] r = absurd r
    groups_told (g ∷ gs) (h ∷ hs) r = λ i. record { class = r.0 i; entries = r.1 i } ∷ groups_told gs hs r.2 i

    -- The first group has the pool and the class of the first entry.
    abbrev HeadOf : List EntryAt → List Group → Type 0
    HeadOf [] gs = gs ≡ []
    HeadOf (e ∷ es) [] = ⊥
    HeadOf (e ∷ es) (g ∷ gs) = (g.pool ≡ e.pool) × (g.class ≡ e.class)

    both_true : (t u : Bool) → (t && u) ≡ true → (t ≡ true) × (u ≡ true)
    both_true true true e = (refl, refl)
    both_true true false e = cc
    both_true false u e = cc

    equal_of : (m n : ℕ) → (m == n) ≡ true → n ≡ m
    equal_of m n e = grind (arith, nat_tests)

    head_of : (e : EntryAt) (es : List EntryAt) → HeadOf (e ∷ es) (by_pool (e ∷ es))
    head_of e es = by_groups (by_pool es)
      where
        by_groups : (gs : List Group) → HeadOf (e ∷ es) (add_entry e gs)
        by_groups [] = (refl, refl)
        by_groups (g ∷ gs) = by_test ((e.pool == g.pool) && (e.class == g.class)) refl
          where
            by_test : (t : Bool) → ((e.pool == g.pool) && (e.class == g.class)) ≡ t
                → HeadOf (e ∷ es) (if t then record { class = g.class; pool = g.pool; entries = e ∷ g.entries } ∷ gs else record { class = e.class; pool = e.pool; entries = e ∷ [] } ∷ (g ∷ gs))
            by_test true h = let k = both_true (e.pool == g.pool) (e.class == g.class) h in (equal_of e.pool g.pool k.0, equal_of e.class g.class k.1)
            by_test false h = (refl, refl)

    added_alike : (e f : EntryAt) (gs hs : List Group) → R e f → Groups gs hs → (t u : Bool) → t ≡ u → (g h : Group) → g.class ≡ h.class → map left g.entries ≡ map right h.entries
        → Groups (if t then record { class = g.class; pool = g.pool; entries = e ∷ g.entries } ∷ gs else record { class = e.class; pool = e.pool; entries = e ∷ [] } ∷ (g ∷ gs))
        (if u then record { class = h.class; pool = h.pool; entries = f ∷ h.entries } ∷ hs else record { class = f.class; pool = f.pool; entries = f ∷ [] } ∷ (h ∷ hs))
    added_alike e f gs hs r s true true q g h c m = (c, λ i. bytes e f r i ∷ m i, s)
    added_alike e f gs hs r s false false q g h c m = (class e f r, ap (λ z. z ∷ []) (bytes e f r), (c, m, s))
    added_alike e f gs hs r s true false q g h c m = cc
    added_alike e f gs hs r s false true q g h c m = cc

    same_test : (e f d w : EntryAt) (g h : Group) → (e.pool == d.pool) ≡ (f.pool == w.pool) → e.class ≡ f.class → d.class ≡ w.class → g.pool ≡ d.pool → g.class ≡ d.class → h.pool ≡ w.pool
        → h.class ≡ w.class
        → ((e.pool == g.pool) && (e.class == g.class)) ≡ ((f.pool == h.pool) && (f.class == h.class))
    same_test e f d w g h p c k gp gc hp hc =
        (λ i. (e.pool == gp i) && (c i == gc i)) ∙ ((λ i. p i && (f.class == k i)) ∙ (λ i. (f.pool == sym hp i) && (f.class == sym hc i)))

    groups_alike : (n : ℕ) (es fs : List EntryAt) → Related es fs → AllByRecursion (λ e. (e.checkpoint == n) ≡ true) es → Groups (by_pool es) (by_pool fs)
    groups_alike n [] [] r a = tt
    groups_alike n [] (f ∷ fs) r a = absurd r
    groups_alike n (e ∷ es) [] r a = absurd r
    groups_alike n (e ∷ []) (f ∷ []) r a = (class e f r.0, ap (λ z. z ∷ []) (bytes e f r.0), tt)
    groups_alike n (e ∷ []) (f ∷ (w ∷ fs)) r a = absurd r.1
    groups_alike n (e ∷ (d ∷ es)) (f ∷ []) r a = absurd r.1
    groups_alike n (e ∷ (d ∷ es)) (f ∷ (w ∷ fs)) r a =
        by_groups (by_pool (d ∷ es)) (by_pool (w ∷ fs)) (head_of d es) (head_of w fs) (groups_alike n (d ∷ es) (w ∷ fs) r.2 a.1)
      where
        same : e.checkpoint ≡ d.checkpoint
        same = sym (equal_of e.checkpoint n a.0) ∙ equal_of d.checkpoint n a.1.0

        by_groups : (gs hs : List Group) → HeadOf (d ∷ es) gs → HeadOf (w ∷ fs) hs → Groups gs hs → Groups (add_entry e gs) (add_entry f hs)
        by_groups [] hs x y s = absurd x
        by_groups (g ∷ gs) [] x y s = absurd y
        by_groups (g ∷ gs) (h ∷ hs) x y s =
            added_alike e f gs hs r.0 s.2 ((e.pool == g.pool) && (e.class == g.class)) ((f.pool == h.pool) && (f.class == h.class))
            (same_test e f d w g h (r.1.0 same) (class e f r.0) (class d w r.2.0) x.0 x.1 y.0 y.1) g h s.0 s.1

    passes : (t : EntryAt → Bool) (es : List EntryAt) → AllByRecursion (λ e. t e ≡ true) (filter t es)
    passes t [] = tt
    passes t (e ∷ es) = by_test (t e) refl (passes t es)
      where
        by_test : (b : Bool) → t e ≡ b → AllByRecursion (λ e. t e ≡ true) (filter t es) → AllByRecursion (λ e. t e ≡ true) (if b then e ∷ filter t es else filter t es)
        by_test true h i = (h, i)
        by_test false h i = i

    pub pools_alike : (n : ℕ) (es fs : List EntryAt) → Related es fs → told_pools left es n ≡ told_pools right fs n
    pools_alike n es fs r =
        let t : EntryAt → Bool = λ e. e.checkpoint == n in
        let x = filter t es in
        let y = filter t fs in
        let k : Related x y = related_filter t t (λ e f s. ap (λ z. z == n) (checkpoint e f s)) es fs r in
        groups_told (by_pool x) (by_pool y) (groups_alike n x y k (passes t es))
