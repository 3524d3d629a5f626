-- Lines in order, and the parents of their entries.
use Rattle.std.specs.Prelude.{◌≡◌, ◌⊎◌, ◌<◌, ◌+◌, ℕ, zero, suc, Bool, true, false, List, [], ◌∷◌, ◌++◌, take, length, replicate, slice_get, slice_set, slice_index_or, Option, Some, None, if◌then◌else◌}
use Rattle.std.specs.Option.{option_map_or}
use Rattle.std.proofs.Common.{ap, arith, refl, sym, ◌∙◌, subst, inl, inr}
use Rattle.std.proofs.lemmas.Option.{slice_get_within}
use Rattle.std.proofs.lemmas.List.{length-set, length-replicate}
use Rattle.jfr_worklist.specs.Marks.{is_marked, IsMarked}
use Rattle.jfr_worklist.specs.Members.{In}
use Rattle.jfr_worklist.proofs.Members.{contains_in, in_contains}
use Rattle.jfr_verify.specs.declared.line.Line.{Line}
use Rattle.jfr_verify.specs.declared.line.Parent.{Parent}
use Rattle.jfr_verify.specs.declared.line.Parent.TheVariants.{OfEvent, OfEntry}
use Rattle.jfr_verify.specs.Parents.{IsBefore, IsOrdered, AreOrdered, AreParentsOf, is_before, is_next}
use Rattle.jfr_worklist.proofs.MarkLaws.{set_here, set_stays, set_only, none_marked}
use Rattle.jfr_layout.proofs.Lists.{present, take_next}

-- The entries that have lines after these.
abbrev pub after : List ℕ → List Line → List ℕ
after before [] = before
after before (l ∷ ls) = after (l.entry ∷ before) ls

pub after_one : (before : List ℕ) (ls : List Line) (l : Line) → after before (ls ++ l ∷ []) ≡ l.entry ∷ after before ls
after_one before [] l = refl
after_one before (m ∷ ls) l = after_one (m.entry ∷ before) ls l

pub in_after : (before : List ℕ) (ls : List Line) (i : ℕ) → In before i → In (after before ls) i
in_after before [] i k = k
in_after before (l ∷ ls) i k = in_after (l.entry ∷ before) ls i (inr k)

pub member_after : (before : List ℕ) (ls : List Line) (l : Line) → In ls l → In (after before ls) l.entry
member_after before [] l i = absurd i
member_after before (m ∷ ls) l (inl e) = in_after (m.entry ∷ before) ls l.entry (inl (ap (λ (z : Line). z.entry) e))
member_after before (m ∷ ls) l (inr i) = member_after (m.entry ∷ before) ls l i

pub behind_member : (before : List ℕ) (ls : List Line) (i : ℕ) → In (after before ls) i → In before i ⊎ ((l : Line) × In ls l × (l.entry ≡ i))
behind_member before [] i k = inl k
behind_member before (l ∷ ls) i k = by_case (behind_member (l.entry ∷ before) ls i k)
  where
    by_case : In (l.entry ∷ before) i ⊎ ((m : Line) × In ls m × (m.entry ≡ i)) → In before i ⊎ ((m : Line) × In (l ∷ ls) m × (m.entry ≡ i))
    by_case (inl (inl e)) = inr (l, inl refl, e)
    by_case (inl (inr j)) = inl j
    by_case (inr m) = inr (m.0, inr m.1, m.2)

get_index : (xs : List Bool) (i : ℕ) (x : Bool) → slice_get xs i ≡ Some x → is_marked xs i ≡ x
get_index [] i x e = cc
get_index (y ∷ ys) zero x e = let h : y ≡ x = cc in h
get_index (y ∷ ys) (suc i) x e = get_index ys i x e

get_same : {X : Type 0} (xs : List X) (j : ℕ) (x : X) → j < length xs → slice_get (slice_set xs j x) j ≡ Some x
get_same [] j x h = absurd (omega arith)
get_same (y ∷ ys) zero x h = refl
get_same (y ∷ ys) (suc j) x h = get_same ys j x (omega arith)

get_other : {X : Type 0} (xs : List X) (j i : ℕ) (x : X) → (i ≡ j → ⊥) → slice_get (slice_set xs j x) i ≡ slice_get xs i
get_other [] j i x n = refl
get_other (y ∷ ys) zero zero x n = absurd (n refl)
get_other (y ∷ ys) zero (suc i) x n = refl
get_other (y ∷ ys) (suc j) zero x n = refl
get_other (y ∷ ys) (suc j) (suc i) x n = get_other ys j i x (λ e. n (ap (λ z. suc z) e))

ordered_one : (count : ℕ) (before : List ℕ) (ls : List Line) (l : Line) → AreOrdered count before ls → IsOrdered count (after before ls) l → AreOrdered count before (ls ++ l ∷ [])
ordered_one count before [] l a i = (i, tt)
ordered_one count before (m ∷ ls) l a i = (a.0, ordered_one count (m.entry ∷ before) ls l a.1 i)

ordered_at : (count : ℕ) (before : List ℕ) (ls : List Line) (k : ℕ) (l : Line) → AreOrdered count before ls → slice_get ls k ≡ Some l → IsOrdered count (after before (take k ls)) l
ordered_at count before [] k l a e = cc
ordered_at count before (m ∷ ls) zero l a e = let h : m ≡ l = cc in subst (IsOrdered count before) h a.0
ordered_at count before (m ∷ ls) (suc k) l a e = ordered_at count (m.entry ∷ before) ls k l a.1 e

-- What holds after the first lines.
pub record InOwners (count : ℕ) (ls : List Line) (seen : List Bool) (parents : List Parent) : Type 0 where
  pub size : length seen ≡ count
  pub parents_size : length parents ≡ count
  pub ordered : AreOrdered count [] ls
  pub marked_in : (i : ℕ) → IsMarked seen i → In (after [] ls) i
  pub in_marked : (i : ℕ) → In (after [] ls) i → IsMarked seen i
  pub own : (l : Line) → In ls l → slice_get parents l.entry ≡ Some l.parent

pub owners_start : (count : ℕ) (seen : List Bool) (parents : List Parent) (p : Parent) → seen ≡ replicate count false → parents ≡ replicate count p → InOwners count [] seen parents
owners_start count seen parents p a b = record {
  size = ap length a ∙ length-replicate count false;
  parents_size = ap length b ∙ length-replicate count p;
  ordered = tt;
  marked_in = λ i m. absurd (none_marked count i (subst (λ z. IsMarked z i) a m));
  in_marked = λ i k. absurd k;
  own = λ l k. absurd k;
}

module _ (count : ℕ) (ls : List Line) (seen : List Bool) (parents : List Parent) (h : InOwners count ls seen parents) (l : Line) where
  before_is : (p : Parent) → is_before seen p ≡ true → IsBefore (after [] ls) p
  before_is (OfEvent n) e = tt
  before_is (OfEntry n) e = in_contains (after [] ls) n (h.marked_in n e)

  is_before_of : (p : Parent) → IsBefore (after [] ls) p → is_before seen p ≡ true
  is_before_of (OfEvent n) e = refl
  is_before_of (OfEntry n) e = h.in_marked n (contains_in (after [] ls) n e)

  clash : (t : Bool) → t ≡ true → t ≡ false → ⊥
  clash t p q = cc

  pub next_ordered : is_next seen l ≡ true → IsOrdered count (after [] ls) l
  next_ordered e = by_flag (slice_get seen l.entry) refl e
    where
      by_flag : (o : Option Bool) → slice_get seen l.entry ≡ o → option_map_or (λ flag. if flag then false else is_before seen l.parent) o false ≡ true → IsOrdered count (after [] ls) l
      by_flag None q e = cc
      by_flag (Some true) q e = cc
      by_flag (Some false) q e =
          let w = slice_get_within seen l.entry false q in
          record {
            below = omega (arith, w, h.size);
            fresh = λ k. clash (is_marked seen l.entry) (h.in_marked l.entry (contains_in (after [] ls) l.entry k))
                (get_index seen l.entry false q);
            parent = before_is l.parent e;
          }

  pub ordered_next : IsOrdered count (after [] ls) l → is_next seen l ≡ true
  ordered_next i =
      let g = present seen l.entry (omega (arith, i.below, h.size)) in
      by_flag g.0 g.1
    where
      by_flag : (b : Bool) → slice_get seen l.entry ≡ Some b → is_next seen l ≡ true
      by_flag true q = absurd (i.fresh (in_contains (after [] ls) l.entry (h.marked_in l.entry (get_index seen l.entry true q))))
      by_flag false q = ap (λ o. option_map_or (λ flag. if flag then false else is_before seen l.parent) o false) q ∙ is_before_of l.parent i.parent

  in_one : (ms : List Line) (m : Line) → In (ms ++ l ∷ []) m → In ms m ⊎ (l ≡ m)
  in_one [] m (inl e) = inr e
  in_one [] m (inr k) = absurd k
  in_one (x ∷ ms) m (inl e) = inl (inl e)
  in_one (x ∷ ms) m (inr k) = by_case (in_one ms m k)
    where
      by_case : In ms m ⊎ (l ≡ m) → In (x ∷ ms) m ⊎ (l ≡ m)
      by_case (inl j) = inl (inr j)
      by_case (inr e) = inr e

  owners_one : IsOrdered count (after [] ls) l → InOwners count (ls ++ l ∷ []) (slice_set seen l.entry true) (slice_set parents l.entry l.parent)
  owners_one i = record {
    size = length-set seen l.entry true ∙ h.size;
    parents_size = length-set parents l.entry l.parent ∙ h.parents_size;
    ordered = ordered_one count [] ls l h.ordered i;
    marked_in = λ j m. subst (λ z. In z j) (sym (after_one [] ls l)) (by_set j (set_only seen l.entry j m));
    in_marked = λ j k. by_line j (subst (λ z. In z j) (after_one [] ls l) k);
    own = λ m k. by_own m (in_one ls m k);
  }
    where
      by_set : (j : ℕ) → IsMarked seen j ⊎ (l.entry ≡ j) → In (l.entry ∷ after [] ls) j
      by_set j (inl m) = inr (h.marked_in j m)
      by_set j (inr e) = inl e

      by_line : (j : ℕ) → In (l.entry ∷ after [] ls) j → IsMarked (slice_set seen l.entry true) j
      by_line j (inl e) = subst (IsMarked (slice_set seen l.entry true)) e (set_here seen l.entry (omega (arith, i.below, h.size)))
      by_line j (inr k) = set_stays seen l.entry j (h.in_marked j k)

      by_own : (m : Line) → In ls m ⊎ (l ≡ m) → slice_get (slice_set parents l.entry l.parent) m.entry ≡ Some m.parent
      by_own m (inl k) = get_other parents l.entry m.entry l.parent (λ e. i.fresh (in_contains (after [] ls) l.entry (subst (In (after [] ls)) e (member_after [] ls m k)))) ∙ h.own m k
      by_own m (inr e) = subst (λ (z : Line). slice_get (slice_set parents l.entry l.parent) z.entry ≡ Some z.parent) e (get_same parents l.entry l.parent (omega (arith, i.below, h.parents_size)))

pub owners_next : (count : ℕ) (all : List Line) (k : ℕ) (l : Line) (seen more : List Bool) (parents now : List Parent) → slice_get all k ≡ Some l → InOwners count (take k all) seen parents
    → is_next seen l ≡ true
    → more ≡ slice_set seen l.entry true → now ≡ slice_set parents l.entry l.parent → InOwners count (take (k + 1) all) more now
owners_next count all k l seen more parents now g h e a b =
    subst (λ z. InOwners count z more now) (sym (take_next all k l g))
    (subst (λ z. InOwners count (take k all ++ l ∷ []) z now) (sym a) (subst (InOwners count (take k all ++ l ∷ []) (slice_set seen l.entry true)) (sym b)
    (owners_one count (take k all) seen parents h l (next_ordered count (take k all) seen parents h l e))))

pub owners_stop : (count : ℕ) (all : List Line) (k : ℕ) (l : Line) (seen : List Bool) (parents : List Parent) → slice_get all k ≡ Some l → InOwners count (take k all) seen parents
    → is_next seen l ≡ false → AreOrdered count [] all → ⊥
owners_stop count all k l seen parents g h e a = no (is_next seen l) (ordered_next count (take k all) seen parents h l (ordered_at count [] all k l a g)) e
  where
    no : (t : Bool) → t ≡ true → t ≡ false → ⊥
    no t p q = cc

all_own : (parents : List Parent) (ls : List Line) → ((l : Line) → In ls l → slice_get parents l.entry ≡ Some l.parent) → AreParentsOf parents ls
all_own parents [] f = tt
all_own parents (l ∷ ls) f = (f l (inl refl), all_own parents ls (λ m k. f m (inr k)))

all_of : {X : Type 0} (xs : List X) (n : ℕ) → length xs ≡ n → take n xs ≡ xs
all_of [] n e = by_number n
  where
    by_number : {X : Type 0} (n : ℕ) → take {A = X} n [] ≡ []
    by_number zero = refl
    by_number (suc n) = refl
all_of (x ∷ xs) zero e = cc
all_of (x ∷ xs) (suc n) e = ap (λ z. x ∷ z) (all_of xs n (omega arith))

pub owners_end : (count : ℕ) (all : List Line) (k : ℕ) (seen : List Bool) (parents : List Parent) → k ≡ length all → InOwners count (take k all) seen parents
    → AreOrdered count [] all × AreParentsOf parents all × (length parents ≡ count)
owners_end count all k seen parents e h =
    let i = subst (λ z. InOwners count z seen parents) (all_of all k (sym e)) h in
    (i.ordered, all_own parents all i.own, i.parents_size)

pub get_here : {X : Type 0} (xs : List X) (n : ℕ) (x d : X) → n < length xs → x ≡ slice_index_or xs n d → slice_get xs n ≡ Some x
get_here [] n x d h e = absurd (omega arith)
get_here (y ∷ ys) zero x d h e = ap (λ z. Some z) (sym e)
get_here (y ∷ ys) (suc n) x d h e = get_here ys n x d (omega arith) e
