-- Visiting the parents, one after another.
use Rattle.std.specs.Prelude.{◌≡◌, ◌⊎◌, ◌<◌, ◌≤◌, ◌+◌, ℕ, zero, suc, Bool, true, false, cond, List, [], ◌∷◌, ◌++◌, take, length, replicate, slice_get, slice_index_or, Option, Some, None}
use Rattle.std.specs.Option.{option_map_or}
use Rattle.std.specs.List.{list_all}
use Rattle.std.proofs.Common.{ap, arith, refl, sym, ◌∙◌, subst, inl, inr}
use Rattle.std.proofs.lemmas.Bool.{cases_lt}
use Rattle.std.proofs.lemmas.Option.{slice_get_within}
use Rattle.std.proofs.lemmas.List.{length-replicate, take_more}
use Rattle.jfr_value.specs.Nodes.{targets}
use Rattle.jfr_value.specs.Visits.{TakesAll}
use Rattle.jfr_pool.specs.declared.entry.EntryAt.{EntryAt}
use Rattle.jfr_pool.specs.Entries.{number_in_force, entry_node}
use Rattle.jfr_chunk.specs.Parts.{Parts, EventAt, events_of}
use Rattle.jfr_worklist.specs.Marks.{IsMarked, marked_at, those}
use Rattle.jfr_chunk.specs.Reach.{node_entries, next_entries}
use Rattle.jfr_pool.proofs.ForceLaws.{force_within}
use Rattle.jfr_worklist.specs.Members.{In}
use Rattle.jfr_worklist.proofs.Members.{contains_in, in_contains, in_those}
use Rattle.jfr_verify.specs.declared.claims.Claims.{Claims}
use Rattle.jfr_verify.specs.declared.line.Parent.{Parent}
use Rattle.jfr_verify.specs.declared.line.Parent.TheVariants.{OfEvent, OfEntry}
use Rattle.jfr_verify.specs.Claims.{RefersTo, IsConfirmed, AreClaimed, same_parent, is_parent_of, children, AreConfirmed}
use Rattle.jfr_verify.specs.Decided.{Decided}
use Rattle.jfr_verify.specs.Confirmed.{Confirms, ConfirmsOf, ConfirmsMore, ConfirmsEvents, ConfirmsEntries}
use Rattle.jfr_worklist.proofs.MarkLaws.{all_size, all_only, all_stay, all_here, all_append, none_marked}
use Rattle.jfr_chunk.proofs.RootLaws.{takes_those}

children_append : (ps : List Parent) (p : Parent) (xs ys : List ℕ) → children ps p (xs ++ ys) ≡ children ps p xs ++ children ps p ys
children_append ps p [] ys = refl
children_append ps p (x ∷ xs) ys = by_test (is_parent_of ps p x) (children_append ps p xs ys)
  where
    by_test : (b : Bool) → children ps p (xs ++ ys) ≡ children ps p xs ++ children ps p ys
        → cond b (x ∷ children ps p (xs ++ ys)) (children ps p (xs ++ ys)) ≡ cond b (x ∷ children ps p xs) (children ps p xs) ++ children ps p ys
    by_test true e = ap (λ z. x ∷ z) e
    by_test false e = e

confirms_none : (a : Claims) → Confirms [] a a
confirms_none a = record { confirmed = refl; parents = refl; parent = refl }

confirms_then : (xs ys : List ℕ) (a b c : Claims) → Confirms xs a b → Confirms ys b c → Confirms (xs ++ ys) a c
confirms_then xs ys a b c p q = record {
  confirmed =
      q.confirmed ∙ (ap (λ z. marked_at z (children b.parents.items b.parent ys)) p.confirmed
      ∙ (sym (all_append a.confirmed.items (children a.parents.items a.parent xs) (children b.parents.items b.parent ys))
      ∙ ap (marked_at a.confirmed.items) (ap (λ z. children a.parents.items a.parent xs ++ children z b.parent ys) p.parents
      ∙ (ap (λ z. children a.parents.items a.parent xs ++ children a.parents.items z ys) p.parent ∙ sym (children_append a.parents.items a.parent xs ys)))));
  parents = q.parents ∙ p.parents;
  parent = q.parent ∙ p.parent;
}

pub confirms_all : (es : List EntryAt) (ts : List (ℕ × ℕ)) (old new : Claims) → TakesAll (λ t a b. Confirms (those (number_in_force es) (t ∷ [])) a b) ts old new
    → Confirms (those (number_in_force es) ts) old new
confirms_all es = takes_those Confirms confirms_none confirms_then (number_in_force es)

pub confirms_more : (is : List ℕ) (at : ℕ) (old here new : Claims) → at < length is → Confirms (take at is) old here → Confirms (slice_index_or is at 0 ∷ []) here new
    → Confirms (take (at + 1) is) old new
confirms_more is at old here new h p q = subst (λ z. Confirms z old new) (sym (take_more is at 0 h)) (confirms_then (take at is) (slice_index_or is at 0 ∷ []) old here new p q)

same_is : (a b : Parent) → same_parent a b ≡ true → b ≡ a
same_is (OfEvent a) (OfEvent b) e = let q : b ≡ a = grind (arith, e) in ap OfEvent q
same_is (OfEntry a) (OfEntry b) e = let q : b ≡ a = grind (arith, e) in ap OfEntry q
same_is (OfEvent a) (OfEntry b) e = cc
same_is (OfEntry a) (OfEvent b) e = cc

is_self : (a : Parent) → same_parent a a ≡ true
is_self (OfEvent a) = grind arith
is_self (OfEntry a) = grind arith

parent_is : (ps : List Parent) (p : Parent) (t : ℕ) → is_parent_of ps p t ≡ true → slice_get ps t ≡ Some p
parent_is ps p t e = by_get (slice_get ps t) refl e
  where
    by_get : (o : Option Parent) → slice_get ps t ≡ o → option_map_or (same_parent p) o false ≡ true → slice_get ps t ≡ Some p
    by_get None q e = cc
    by_get (Some r) q e = q ∙ ap (λ z. Some z) (same_is p r e)

is_parent : (ps : List Parent) (p : Parent) (t : ℕ) → slice_get ps t ≡ Some p → is_parent_of ps p t ≡ true
is_parent ps p t e = ap (λ o. option_map_or (same_parent p) o false) e ∙ is_self p

in_children : (ps : List Parent) (p : Parent) (xs : List ℕ) (t : ℕ) → In (children ps p xs) t → In xs t × (slice_get ps t ≡ Some p)
in_children ps p [] t i = absurd i
in_children ps p (x ∷ xs) t i = by_test (is_parent_of ps p x) refl i (λ j. in_children ps p xs t j)
  where
    by_test : (b : Bool) → is_parent_of ps p x ≡ b → In (cond b (x ∷ children ps p xs) (children ps p xs)) t → (In (children ps p xs) t → In xs t × (slice_get ps t ≡ Some p))
        → In (x ∷ xs) t × (slice_get ps t ≡ Some p)
    by_test true e (inl q) f = (inl q, subst (λ z. slice_get ps z ≡ Some p) q (parent_is ps p x e))
    by_test true e (inr j) f = let r = f j in (inr r.0, r.1)
    by_test false e j f = let r = f j in (inr r.0, r.1)

children_in : (ps : List Parent) (p : Parent) (xs : List ℕ) (t : ℕ) → In xs t → slice_get ps t ≡ Some p → In (children ps p xs) t
children_in ps p [] t i e = absurd i
children_in ps p (x ∷ xs) t i e = by_test (is_parent_of ps p x) refl i (λ j. children_in ps p xs t j e)
  where
    clash : (b : Bool) → b ≡ true → b ≡ false → ⊥
    clash b p q = cc

    by_test : (b : Bool) → is_parent_of ps p x ≡ b → (x ≡ t) ⊎ In xs t → (In xs t → In (children ps p xs) t) → In (cond b (x ∷ children ps p xs) (children ps p xs)) t
    by_test true q (inl h) f = inl h
    by_test true q (inr j) f = inr (f j)
    by_test false q (inl h) f = absurd (clash (is_parent_of ps p x) (is_parent ps p x (subst (λ z. slice_get ps z ≡ Some p) (sym h) e)) q)
    by_test false q (inr j) f = f j

no_children : (ps : List Parent) (p : Parent) (xs : List ℕ) → ((t : ℕ) → slice_get ps t ≡ Some p → ⊥) → children ps p xs ≡ []
no_children ps p [] f = refl
no_children ps p (x ∷ xs) f = by_test (is_parent_of ps p x) refl (no_children ps p xs f)
  where
    by_test : (b : Bool) → is_parent_of ps p x ≡ b → children ps p xs ≡ [] → cond b (x ∷ children ps p xs) (children ps p xs) ≡ []
    by_test true e r = absurd (f x (parent_is ps p x e))
    by_test false e r = r

-- Looking at an event that isn't a claimed parent confirms nothing.
pub unclaimed_confirms : (a : Claims) (claimed : List Bool) (n : ℕ) (is : List ℕ) → AreClaimed a.parents.items claimed → slice_get claimed n ≡ Some false → ConfirmsOf (OfEvent n) is a a
unclaimed_confirms a claimed n is h f = record {
  confirmed = ap (marked_at a.confirmed.items) (sym (no_children a.parents.items (OfEvent n) is (λ t e. h n t e f)));
  parents = refl;
}

module _ (p : Parts) where
  pub more_none : (a : Claims) → ConfirmsMore p a a
  more_none a = record { size = refl; parents = refl; kept = λ t m. m; sound = λ t m. inl m }

  more_then : (a b c : Claims) → ConfirmsMore p a b → ConfirmsMore p b c → ConfirmsMore p a c
  more_then a b c x y = record {
    size = y.size ∙ x.size;
    parents = y.parents ∙ x.parents;
    kept = λ t m. y.kept t (x.kept t m);
    sound = λ t m. by_case t (y.sound t m);
  }
    where
      by_case : (t : ℕ) → IsMarked b.confirmed.items t ⊎ IsConfirmed p b.parents.items t → IsMarked a.confirmed.items t ⊎ IsConfirmed p a.parents.items t
      by_case t (inl m) = x.sound t m
      by_case t (inr o) = inr (subst (λ z. IsConfirmed p z t) x.parents o)

  -- After looking at a parent that refers to these entries.
  more_of : (parent : Parent) (is : List ℕ) (a b : Claims) → ((t : ℕ) → In is t → RefersTo p parent t) → ConfirmsOf parent is a b → ConfirmsMore p a b
  more_of parent is a b f h = record {
    size = ap length h.confirmed ∙ all_size a.confirmed.items (children a.parents.items parent is);
    parents = h.parents;
    kept = λ t m. subst (λ z. IsMarked z t) (sym h.confirmed) (all_stay a.confirmed.items (children a.parents.items parent is) t m);
    sound = λ t m. by_case t (all_only a.confirmed.items (children a.parents.items parent is) t (subst (λ z. IsMarked z t) h.confirmed m));
  }
    where
      by_case : (t : ℕ) → IsMarked a.confirmed.items t ⊎ In (children a.parents.items parent is) t → IsMarked a.confirmed.items t ⊎ IsConfirmed p a.parents.items t
      by_case t (inl m) = inl m
      by_case t (inr i) = let r = in_children a.parents.items parent is t i in inr (parent, r.1, f t r.0)

  here_of : (parent : Parent) (is : List ℕ) (a b : Claims) (t : ℕ) → t < length a.confirmed.items → ConfirmsOf parent is a b → In is t → slice_get a.parents.items t ≡ Some parent
      → IsMarked b.confirmed.items t
  here_of parent is a b t w h i e = subst (λ z. IsMarked z t) (sym h.confirmed) (all_here a.confirmed.items (children a.parents.items parent is) t w (children_in a.parents.items parent is t i e))

  below_next : (n i : ℕ) → i < n + 1 → (i < n) ⊎ (i ≡ n)
  below_next n i h = by_case (cases_lt i n)
    where
      by_case : (i < n) ⊎ (n ≤ i) → (i < n) ⊎ (i ≡ n)
      by_case (inl k) = inl k
      by_case (inr k) = inr (omega arith)

  those_within : (ts : List (ℕ × ℕ)) (t : ℕ) → In (those (number_in_force p.entries) ts) t → t < length p.entries
  those_within ts t i = let r = in_those (number_in_force p.entries) ts t i in force_within p.entries r.0 t r.2

  pub events_start : (a : Claims) → ConfirmsEvents p 0 a a
  events_start a = record { more = more_none a; all = λ i t h. absurd (omega arith) }

  pub events_next : (n : ℕ) (e : EventAt) (old a b : Claims) → slice_get (events_of p) n ≡ Some e → length old.confirmed.items ≡ length p.entries → ConfirmsEvents p n old a
      → ConfirmsOf (OfEvent n) (node_entries p.entries p.classes p.bytes e.node) a b → ConfirmsEvents p (n + 1) old b
  events_next n e old a b g s h o =
      let m = more_of (OfEvent n) (node_entries p.entries p.classes p.bytes e.node) a b (λ t i. (e, g, in_contains (node_entries p.entries p.classes p.bytes e.node) t i)) o in
      record { more = more_then old a b h.more m; all = λ i t w q r. by_case i t (below_next n i w) q r }
    where
      by_case : (i t : ℕ) → (i < n) ⊎ (i ≡ n) → slice_get old.parents.items t ≡ Some (OfEvent i) → RefersTo p (OfEvent i) t → IsMarked b.confirmed.items t
      by_case i t (inl w) q r = subst (λ z. IsMarked z t) (sym o.confirmed)
          (all_stay a.confirmed.items (children a.parents.items (OfEvent n) (node_entries p.entries p.classes p.bytes e.node)) t (h.all i t w q r))
      by_case i t (inr w) q r =
          let x : slice_get (events_of p) n ≡ Some r.0 = ap (slice_get (events_of p)) (sym w) ∙ r.1 in
          let y : r.0 ≡ e = (let z : Some r.0 ≡ Some e = sym x ∙ g in cc) in
          let k : In (node_entries p.entries p.classes p.bytes e.node) t =
          subst (λ (z : EventAt). In (node_entries p.entries p.classes p.bytes z.node) t) y (contains_in (node_entries p.entries p.classes p.bytes r.0.node) t r.2) in
          let l = those_within _ t k in
          here_of (OfEvent n) (node_entries p.entries p.classes p.bytes e.node) a b t (omega (arith, l, s, h.more.size)) o k
          (ap (λ z. slice_get z t) h.more.parents ∙ (q ∙ ap (λ z. Some (OfEvent z)) w))

  pub entries_start : (a : Claims) → ConfirmsEntries p 0 a a
  entries_start a = record { more = more_none a; all = λ i t h. absurd (omega arith) }

  pub entries_next : (n : ℕ) (old a b : Claims) → length old.confirmed.items ≡ length p.entries → ConfirmsEntries p n old a → ConfirmsOf (OfEntry n) (next_entries p n) a b
      → ConfirmsEntries p (n + 1) old b
  entries_next n old a b s h o =
      let m = more_of (OfEntry n) (next_entries p n) a b (λ t i. in_contains (next_entries p n) t i) o in
      record { more = more_then old a b h.more m; all = λ i t w q r. by_case i t (below_next n i w) q r }
    where
      by_case : (i t : ℕ) → (i < n) ⊎ (i ≡ n) → slice_get old.parents.items t ≡ Some (OfEntry i) → RefersTo p (OfEntry i) t → IsMarked b.confirmed.items t
      by_case i t (inl w) q r = subst (λ z. IsMarked z t) (sym o.confirmed) (all_stay a.confirmed.items (children a.parents.items (OfEntry n) (next_entries p n)) t (h.all i t w q r))
      by_case i t (inr w) q r =
          let k : In (next_entries p n) t = subst (λ z. In (next_entries p z) t) w (contains_in (next_entries p i) t r) in
          let l = those_within _ t k in
          here_of (OfEntry n) (next_entries p n) a b t (omega (arith, l, s, h.more.size)) o k (ap (λ z. slice_get z t) h.more.parents ∙ (q ∙ ap (λ z. Some (OfEntry z)) w))

  every_set : (ms : List Bool) → list_all (λ flag. flag) ms ≡ true → (i : ℕ) → i < length ms → IsMarked ms i
  every_set [] e i h = absurd (omega arith)
  every_set (true ∷ ms) e zero h = refl
  every_set (true ∷ ms) e (suc i) h = every_set ms e i (omega arith)
  every_set (false ∷ ms) e i h = cc

  set_every : (ms : List Bool) → ((i : ℕ) → i < length ms → IsMarked ms i) → list_all (λ flag. flag) ms ≡ true
  set_every [] f = refl
  set_every (true ∷ ms) f = set_every ms (λ i h. f (suc i) (omega arith))
  set_every (false ∷ ms) f = let e : IsMarked (false ∷ ms) 0 = f 0 (omega arith) in cc

  next_some : (i t : ℕ) → In (next_entries p i) t → i < length p.entries
  next_some i t k = by_get (slice_get p.entries i) refl k
    where
      by_get : (o : Option EntryAt) → slice_get p.entries i ≡ o → In (those (number_in_force p.entries) (option_map_or (λ e. targets p.classes p.bytes (entry_node e)) o [])) t → i < length p.entries
      by_get None q k = absurd k
      by_get (Some e) q k = slice_get_within p.entries i e q

  pub children_ends : (ps : List Parent) (a b c : Claims) (all : Bool) → a.parents.items ≡ ps → a.confirmed.items ≡ replicate (length p.entries) false → ConfirmsEvents p (length (events_of p)) a b
      → ConfirmsEntries p (length p.entries) b c
      → all ≡ list_all (λ flag. flag) c.confirmed.items → Decided (AreConfirmed p ps) all
  children_ends ps a b c all q z e f s = subst (Decided (AreConfirmed p ps)) (sym s) (by_flag (list_all (λ flag. flag) c.confirmed.items) refl)
    where
      size : length c.confirmed.items ≡ length p.entries
      size = f.more.size ∙ (e.more.size ∙ (ap length z ∙ length-replicate (length p.entries) false))

      by_first : (t : ℕ) → IsMarked a.confirmed.items t ⊎ IsConfirmed p a.parents.items t → IsConfirmed p ps t
      by_first t (inl m) = absurd (none_marked (length p.entries) t (subst (λ y. IsMarked y t) z m))
      by_first t (inr o) = subst (λ y. IsConfirmed p y t) q o

      by_second : (t : ℕ) → IsMarked b.confirmed.items t ⊎ IsConfirmed p b.parents.items t → IsConfirmed p ps t
      by_second t (inl m) = by_first t (e.more.sound t m)
      by_second t (inr o) = subst (λ y. IsConfirmed p y t) (e.more.parents ∙ q) o

      marked : (t : ℕ) (parent : Parent) → slice_get ps t ≡ Some parent → RefersTo p parent t → IsMarked c.confirmed.items t
      marked t (OfEvent i) g r = f.more.kept t (e.all i t (slice_get_within (events_of p) i r.0 r.1) (ap (λ y. slice_get y t) q ∙ g) r)
      marked t (OfEntry i) g r = f.all i t (next_some i t (contains_in (next_entries p i) t r)) (ap (λ y. slice_get y t) (e.more.parents ∙ q) ∙ g) r

      clash : (y : Bool) → y ≡ true → y ≡ false → ⊥
      clash y u v = cc

      by_flag : (y : Bool) → list_all (λ flag. flag) c.confirmed.items ≡ y → Decided (AreConfirmed p ps) y
      by_flag true u = λ t h. by_second t (f.more.sound t (every_set c.confirmed.items u t (omega (arith, size))))
      by_flag false u = λ o. clash (list_all (λ flag. flag) c.confirmed.items) (set_every c.confirmed.items (λ t h. (let k = o t (omega (arith, size)) in marked t k.0 k.1 k.2))) u
