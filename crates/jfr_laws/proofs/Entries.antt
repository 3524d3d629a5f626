-- The entries that are read back are those that were written, and the same of them are in force.
use Rattle.std.specs.Prelude.{◌≡◌, ℕ, zero, suc, ◌+◌, ◌<◌, ◌≤◌, ◌⊎◌, ◌&&◌, ◌==◌, Bool, true, false, List, [], ◌∷◌, ◌++◌, length, map, slice_get, Option, Some, None, option_and_then}
use Rattle.std.specs.List.{flat_map, AllByRecursion}
use Rattle.std.proofs.Common.{ap, arith, refl, sym, ◌∙◌, subst, inl, inr}
use Rattle.std.proofs.lemmas.Bool.{cases_lt}
use Rattle.std.proofs.lemmas.Option.{slice_get_within}
use Rattle.jfr_base.specs.Integer.{spell}
use Rattle.jfr_base.proofs.AlikeLaws.{Each}
use Rattle.jfr_base.proofs.HoldLaws.{Holds, holds_parts, placed_each}
use Rattle.jfr_layout.specs.Classes.{Classes}
use Rattle.jfr_value.specs.Nodes.{node_bytes, Both}
use Rattle.jfr_pool.specs.declared.entry.EntryAt.{EntryAt}
use Rattle.jfr_pool.specs.Entries.{entry_of, entries_from, or_later, last_from, number_in_force, entry_node}
use Rattle.jfr_pool.specs.Laws.{IsLast}
use Rattle.jfr_pool.proofs.OneLaws.{last_is}
use Rattle.jfr_pool.proofs.Targets.{hits}
use Rattle.jfr_chunk.specs.Parts.{Parts}
use Rattle.jfr_chunk.specs.Meaning.{SameEntry}
use Rattle.jfr_worklist.specs.Marks.{IsMarked}
use Rattle.jfr_chunk.specs.Reach.{marked}
use Rattle.jfr_chunk.specs.Written.{Group, entry_bytes, group_bytes}
use Rattle.jfr_laws.specs.Laws.{IsCopied, AreCopied}
use Rattle.jfr_laws.proofs.Marks.{rank, rank_get, rank_order, Ranked, ranked}
use Rattle.jfr_laws.specs.InChunk.{IsEntryIn, IsGroupIn}
use Rattle.jfr_laws.proofs.ReadBack.{placed, placed_group, entry_held}

-- An entry of c and one of b have one class, key and checkpoint, and equal value bytes.
pub record IsCopy (c b : List ℕ) (e f : EntryAt) : Type 0 where
  pub class : e.class ≡ f.class
  pub key : e.key ≡ f.key
  pub checkpoint : e.checkpoint ≡ f.checkpoint
  pub value : node_bytes c (entry_node e) ≡ node_bytes b (entry_node f)

-- Lists that are related member by member, one after the other.
pub each_append : {A B : Type 0} (R : A → B → Type 0) (xs : List A) (ys : List B) (us : List A) (vs : List B) → Each R xs ys → Each R us vs → Each R (xs ++ us) (ys ++ vs)
each_append R [] [] us vs a b = b
each_append R [] (y ∷ ys) us vs a b = absurd a
each_append R (x ∷ xs) [] us vs a b = absurd a
each_append R (x ∷ xs) (y ∷ ys) us vs a b = (a.0, each_append R xs ys us vs a.1 b)

module _ (c : List ℕ) (k : Classes) (b : List ℕ) (end : ℕ) (checkpoint : ℕ) where
  -- An entry that is read back, and those of a pool.
  entry_same : (e : EntryAt) (pool class at : ℕ) → IsEntryIn c k e → e.class ≡ class → e.checkpoint ≡ checkpoint → Holds b end at (entry_bytes c e)
      → IsCopy c b e (entry_of checkpoint pool class (placed c k at e))
  entry_same e pool class at s w n h = record { class = w; key = refl; checkpoint = n; value = (entry_held c k b end at e s h).value }

  entries_same : (es : List EntryAt) (pool class at : ℕ) → AllByRecursion (λ e. IsEntryIn c k e × (e.class ≡ class)) es → AllByRecursion (λ e. e.checkpoint ≡ checkpoint) es
      → Holds b end at (flat_map (entry_bytes c) es)
      → Each (IsCopy c b) es (map (entry_of checkpoint pool class) (placed_each (entry_bytes c) (placed c k) at es))
  entries_same [] pool class at s n h = tt
  entries_same (e ∷ es) pool class at s n h =
      let p = holds_parts b end at (entry_bytes c e) (flat_map (entry_bytes c) es) h in
      (entry_same e pool class at s.0.0 s.0.1 n.0 p.0, entries_same es pool class (at + length (entry_bytes c e)) s.1 n.1 p.1)

  split_all : (xs ys : List EntryAt) → AllByRecursion (λ e. e.checkpoint ≡ checkpoint) (xs ++ ys)
      → AllByRecursion (λ e. e.checkpoint ≡ checkpoint) xs × AllByRecursion (λ e. e.checkpoint ≡ checkpoint) ys
  split_all [] ys a = (tt, a)
  split_all (x ∷ xs) ys a = let i = split_all xs ys a.1 in ((a.0, i.0), i.1)

  -- The entries of the pools that are read are those of the groups that were written.
  pub groups_same : (gs : List Group) (pool at : ℕ) → AllByRecursion (IsGroupIn c k) gs → AllByRecursion (λ e. e.checkpoint ≡ checkpoint) (flat_map (λ g. g.entries) gs)
      → Holds b end at (flat_map (group_bytes c) gs)
      → Each (IsCopy c b) (flat_map (λ g. g.entries) gs) (entries_from checkpoint pool (placed_each (group_bytes c) (placed_group c k) at gs))
  groups_same [] pool at s n h = tt
  groups_same (g ∷ gs) pool at s n h =
      let items : List ℕ = flat_map (entry_bytes c) g.entries in
      let count : List ℕ = spell (length g.entries) in
      let first : ℕ = at + length (spell g.class) + length count in
      let next : ℕ = at + length (group_bytes c g) in
      let p = holds_parts b end at (group_bytes c g) (flat_map (group_bytes c) gs) h in
      let q = holds_parts b end at (spell g.class) (count ++ items) p.0 in
      let r = holds_parts b end (at + length (spell g.class)) count items q.1 in
      let a = split_all g.entries (flat_map (λ g. g.entries) gs) n in
      each_append (IsCopy c b) g.entries (map (entry_of checkpoint pool g.class) (placed_each (entry_bytes c) (placed c k) first g.entries)) (flat_map (λ g. g.entries) gs)
      (entries_from checkpoint (pool + 1) (placed_each (group_bytes c) (placed_group c k) next gs))
      (entries_same g.entries pool g.class first s.0.1 a.0 r.1) (groups_same gs (pool + 1) next s.1 a.1 p.1)

-- Copies among the entries of two chunks.
pub are_copied : (p q : Parts) (es fs : List EntryAt) → Each (IsCopy p.bytes q.bytes) es fs → AreCopied p q es fs
are_copied p q [] [] a = tt
are_copied p q [] (f ∷ fs) a = absurd a
are_copied p q (e ∷ es) [] a = absurd a
are_copied p q (e ∷ es) (f ∷ fs) a = (record { class = a.0.class; key = a.0.key; checkpoint = a.0.checkpoint; value = a.0.value }, are_copied p q es fs a.1)

-- Entries of one number.
pub copied_get : (p q : Parts) (es fs : List EntryAt) (n : ℕ) → AreCopied p q es fs → Both (IsCopied p q) (slice_get es n) (slice_get fs n)
copied_get p q [] [] n a = tt
copied_get p q [] (f ∷ fs) n a = absurd a
copied_get p q (e ∷ es) [] n a = absurd a
copied_get p q (e ∷ es) (f ∷ fs) zero a = a.0
copied_get p q (e ∷ es) (f ∷ fs) (suc n) a = copied_get p q es fs n a.1

copied_last : (p q : Parts) (n : ℕ) (es fs : List EntryAt) (target : ℕ × ℕ) → AreCopied p q es fs → last_from n es target ≡ last_from n fs target
copied_last p q n [] [] target a = refl
copied_last p q n [] (f ∷ fs) target a = absurd a
copied_last p q n (e ∷ es) [] target a = absurd a
copied_last p q n (e ∷ es) (f ∷ fs) target a =
    let same : hits e target ≡ hits f target = ap (λ z. (z == target.0) && (e.key == target.1)) a.0.class ∙ ap (λ z. (f.class == target.0) && (z == target.1)) a.0.key in
    ap (λ z. or_later n z (last_from (n + 1) es target)) same ∙ ap (or_later n (hits f target)) (copied_last p q (n + 1) es fs target a.1)

-- Copies are in force if the originals are.
pub copied_force : (p q : Parts) (es fs : List EntryAt) (target : ℕ × ℕ) → AreCopied p q es fs → number_in_force es target ≡ number_in_force fs target
unfolding number_in_force
copied_force p q es fs target a = copied_last p q 0 es fs target a

-- What is in force and marked is in force among those that are marked.
pub marked_force : (marks : List Bool) (es : List EntryAt) (target : ℕ × ℕ) (n : ℕ) → number_in_force es target ≡ Some n → IsMarked marks n
    → number_in_force (marked marks es) target ≡ Some (rank marks n)
marked_force marks es target n e m =
    let i : IsLast es target n = (last_is es target n).0 e in
    (last_is (marked marks es) target (rank marks n)).1
    (record {
      entry = i.entry;
      holds = rank_get marks es n m ∙ i.holds;
      has = i.has;
      last = λ later other l g a. last i later other l g a;
    })
  where
    last : IsLast es target n → (later : ℕ) (other : EntryAt) → rank marks n < later → slice_get (marked marks es) later ≡ Some other → (other.class, other.key) ≡ target → ⊥
    last i later other l g a =
        let r = ranked marks es later (slice_get_within (marked marks es) later other g) in
        let h : slice_get es r.place ≡ Some other = sym (rank_get marks es r.place r.is_marked) ∙ (ap (slice_get (marked marks es)) r.number_is ∙ g) in
        by_order r h (cases_lt n r.place)
      where
        by_order : (r : Ranked marks es later) → slice_get es r.place ≡ Some other → (n < r.place) ⊎ (r.place ≤ n) → ⊥
        by_order r h (inl o) = i.last r.place other o h a
        by_order r h (inr o) = let j : rank marks r.place ≤ rank marks n = rank_order marks r.place n o in let u : rank marks r.place ≡ later = r.number_is in omega arith

-- If no entry is in force, none is among the marked ones.
marked_none : (n m : ℕ) (marks : List Bool) (es : List EntryAt) (target : ℕ × ℕ) → last_from n es target ≡ None → last_from m (marked marks es) target ≡ None
marked_none n m [] es target e = refl
marked_none n m (b ∷ ms) [] target e = refl
marked_none n m (b ∷ ms) (x ∷ xs) target e = by_rest (last_from (n + 1) xs target) refl (hits x target) refl e b (λ k. marked_none (n + 1) k ms xs target)
  where
    by_rest : (o : Option ℕ) → last_from (n + 1) xs target ≡ o → (t : Bool) → hits x target ≡ t → or_later n t o ≡ None → (b : Bool)
        → ((k : ℕ) → last_from (n + 1) xs target ≡ None → last_from k (marked ms xs) target ≡ None)
        → last_from m (marked (b ∷ ms) (x ∷ xs)) target ≡ None
    by_rest (Some i) q t r e b f = cc
    by_rest None q true r e b f = cc
    by_rest None q false r e false f = f m q
    by_rest None q false r e true f = ap (λ z. or_later m z (last_from (m + 1) (marked ms xs) target)) r ∙ ap (or_later m false) (f (m + 1) q)

pub none_force : (marks : List Bool) (es : List EntryAt) (target : ℕ × ℕ) → number_in_force es target ≡ None → number_in_force (marked marks es) target ≡ None
unfolding number_in_force
none_force marks es target e = marked_none 0 0 marks es target e

-- Where what is in force for a class and a key is marked, if anything is, both chunks have the same entry
-- in force.
pub in_force_same : (p q : Parts) (marks : List Bool) (target : ℕ × ℕ) → AreCopied p q (marked marks p.entries) q.entries → ((n : ℕ) → number_in_force p.entries target ≡ Some n → IsMarked marks n)
    → SameEntry p q target
in_force_same p q marks target a h = by_number (number_in_force p.entries target) refl
  where
    values : (x y : Option EntryAt) → Both (IsCopied p q) x y → Both (λ e f. node_bytes p.bytes (entry_node e) ≡ node_bytes q.bytes (entry_node f)) x y
    values None None c = tt
    values None (Some f) c = absurd c
    values (Some e) None c = absurd c
    values (Some e) (Some f) c = c.value

    At : Option ℕ → Option ℕ → Type 0
    At m n = Both (λ e f. node_bytes p.bytes (entry_node e) ≡ node_bytes q.bytes (entry_node f)) (option_and_then (λ i. slice_get p.entries i) m) (option_and_then (λ i. slice_get q.entries i) n)

    by_numbers : (m n : Option ℕ) → number_in_force p.entries target ≡ m → number_in_force q.entries target ≡ n → At m n → SameEntry p q target
    by_numbers m n e f s = subst (λ z. At z (number_in_force q.entries target)) (sym e) (subst (At m) (sym f) s)

    copied : number_in_force q.entries target ≡ number_in_force (marked marks p.entries) target
    copied = sym (copied_force p q (marked marks p.entries) q.entries target a)

    by_number : (o : Option ℕ) → number_in_force p.entries target ≡ o → SameEntry p q target
    by_number None e = by_numbers None None e (copied ∙ none_force marks p.entries target e) tt
    by_number (Some n) e =
        let m : IsMarked marks n = h n e in
        let c = values (slice_get (marked marks p.entries) (rank marks n)) (slice_get q.entries (rank marks n)) (copied_get p q (marked marks p.entries) q.entries (rank marks n) a) in
        by_numbers (Some n) (Some (rank marks n)) e (copied ∙ marked_force marks p.entries target n e m)
        (subst (λ z. Both (λ e f. node_bytes p.bytes (entry_node e) ≡ node_bytes q.bytes (entry_node f)) z (slice_get q.entries (rank marks n))) (rank_get marks p.entries n m) c)
