-- Of two chunks that agree on all that remains, each kept event and each remaining entry has a counterpart with the
-- same value, and both refer to the same.
use Rattle.std.specs.Prelude.{◌≡◌, ℕ, zero, suc, ◌<◌, Bool, true, false, List, [], ◌∷◌, length, replicate, slice_get, Option, Some, None, option_and_then}
use Rattle.std.proofs.Common.{ap, arith, refl, sym, ◌∙◌, subst, inl, inr}
use Rattle.std.proofs.lemmas.List.{length-replicate}
use Rattle.std.proofs.lemmas.Option.{slice_get_within}
use Rattle.jfr_base.proofs.AlikeLaws.{Each}
use Rattle.jfr_value.specs.declared.node.Step.{Step}
use Rattle.jfr_value.specs.Nodes.{NodeAt, node_bytes, target, Both}
use Rattle.jfr_pool.specs.declared.entry.EntryAt.{EntryAt}
use Rattle.jfr_pool.specs.Entries.{number_in_force, in_force, entry_node}
use Rattle.jfr_worklist.specs.Marks.{IsMarked, marked_at}
use Rattle.jfr_worklist.specs.Members.{In}
use Rattle.jfr_worklist.proofs.Members.{contains_in, in_contains}
use Rattle.jfr_worklist.proofs.MarkLaws.{same_flags, swept_size, all_size}
use Rattle.jfr_chunk.specs.Parts.{Parts, EventAt, AreParts}
use Rattle.jfr_chunk.specs.Paths.{follow, leads}
use Rattle.jfr_chunk.specs.Reach.{Reached, Used, marked, reached_marks, remain, next_entries, roots}
use Rattle.jfr_chunk.specs.Written.{entry_bytes}
use Rattle.jfr_chunk.specs.Meaning.{SameEntry}
use Rattle.jfr_chunk.specs.Laws.{AreEvents, SameRecord, SameRecords}
use Rattle.jfr_chunk.proofs.PathLaws.{Pair, paths_pair, pair_target, follow_pair}
use Rattle.jfr_chunk.proofs.HasNodesLaws.{IsEvent, has_nodes}
use Rattle.jfr_chunk.proofs.MeaningLaws.{event_pair}
use Rattle.jfr_chunk.proofs.ReachLaws.{follow_is}
use Rattle.jfr_laws.specs.Laws.{IsCopied, AreCopied}
use Rattle.jfr_laws.specs.SameKept.{SameEntries, SameKept}
use Rattle.jfr_laws.proofs.Marks.{rank, rank_get, ranked}
use Rattle.jfr_laws.proofs.Entries.{copied_get, copied_force, marked_force, none_force}
use Rattle.jfr_laws.proofs.PoolsAlike.{Related}
use Rattle.jfr_laws.proofs.Same.{are_reached, event_of_chunk}

-- Marks, and the ranks of what is marked.
marked_within : (ms : List Bool) (n : ℕ) → IsMarked ms n → n < length ms
marked_within [] n m = cc
marked_within (b ∷ ms) zero m = omega arith
marked_within (b ∷ ms) (suc n) m = omega (arith, marked_within ms n m)

rank_one : (ms : List Bool) (m n : ℕ) → IsMarked ms m → IsMarked ms n → rank ms m ≡ rank ms n → m ≡ n
rank_one [] m n a b e = cc
rank_one (true ∷ ms) zero zero a b e = refl
rank_one (true ∷ ms) zero (suc n) a b e = absurd (omega arith)
rank_one (true ∷ ms) (suc m) zero a b e = absurd (omega arith)
rank_one (true ∷ ms) (suc m) (suc n) a b e = ap (λ z. suc z) (rank_one ms m n a b (omega arith))
rank_one (false ∷ ms) zero n a b e = cc
rank_one (false ∷ ms) (suc m) zero a b e = cc
rank_one (false ∷ ms) (suc m) (suc n) a b e = ap (λ z. suc z) (rank_one ms m n a b e)

pub marks_size : (p : Parts) (kept : List EventAt) → length (reached_marks p kept) ≡ length p.entries
unfolding reached_marks
marks_size p kept = swept_size (next_entries p) (length p.entries) (marked_at (replicate (length p.entries) false) (roots p kept))
    ∙ (all_size (replicate (length p.entries) false) (roots p kept) ∙ length-replicate (length p.entries) false)

-- Optional values, and members of lists.
some_one : (m n : ℕ) → Some m ≡ Some n → m ≡ n
some_one m n e = cc

some_none : {A : Type 0} (x : A) (o : Option A) → o ≡ Some x → o ≡ None → ⊥
some_none x o e f = cc

member : {A : Type 0} (xs : List A) (n : ℕ) → n < length xs → (x : A) × (slice_get xs n ≡ Some x)
member [] n h = absurd (omega arith)
member (x ∷ xs) zero h = (x, refl)
member (x ∷ xs) (suc n) h = member xs n (omega arith)

left_of : {A B : Type 0} (R : A → B → Type 0) (x : Option A) (y : Option B) (b : B) → Both R x y → y ≡ Some b → (a : A) × (x ≡ Some a) × R a b
left_of R None None b r e = cc
left_of R (Some a) (Some c) b r e = let h : c ≡ b = cc in (a, refl, subst (R a) h r)
left_of R None (Some c) b r e = absurd r
left_of R (Some c) None b r e = absurd r

right_of : {A B : Type 0} (R : A → B → Type 0) (x : Option A) (y : Option B) (a : A) → Both R x y → x ≡ Some a → (b : B) × (y ≡ Some b) × R a b
right_of R None None a r e = cc
right_of R (Some c) (Some b) a r e = let h : c ≡ a = cc in (b, refl, subst (λ z. R z b) h r)
right_of R None (Some c) a r e = absurd r
right_of R (Some c) None a r e = absurd r

both_some : {A B : Type 0} (R : A → B → Type 0) (x : Option A) (y : Option B) (u : A) (v : B) → Both R x y → x ≡ Some u → y ≡ Some v → R u v
both_some R x y u v r e f = subst (λ z. Both R z (Some v)) e (subst (Both R x) f r)

left_in : {A B : Type 0} (R : A → B → Type 0) (xs : List A) (ys : List B) (y : B) → Each R xs ys → In ys y → (x : A) × In xs x × R x y
left_in R [] [] y e i = absurd i
left_in R [] (z ∷ ys) y e i = absurd e
left_in R (x ∷ xs) [] y e i = absurd e
left_in R (x ∷ xs) (z ∷ ys) y e (inl h) = (x, inl refl, subst (R x) h e.0)
left_in R (x ∷ xs) (z ∷ ys) y e (inr i) = let k = left_in R xs ys y e.1 i in (k.0, inr k.1, k.2)

right_in : {A B : Type 0} (R : A → B → Type 0) (xs : List A) (ys : List B) (x : A) → Each R xs ys → In xs x → (y : B) × In ys y × R x y
right_in R [] [] x e i = absurd i
right_in R [] (y ∷ ys) x e i = absurd e
right_in R (z ∷ xs) [] x e i = absurd e
right_in R (z ∷ xs) (y ∷ ys) x e (inl h) = (y, inl refl, subst (λ w. R w y) h e.0)
right_in R (z ∷ xs) (y ∷ ys) x e (inr i) = let k = right_in R xs ys x e.1 i in (k.0, inr k.1, k.2)

entries_copied : (p q : Parts) (es fs : List EntryAt) → SameEntries p q es fs → AreCopied p q es fs
entries_copied p q [] [] a = tt
entries_copied p q [] (f ∷ fs) a = absurd a
entries_copied p q (e ∷ es) [] a = absurd a
entries_copied p q (e ∷ es) (f ∷ fs) a = (a.0, entries_copied p q es fs a.3)

module _ (p q : Parts) (a : AreParts p) (b : AreParts q) where
  abbrev pub SameValue : EntryAt → EntryAt → Type 0
  SameValue e f = node_bytes p.bytes (entry_node e) ≡ node_bytes q.bytes (entry_node f)

  abbrev pub NodePair : NodeAt → NodeAt → Type 0
  NodePair = Pair p q (has_nodes p a) (has_nodes q b)

  module _ (slim other : Option (List ℕ)) (kept others : List EventAt) (these : AreEvents p kept) (those : AreEvents q others) (g : SameKept slim other p q kept others) where
    -- A kept event and its counterpart.
    pub record EventPair (e f : EventAt) : Type 0 where
      pub left : IsEvent p e
      pub right : IsEvent q f
      pub same : SameRecord p q e f
      pub pair : NodePair e.node f.node
      pub is_kept : In kept e

    events_from : (es fs : List EventAt) → ((e : EventAt) → In es e → In kept e) → ((f : EventAt) → In fs f → In others f) → SameRecords p q es fs → Each EventPair es fs
    events_from [] [] i j r = tt
    events_from [] (f ∷ fs) i j r = absurd r
    events_from (e ∷ es) [] i j r = absurd r
    events_from (e ∷ es) (f ∷ fs) i j r =
        let x : IsEvent p e = event_of_chunk p a kept these e (i e (inl refl)) in
        let y : IsEvent q f = event_of_chunk q b others those f (j f (inl refl)) in
        (record { left = x; right = y; same = r.0; pair = event_pair p q a b e f x y r.0; is_kept = i e (inl refl) }, events_from es fs (λ e k. i e (inr k)) (λ f k. j f (inr k)) r.1)

    pub event_pairs : Each EventPair kept others
    event_pairs = events_from kept others (λ e i. i) (λ f i. i) g.events

    -- What remains in the first chunk, and its counterpart in the second.
    abbrev marks : List Bool
    marks = reached_marks p kept

    abbrev here : List EntryAt
    here = marked marks p.entries

    abbrev there : List EntryAt
    there = marked g.flags q.entries

    corresponding : SameEntries p q here there
    unfolding remain
    corresponding = g.constants

    copies : AreCopied p q here there
    copies = entries_copied p q here there corresponding

    same_number : (t : ℕ × ℕ) → number_in_force here t ≡ number_in_force there t
    same_number t = copied_force p q here there t copies

    used_marked : (t : ℕ × ℕ) (n : ℕ) → Used p kept t → number_in_force p.entries t ≡ Some n → IsMarked marks n
    used_marked t n u e = (are_reached p kept a these n).0
        (record { event = u.event; is_kept = u.is_kept; path = u.path; node = u.node; leads_there = u.leads_there; key = t; refers = u.refers; in_force = e })

    -- The entries in force for what is used have the same rank among those.
    same_rank : (t : ℕ × ℕ) (m n : ℕ) → Used p kept t → number_in_force p.entries t ≡ Some m → number_in_force q.entries t ≡ Some n → rank marks m ≡ rank g.flags n
    same_rank t m n u e f = some_one (rank marks m) (rank g.flags n)
        (sym (marked_force marks p.entries t m e (used_marked t m u e)) ∙ (same_number t ∙ marked_force g.flags q.entries t n f (g.no_other t n u f)))

    -- So the same entry is in force for it in both.
    pub same_entry : (t : ℕ × ℕ) → Used p kept t → SameEntry p q t
    same_entry t u = by_numbers (number_in_force p.entries t) (number_in_force q.entries t) refl refl
      where
        values : (x y : Option EntryAt) → Both (IsCopied p q) x y → Both SameValue x y
        values None None c = tt
        values None (Some f) c = absurd c
        values (Some e) None c = absurd c
        values (Some e) (Some f) c = c.value

        by_numbers : (m n : Option ℕ) → number_in_force p.entries t ≡ m → number_in_force q.entries t ≡ n
            → Both SameValue (option_and_then (λ i. slice_get p.entries i) m) (option_and_then (λ i. slice_get q.entries i) n)
        by_numbers None None e f = tt
        by_numbers (Some m) None e f =
            absurd (some_none (rank marks m) (number_in_force there t) (sym (same_number t) ∙ marked_force marks p.entries t m e (used_marked t m u e)) (none_force g.flags q.entries t f))
        by_numbers None (Some n) e f =
            absurd (some_none (rank g.flags n) (number_in_force here t) (same_number t ∙ marked_force g.flags q.entries t n f (g.no_other t n u f)) (none_force marks p.entries t e))
        by_numbers (Some m) (Some n) e f =
            let c = values (slice_get here (rank marks m)) (slice_get there (rank marks m)) (copied_get p q here there (rank marks m) copies) in
            let x : slice_get here (rank marks m) ≡ slice_get p.entries m = rank_get marks p.entries m (used_marked t m u e) in
            let y : slice_get there (rank marks m) ≡ slice_get q.entries n = ap (λ z. slice_get there z) (same_rank t m n u e f) ∙ rank_get g.flags q.entries n (g.no_other t n u f) in
            subst (λ z. Both SameValue z (slice_get q.entries n)) x (subst (λ z. Both SameValue (slice_get here (rank marks m)) z) y c)

    -- Paths from a kept event and its counterpart lead to the same.
    path_pair : (e f : EventAt) (path : List Step) → In kept e → EventPair e f → Both NodePair (leads p e.node path) (leads q f.node path)
    path_pair e f path i r =
        paths_pair p q (has_nodes p a) (has_nodes q b) path e.node f.node r.pair
        (λ way n t l h. same_entry t (record { event = e; is_kept = in_contains kept e i; path = way; node = n; leads_there = l; refers = h }))

    used_left : (t : ℕ × ℕ) → Used q others t → Used p kept t
    used_left t u =
        let k = left_in EventPair kept others u.event event_pairs (contains_in others u.event u.is_kept) in
        let n = left_of NodePair (leads p k.0.node u.path) (leads q u.event.node u.path) u.node (path_pair k.0 u.event u.path k.1 k.2) u.leads_there in
        record { event = k.0; is_kept = in_contains kept k.0 k.1; path = u.path; node = n.0; leads_there = n.1; refers = pair_target p q (has_nodes p a) (has_nodes q b) n.0 u.node n.2 ∙ u.refers }

    used_right : (t : ℕ × ℕ) → Used p kept t → Used q others t
    used_right t u =
        let i = contains_in kept u.event u.is_kept in
        let k = right_in EventPair kept others u.event event_pairs i in
        let n = right_of NodePair (leads p u.event.node u.path) (leads q k.0.node u.path) u.node (path_pair u.event k.0 u.path i k.2) u.leads_there in
        record {
          event = k.0;
          is_kept = in_contains others k.0 k.1;
          path = u.path;
          node = n.0;
          leads_there = n.1;
          refers = sym (pair_target p q (has_nodes p a) (has_nodes q b) u.node n.0 n.2)
              ∙ u.refers;
        }

    -- A remaining entry is that of a mark, and in force for what is used.
    record Origin (number : ℕ) : Type 0 where
      place : ℕ
      is_marked : IsMarked marks place
      rank_is : rank marks place ≡ number
      key : ℕ × ℕ
      used : Used p kept key
      in_force : number_in_force p.entries key ≡ Some place
      in_force_there : number_in_force there key ≡ Some number

    origin : (number : ℕ) → number < length here → Origin number
    origin number h =
        let k = ranked marks p.entries number h in
        let r : Reached p kept k.place = (are_reached p kept a these k.place).1 k.is_marked in
        record {
          place = k.place;
          is_marked = k.is_marked;
          rank_is = k.number_is;
          key = r.key;
          used = record { event = r.event; is_kept = r.is_kept; path = r.path; node = r.node; leads_there = r.leads_there; refers = r.refers };
          in_force = r.in_force;
          in_force_there = sym (same_number r.key) ∙ (marked_force marks p.entries r.key k.place r.in_force k.is_marked ∙ ap (λ z. Some z) k.number_is);
        }

    -- The second chunk reaches exactly the counterparts.
    flagged : (n : ℕ) → Reached q others n → IsMarked g.flags n
    flagged n r = g.no_other r.key n (used_left r.key (record { event = r.event; is_kept = r.is_kept; path = r.path; node = r.node; leads_there = r.leads_there; refers = r.refers })) r.in_force

    reached : (n : ℕ) → IsMarked g.flags n → Reached q others n
    reached n m = by_number (number_in_force q.entries o.key) refl
      where
        within : n < length q.entries
        within = let h = marked_within g.flags n m in let e : length g.flags ≡ length q.entries = g.each in omega arith

        found : slice_get there (rank g.flags n) ≡ Some (member q.entries n within).0
        found = rank_get g.flags q.entries n m ∙ (member q.entries n within).1

        copied : (e : EntryAt) × (slice_get here (rank g.flags n) ≡ Some e) × IsCopied p q e (member q.entries n within).0
        copied = left_of (IsCopied p q) (slice_get here (rank g.flags n)) (slice_get there (rank g.flags n)) (member q.entries n within).0 (copied_get p q here there (rank g.flags n) copies) found

        o : Origin (rank g.flags n)
        o = origin (rank g.flags n) (slice_get_within here (rank g.flags n) copied.0 copied.1)

        by_number : (i : Option ℕ) → number_in_force q.entries o.key ≡ i → Reached q others n
        by_number None e = absurd (some_none (rank g.flags n) (number_in_force there o.key) o.in_force_there (none_force g.flags q.entries o.key e))
        by_number (Some j) e =
            let u = used_right o.key o.used in
            let z : rank g.flags j ≡ rank g.flags n = sym (same_rank o.key o.place j o.used o.in_force e) ∙ o.rank_is in
            let h : j ≡ n = rank_one g.flags j n (g.no_other o.key j o.used e) m z in
            record { event = u.event; is_kept = u.is_kept; path = u.path; node = u.node; leads_there = u.leads_there; key = o.key; refers = u.refers; in_force = e ∙ ap (λ y. Some y) h }

    remain_there : remain q others ≡ there
    unfolding remain
    remain_there = ap (λ z. marked z q.entries)
        (same_flags (reached_marks q others) g.flags (marks_size q others ∙ sym g.each)
        (λ n. (λ m. flagged n ((are_reached q others b those n).1 m), λ m. (are_reached q others b those n).0 (reached n m))))

    -- A remaining entry and its counterpart.
    pub record EntryPair (e f : EntryAt) : Type 0 where
      pub copied : IsCopied p q e f
      pub bytes : entry_bytes p.bytes e ≡ entry_bytes q.bytes f
      pub pair : NodePair (entry_node e) (entry_node f)
      pub remains : In (remain p kept) e

    placed : (number : ℕ) (e f : EntryAt) → slice_get here number ≡ Some e → slice_get there number ≡ Some f → NodePair (entry_node e) (entry_node f)
    placed number e f x y = by_number (number_in_force q.entries o.key) refl
      where
        o : Origin number
        o = origin number (slice_get_within here number e x)

        entry_is : slice_get p.entries o.place ≡ Some e
        entry_is = sym (rank_get marks p.entries o.place o.is_marked) ∙ (ap (λ z. slice_get here z) o.rank_is ∙ x)

        by_number : (i : Option ℕ) → number_in_force q.entries o.key ≡ i → NodePair (entry_node e) (entry_node f)
        by_number None h = absurd (some_none number (number_in_force there o.key) o.in_force_there (none_force g.flags q.entries o.key h))
        by_number (Some j) h =
            let m = g.no_other o.key j o.used h in
            let z : rank g.flags j ≡ number = some_one (rank g.flags j) number (sym (marked_force g.flags q.entries o.key j h m) ∙ o.in_force_there) in
            let in_p : in_force p.entries o.key ≡ Some e = ap (option_and_then (λ n. slice_get p.entries n)) o.in_force ∙ entry_is in
            let in_q : in_force q.entries o.key ≡ Some f = ap (option_and_then (λ n. slice_get q.entries n)) h ∙ (sym (rank_get g.flags q.entries j m) ∙ (ap (λ n. slice_get there n) z ∙ y)) in
            let u = o.used in
            let i = contains_in kept u.event u.is_kept in
            let k = right_in EventPair kept others u.event event_pairs i in
            let n = right_of NodePair (leads p u.event.node u.path) (leads q k.0.node u.path) u.node (path_pair u.event k.0 u.path i k.2) u.leads_there in
            let t : target q.classes q.bytes n.0 ≡ Some o.key = sym (pair_target p q (has_nodes p a) (has_nodes q b) u.node n.0 n.2) ∙ u.refers in
            let both = follow_pair p q (has_nodes p a) (has_nodes q b) u.node n.0 n.2
            (λ w v. same_entry w (record { event = u.event; is_kept = u.is_kept; path = u.path; node = u.node; leads_there = u.leads_there; refers = v })) in
            both_some NodePair (follow p u.node) (follow q n.0) (entry_node e) (entry_node f) both (follow_is p (has_nodes p a) u.node o.key e u.refers in_p)
            (follow_is q (has_nodes q b) n.0 o.key f t in_q)

    related_from : (es fs : List EntryAt) → SameEntries p q es fs → ((e : EntryAt) → In es e → In (remain p kept) e)
        → ((number : ℕ) (e f : EntryAt) → slice_get es number ≡ Some e → slice_get fs number ≡ Some f → NodePair (entry_node e) (entry_node f)) → Related EntryPair es fs
    related_from [] [] s i h = tt
    related_from [] (f ∷ fs) s i h = absurd s
    related_from (e ∷ es) [] s i h = absurd s
    related_from (e ∷ es) (f ∷ fs) s i h =
        (record { copied = s.0; bytes = s.1; pair = h 0 e f refl refl; remains = i e (inl refl) }, s.2, related_from es fs s.3 (λ d j. i d (inr j)) (λ n d c x y. h (suc n) d c x y))

    pub entry_pairs : Related EntryPair (remain p kept) (remain q others)
    unfolding remain
    entry_pairs = subst (Related EntryPair here) (sym remain_there) (related_from here there corresponding (λ e i. i) placed)
