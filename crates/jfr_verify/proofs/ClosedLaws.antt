-- Whether all that is referred to is marked.
use Rattle.std.specs.Prelude.{◌≡◌, ◌⊎◌, ◌<◌, ◌≤◌, ◌+◌, ℕ, zero, suc, Bool, true, false, ◌&&◌, List, [], ◌∷◌, ◌++◌, take, drop, length, slice_get, Some, All, unwrap_or, if◌then◌else◌}
use Rattle.std.specs.Option.{option_map_or}
use Rattle.std.specs.List.{AllByRecursion, list_all}
use Rattle.std.proofs.Common.{ap, arith, refl, sym, ◌∙◌, inl, inr}
use Rattle.std.proofs.lemmas.List.{append-nil}
use Rattle.std.proofs.lemmas.Bool.{cases_lt}
use Rattle.std.proofs.lemmas.List.Elements.{All-from_recursion, recursion_from_All}
use Rattle.jfr_verify.specs.Checks.{AreClosed}
use Rattle.jfr_value.specs.Visits.{TakesAll}
use Rattle.jfr_pool.specs.declared.entry.EntryAt.{EntryAt}
use Rattle.jfr_pool.specs.Entries.{number_in_force}
use Rattle.jfr_chunk.specs.Parts.{Parts, EventAt, events_of}
use Rattle.jfr_worklist.specs.Marks.{is_marked, IsMarked, those}
use Rattle.jfr_chunk.specs.Reach.{marked, kept_by, roots, node_entries, next_entries}
use Rattle.jfr_verify.specs.declared.closed.ClosedCheck.{ClosedCheck}
use Rattle.jfr_verify.specs.Decided.{Decided}
use Rattle.jfr_verify.specs.Closed.{are_marked, ChecksMarks, events_closed, kept_refs, marked_refs, entries_closed}
use Rattle.jfr_layout.proofs.Lists.{present}
use Rattle.jfr_chunk.proofs.RootLaws.{roots_append, roots_one, takes_those}
use Rattle.jfr_verify.proofs.RankLaws.{marked_one}

and_assoc : (a b c : Bool) → ((a && b) && c) ≡ (a && (b && c))
and_assoc true b c = refl
and_assoc false b c = refl

all_append : (ms : List Bool) (xs ys : List ℕ) → are_marked ms (xs ++ ys) ≡ (are_marked ms xs && are_marked ms ys)
all_append ms [] ys = refl
all_append ms (x ∷ xs) ys = ap (λ z. is_marked ms x && z) (all_append ms xs ys) ∙ sym (and_assoc (is_marked ms x) (are_marked ms xs) (are_marked ms ys))

and_true : (a : Bool) → (a && true) ≡ a
and_true true = refl
and_true false = refl

pub checks_none : (a : ClosedCheck) → ChecksMarks [] a a
checks_none a = record { marks = refl; closed = sym (and_true a.closed) }

checks_then : (xs ys : List ℕ) (a b c : ClosedCheck) → ChecksMarks xs a b → ChecksMarks ys b c → ChecksMarks (xs ++ ys) a c
checks_then xs ys a b c p q = record {
  marks = q.marks ∙ p.marks;
  closed = q.closed ∙ (ap (λ z. z && are_marked b.marks.items ys) p.closed ∙ (ap (λ z. (a.closed && are_marked a.marks.items xs) && are_marked z ys) p.marks
      ∙ (and_assoc a.closed (are_marked a.marks.items xs) (are_marked a.marks.items ys) ∙ ap (λ z. a.closed && z) (sym (all_append a.marks.items xs ys)))));
}

pub checks_all : (es : List EntryAt) (ts : List (ℕ × ℕ)) (old new : ClosedCheck) → TakesAll (λ t a b. ChecksMarks (those (number_in_force es) (t ∷ [])) a b) ts old new
    → ChecksMarks (those (number_in_force es) ts) old new
checks_all es = takes_those ChecksMarks checks_none checks_then (number_in_force es)

module _ (p : Parts) where
  -- What the first entries refer to was checked.
  pub record InEntries (n : ℕ) (old now : ClosedCheck) : Type 0 where
    pub marks : now.marks.items ≡ old.marks.items
    pub closed : now.closed ≡ (old.closed && entries_closed p old.marks.items n)

  pub entries_start : (a : ClosedCheck) → InEntries 0 a a
  entries_start a = record { marks = refl; closed = sym (and_true a.closed) }

  pub entries_next : (n : ℕ) (old a b : ClosedCheck) → InEntries n old a → ChecksMarks (marked_refs p a.marks.items n) a b → InEntries (n + 1) old b
  entries_next n old a b h c =
      let q : n + 1 ≡ suc n = omega arith in
      record {
        marks = c.marks ∙ h.marks;
        closed = c.closed ∙ (ap (λ z. z && are_marked a.marks.items (marked_refs p a.marks.items n)) h.closed
            ∙ (ap (λ z. (old.closed && entries_closed p old.marks.items n) && are_marked z (marked_refs p z n)) h.marks
            ∙ (and_assoc old.closed (entries_closed p old.marks.items n) (are_marked old.marks.items (marked_refs p old.marks.items n))
            ∙ ap (λ z. old.closed && entries_closed p old.marks.items z) (sym q))));
      }

  -- What the first events refer to was checked.
  abbrev pub first_kept : List Bool → ℕ → List EventAt
  first_kept flags n = marked (take n flags) (take n (events_of p))

  abbrev refers : EventAt → List ℕ
  refers e = node_entries p.entries p.classes p.bytes e.node

  pub kept_one : (flags marks : List Bool) (n : ℕ) → length flags ≡ length (events_of p) → n < length flags
      → are_marked marks (roots p (first_kept flags (n + 1))) ≡ (are_marked marks (roots p (first_kept flags n)) && are_marked marks (kept_refs p flags n))
  kept_one flags marks n l h =
      let b = present flags n h in
      let e = present (events_of p) n (omega (arith, l)) in
      let q : n + 1 ≡ suc n = omega arith in
      ap (λ z. are_marked marks (roots p (first_kept flags z))) q ∙ (ap (λ z. are_marked marks (roots p z)) (marked_one flags (events_of p) n b.0 e.0 b.1 e.1) ∙ by_flag b.0 e.0 b.1 e.1)
    where
      by_flag : (b : Bool) (e : EventAt) → slice_get flags n ≡ Some b → slice_get (events_of p) n ≡ Some e
          → are_marked marks (roots p (first_kept flags n ++ (if b then e ∷ [] else []))) ≡ (are_marked marks (roots p (first_kept flags n)) && are_marked marks (kept_refs p flags n))
      by_flag true e f g =
          let k : kept_refs p flags n ≡ refers e = ap (λ o. if unwrap_or o false then option_map_or refers (slice_get (events_of p) n) [] else []) f ∙ ap (λ o. option_map_or refers o []) g in
          ap (are_marked marks) (roots_one p (first_kept flags n) e)
          ∙ (all_append marks (roots p (first_kept flags n)) (refers e) ∙ ap (λ z. are_marked marks (roots p (first_kept flags n)) && are_marked marks z) (sym k))
      by_flag false e f g =
          let k : kept_refs p flags n ≡ [] = ap (λ o. if unwrap_or o false then option_map_or refers (slice_get (events_of p) n) [] else []) f in
          ap (λ z. are_marked marks (roots p z)) (append-nil (first_kept flags n))
          ∙ (sym (and_true (are_marked marks (roots p (first_kept flags n)))) ∙ ap (λ z. are_marked marks (roots p (first_kept flags n)) && are_marked marks z) (sym k))

  marked_split : (fs : List Bool) (es : List EventAt) (n : ℕ) → marked fs es ≡ marked (take n fs) (take n es) ++ marked (drop n fs) (drop n es)
  marked_split fs es zero = refl
  marked_split [] [] (suc n) = refl
  marked_split [] (y ∷ es) (suc n) = refl
  marked_split (x ∷ fs) [] (suc n) = sym (none_left (drop n fs))
    where
      none_left : (ms : List Bool) → marked {X = EventAt} ms [] ≡ []
      none_left [] = refl
      none_left (m ∷ ms) = refl
  marked_split (true ∷ fs) (y ∷ es) (suc n) = ap (λ z. y ∷ z) (marked_split fs es n)
  marked_split (false ∷ fs) (y ∷ es) (suc n) = marked_split fs es n

  pub kept_false : (flags marks : List Bool) (n : ℕ) → length flags ≡ length (events_of p) → n < length flags → are_marked marks (kept_refs p flags n) ≡ false
      → events_closed p marks (kept_by p flags) ≡ false
  kept_false flags marks n l h e =
      let s : are_marked marks (roots p (first_kept flags (n + 1))) ≡ false =
      kept_one flags marks n l h ∙ (ap (λ z. are_marked marks (roots p (first_kept flags n)) && z) e ∙ and_false (are_marked marks (roots p (first_kept flags n)))) in
      ap (λ z. are_marked marks (roots p z)) (marked_split flags (events_of p) (n + 1))
      ∙ (ap (are_marked marks) (roots_append p (first_kept flags (n + 1)) (marked (drop (n + 1) flags) (drop (n + 1) (events_of p))))
      ∙ (all_append marks (roots p (first_kept flags (n + 1))) (roots p (marked (drop (n + 1) flags) (drop (n + 1) (events_of p))))
      ∙ ap (λ z. z && are_marked marks (roots p (marked (drop (n + 1) flags) (drop (n + 1) (events_of p))))) s))
    where
      and_false : (a : Bool) → (a && false) ≡ false
      and_false true = refl
      and_false false = refl

  pub kept_true : (flags marks : List Bool) (n : ℕ) → length flags ≡ length (events_of p) → n < length flags → are_marked marks (roots p (first_kept flags n)) ≡ true
      → are_marked marks (kept_refs p flags n) ≡ true → are_marked marks (roots p (first_kept flags (n + 1))) ≡ true
  kept_true flags marks n l h a b = kept_one flags marks n l h ∙ (ap (λ z. z && are_marked marks (kept_refs p flags n)) a ∙ b)

  -- If all events are kept, all references are checked.
  pub kept_all : (flags marks : List Bool) (numbers : List ℕ) → list_all (λ keep. keep) flags ≡ true → length flags ≡ length (events_of p) → numbers ≡ roots p (events_of p)
      → are_marked marks numbers ≡ events_closed p marks (kept_by p flags)
  kept_all flags marks numbers a l e = ap (are_marked marks) (e ∙ ap (roots p) (sym (all_kept flags (events_of p) a l)))
    where
      all_kept : (fs : List Bool) (es : List EventAt) → list_all (λ keep. keep) fs ≡ true → length fs ≡ length es → marked fs es ≡ es
      all_kept [] [] a l = refl
      all_kept [] (y ∷ es) a l = cc
      all_kept (x ∷ fs) [] a l = cc
      all_kept (true ∷ fs) (y ∷ es) a l = ap (λ z. y ∷ z) (all_kept fs es a (omega (arith, l)))
      all_kept (false ∷ fs) (y ∷ es) a l = cc

  -- The result of the computation is the fact.
  each_marked : (ms : List Bool) (xs : List ℕ) → are_marked ms xs ≡ true → All (IsMarked ms) xs
  each_marked ms xs e = All-from_recursion (IsMarked ms) xs (by_list xs e)
    where
      by_mark : (b c : Bool) → (b && c) ≡ true → (b ≡ true) × (c ≡ true)
      by_mark true c h = (refl, h)
      by_mark false c h = cc

      by_list : (xs : List ℕ) → are_marked ms xs ≡ true → AllByRecursion (IsMarked ms) xs
      by_list [] e = tt
      by_list (x ∷ xs) e = let h = by_mark (is_marked ms x) (are_marked ms xs) e in (h.0, by_list xs h.1)

  marked_each : (ms : List Bool) (xs : List ℕ) → All (IsMarked ms) xs → are_marked ms xs ≡ true
  marked_each ms xs a = by_list xs (recursion_from_All (IsMarked ms) xs a)
    where
      by_list : (xs : List ℕ) → AllByRecursion (IsMarked ms) xs → are_marked ms xs ≡ true
      by_list [] a = refl
      by_list (x ∷ xs) a = ap (λ z. z && are_marked ms xs) a.0 ∙ by_list xs a.1

  both_true : (b c : Bool) → (b && c) ≡ true → (b ≡ true) × (c ≡ true)
  both_true true c h = (refl, h)
  both_true false c h = cc

  entries_each : (ms : List Bool) (n : ℕ) → entries_closed p ms n ≡ true → (i : ℕ) → i < n → IsMarked ms i → All (IsMarked ms) (next_entries p i)
  entries_each ms zero e i h m = absurd (omega arith)
  entries_each ms (suc n) e i h m =
      let parts = both_true (entries_closed p ms n) (are_marked ms (marked_refs p ms n)) e in
      by_order (cases_lt i n) (λ l. entries_each ms n parts.0 i l m) parts.1
    where
      by_order : (i < n) ⊎ (n ≤ i) → (i < n → All (IsMarked ms) (next_entries p i)) → are_marked ms (marked_refs p ms n) ≡ true → All (IsMarked ms) (next_entries p i)
      by_order (inl l) f e = f l
      by_order (inr g) f e =
          let q : n ≡ i = omega arith in
          let r : marked_refs p ms i ≡ next_entries p i = ap (λ b. if b then next_entries p i else []) m in
          each_marked ms (next_entries p i) (ap (are_marked ms) (sym r) ∙ (ap (λ z. are_marked ms (marked_refs p ms z)) (sym q) ∙ e))

  each_entries : (ms : List Bool) (n : ℕ) → ((i : ℕ) → IsMarked ms i → All (IsMarked ms) (next_entries p i)) → entries_closed p ms n ≡ true
  each_entries ms zero f = refl
  each_entries ms (suc n) f = ap (λ z. z && are_marked ms (marked_refs p ms n)) (each_entries ms n f) ∙ by_mark (is_marked ms n) refl
    where
      by_mark : (b : Bool) → is_marked ms n ≡ b → are_marked ms (marked_refs p ms n) ≡ true
      by_mark true e = ap (λ b. are_marked ms (if b then next_entries p n else [])) e ∙ marked_each ms (next_entries p n) (f n e)
      by_mark false e = ap (λ b. are_marked ms (if b then next_entries p n else [])) e

  marked_within : (ms : List Bool) (i : ℕ) → IsMarked ms i → i < length ms
  marked_within [] i e = cc
  marked_within (m ∷ ms) zero e = omega arith
  marked_within (m ∷ ms) (suc i) e = omega (arith, marked_within ms i e)

  closed_is : (kept : List EventAt) (ms : List Bool) → length ms ≡ length p.entries → (events_closed p ms kept && entries_closed p ms (length p.entries)) ≡ true → AreClosed p kept ms
  closed_is kept ms l e = by_parts (events_closed p ms kept) refl e
    where
      by_parts : (b : Bool) → events_closed p ms kept ≡ b → (b && entries_closed p ms (length p.entries)) ≡ true → AreClosed p kept ms
      by_parts true q h = record { events = each_marked ms (roots p kept) q; entries = λ i m. entries_each ms (length p.entries) h i (omega (arith, l, marked_within ms i m)) m }
      by_parts false q h = cc

  is_closed : (kept : List EventAt) (ms : List Bool) → AreClosed p kept ms → (events_closed p ms kept && entries_closed p ms (length p.entries)) ≡ true
  is_closed kept ms c = ap (λ z. z && entries_closed p ms (length p.entries)) (marked_each ms (roots p kept) c.events) ∙ each_entries ms (length p.entries) c.entries

  -- The computation decides the fact.
  pub closed_decided : (kept : List EventAt) (ms : List Bool) → length ms ≡ length p.entries → (b : Bool) → b ≡ (events_closed p ms kept && entries_closed p ms (length p.entries))
      → Decided (AreClosed p kept ms) b
  closed_decided kept ms l true e = closed_is kept ms l (sym e)
  closed_decided kept ms l false e = λ c. (let h = is_closed kept ms c in let z : false ≡ true = e ∙ h in cc)
