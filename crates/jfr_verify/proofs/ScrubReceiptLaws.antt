-- The receipt of a chunk's scrub has the lines of the chunk's kept events, with the ranks of their entries.
use Rattle.std.specs.Prelude.{◌≡◌, ◌↔◌, ◌⊎◌, ⊤, ℕ, zero, suc, ◌+◌, ◌<◌, Bool, true, false, List, [], ◌∷◌, ◌++◌, length, map, replicate, take, slice_get, slice_index_or, slice_set, Option, Some, None, option_and_then}
use Rattle.std.specs.List.{AllByRecursion, flat_map}
use Rattle.std.specs.Option.{option_map_or}
use Rattle.std.proofs.Common.{ap, arith, refl, sym, ◌∙◌, subst, inl, inr}
use Rattle.std.proofs.lemmas.List.{length-append, length-map, length-replicate, length-set, map-append}
use Rattle.std.proofs.lemmas.List.Elements.{recursion_from_All}
use Rattle.std.proofs.lemmas.Option.{slice_get_within}
use Rattle.jfr_base.specs.Integer.{spell}
use Rattle.jfr_layout.specs.Classes.{Agree}
use Rattle.jfr_layout.specs.declared.shape.Shape.{Shape}
use Rattle.jfr_value.specs.Nodes.{Both, node_bytes, targets}
use Rattle.jfr_pool.specs.declared.entry.EntryAt.{EntryAt}
use Rattle.jfr_pool.specs.Entries.{entry_node, in_force, inline, number_in_force}
use Rattle.jfr_pool.proofs.ForceLaws.{forced}
use Rattle.jfr_worklist.specs.Marks.{IsMarked, add, is_marked, marked_at, those}
use Rattle.jfr_worklist.specs.Worklists.{marked_count}
use Rattle.jfr_worklist.proofs.Counts.{count_le, count_none, count_set}
use Rattle.jfr_worklist.specs.Members.{In}
use Rattle.jfr_chunk.specs.Meaning.{SameEntry, SameEvent, SameMeaning}
use Rattle.jfr_chunk.specs.Parts.{AreParts, EventAt, Parts, events_of}
use Rattle.jfr_chunk.specs.Reach.{kept_by, marked, next_entries, node_entries, roots}
use Rattle.jfr_chunk.proofs.AllLaws.{all_append}
use Rattle.jfr_worklist.proofs.MarkLaws.{all_here, all_only, none_marked, set_here, set_old, set_only, set_stays}
use Rattle.jfr_chunk.proofs.ReachedLaws.{path_reach}
use Rattle.jfr_chunk.proofs.HasNodesLaws.{event_is, has_nodes}
use Rattle.jfr_chunk.specs.Metas.{Names}
use Rattle.jfr_laws.specs.Laws.{IsKept}
use Rattle.jfr_laws.proofs.Entries.{copied_force, in_force_same, marked_force}
use Rattle.jfr_laws.proofs.Marks.{rank}
use Rattle.jfr_verify.specs.declared.line.Line.{Line}
use Rattle.jfr_verify.specs.declared.line.Parent.{Parent}
use Rattle.jfr_verify.specs.declared.line.Parent.TheVariants.{OfEntry, OfEvent}
use Rattle.jfr_verify.specs.Laws.{Passes}
use Rattle.jfr_verify.specs.Ranks.{AreRanks, kept_lines, ranked, ranked_bytes, ranked_parent}
use Rattle.jfr_verify.specs.Receipts.{event_lines, line_bytes, line_if, lines_from, lines_of, new_lines, no_marks, receipt_of}
use Rattle.jfr_verify.proofs.CompleteLaws.{kept_passes}
use Rattle.jfr_verify.proofs.CopyLaws.{copied_length}
use Rattle.jfr_verify.proofs.LineLaws.{each_has_line, entries, receipt_of_is_receipt}
use Rattle.jfr_worklist.proofs.MarkLaws as marks_laws
use Rattle.jfr_verify.proofs.RankLaws.{rank_once, rank_within}
use Rattle.jfr_verify.proofs.SpellingLaws.{receipt_exact}
use Rattle.jfr_verify.proofs.VerifiedLaws.{copy_of, copy_targets, kept_node, meaning, output_event, targets_same}
use Rattle.jfr_verify.proofs.WalkLaws.{none_left, roots_cons}
use Rattle.jfr_layout.proofs.Lists.{present}

-- ---- lists and marks

nothing : (R : EntryAt → EntryAt → Type 0) (x y : Option EntryAt) (f : EntryAt) → Both R x y → x ≡ None → y ≡ Some f → ⊥
nothing R None None f r u v = cc
nothing R None (Some g) f r u v = absurd r
nothing R (Some g) y f r u v = cc

both_or_neither : (x y : Bool) → (x ≡ true → y ≡ true) → (y ≡ true → x ≡ true) → x ≡ y
both_or_neither true y f g = sym (f refl)
both_or_neither false true f g = g refl
both_or_neither false false f g = refl

all_split : {X : Type 0} (P : X → Type 0) (xs ys : List X) → AllByRecursion P (xs ++ ys) → AllByRecursion P xs × AllByRecursion P ys
all_split P [] ys a = (tt, a)
all_split P (x ∷ xs) ys a = let r = all_split P xs ys a.1 in ((a.0, r.0), r.1)

none_set : (n i : ℕ) → is_marked (replicate n false) i ≡ false
none_set zero i = refl
none_set (suc n) zero = refl
none_set (suc n) (suc i) = none_set n i

-- The number of marks before a place is the rank there.
count_is_rank : (f g : List Bool) → ((i : ℕ) → IsMarked f i ↔ IsMarked g i) → (n : ℕ) → marked_count (take n f) ≡ rank g n
count_is_rank [] [] h zero = refl
count_is_rank [] [] h (suc n) = refl
count_is_rank [] (b ∷ g) h zero = refl
count_is_rank [] (true ∷ g) h (suc n) = let z : IsMarked [] 0 = (h 0).1 refl in cc
count_is_rank [] (false ∷ g) h (suc n) = count_none_before [] n ∙ count_is_rank [] g (λ i. ((λ e. cc), (λ e. (h (suc i)).1 e))) n
  where
    count_none_before : (ms : List Bool) (n : ℕ) → marked_count (take (suc n) []) ≡ marked_count (take n [])
    count_none_before ms zero = refl
    count_none_before ms (suc n) = refl
count_is_rank (b ∷ f) [] h zero = refl
count_is_rank (true ∷ f) [] h (suc n) = let z : IsMarked [] 0 = (h 0).0 refl in cc
count_is_rank (false ∷ f) [] h (suc n) = count_is_rank f [] (λ i. ((λ e. (h (suc i)).0 e), (λ e. cc))) n
count_is_rank (b ∷ f) (c ∷ g) h zero = refl
count_is_rank (true ∷ f) (true ∷ g) h (suc n) = ap (λ z. suc z) (count_is_rank f g (λ i. h (suc i)) n)
count_is_rank (false ∷ f) (false ∷ g) h (suc n) = count_is_rank f g (λ i. h (suc i)) n
count_is_rank (true ∷ f) (false ∷ g) h (suc n) = let z : false ≡ true = (h 0).0 refl in cc
count_is_rank (false ∷ f) (true ∷ g) h (suc n) = let z : false ≡ true = (h 0).1 refl in cc

-- One mark more, with a line if it is new.
count_one : (f : List Bool) (i : ℕ) (l : Line) (rest : List Line) (total : ℕ) → i < length f → total ≡ marked_count (slice_set f i true) + length rest → (t : Bool) → is_marked f i ≡ t
    → total ≡ marked_count f + length (line_if t l rest)
count_one f i l rest total h c true e = c ∙ ap (λ z. marked_count z + length rest) (set_old f i e)
count_one f i l rest total h c false e = let u : marked_count (slice_set f i true) ≡ marked_count f + 1 = count_set f i h e in omega arith

abbrev line : ℕ → Parent → Line
line entry parent = record { entry = entry; parent = parent }

-- ---- the lines of a chunk and of its scrub

module _ (p q : Parts) (a : AreParts p) (b : AreParts q) (flags : List Bool) (receipt : List ℕ) (h : Passes p q (kept_by p flags) receipt) where
  abbrev kept : List EventAt
  kept = kept_by p flags

  abbrev marks : List Bool
  marks = h.marks

  -- The number of an entry in the output.
  abbrev to : ℕ → ℕ
  to n = rank marks n

  abbrev AllMarked : List ℕ → Type 0
  AllMarked is = AllByRecursion (IsMarked marks) is

  abbrev refers : Parts → EventAt → List ℕ
  refers r e = node_entries r.entries r.classes r.bytes e.node

  below : (i : ℕ) → IsMarked marks i → i < length p.entries
  below i m = let g = h.among.in_force i m in slice_get_within p.entries i g.entry g.holds

  to_below : (i : ℕ) → IsMarked marks i → to i < length q.entries
  to_below i m =
      let g = h.among.in_force i m in
      let w : to i < length (marked marks p.entries) = rank_within marks p.entries i g.entry m g.holds in
      let n : length (marked marks p.entries) ≡ length q.entries = copied_length p q (marked marks p.entries) q.entries h.among.copied in
      omega arith

  -- What is in force for a class and a key.
  force_some : (t : ℕ × ℕ) (n : ℕ) → number_in_force p.entries t ≡ Some n → IsMarked marks n → number_in_force q.entries t ≡ Some (to n)
  force_some t n e m = sym (copied_force p q (marked marks p.entries) q.entries t h.among.copied) ∙ marked_force marks p.entries t n e m

  force_none : (t : ℕ × ℕ) → number_in_force p.entries t ≡ None → number_in_force q.entries t ≡ None
  force_none t e = by_number (number_in_force q.entries t) refl
    where
      by_number : (o : Option ℕ) → number_in_force q.entries t ≡ o → number_in_force q.entries t ≡ None
      by_number None f = f
      by_number (Some n) f =
          let g = forced q.entries t n f in
          let same : SameEntry p q t = in_force_same p q marks t h.among.copied (λ m k. (let z : None ≡ Some m = sym e ∙ k in cc)) in
          absurd (nothing (λ e f. node_bytes p.bytes (entry_node e) ≡ node_bytes q.bytes (entry_node f)) (in_force p.entries t) (in_force q.entries t) g.entry same
          (ap (option_and_then (λ n. slice_get p.entries n)) e) g.is)

  those_same : (ts : List (ℕ × ℕ)) → AllMarked (those (number_in_force p.entries) ts) → those (number_in_force q.entries) ts ≡ map to (those (number_in_force p.entries) ts)
  those_same [] m = refl
  those_same (t ∷ ts) m = by_number (number_in_force p.entries t) refl m (those_same ts)
    where
      rest : List ℕ
      rest = those (number_in_force p.entries) ts

      others : List ℕ
      others = those (number_in_force q.entries) ts

      by_number : (o : Option ℕ) → number_in_force p.entries t ≡ o → AllMarked (add o rest) → (AllMarked rest → others ≡ map to rest) → add (number_in_force q.entries t) others ≡ map to (add o rest)
      by_number None e m f = ap (λ z. add z others) (force_none t e) ∙ f m
      by_number (Some n) e m f = ap (λ z. add z others) (force_some t n e m.0) ∙ ap (λ z. to n ∷ z) (f m.1)

  -- What an event and its copy refer to.
  event_same : (e f : EventAt) → In kept e → In (events_of q) f → SameEvent p q e f → AllMarked (refers p e) → refers q f ≡ map to (refers p e)
  event_same e f i j s m =
      let v = kept_node p q a b flags receipt h e i in
      let w = event_is q b f j in
      let shape : f.node.shape ≡ inline f.record_of.type_id = w.shape in
      let agree : Agree p.classes q.classes e.node.shape.class =
      subst (Agree p.classes q.classes) (sym (ap (λ (z : Shape). z.class) ((s.paths []).shape ∙ shape))) (output_event p q a b flags receipt h f j) in
      let same : targets p.classes p.bytes e.node ≡ targets q.classes q.bytes f.node = targets_same p q a b flags receipt h e.node f.node v.0 w.value v.1 w.node (s.paths []) agree in
      ap (those (number_in_force q.entries)) (sym same) ∙ those_same (targets p.classes p.bytes e.node) m

  next_marked : (i : ℕ) → IsMarked marks i → AllMarked (next_entries p i)
  next_marked i m = recursion_from_All (IsMarked marks) (next_entries p i) (h.closed.entries i m)

  -- What a marked entry and its copy refer to.
  next_same : (i : ℕ) → IsMarked marks i → next_entries q (to i) ≡ map to (next_entries p i)
  next_same i m =
      let f = present q.entries (to i) (to_below i m) in
      let c = copy_of p q a b flags receipt h (to i) f.0 f.1 in
      let place : c.place ≡ i = rank_once marks c.place i c.is_marked m c.number_is in
      let there : slice_get p.entries i ≡ Some c.entry = ap (slice_get p.entries) (sym place) ∙ c.holds in
      let same = copy_targets p q a b flags receipt h (to i) f.0 f.1 c in
      let x : next_entries p i ≡ those (number_in_force p.entries) (targets p.classes p.bytes (entry_node c.entry)) =
      ap (λ o. those (number_in_force p.entries) (option_map_or (λ e. targets p.classes p.bytes (entry_node e)) o [])) there in
      let y : next_entries q (to i) ≡ those (number_in_force q.entries) (targets q.classes q.bytes (entry_node f.0)) =
      ap (λ o. those (number_in_force q.entries) (option_map_or (λ e. targets q.classes q.bytes (entry_node e)) o [])) f.1 in
      y ∙ (ap (those (number_in_force q.entries)) (sym same) ∙ (those_same (targets p.classes p.bytes (entry_node c.entry)) (subst AllMarked x (next_marked i m)) ∙ ap (map to) (sym x)))

  -- Marks on the entries of both chunks, the same ones.
  record Alike (f g : List Bool) : Type 0 where
    size : length f ≡ length p.entries
    other : length g ≡ length q.entries
    same : (i : ℕ) → IsMarked marks i → is_marked g (to i) ≡ is_marked f i

  alike_set : (f g : List Bool) (j : ℕ) → IsMarked marks j → Alike f g → Alike (slice_set f j true) (slice_set g (to j) true)
  alike_set f g j m s = record {
    size = length-set f j true ∙ s.size;
    other = length-set g (to j) true ∙ s.other;
    same = λ i n. both_or_neither (is_marked (slice_set g (to j) true) (to i)) (is_marked (slice_set f j true) i) (λ k. left i n (set_only g (to j) (to i) k)) (λ k. right i n (set_only f j i k));
  }
    where
      left : (i : ℕ) → IsMarked marks i → IsMarked g (to i) ⊎ (to j ≡ to i) → IsMarked (slice_set f j true) i
      left i n (inl k) = set_stays f j i (sym (s.same i n) ∙ k)
      left i n (inr e) = subst (IsMarked (slice_set f j true)) (rank_once marks j i m n e) (set_here f j (omega (arith, below j m, s.size)))

      right : (i : ℕ) → IsMarked marks i → IsMarked f i ⊎ (j ≡ i) → IsMarked (slice_set g (to j) true) (to i)
      right i n (inl k) = set_stays g (to j) (to i) (s.same i n ∙ k)
      right i n (inr e) = subst (λ z. IsMarked (slice_set g (to j) true) (to z)) e (set_here g (to j) (omega (arith, to_below j m, s.other)))

  -- A line of marked entries, and its counterpart.
  abbrev GoodParent : Parent → Type 0
  GoodParent (OfEvent n) = ⊤
  GoodParent (OfEntry n) = IsMarked marks n

  abbrev Good : Line → Type 0
  Good l = IsMarked marks l.entry × GoodParent l.parent

  abbrev moved_parent : Parent → Parent
  moved_parent (OfEvent n) = OfEvent n
  moved_parent (OfEntry n) = OfEntry (to n)

  abbrev moved : Line → Line
  moved l = line (to l.entry) (moved_parent l.parent)

  abbrev AllGood : List Line → Type 0
  AllGood ls = AllByRecursion Good ls

  map_if : (t : Bool) (l : Line) (ls : List Line) → map moved (line_if t l ls) ≡ line_if t (moved l) (map moved ls)
  map_if true l ls = refl
  map_if false l ls = refl

  good_if : (t : Bool) (l : Line) (ls : List Line) → Good l → AllGood ls → AllGood (line_if t l ls)
  good_if true l ls g k = k
  good_if false l ls g k = (g, k)

  -- Lines that are added for both chunks, and the marks then.
  record Added (f g f' g' : List Bool) (ls ms : List Line) : Type 0 where
    lines : ms ≡ map moved ls
    good : AllGood ls
    alike : Alike f' g'
    count : marked_count f' ≡ marked_count f + length ls
    other : marked_count g' ≡ marked_count g + length ls

  new_same : (f g : List Bool) (parent : Parent) (is : List ℕ) → GoodParent parent → AllMarked is → Alike f g
      → Added f g (marked_at f is) (marked_at g (map to is)) (new_lines f parent is) (new_lines g (moved_parent parent) (map to is))
  new_same f g parent [] r m s = record { lines = refl; good = tt; alike = s; count = omega arith; other = omega arith }
  new_same f g parent (i ∷ is) r m s =
      let n = new_same (slice_set f i true) (slice_set g (to i) true) parent is r m.1 (alike_set f g i m.0 s) in
      let l : Line = line i parent in
      let rest : List Line = new_lines (slice_set f i true) parent is in
      let news : List Line = new_lines (slice_set g (to i) true) (moved_parent parent) (map to is) in
      record {
        lines = ap (λ t. line_if t (moved l) news) (s.same i m.0) ∙ (ap (line_if (is_marked f i) (moved l)) n.lines ∙ sym (map_if (is_marked f i) l rest));
        good = good_if (is_marked f i) l rest (m.0, r) n.good;
        alike = n.alike;
        count = count_one f i l rest (marked_count (marked_at (slice_set f i true) is)) (omega (arith, below i m.0, s.size)) n.count (is_marked f i) refl;
        other = count_one g (to i) l rest (marked_count (marked_at (slice_set g (to i) true) (map to is))) (omega (arith, to_below i m.0, s.other)) n.other (is_marked f i) (s.same i m.0);
      }

  -- The lines for events.
  events_same : (f g : List Bool) (n : ℕ) (es fs : List EventAt) → ((e : EventAt) → In es e → In kept e) → ((e : EventAt) → In fs e → In (events_of q) e) → SameMeaning p q es fs
      → AllMarked (roots p es) → Alike f g
      → Added f g (marked_at f (roots p es)) (marked_at g (roots q fs)) (event_lines p f n es) (event_lines q g n fs)
  events_same f g n [] [] i j s m k = record { lines = refl; good = tt; alike = k; count = omega arith; other = omega arith }
  events_same f g n [] (y ∷ fs) i j s m k = absurd s
  events_same f g n (x ∷ es) [] i j s m k = absurd s
  events_same f g n (x ∷ es) (y ∷ fs) i j s m k =
      let is : List ℕ = refers p x in
      let u = all_split (IsMarked marks) is (roots p es) (subst AllMarked (roots_cons p x es) m) in
      let e : refers q y ≡ map to is = event_same x y (i x (inl refl)) (j y (inl refl)) s.0 u.0 in
      let w = new_same f g (OfEvent n) is tt u.0 k in
      let v = events_same (marked_at f is) (marked_at g (map to is)) (suc n) es fs (λ z l. i z (inr l)) (λ z l. j z (inr l)) s.1 u.1 w.alike in
      let first : List Line = new_lines f (OfEvent n) is in
      let later : List Line = event_lines p (marked_at f is) (suc n) es in
      let x' : marked_at f (roots p (x ∷ es)) ≡ marked_at (marked_at f is) (roots p es) = ap (marked_at f) (roots_cons p x es) ∙ marks_laws.all_append f is (roots p es) in
      let y' : marked_at g (roots q (y ∷ fs)) ≡ marked_at (marked_at g (map to is)) (roots q fs) =
      ap (marked_at g) (roots_cons q y fs) ∙ (marks_laws.all_append g (refers q y) (roots q fs) ∙ ap (λ z. marked_at (marked_at g z) (roots q fs)) e) in
      let c = w.count in
      let d = w.other in
      let c' = v.count in
      let d' = v.other in
      let l : length (first ++ later) ≡ length first + length later = length-append first later in
      let c'' : marked_count (marked_at f (roots p (x ∷ es))) ≡ marked_count (marked_at (marked_at f is) (roots p es)) = ap marked_count x' in
      let d'' : marked_count (marked_at g (roots q (y ∷ fs))) ≡ marked_count (marked_at (marked_at g (map to is)) (roots q fs)) = ap marked_count y' in
      record {
        lines = ap (λ z. new_lines g (OfEvent n) z ++ event_lines q (marked_at g z) (suc n) fs) e
            ∙ (ap (λ z. z ++ event_lines q (marked_at g (map to is)) (suc n) fs) w.lines ∙ (ap (λ z. map moved first ++ z) v.lines ∙ sym (map-append moved first later)));
        good = all_append Good first later w.good v.good;
        alike = subst (λ z. Alike z (marked_at g (roots q (y ∷ fs)))) (sym x') (subst (Alike (marked_at (marked_at f is) (roots p es))) (sym y') v.alike);
        count = omega arith;
        other = omega arith;
      }

  -- The lines for what the entries of lines refer to. Each entry has at most one line, so turns are left as long
  -- as lines are.
  lines_same : (m n : ℕ) (f g : List Bool) (ls : List Line) → Alike f g → AllGood ls → marked_count f + m ≡ length ls + length p.entries → marked_count g + n ≡ length ls + length q.entries
      → (lines_from n q g (map moved ls) ≡ map moved (lines_from m p f ls)) × AllGood (lines_from m p f ls)
  lines_same m n f g [] s k c d = (none_left q n g ∙ sym (ap (map moved) (none_left p m f)), subst AllGood (sym (none_left p m f)) tt)
  lines_same zero n f g (l ∷ ls) s k c d = absurd (omega (arith, count_le f, s.size, c))
  lines_same (suc m) zero f g (l ∷ ls) s k c d = absurd (omega (arith, count_le g, s.other, d))
  lines_same (suc m) (suc n) f g (l ∷ ls) s k c d =
      let is : List ℕ = next_entries p l.entry in
      let e : next_entries q (to l.entry) ≡ map to is = next_same l.entry k.0.0 in
      let w = new_same f g (OfEntry l.entry) is k.0.0 (next_marked l.entry k.0.0) s in
      let new : List Line = new_lines f (OfEntry l.entry) is in
      let o : length (ls ++ new) ≡ length ls + length new = length-append ls new in
      let c' = w.count in
      let d' = w.other in
      let r = lines_same m n (marked_at f is) (marked_at g (map to is)) (ls ++ new) w.alike (all_append Good ls new k.1 w.good) (omega arith) (omega arith) in (
        ap (λ z. moved l ∷ lines_from n q (marked_at g z) (map moved ls ++ new_lines g (OfEntry (to l.entry)) z)) e
            ∙ (ap (λ z. moved l ∷ lines_from n q (marked_at g (map to is)) z) (ap (λ z. map moved ls ++ z) w.lines ∙ sym (map-append moved ls new)) ∙ ap (λ z. moved l ∷ z) r.0),
        (k.0, r.1),
      )

  -- All the lines.
  record Lines : Type 0 where
    lines : lines_of q ≡ map moved (kept_lines p kept)
    good : AllGood (kept_lines p kept)

  all_lines : Lines
  unfolding kept_lines lines_of
  all_lines =
      let start : Alike (no_marks p) (no_marks q) = record {
        size = length-replicate (length p.entries) false;
        other = length-replicate (length q.entries) false;
        same = λ i m. none_set (length q.entries) (to i) ∙ sym (none_set (length p.entries) i);
      } in
      let e = events_same (no_marks p) (no_marks q) 0 kept (events_of q) (λ x i. i) (λ x i. i) (meaning p q a b flags receipt h)
      (recursion_from_All (IsMarked marks) (roots p kept) h.closed.events) start in
      let x : marked_count (no_marks p) ≡ 0 = count_none (length p.entries) in
      let y : marked_count (no_marks q) ≡ 0 = count_none (length q.entries) in
      let c = e.count in
      let d = e.other in
      let r = lines_same (length p.entries) (length q.entries) (marked_at (no_marks p) (roots p kept)) (marked_at (no_marks q) (roots q (events_of q)))
      (event_lines p (no_marks p) 0 kept) e.alike e.good (omega arith) (omega arith) in
      record {
        lines = ap (lines_from (length q.entries) q (marked_at (no_marks q) (roots q (events_of q)))) e.lines ∙ r.0;
        good = r.1;
      }

  good_entry : (ls : List Line) (i : ℕ) → AllGood ls → In (entries ls) i → IsMarked marks i
  good_entry [] i g k = absurd k
  good_entry (l ∷ ls) i g (inl e) = subst (IsMarked marks) e g.0.0
  good_entry (l ∷ ls) i g (inr k) = good_entry ls i g.1 k

  entry_moved : (ls : List Line) (n : ℕ) → In (entries (map moved ls)) n → (i : ℕ) × In (entries ls) i × (to i ≡ n)
  entry_moved [] n k = absurd k
  entry_moved (l ∷ ls) n (inl e) = (l.entry, inl refl, e)
  entry_moved (l ∷ ls) n (inr k) = let r = entry_moved ls n k in (r.0, inr r.1, r.2)

  -- The marks of the entries that have a line, and the ranks among them.
  module _ (each : (i : ℕ) → i < length q.entries → In (entries (lines_of q)) i) (f : List Bool) (size : length f ≡ length p.entries) (listed : f ≡ marked_at (replicate (length f) false) (entries (kept_lines p kept))) (ranks : List ℕ) (are : AreRanks f ranks) where
    lined : (i : ℕ) → IsMarked f i → IsMarked marks i
    lined i k = by_case (all_only (replicate (length f) false) (entries (kept_lines p kept)) i (subst (λ z. IsMarked z i) listed k))
      where
        by_case : IsMarked (replicate (length f) false) i ⊎ In (entries (kept_lines p kept)) i → IsMarked marks i
        by_case (inl z) = absurd (none_marked (length f) i z)
        by_case (inr j) = good_entry (kept_lines p kept) i all_lines.good j

    has_line : (i : ℕ) → IsMarked marks i → IsMarked f i
    has_line i m =
        let j : In (entries (map moved (kept_lines p kept))) (to i) = subst (λ z. In (entries z) (to i)) all_lines.lines (each (to i) (to_below i m)) in
        let r = entry_moved (kept_lines p kept) (to i) j in
        let e : r.0 ≡ i = rank_once marks r.0 i (good_entry (kept_lines p kept) r.0 all_lines.good r.1) m r.2 in
        let l : length (replicate (length f) false) ≡ length f = length-replicate (length f) false in
        subst (λ z. IsMarked z i) (sym listed) (all_here (replicate (length f) false) (entries (kept_lines p kept)) i (omega (arith, below i m, size)) (subst (In (entries (kept_lines p kept))) e r.1))

    rank_is : (i : ℕ) → IsMarked marks i → slice_index_or ranks i 0 ≡ to i
    rank_is i m = are.each i (omega (arith, below i m, size)) ∙ count_is_rank f marks (λ n. (lined n, has_line n)) i

    parent_is : (parent : Parent) → GoodParent parent → ranked_parent ranks parent ≡ moved_parent parent
    parent_is (OfEvent n) g = refl
    parent_is (OfEntry n) g = ap (λ z. OfEntry z) (rank_is n g)

    line_is : (l : Line) → Good l → ranked ranks l ≡ moved l
    line_is l g = ap (λ z. line z (ranked_parent ranks l.parent)) (rank_is l.entry g.0) ∙ ap (line (to l.entry)) (parent_is l.parent g.1)

    bytes_are : (ls : List Line) → AllGood ls → flat_map (ranked_bytes ranks) ls ≡ flat_map line_bytes (map moved ls)
    bytes_are [] g = refl
    bytes_are (l ∷ ls) g = ap (λ z. line_bytes z ++ flat_map (ranked_bytes ranks) ls) (line_is l g.0) ∙ ap (λ z. line_bytes (moved l) ++ z) (bytes_are ls g.1)

    pub bytes_same : spell (length (kept_lines p kept)) ++ flat_map (ranked_bytes ranks) (kept_lines p kept) ≡ receipt_of q
    unfolding receipt_of
    bytes_same =
        let n : length (lines_of q) ≡ length (kept_lines p kept) = ap length all_lines.lines ∙ length-map (kept_lines p kept) moved in
        ap (λ z. spell z ++ flat_map (ranked_bytes ranks) (kept_lines p kept)) (sym n)
        ∙ ap (λ z. spell (length (lines_of q)) ++ z) (bytes_are (kept_lines p kept) all_lines.good ∙ ap (flat_map line_bytes) (sym all_lines.lines))

-- The bytes of these lines with the ranks of their entries are the receipt of the scrub.
pub scrub_receipt_is : (p : Parts) (a : AreParts p) (flags : List Bool) (names : Names) (k : IsKept names p (kept_by p flags)) (f : List Bool) (ranks : List ℕ) (lines : List Line) (head all : List ℕ)
    → lines ≡ kept_lines p (kept_by p flags) → length f ≡ length p.entries
    → f ≡ marked_at (replicate (length f) false) (entries lines) → AreRanks f ranks → head ≡ spell (length lines) → all ≡ head ++ flat_map (ranked_bytes ranks) lines → all ≡ receipt_of k.parts
scrub_receipt_is p a flags names k f ranks lines head all e size listed are c d =
    let q : Parts = k.parts in
    let reach = λ (i : ℕ) (l : i < length q.entries). path_reach q (has_nodes q k.valid) (events_of q) (λ x m. (let v = event_is q k.valid x m in (v.value, v.node))) i (k.reached i l) in
    let h : Passes p q (kept_by p flags) (receipt_of q) = kept_passes p a flags names k (λ r. receipt_of_is_receipt q reach (receipt_exact q)) in
    d ∙ (ap (λ z. z ++ flat_map (ranked_bytes ranks) lines) c ∙ (ap (λ z. spell (length z) ++ flat_map (ranked_bytes ranks) z) e
    ∙ bytes_same p q a k.valid flags (receipt_of q) h (each_has_line q reach) f size (subst (λ z. f ≡ marked_at (replicate (length f) false) (entries z)) e listed) ranks are))
