-- Which prefix is a receipt.
use Rattle.std.specs.Prelude.{◌≡◌, ◌⊎◌, ◌<◌, ◌≤◌, ◌+◌, ◌-◌, ◌==◌, ℕ, zero, suc, Bool, true, false, List, [], ◌∷◌, take, map, length, replicate, slice_get, slice_set, slice_range, Option, Some, None, Ok, Err, Contains, option_map, if◌then◌else◌}
use Rattle.std.specs.Option.{option_map_or}
use Rattle.std.proofs.Common.{ap, arith, refl, sym, ◌∙◌, subst, inl, inr}
use Rattle.std.proofs.lemmas.Option.{slice_get_within}
use Rattle.std.proofs.lemmas.List.{length-set, length-replicate}
use Rattle.jfr_base.specs.Formats.{Got, Answer, Reads, Exactly, run}
use Rattle.jfr_base.proofs.Exact.{ReadsOrFails, run_reads_or_fails}
use Rattle.jfr_base.proofs.FreeLaws.{PlaceFree, reads_exact, times_free}
use Rattle.jfr_base.proofs.RunLaws as running
use Rattle.jfr_value.specs.Nodes.{NodeAt, targets}
use Rattle.jfr_pool.specs.declared.entry.EntryAt.{EntryAt}
use Rattle.jfr_pool.specs.Entries.{number_in_force, entry_node, IsInForce}
use Rattle.jfr_pool.specs.Laws.{IsLast}
use Rattle.jfr_pool.proofs.OneLaws.{last_is}
use Rattle.jfr_chunk.specs.Parts.{Parts}
use Rattle.jfr_worklist.specs.Marks.{is_marked, IsMarked, marked_at, those}
use Rattle.jfr_chunk.specs.Reach.{node_entries, next_entries}
use Rattle.jfr_worklist.specs.Members.{In}
use Rattle.jfr_worklist.proofs.Members.{contains_in, in_contains, in_those, those_in}
use Rattle.std.specs.declared.vec.Vec.{Vec}
use Rattle.std.specs.declared.alloc.Global.{Global}
use Rattle.jfr_verify.specs.declared.reading.LinesRead.{LinesRead}
use Rattle.jfr_verify.specs.declared.line.Line.{Line}
use Rattle.jfr_verify.specs.declared.line.Parent.{Parent}
use Rattle.jfr_verify.specs.declared.line.Parent.TheVariants.{OfEvent, OfEntry}
use Rattle.jfr_worklist.specs.Worklists.{marked_count}
use Rattle.jfr_verify.specs.Receipts.{line_format, receipt_format, IsParent, IsValidLine, AreValidLines, IsReceiptOf}
use Rattle.jfr_verify.specs.Parents.{IsBefore, IsOrdered, AreOrdered, AreParentsOf, ParentsOf}
use Rattle.jfr_verify.specs.Claims.{RefersTo, AreConfirmed}
use Rattle.jfr_verify.specs.Decided.{Decided}
use Rattle.jfr_verify.specs.Prefix.{AllInForce, ReceiptPrefix}
use Rattle.jfr_verify.specs.Reading.{got_in, if_count, lines_of_count}
use Rattle.jfr_worklist.proofs.Counts.{count_set, count_le, count_none}
use Rattle.jfr_worklist.proofs.MarkLaws.{all_size, all_only, none_marked, set_only}

line_free : PlaceFree line_format
line_free = λ v s. λ b. λ n t. tt

receipt_free : PlaceFree receipt_format
unfolding receipt_format
receipt_free = λ n s. times_free n line_format line_free

range_take : (r : List ℕ) (n : ℕ) → slice_range r 0 n ≡ take n r
range_take r n = let q : n - 0 ≡ n = omega arith in ap (λ z. take z r) q

take_length : (r : List ℕ) (n : ℕ) → (length (take n r) ≤ length r) × (take (length (take n r)) r ≡ take n r)
take_length [] zero = (omega arith, refl)
take_length [] (suc n) = (omega arith, refl)
take_length (x ∷ xs) zero = (omega arith, refl)
take_length (x ∷ xs) (suc n) = let i = take_length xs n in (omega (arith, i.0), ap (λ z. x ∷ z) i.1)

pub record WasRead (r : List ℕ) (count : ℕ) (g : Got (List Line)) : Type 0 where
  pub within : g.place ≤ length r
  pub exact : Exactly receipt_format (take g.place r) g.value
  pub many : length g.value ≡ count

pub was_read : (r : List ℕ) (count : ℕ) (g : Got (List Line)) → lines_of_count r count ≡ Some g → WasRead r count g
was_read r count g e = by_answer (run receipt_format r (length r) 0) (run_reads_or_fails receipt_format r (length r) 0 (omega arith) (omega arith)) e
  where
    by_read : (h : Got (List Line)) → Reads receipt_format r (length r) 0 h.value h.place → length h.value ≡ count → WasRead r count h
    by_read h s l =
        let x = reads_exact receipt_format r (length r) 0 h.value h.place (omega arith) (omega arith) receipt_free s in
        record { within = x.within; exact = subst (λ z. Exactly receipt_format z h.value) (range_take r h.place) x.exact; many = l }

    by_count : (b : Bool) (h : Got (List Line)) → (length h.value == count) ≡ b → Reads receipt_format r (length r) 0 h.value h.place → (if b then Some h else None) ≡ Some g → WasRead r count g
    by_count true h q s e = let k : h ≡ g = cc in subst (WasRead r count) k (by_read h s (grind (arith, q)))
    by_count false h q s e = cc

    by_answer : (a : Answer (List Line)) → ReadsOrFails receipt_format r (length r) 0 a → if_count count (got_in a) ≡ Some g → WasRead r count g
    by_answer (Err f) s e = cc
    by_answer (Ok h) s e = by_count (length h.value == count) h refl s e

pub is_read : (r : List ℕ) (n count : ℕ) (ls : List Line) → Exactly receipt_format (take n r) ls → length ls ≡ count → (m : ℕ) × (lines_of_count r count ≡ Some (record { value = ls; place = m }))
is_read r n count ls e l =
    let m : ℕ = length (take n r) in
    let t = take_length r n in
    let s : running.Stands r 0 m (take n r) = record { order = omega arith; within = t.0; bytes = range_take r m ∙ t.1 } in
    let q = running.exact_run r (length r) (omega arith) receipt_format 0 m (take n r) ls e s t.0 in
    let c : (length ls == count) ≡ true = grind (arith, l) in
    (m, ap (λ z. if_count count (got_in z)) q ∙ rw c refl)

-- If lines are in order and there is one for each entry, each entry has a line.
abbrev line_entries : List Line → List ℕ
line_entries ls = map (λ l. l.entry) ls

ordered_count : (count : ℕ) (before : List ℕ) (marks : List Bool) (ls : List Line) → length marks ≡ count → ((i : ℕ) → IsMarked marks i → In before i) → AreOrdered count before ls
    → marked_count (marked_at marks (line_entries ls)) ≡ marked_count marks + length ls
ordered_count count before marks [] s f a = omega arith
ordered_count count before marks (l ∷ ls) s f a =
    let u : is_marked marks l.entry ≡ false = by_mark (is_marked marks l.entry) refl in
    let c : marked_count (slice_set marks l.entry true) ≡ marked_count marks + 1 = count_set marks l.entry (omega (arith, a.0.below)) u in
    let i = ordered_count count (l.entry ∷ before) (slice_set marks l.entry true) ls (length-set marks l.entry true ∙ s) (λ i m. by_set i (set_only marks l.entry i m)) a.1 in
    omega arith
  where
    by_mark : (b : Bool) → is_marked marks l.entry ≡ b → is_marked marks l.entry ≡ false
    by_mark true e = absurd (a.0.fresh (in_contains before l.entry (f l.entry e)))
    by_mark false e = e

    by_set : (i : ℕ) → IsMarked marks i ⊎ (l.entry ≡ i) → In (l.entry ∷ before) i
    by_set i (inl m) = inr (f i m)
    by_set i (inr e) = inl e

count_full : (ms : List Bool) → marked_count ms ≡ length ms → (i : ℕ) → i < length ms → IsMarked ms i
count_full [] e i h = absurd (omega arith)
count_full (true ∷ ms) e zero h = refl
count_full (true ∷ ms) e (suc i) h = count_full ms (omega (arith, e)) i (omega arith)
count_full (false ∷ ms) e i h = let c = count_le ms in absurd (omega (arith, e))

each_ordered : (count : ℕ) (ls : List Line) → AreOrdered count [] ls → length ls ≡ count → (t : ℕ) → t < count → In (line_entries ls) t
each_ordered count ls a l t h =
    let none : List Bool = replicate count false in
    let s : length none ≡ count = length-replicate count false in
    let c = ordered_count count [] none ls s (λ i m. absurd (none_marked count i m)) a in
    let z : marked_count none ≡ 0 = count_none count in
    let w : length (marked_at none (line_entries ls)) ≡ length none = all_size none (line_entries ls) in
    by_case (all_only none (line_entries ls) t (count_full (marked_at none (line_entries ls)) (omega arith) t (omega arith)))
  where
    by_case : IsMarked (replicate count false) t ⊎ In (line_entries ls) t → In (line_entries ls) t
    by_case (inl m) = absurd (none_marked count t m)
    by_case (inr k) = k

line_at : (ls : List Line) (t : ℕ) → In (line_entries ls) t → (l : Line) × In ls l × (l.entry ≡ t)
line_at [] t k = absurd k
line_at (l ∷ ls) t (inl e) = (l, inl refl, e)
line_at (l ∷ ls) t (inr k) = let r = line_at ls t k in (r.0, inr r.1, r.2)

module _ (p : Parts) where
  some_entry : (t : ℕ) → t < length p.entries → (e : EntryAt) × (slice_get p.entries t ≡ Some e)
  some_entry t h = by_list p.entries t h
    where
      by_list : (xs : List EntryAt) (n : ℕ) → n < length xs → (x : EntryAt) × (slice_get xs n ≡ Some x)
      by_list [] n h = absurd (omega arith)
      by_list (x ∷ xs) zero h = (x, refl)
      by_list (x ∷ xs) (suc n) h = by_list xs n (omega arith)

  -- If a node refers to an entry by number, it refers to it by class and key.
  refers_key : (n : NodeAt) (t : ℕ) (e : EntryAt) → slice_get p.entries t ≡ Some e → In (node_entries p.entries p.classes p.bytes n) t → Contains (targets p.classes p.bytes n) (e.class, e.key)
  refers_key n t e g k =
      let u = in_those (number_in_force p.entries) (targets p.classes p.bytes n) t k in
      let l : IsLast p.entries u.0 t = (last_is p.entries u.0 t).0 u.2 in
      let q : l.entry ≡ e = (let z : slice_get p.entries t ≡ Some l.entry = l.holds in cc) in
      in_contains (targets p.classes p.bytes n) (e.class, e.key) (subst (In (targets p.classes p.bytes n)) (sym l.has ∙ ap (λ (z : EntryAt). (z.class, z.key)) q) u.1)

  -- The other way round, if the entry is in force.
  key_refers : AllInForce p → (n : NodeAt) (t : ℕ) (e : EntryAt) → slice_get p.entries t ≡ Some e → Contains (targets p.classes p.bytes n) (e.class, e.key)
      → In (node_entries p.entries p.classes p.bytes n) t
  key_refers f n t e g k =
      let i : IsInForce p.entries t = f t (slice_get_within p.entries t e g) in
      let q : i.entry ≡ e = (let z : slice_get p.entries t ≡ Some i.entry = i.holds in cc) in
      those_in (number_in_force p.entries) (targets p.classes p.bytes n) (e.class, e.key) t (contains_in (targets p.classes p.bytes n) (e.class, e.key) k)
      (subst (λ (z : EntryAt). number_in_force p.entries (z.class, z.key) ≡ Some t) q i.last)

  next_is : (i : ℕ) (e : EntryAt) → slice_get p.entries i ≡ Some e → next_entries p i ≡ node_entries p.entries p.classes p.bytes (entry_node e)
  next_is i e g = ap (λ o. those (number_in_force p.entries) (option_map_or (λ e. targets p.classes p.bytes (entry_node e)) o [])) g

  next_some : (i t : ℕ) → In (next_entries p i) t → (e : EntryAt) × (slice_get p.entries i ≡ Some e)
  next_some i t k = by_get (slice_get p.entries i) refl k
    where
      by_get : (o : Option EntryAt) → slice_get p.entries i ≡ o → In (those (number_in_force p.entries) (option_map_or (λ e. targets p.classes p.bytes (entry_node e)) o [])) t
          → (e : EntryAt) × (slice_get p.entries i ≡ Some e)
      by_get None q k = absurd k
      by_get (Some e) q k = (e, q)

  -- A line is valid if it is in order and its parent refers to its entry.
  valid_of : (before : List ℕ) (l : Line) → IsOrdered (length p.entries) before l → RefersTo p l.parent l.entry → IsValidLine p before l
  valid_of before l o r = by_parent l.parent o.parent r
    where
      e : (e : EntryAt) × (slice_get p.entries l.entry ≡ Some e)
      e = some_entry l.entry o.below

      valid : (n : NodeAt) → IsParent p before l.parent n → In (node_entries p.entries p.classes p.bytes n) l.entry → IsValidLine p before l
      valid n q k = record { fresh = o.fresh; entry = e.0; there = e.1; node = n; parent = q; refers = refers_key n l.entry e.0 e.1 k }

      with_parent : (a : Parent) → l.parent ≡ a → IsBefore before a → RefersTo p a l.entry → IsValidLine p before l
      with_parent (OfEvent i) q b r = valid r.0.node (subst (λ z. IsParent p before z r.0.node) (sym q) (r.0, r.1, refl)) (contains_in (node_entries p.entries p.classes p.bytes r.0.node) l.entry r.2)
      with_parent (OfEntry i) q b r =
          let k = contains_in (next_entries p i) l.entry r in
          let f = next_some i l.entry k in
          valid (entry_node f.0) (subst (λ z. IsParent p before z (entry_node f.0)) (sym q) (f.0, b, f.1, refl)) (subst (λ z. In z l.entry) (next_is i f.0 f.1) k)

      by_parent : (a : Parent) → IsBefore before l.parent → RefersTo p l.parent l.entry → IsValidLine p before l
      by_parent a b r = with_parent l.parent refl b r

  all_valid : (before : List ℕ) (ls : List Line) → AreOrdered (length p.entries) before ls → ((l : Line) → In ls l → RefersTo p l.parent l.entry) → AreValidLines p before ls
  all_valid before [] o f = tt
  all_valid before (l ∷ ls) o f = (valid_of before l o.0 (f l (inl refl)), all_valid (l.entry ∷ before) ls o.1 (λ m k. f m (inr k)))

  -- The other way round.
  valid_ordered : (before : List ℕ) (ls : List Line) → AreValidLines p before ls → AreOrdered (length p.entries) before ls
  valid_ordered before [] h = tt
  valid_ordered before (l ∷ ls) h = (
    record { below = slice_get_within p.entries l.entry h.0.entry h.0.there; fresh = h.0.fresh; parent = by_parent l.parent h.0.parent },
    valid_ordered
        (l.entry ∷ before) ls h.1,
  )
    where
      by_parent : (a : Parent) → IsParent p before a h.0.node → IsBefore before a
      by_parent (OfEvent i) q = tt
      by_parent (OfEntry i) q = q.1

  valid_refers : AllInForce p → (before : List ℕ) (l : Line) → IsValidLine p before l → RefersTo p l.parent l.entry
  valid_refers f before l h = by_parent l.parent h.parent
    where
      k : In (node_entries p.entries p.classes p.bytes h.node) l.entry
      k = key_refers f h.node l.entry h.entry h.there h.refers

      by_parent : (a : Parent) → IsParent p before a h.node → RefersTo p a l.entry
      by_parent (OfEvent i) q = (q.0, q.1, in_contains (node_entries p.entries p.classes p.bytes q.0.node) l.entry (subst (λ z. In (node_entries p.entries p.classes p.bytes z) l.entry) (sym q.2) k))
      by_parent (OfEntry i) q = in_contains (next_entries p i) l.entry
          (subst (λ z. In z l.entry) (sym (next_is i q.0 q.2)) (subst (λ z. In (node_entries p.entries p.classes p.bytes z) l.entry) (sym q.3) k))

  all_refer : AllInForce p → (before : List ℕ) (ls : List Line) → AreValidLines p before ls → (l : Line) → In ls l → RefersTo p l.parent l.entry
  all_refer f before [] h l k = absurd k
  all_refer f before (m ∷ ls) h l (inl e) = subst (λ (z : Line). RefersTo p z.parent z.entry) e (valid_refers f before m h.0)
  all_refer f before (m ∷ ls) h l (inr k) = all_refer f (m.entry ∷ before) ls h.1 l k

  own_in : (parents : List Parent) (ls : List Line) → AreParentsOf parents ls → (l : Line) → In ls l → slice_get parents l.entry ≡ Some l.parent
  own_in parents [] a l k = absurd k
  own_in parents (m ∷ ls) a l (inl e) = subst (λ (z : Line). slice_get parents z.entry ≡ Some z.parent) e a.0
  own_in parents (m ∷ ls) a l (inr k) = own_in parents ls a.1 l k

  module _ (r : List ℕ) where
    -- No lines were read.
    pub none_read : lines_of_count r (length p.entries) ≡ None → ReceiptPrefix p r None
    none_read e n s = let q = is_read r n (length p.entries) s.lines s.spelled s.count in let g : Got (List Line) = record { value = s.lines; place = q.0 } in let z : None ≡ Some g = sym e ∙ q.1 in cc

    pub same_lines : (g : Got (List Line)) (n : ℕ) (s : IsReceiptOf (take n r) p) → lines_of_count r (length p.entries) ≡ Some g → s.lines ≡ g.value
    same_lines g n s e =
        let q = is_read r n (length p.entries) s.lines s.spelled s.count in
        let z : record { value = s.lines; place = q.0 } ≡ g = (let y : Some (record { value = s.lines; place = q.0 }) ≡ Some g = sym q.1 ∙ e in cc) in
        ap (λ (x : Got (List Line)). x.value) z

    -- The lines aren't in order.
    pub none_ordered : (g : Got (List Line)) → lines_of_count r (length p.entries) ≡ Some g → (AreOrdered (length p.entries) [] g.value → ⊥) → ReceiptPrefix p r None
    none_ordered g e f n s = f (subst (AreOrdered (length p.entries) []) (same_lines g n s e) (valid_ordered [] s.lines s.valid))

    -- A claim fails.
    pub none_confirmed : AllInForce p → (g : Got (List Line)) (parents : List Parent) → lines_of_count r (length p.entries) ≡ Some g → AreParentsOf parents g.value → (AreConfirmed p parents → ⊥)
        → ReceiptPrefix p r None
    none_confirmed forced g parents e o f n s =
        let q = same_lines g n s e in
        f (λ t h. (
        let l = line_at s.lines t (contains_in (line_entries s.lines) t (s.each t h)) in
        let k : In g.value l.0 = subst (λ z. In z l.0) q l.1 in
        let v : slice_get parents t ≡ Some l.0.parent = ap (slice_get parents) (sym l.2) ∙ own_in parents g.value o l.0 k in
        (l.0.parent, v, subst (RefersTo p l.0.parent) l.2 (all_refer forced [] s.lines s.valid l.0 l.1))))

    -- The lines are a receipt.
    pub some_receipt : (g : Got (List Line)) (parents : List Parent) → lines_of_count r (length p.entries) ≡ Some g → AreOrdered (length p.entries) [] g.value → AreParentsOf parents g.value
        → AreConfirmed p parents → ReceiptPrefix p r (Some g.place)
    some_receipt g parents e a o f =
        let w = was_read r (length p.entries) g e in (
          w.within,
          record {
            lines = g.value;
            spelled = w.exact;
            count = w.many;
            each = λ t h. in_contains (line_entries g.value) t (each_ordered (length p.entries) g.value a w.many t h);
            valid = all_valid [] g.value a (λ l k. refers l k);
          },
        )
      where
        below_in : (before : List ℕ) (ls : List Line) → AreOrdered (length p.entries) before ls → (l : Line) → In ls l → l.entry < length p.entries
        below_in before [] a l k = absurd k
        below_in before (m ∷ ls) a l (inl e) = subst (λ (z : Line). z.entry < length p.entries) e a.0.below
        below_in before (m ∷ ls) a l (inr k) = below_in (m.entry ∷ before) ls a.1 l k

        refers : (l : Line) → In g.value l → RefersTo p l.parent l.entry
        refers l k =
            let i = f l.entry (below_in [] g.value a l k) in
            let v = own_in parents g.value o l k in
            let q : i.0 ≡ l.parent = (let z : Some i.0 ≡ Some l.parent = sym i.1 ∙ v in cc) in
            subst (λ z. RefersTo p z l.entry) q i.2

    -- From the answers of the calls.
    abbrev as_got : LinesRead → Got (List Line)
    as_got l = record { value = l.lines.items; place = l.end }

    read_for : (count : ℕ) (o x : Option LinesRead) → count ≡ length p.entries → option_map as_got o ≡ lines_of_count r count → o ≡ x → lines_of_count r (length p.entries) ≡ option_map as_got x
    read_for count o x c e q = ap (lines_of_count r) (sym c) ∙ (sym e ∙ ap (option_map as_got) q)

    pub by_none : (count : ℕ) (o : Option LinesRead) → count ≡ length p.entries → option_map as_got o ≡ lines_of_count r count → o ≡ None → ReceiptPrefix p r None
    by_none count o c e q = none_read (read_for count o None c e q)

    pub by_unordered : (count : ℕ) (o : Option LinesRead) (l : LinesRead) (x : Option (Vec Parent Global)) → count ≡ length p.entries → option_map as_got o ≡ lines_of_count r count → o ≡ Some l
        → ParentsOf count l.lines.items x → x ≡ None → ReceiptPrefix p r None
    by_unordered count o l x c e q w n = none_ordered (as_got l) (read_for count o (Some l) c e q) (subst (λ z. AreOrdered z [] l.lines.items → ⊥) c (subst (ParentsOf count l.lines.items) n w))

    pub by_confirmed : AllInForce p → (count : ℕ) (o : Option LinesRead) (l : LinesRead) (x : Option (Vec Parent Global)) (v : Vec Parent Global) (b : Bool) → count ≡ length p.entries
        → option_map as_got o ≡ lines_of_count r count → o ≡ Some l → ParentsOf count l.lines.items x → x ≡ Some v → Decided (AreConfirmed p v.items) b
        → ReceiptPrefix p r (if b then Some l.end else None)
    by_confirmed forced count o l x v b c e q w n h = by_flag b h
      where
        g : lines_of_count r (length p.entries) ≡ Some (as_got l)
        g = read_for count o (Some l) c e q

        own : AreOrdered count [] l.lines.items × AreParentsOf v.items l.lines.items × (length v.items ≡ count)
        own = subst (ParentsOf count l.lines.items) n w

        by_flag : (b : Bool) → Decided (AreConfirmed p v.items) b → ReceiptPrefix p r (if b then Some l.end else None)
        by_flag true h = some_receipt (as_got l) v.items g (subst (λ z. AreOrdered z [] l.lines.items) c own.0) own.1 h
        by_flag false h = none_confirmed forced (as_got l) v.items g own.1 h
