-- An answer is right for each pair of chunks.
use Rattle.std.specs.Prelude.{◌≡◌, ◌⊎◌, ◌<◌, ◌≤◌, ◌+◌, ◌&&◌, ℕ, zero, suc, Bool, true, false, List, [], ◌∷◌, take, length, map, replicate, slice_get, slice_set, Option, Some, None, Result, Ok, Err, Contains}
use Rattle.std.proofs.Common.{ap, arith, refl, sym, ◌∙◌, subst, inl, inr}
use Rattle.jfr_base.specs.Formats.{Got}
use Rattle.jfr_value.specs.Nodes.{NodeAt, targets}
use Rattle.jfr_pool.specs.declared.entry.EntryAt.{EntryAt}
use Rattle.jfr_pool.specs.Entries.{entry_node}
use Rattle.jfr_chunk.specs.Parts.{Parts, EventAt, events_of}
use Rattle.jfr_verify.specs.declared.line.Line.{Line}
use Rattle.jfr_verify.specs.declared.line.Parent.{Parent}
use Rattle.jfr_verify.specs.declared.line.Parent.TheVariants.{OfEvent, OfEntry}
use Rattle.jfr_verify.specs.declared.doubt.Doubt.{Doubt}
use Rattle.jfr_verify.specs.declared.doubt.Doubt.TheVariants.{ClassesDiffer, EventsDiffer, EntriesDiffer, EntryMissing, ReceiptBad}
use Rattle.jfr_verify.specs.Receipts.{IsReceiptOf, AreValidLines, IsValidLine, IsParent}
use Rattle.jfr_verify.specs.Reading.{lines_of_count}
use Rattle.jfr_verify.specs.Closed.{events_closed, entries_closed}
use Rattle.jfr_verify.specs.Checks.{HasClasses, contents, AreAmong, AreClosed, next_copy}
use Rattle.jfr_verify.specs.Checked.{Checked}
use Rattle.jfr_verify.specs.Decided.{Decided}
use Rattle.jfr_verify.proofs.ClosedLaws.{closed_decided}
use Rattle.jfr_verify.proofs.CopyLaws.{InCopies, copies_start, copies_next, none_copied, copies_end}
use Rattle.jfr_verify.proofs.PrefixLaws.{was_read, same_lines, none_read}
use Rattle.jfr_verify.proofs.DecisionLaws.{Dec, dec_nat, dec_list, dec_pair, dec_contains, dec_all, dec_below, dec_class}

dec_key : (a b : ℕ × ℕ) → Dec (a ≡ b)
dec_key = dec_pair dec_nat dec_nat

module _ (p : Parts) where
  -- The node of a parent, or that it has none.
  record Node (before : List ℕ) (par : Parent) : Type 0 where
    node : NodeAt
    holds : IsParent p before par node
    one : (m : NodeAt) → IsParent p before par m → node ≡ m

  node_of : (before : List ℕ) (par : Parent) → Node before par ⊎ ((m : NodeAt) → IsParent p before par m → ⊥)
  node_of before (OfEvent i) = by_event (slice_get (events_of p) i) refl
    where
      by_event : (o : Option EventAt) → slice_get (events_of p) i ≡ o → Node before (OfEvent i) ⊎ ((m : NodeAt) → IsParent p before (OfEvent i) m → ⊥)
      by_event None e = inr (λ m s. (let z : None ≡ Some s.0 = sym e ∙ s.1 in cc))
      by_event (Some x) e = inl (record {
        node = x.node;
        holds = (x, e, refl);
        one = λ m s.
            (let z : x ≡ s.0 = (let a : slice_get (events_of p) i ≡ Some s.0 = s.1 in cc) in ap (λ (w : EventAt). w.node) z ∙ s.2);
      })
  node_of before (OfEntry i) = by_before (dec_contains dec_nat before i)
    where
      by_entry : Contains before i → (o : Option EntryAt) → slice_get p.entries i ≡ o → Node before (OfEntry i) ⊎ ((m : NodeAt) → IsParent p before (OfEntry i) m → ⊥)
      by_entry c None e = inr (λ m s. (let z : None ≡ Some s.0 = sym e ∙ s.2 in cc))
      by_entry c (Some x) e = inl (record {
        node = entry_node x;
        holds = (x, c, e, refl);
        one = λ m s.
            (let z : x ≡ s.0 = (let a : slice_get p.entries i ≡ Some s.0 = s.2 in cc) in ap entry_node z ∙ s.3);
      })

      by_before : Dec (Contains before i) → Node before (OfEntry i) ⊎ ((m : NodeAt) → IsParent p before (OfEntry i) m → ⊥)
      by_before (inl c) = by_entry c (slice_get p.entries i) refl
      by_before (inr f) = inr (λ m s. f s.1)

  dec_valid : (before : List ℕ) (l : Line) → Dec (IsValidLine p before l)
  dec_valid before l = by_fresh (dec_contains dec_nat before l.entry)
    where
      by_target : (Contains before l.entry → ⊥) → (e : EntryAt) → slice_get p.entries l.entry ≡ Some e → (n : Node before l.parent) → Dec (Contains (targets p.classes p.bytes n.node) (e.class, e.key))
          → Dec (IsValidLine p before l)
      by_target f e g n (inl c) = inl (record { fresh = f; entry = e; there = g; node = n.node; parent = n.holds; refers = c })
      by_target f e g n (inr f') = inr (λ h.
          let z : h.entry ≡ e = (let a : slice_get p.entries l.entry ≡ Some h.entry = h.there in cc) in
          let w : h.node ≡ n.node = sym (n.one h.node h.parent) in
          f' (subst (λ (y : EntryAt). Contains (targets p.classes p.bytes n.node) (y.class, y.key)) z (subst (λ y. Contains (targets p.classes p.bytes y) (h.entry.class, h.entry.key)) w h.refers)))

      by_node : (Contains before l.entry → ⊥) → (e : EntryAt) → slice_get p.entries l.entry ≡ Some e → Node before l.parent ⊎ ((m : NodeAt) → IsParent p before l.parent m → ⊥)
          → Dec (IsValidLine p before l)
      by_node f e g (inl n) = by_target f e g n (dec_contains dec_key (targets p.classes p.bytes n.node) (e.class, e.key))
      by_node f e g (inr f') = inr (λ h. f' h.node h.parent)

      by_entry : (Contains before l.entry → ⊥) → (o : Option EntryAt) → slice_get p.entries l.entry ≡ o → Dec (IsValidLine p before l)
      by_entry f None g = inr (λ h. (let z : None ≡ Some h.entry = sym g ∙ h.there in cc))
      by_entry f (Some e) g = by_node f e g (node_of before l.parent)

      by_fresh : Dec (Contains before l.entry) → Dec (IsValidLine p before l)
      by_fresh (inl c) = inr (λ h. h.fresh c)
      by_fresh (inr f) = by_entry f (slice_get p.entries l.entry) refl

  dec_all_valid : (before : List ℕ) (ls : List Line) → Dec (AreValidLines p before ls)
  dec_all_valid before [] = inl tt
  dec_all_valid before (l ∷ ls) = by_both (dec_valid before l) (dec_all_valid (l.entry ∷ before) ls)
    where
      by_both : Dec (IsValidLine p before l) → Dec (AreValidLines p (l.entry ∷ before) ls) → Dec (AreValidLines p before (l ∷ ls))
      by_both (inl a) (inl b) = inl (a, b)
      by_both (inl a) (inr f) = inr (λ z. f z.1)
      by_both (inr f) d = inr (λ z. f z.0)

  -- A prefix is a receipt, or no prefix is.
  abbrev pub Prefix : List ℕ → Type 0
  Prefix r = (n : ℕ) × (n ≤ length r) × IsReceiptOf (take n r) p

  pub prefix_or : (r : List ℕ) → Prefix r ⊎ ((n : ℕ) → IsReceiptOf (take n r) p → ⊥)
  prefix_or r = by_read (lines_of_count r (length p.entries)) refl
    where
      entries_of : List Line → List ℕ
      entries_of ls = map (λ (l : Line). l.entry) ls

      by_each : (g : Got (List Line)) → lines_of_count r (length p.entries) ≡ Some g → Dec ((t : ℕ) → t < length p.entries → Contains (map (λ l. l.entry) g.value) t) → Dec (AreValidLines p [] g.value)
          → Prefix r ⊎ ((n : ℕ) → IsReceiptOf (take n r) p → ⊥)
      by_each g e (inl a) (inl h) = let w = was_read r (length p.entries) g e in inl (g.place, w.within, record { lines = g.value; spelled = w.exact; count = w.many; each = a; valid = h })
      by_each g e (inl a) (inr f) = inr (λ n s. f (subst (AreValidLines p []) (same_lines p r g n s e) s.valid))
      by_each g e (inr f) d = inr (λ n s. f (subst (λ ls. (t : ℕ) → t < length p.entries → Contains (map (λ l. l.entry) ls) t) (same_lines p r g n s e) s.each))

      by_read : (o : Option (Got (List Line))) → lines_of_count r (length p.entries) ≡ o → Prefix r ⊎ ((n : ℕ) → IsReceiptOf (take n r) p → ⊥)
      by_read None e = inr (none_read p r e)
      by_read (Some g) e = by_each g e (dec_below (λ t. Contains (map (λ l. l.entry) g.value) t) (λ t. dec_contains dec_nat (map (λ l. l.entry) g.value) t) (length p.entries))
          (dec_all_valid [] g.value)

module _ (p q : Parts) where
  -- There are marks of the copies, or none.
  abbrev Marked : Type 0
  Marked = (marks : List Bool) × AreAmong p q marks × (length marks ≡ length p.entries)

  marks_or : Marked ⊎ ((marks : List Bool) → AreAmong p q marks → ⊥)
  marks_or = go (length q.entries) 0 0 (replicate (length p.entries) false) (omega arith) (copies_start p q (replicate (length p.entries) false) refl)
    where
      go : (left k from : ℕ) (marks : List Bool) → left + k ≡ length q.entries → InCopies p q k from marks → Marked ⊎ ((marks : List Bool) → AreAmong p q marks → ⊥)
      go zero k from marks e i = let c = copies_end p q k from marks (omega (arith, e)) i in inl (marks, c.0, c.1)
      go (suc left) k from marks e i = by_next (next_copy p q k from) refl
          (λ place n. go left (k + 1) (place + 1) (slice_set marks place true) (omega (arith, e)) (copies_next p q k from place marks i n))
        where
          by_next : (o : Option ℕ) → next_copy p q k from ≡ o → ((place : ℕ) → next_copy p q k from ≡ Some place → Marked ⊎ ((marks : List Bool) → AreAmong p q marks → ⊥))
              → Marked ⊎ ((marks : List Bool) → AreAmong p q marks → ⊥)
          by_next None n f = inr (none_copied p q k from marks (omega (arith, e)) i n)
          by_next (Some place) n f = f place n

  pub verdict : (kept : List EventAt) (r : List ℕ) → (x : Result ℕ Doubt) × Checked p q kept r x
  verdict kept r = by_classes (dec_all (Contains p.classes) (λ c. dec_contains dec_class p.classes c) q.classes)
    where
      by_prefix : HasClasses p.classes q.classes → contents p kept ≡ contents q (events_of q) → (m : Marked) → AreClosed p kept m.0 → Prefix q r ⊎ ((n : ℕ) → IsReceiptOf (take n r) q → ⊥)
          → (x : Result ℕ Doubt) × Checked p q kept r x
      by_prefix h e m c (inl s) = (Ok s.0, (s.1, record { classes = h; events = e; marks = m.0; among = m.1; closed = c; shown = s.2 }))
      by_prefix h e m c (inr f) = (Err ReceiptBad, (h, e, m.0, m.1, c, f))

      by_closed : HasClasses p.classes q.classes → contents p kept ≡ contents q (events_of q) → (m : Marked) → (b : Bool) → Decided (AreClosed p kept m.0) b
          → (x : Result ℕ Doubt) × Checked p q kept r x
      by_closed h e m true c = by_prefix h e m c (prefix_or q r)
      by_closed h e m false c = (Err EntryMissing, (h, e, m.0, m.1, c))

      by_marks : HasClasses p.classes q.classes → contents p kept ≡ contents q (events_of q) → Marked ⊎ ((marks : List Bool) → AreAmong p q marks → ⊥) → (x : Result ℕ Doubt) × Checked p q kept r x
      by_marks h e (inl m) = let b = events_closed p m.0 kept && entries_closed p m.0 (length p.entries) in by_closed h e m b (closed_decided p kept m.0 m.2 b refl)
      by_marks h e (inr f) = (Err EntriesDiffer, (h, e, f))

      by_events : HasClasses p.classes q.classes → Dec (contents p kept ≡ contents q (events_of q)) → (x : Result ℕ Doubt) × Checked p q kept r x
      by_events h (inl e) = by_marks h e marks_or
      by_events h (inr f) = (Err EventsDiffer, (h, f))

      by_classes : Dec (HasClasses p.classes q.classes) → (x : Result ℕ Doubt) × Checked p q kept r x
      by_classes (inl h) = by_events h (dec_list (dec_pair dec_nat (dec_list dec_nat)) (contents p kept) (contents q (events_of q)))
      by_classes (inr f) = (Err ClassesDiffer, f)
