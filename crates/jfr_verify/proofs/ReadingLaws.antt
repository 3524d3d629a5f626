-- Reading lines one after another.
use Rattle.std.specs.Prelude.{◌≡◌, ◌≤◌, ◌-◌, ◌+◌, ◌==◌, ℕ, zero, suc, Bool, true, false, List, [], ◌∷◌, ◌++◌, length, Option, Some, None, Result, Ok, Err, IfOk, option_map, if◌then◌else◌}
use Rattle.std.proofs.Common.{ap, arith, refl, sym, ◌∙◌}
use Rattle.std.proofs.lemmas.List.{append_assoc, append-nil}
use Rattle.jfr_base.specs.Formats.{Got, Answer, Done, ◌>>=◌, times, run, on, int_at, after_int, unchecked}
use Rattle.jfr_base.specs.declared.integer.Var.{Var}
use Rattle.jfr_base.proofs.FormatLaws.{run-bind}
use Rattle.jfr_verify.specs.declared.line.Line.{Line}
use Rattle.jfr_verify.specs.declared.reading.LinesRead.{LinesRead}
use Rattle.jfr_base.specs.declared.memory.NoMemory.{NoMemory}
use Rattle.jfr_verify.specs.Receipts.{line_format, receipt_format}
use Rattle.jfr_verify.specs.Reading.{got_in, line_in, each_in, if_count, lines_of_count}

-- These lines, followed by those that were read.
abbrev pub then_lines : List Line → Option (Got (List Line)) → Option (Got (List Line))
then_lines ls o = option_map (λ g. record { value = ls ++ g.value; place = g.place }) o

module _ (r : List ℕ) where
  -- One more line of those that are left.
  each_some : (at n : ℕ) (g : Got Line) → line_in r at ≡ Some g → each_in r at (suc n) ≡ then_lines (g.value ∷ []) (each_in r g.place n)
  unfolding run
  each_some at n g e =
      ap got_in (run-bind line_format (λ a. times n line_format >>= λ rest. Done (a ∷ rest)) r (length r) at) ∙ by_line (run line_format r (length r) at) e
    where
      by_rest : (x : Answer (List Line)) → got_in (on x (λ rest p. run (Done (g.value ∷ rest)) r (length r) p)) ≡ then_lines (g.value ∷ []) (got_in x)
      by_rest (Ok h) = refl
      by_rest (Err f) = refl

      by_line : (x : Answer Line) → got_in x ≡ Some g → got_in (on x (λ a p. run (times n line_format >>= λ rest. Done (a ∷ rest)) r (length r) p)) ≡ then_lines (g.value ∷ []) (each_in r g.place n)
      by_line (Err f) q = cc
      by_line (Ok h) q =
          let k : h ≡ g = cc in
          ap (λ (z : Got Line). got_in (run (times n line_format >>= λ rest. Done (z.value ∷ rest)) r (length r) z.place)) k
          ∙ (ap got_in (run-bind (times n line_format) (λ rest. Done (g.value ∷ rest)) r (length r) g.place) ∙ by_rest (run (times n line_format) r (length r) g.place))

  each_none : (at n : ℕ) → line_in r at ≡ None → each_in r at (suc n) ≡ None
  each_none at n e =
      ap got_in (run-bind line_format (λ a. times n line_format >>= λ rest. Done (a ∷ rest)) r (length r) at) ∙ by_line (run line_format r (length r) at) e
    where
      by_line : (x : Answer Line) → got_in x ≡ None → got_in (on x (λ a p. run (times n line_format >>= λ rest. Done (a ∷ rest)) r (length r) p)) ≡ None
      by_line (Err f) q = refl
      by_line (Ok h) q = cc

  -- The lines read so far, with those that are left, are all the lines.
  pub record InEach (first count turn end : ℕ) (ls : List Line) : Type 0 where
    pub within : end ≤ length r
    pub same : each_in r first count ≡ then_lines ls (each_in r end (count - turn))

  then_nothing : (o : Option (Got (List Line))) → then_lines [] o ≡ o
  then_nothing None = refl
  then_nothing (Some g) = refl

  then_then : (xs ys : List Line) (o : Option (Got (List Line))) → then_lines xs (then_lines ys o) ≡ then_lines (xs ++ ys) o
  then_then xs ys None = refl
  then_then xs ys (Some g) = ap (λ z. Some (record { value = z; place = g.place })) (sym (append_assoc xs ys g.value))

  pub each_starts : (first count : ℕ) → first ≤ length r → InEach first count 0 first []
  each_starts first count h = record { within = h; same = (let q : count - 0 ≡ count = omega arith in ap (each_in r first) (sym q)) ∙ sym (then_nothing (each_in r first (count - 0))) }

  pub each_next : (first count turn end to : ℕ) (ls : List Line) (l : Line) → suc turn ≤ count → InEach first count turn end ls → Some (record { value = l; place = to }) ≡ line_in r end
      → to ≤ length r → InEach first count (turn + 1) to (ls ++ l ∷ [])
  each_next first count turn end to ls l h i e w =
      let n : ℕ = count - (turn + 1) in
      let q : count - turn ≡ suc n = omega arith in
      record {
        within = w;
        same = i.same ∙ (ap (λ z. then_lines ls (each_in r end z)) q ∙ (ap (then_lines ls) (each_some end n (record { value = l; place = to }) (sym e)) ∙ then_then ls (l ∷ []) (each_in r to n)));
      }

  pub each_stops : (first count turn end : ℕ) (ls : List Line) → suc turn ≤ count → InEach first count turn end ls → None ≡ line_in r end → each_in r first count ≡ None
  each_stops first count turn end ls h i e =
      let n : ℕ = count - (turn + 1) in
      let q : count - turn ≡ suc n = omega arith in
      i.same ∙ (ap (λ z. then_lines ls (each_in r end z)) q ∙ ap (then_lines ls) (each_none end n (sym e)))

  pub each_ends : (first count turn end : ℕ) (ls : List Line) → count ≤ turn → InEach first count turn end ls → each_in r first count ≡ Some (record { value = ls; place = end })
  unfolding run
  each_ends first count turn end ls h i =
      let q : count - turn ≡ 0 = omega arith in
      i.same ∙ (ap (λ z. then_lines ls (each_in r end z)) q ∙ ap (λ z. Some (record { value = z; place = end })) (append-nil ls))

  -- If lines are read, there are this many.
  each_count : (n at : ℕ) (g : Got (List Line)) → each_in r at n ≡ Some g → length g.value ≡ n
  unfolding run
  each_count zero at g e = let h : record { value = []; place = at } ≡ g = cc in ap (λ (z : Got (List Line)). length z.value) (sym h)
  each_count (suc n) at g e = by_line (line_in r at) refl (λ l h k. each_count n l h k)
    where
      by_rest : (o : Option (Got (List Line))) (l : Got Line) → each_in r l.place n ≡ o → then_lines (l.value ∷ []) o ≡ Some g
          → ((h : Got (List Line)) → each_in r l.place n ≡ Some h → length h.value ≡ n) → length g.value ≡ suc n
      by_rest None l q p f = cc
      by_rest (Some h) l q p f = let k : record { value = l.value ∷ h.value; place = h.place } ≡ g = cc in ap (λ (z : Got (List Line)). length z.value) (sym k) ∙ ap (λ z. suc z) (f h q)

      Rest : Type 0
      Rest = (at : ℕ) (h : Got (List Line)) → each_in r at n ≡ Some h → length h.value ≡ n

      by_line : (o : Option (Got Line)) → line_in r at ≡ o → Rest → length g.value ≡ suc n
      by_line None q f = let k : None ≡ Some g = sym (each_none at n q) ∙ e in cc
      by_line (Some l) q f = by_rest (each_in r l.place n) l refl (sym (each_some at n l q) ∙ e) (f l.place)

  count_same : (n : ℕ) (o : Option (Got (List Line))) → ((g : Got (List Line)) → o ≡ Some g → length g.value ≡ n) → if_count n o ≡ o
  count_same n None f = refl
  count_same n (Some g) f = let l : length g.value ≡ n = f g refl in let t : (length g.value == n) ≡ true = grind (arith, l) in rw t refl

  count_other : (n m : ℕ) (o : Option (Got (List Line))) → ((g : Got (List Line)) → o ≡ Some g → length g.value ≡ m) → (m ≡ n → ⊥) → if_count n o ≡ None
  count_other n m None f d = refl
  count_other n m (Some g) f d = let l : length g.value ≡ m = f g refl in by_test (length g.value == n) refl
    where
      by_test : (t : Bool) → (length g.value == n) ≡ t → (if t then Some g else None) ≡ None
      by_test true e = let q : length g.value ≡ n = grind (arith, e) in let l : length g.value ≡ m = f g refl in absurd (d (omega arith))
      by_test false e = refl

  pub count_none : (n : ℕ) → int_at r 0 (length r) ≡ None → lines_of_count r n ≡ None
  unfolding run receipt_format
  count_none n e = ap (λ z. if_count n (got_in (after_int r 0 unchecked (λ v s p. run (times v line_format) r (length r) p) z))) e

  abbrev read_from : (v : Var) → Option (Got (List Line))
  read_from v = each_in r v.end v.value

  receipt_from : (v : Var) → int_at r 0 (length r) ≡ Some v → got_in (run receipt_format r (length r) 0) ≡ read_from v
  unfolding run receipt_format
  receipt_from v e = ap (λ z. got_in (after_int r 0 unchecked (λ v s p. run (times v line_format) r (length r) p) z)) e

  pub count_reads : (n : ℕ) (v : Var) → int_at r 0 (length r) ≡ Some v → v.value ≡ n → lines_of_count r n ≡ each_in r v.end n
  count_reads n v e q =
      ap (if_count n) (receipt_from v e) ∙ (count_same n (read_from v) (λ g h. each_count v.value v.end g h ∙ q) ∙ ap (each_in r v.end) q)

  pub count_differs : (n : ℕ) (v : Var) → int_at r 0 (length r) ≡ Some v → (v.value ≡ n → ⊥) → lines_of_count r n ≡ None
  count_differs n v e d = ap (if_count n) (receipt_from v e) ∙ count_other n v.value (read_from v) (λ g h. each_count v.value v.end g h) d

  pub read_ends : (n : ℕ) (v : Var) → int_at r 0 (length r) ≡ Some v → v.value ≡ n → (x : Result (Option LinesRead) NoMemory)
      → IfOk x (λ o. option_map (λ l. record { value = l.lines.items; place = l.end }) o ≡ each_in r v.end n)
      → IfOk x (λ o. option_map (λ l. record { value = l.lines.items; place = l.end }) o ≡ lines_of_count r n)
  read_ends n v e q (Ok o) h = h ∙ sym (count_reads n v e q)
  read_ends n v e q (Err m) h = h
