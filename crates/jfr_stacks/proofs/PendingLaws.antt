-- Events that are counted by entries.
use Rattle.std.specs.Prelude.{◌≡◌, ℕ, zero, suc, ◌+◌, ◌≤◌, Bool, true, false, cond, List, [], ◌∷◌, ◌++◌, length, replicate, Option, None, Some, option_to_list, slice_get, slice_set}
use Rattle.std.specs.FinMap as fin
use Rattle.std.proofs.Common.{ap, append-nil, arith, refl, sym, subst, ◌∙◌}
use Rattle.jfr_stacks.specs.Adding.{AddsText, AddsTexts, AreAtMost, AreBelow, HasPending, is_text, pending, plus}
use Rattle.jfr_stacks.specs.Folded.{Counts, count_of}
use Rattle.jfr_stacks.proofs.CountLaws.{below_by, count_more, count_most, one, plus_if, plus_plus, plus_swap}

module _ (text : ℕ → Option (List ℕ)) where
  -- No events.
  pending-replicate : (q : List ℕ) (number n : ℕ) → pending text q number (replicate n 0) ≡ 0
  pending-replicate q number zero = refl
  pending-replicate q number (suc n) = by_text (is_text q (text number)) (pending-replicate q (number + 1) n)
    where
      by_text : (b : Bool) → pending text q (number + 1) (replicate n 0) ≡ 0 → cond b 0 0 + pending text q (number + 1) (replicate n 0) ≡ 0
      by_text true h = omega arith
      by_text false h = omega arith

  -- An event more at one entry.
  pending-slice_set : (q : List ℕ) (number : ℕ) (ns : List ℕ) (j n : ℕ) → slice_get ns j ≡ Some n
      → pending text q number (slice_set ns j (n + 1)) ≡ pending text q number ns + one (is_text q (text (number + j)))
  pending-slice_set q number [] j n e = cc
  pending-slice_set q number (m ∷ ns) zero n e =
      let s : m ≡ n = cc in
      let z : number + 0 ≡ number = omega arith in
      ap (λ x. cond (is_text q (text number)) (n + 1) 0 + x) refl
      ∙ (by_text (is_text q (text number)) s ∙ ap (λ x. cond (is_text q (text number)) m 0 + pending text q (number + 1) ns + one (is_text q (text x))) (sym z))
    where
      by_text : (b : Bool) → m ≡ n → cond b (n + 1) 0 + pending text q (number + 1) ns ≡ cond b m 0 + pending text q (number + 1) ns + one b
      by_text true s = omega arith
      by_text false s = omega arith
  pending-slice_set q number (m ∷ ns) (suc j) n e =
      let i = pending-slice_set q (number + 1) ns j n e in
      let z : number + 1 + j ≡ number + suc j = omega arith in
      let h : pending text q (number + 1) (slice_set ns j (n + 1)) ≡ pending text q (number + 1) ns + one (is_text q (text (number + suc j))) =
      i ∙ ap (λ x. pending text q (number + 1) ns + one (is_text q (text x))) z in
      let a : ℕ = cond (is_text q (text number)) m 0 in
      let c : ℕ = pending text q (number + 1) ns in
      let d : ℕ = one (is_text q (text (number + suc j))) in
      let g : a + (c + d) ≡ a + c + d = omega arith in
      ap (λ x. a + x) h ∙ g

  -- Nothing is counted yet.
  pub pending_none : (old : Counts) (n : ℕ) → HasPending text old [] old 0 (replicate n 0)
  pending_none old n = record { each = λ q. ap (plus (fin.get old q)) (pending-replicate q 0 n) }

  module _ (old : Counts) (ts : List (List ℕ)) (now : Counts) where
    -- An event more, of whose text it is known whether it is q.
    done_more : (q : List ℕ) (w : ℕ) (o : Option (List ℕ)) → plus (fin.get now q) w ≡ plus (fin.get old q) (count_of q ts)
        → plus (plus (fin.get now q) w) (one (is_text q o)) ≡ plus (fin.get old q) (count_of q (ts ++ option_to_list o))
    done_more q w o e = ap (λ x. plus x (one (is_text q o))) e ∙ (plus_plus (fin.get old q) (count_of q ts) (one (is_text q o)) ∙ ap (plus (fin.get old q)) (sym (count_more q ts o)))

    -- It is counted at an entry that has its text.
    pub pending_more : (ns : List ℕ) (j n : ℕ) (o : Option (List ℕ)) → slice_get ns j ≡ Some n → o ≡ text j → HasPending text old ts now 0 ns
        → HasPending text old (ts ++ option_to_list o) now 0 (slice_set ns j (n + 1))
    pending_more ns j n o e same h = record {
      each = λ q.
          (let z : 0 + j ≡ j = omega arith in
          ap (plus (fin.get now q)) (pending-slice_set q 0 ns j n e ∙ ap (λ x. pending text q 0 ns + one (is_text q x)) (ap text z ∙ sym same))
          ∙ (sym (plus_plus (fin.get now q) (pending text q 0 ns) (one (is_text q o))) ∙ done_more q (pending text q 0 ns) o (h.each q)));
    }

    -- Its text is added to the counts.
    pub pending_added : (ns : List ℕ) (o : Option (List ℕ)) (new : Counts) → AddsText now o 1 new → HasPending text old ts now 0 ns → HasPending text old (ts ++ option_to_list o) new 0 ns
    pending_added ns o new a h = record {
      each = λ q.
          ap (λ x. plus x (pending text q 0 ns)) (a.each q ∙ plus_if (is_text q o) (fin.get now q) 1)
          ∙ (plus_swap (fin.get now q) (one (is_text q o)) (pending text q 0 ns) ∙ done_more q (pending text q 0 ns) o (h.each q));
    }

    -- It has no text.
    pub pending_same : (ns : List ℕ) (o : Option (List ℕ)) → o ≡ None → HasPending text old ts now 0 ns → HasPending text old (ts ++ option_to_list o) now 0 ns
    pending_same ns o n h = subst (λ z. HasPending text old (ts ++ option_to_list z) now 0 ns) (sym n) (subst (λ z. HasPending text old z now 0 ns) (sym (append-nil ts)) h)

    -- The events of one entry are added to the counts.
    pub pending_next : (number n : ℕ) (ns : List ℕ) (new : Counts) → AddsText now (text number) n new → HasPending text old ts now number (n ∷ ns) → HasPending text old ts new (number + 1) ns
    pending_next number n ns new a h = record {
      each = λ q.
          ap (λ x. plus x (pending text q (number + 1) ns)) (a.each q ∙ plus_if (is_text q (text number)) (fin.get now q) n)
          ∙ (plus_plus (fin.get now q) (cond (is_text q (text number)) n 0) (pending text q (number + 1) ns) ∙ h.each q);
    }

    -- The events of all entries are added.
    pub pending_end : (number : ℕ) (ns : List ℕ) → ns ≡ [] → HasPending text old ts now number ns → AddsTexts old ts now
    pending_end number ns e h = record { each = λ q. ap (λ z. plus (fin.get now q) (pending text q number z)) (sym e) ∙ h.each q }

    pub pending_below : (number most : ℕ) (ns : List ℕ) → HasPending text old ts now number ns → AreBelow most old → AreBelow (most + length ts) now
    pending_below number most ns h b = below_by old now (λ q. pending text q number ns) (λ q. count_of q ts) most (length ts) h.each (λ q. count_most q ts) b

-- No counts, and a count more.
pub zeros_small : (most n : ℕ) → AreAtMost most (replicate n 0)
zeros_small most n = record { each = λ i k e. small n i k e }
  where
    small : (n i k : ℕ) → slice_get (replicate n 0) i ≡ Some k → k ≤ most
    small zero i k e = cc
    small (suc n) zero k e = let z : 0 ≡ k = cc in omega arith
    small (suc n) (suc i) k e = small n i k e

pub set_small : (most : ℕ) (ns : List ℕ) (j n : ℕ) → slice_get ns j ≡ Some n → AreAtMost most ns → AreAtMost (most + 1) (slice_set ns j (n + 1))
set_small most ns j n e a = record { each = λ i k is. small ns j (a.each) (a.each j n e) i k is }
  where
    small : (ns : List ℕ) (j : ℕ) → ((i k : ℕ) → slice_get ns i ≡ Some k → k ≤ most) → n ≤ most → (i k : ℕ) → slice_get (slice_set ns j (n + 1)) i ≡ Some k → k ≤ most + 1
    small [] j h l i k is = cc
    small (m ∷ ns) zero h l zero k is = let z : n + 1 ≡ k = cc in omega arith
    small (m ∷ ns) zero h l (suc i) k is = let b = h (suc i) k is in omega arith
    small (m ∷ ns) (suc j) h l zero k is = let b = h zero k is in omega arith
    small (m ∷ ns) (suc j) h l (suc i) k is = small ns j (λ x y. h (suc x) y) l i k is

pub small_more : (m n : ℕ) (ns : List ℕ) → m ≤ n → AreAtMost m ns → AreAtMost n ns
small_more m n ns h a = record { each = λ i k e. (let l = a.each i k e in omega arith) }
