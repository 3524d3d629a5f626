-- At most one answer is right for a pair of chunks.
use Rattle.std.specs.Prelude.{◌≡◌, ◌≤◌, ℕ, zero, suc, Bool, List, [], ◌∷◌, ◌++◌, length, take, drop, slice_get, Option, Some, None, Result, Ok, Err}
use Rattle.std.proofs.Common.{ap, arith, refl, sym, ◌∙◌, subst}
use Rattle.std.proofs.lemmas.List.Elements.{All-from_recursion, recursion_from_All}
use Rattle.std.specs.List.{AllByRecursion}
use Rattle.jfr_base.proofs.OnceLaws.{exact_once}
use Rattle.jfr_value.specs.Nodes.{Both}
use Rattle.jfr_pool.specs.Entries.{IsInForce, number_in_force}
use Rattle.jfr_chunk.specs.Parts.{Parts, EventAt}
use Rattle.jfr_worklist.specs.Marks.{IsMarked}
use Rattle.jfr_chunk.specs.Reach.{marked, roots, next_entries}
use Rattle.jfr_laws.specs.Laws.{IsCopied}
use Rattle.jfr_laws.proofs.Marks.{rank, rank_get}
use Rattle.jfr_laws.proofs.Entries.{copied_get}
use Rattle.jfr_verify.specs.Receipts.{IsReceiptOf, receipt_format}
use Rattle.jfr_verify.specs.Checks.{AreAmong, AreClosed}
use Rattle.jfr_verify.specs.Checked.{Checked}
use Rattle.jfr_verify.specs.declared.doubt.Doubt.{Doubt}
use Rattle.jfr_verify.specs.declared.doubt.Doubt.TheVariants.{ReceiptLong, OutRefused, ChunksDiffer, ClassesDiffer, EventsDiffer, EntriesDiffer, EntryMissing, ReceiptBad}
use Rattle.jfr_verify.proofs.CopyLaws.{Placed, placed}

beside_left : {A B : Type 0} (R : A → B → Type 0) (x : Option A) (y : Option B) (a : A) → Both R x y → x ≡ Some a → (b : B) × (y ≡ Some b) × R a b
beside_left R None None a r e = cc
beside_left R (Some c) (Some b) a r e = let h : c ≡ a = cc in (b, refl, subst (λ z. R z b) h r)
beside_left R None (Some c) a r e = absurd r
beside_left R (Some a) None b r e = absurd r

take_drop : {X : Type 0} (n : ℕ) (xs : List X) → take n xs ++ drop n xs ≡ xs
take_drop zero xs = refl
take_drop (suc n) [] = refl
take_drop (suc n) (x ∷ xs) = ap (λ z. x ∷ z) (take_drop n xs)

take_size : {X : Type 0} (xs : List X) (n : ℕ) → n ≤ length xs → length (take n xs) ≡ n
take_size [] zero h = refl
take_size [] (suc n) h = absurd (omega arith)
take_size (x ∷ xs) zero h = refl
take_size (x ∷ xs) (suc n) h = ap suc (take_size xs n (omega arith))

all_change : {X : Type 0} (P Q : X → Type 0) (xs : List X) → ((x : X) → P x → Q x) → AllByRecursion P xs → AllByRecursion Q xs
all_change P Q [] f a = tt
all_change P Q (x ∷ xs) f a = (f x a.0, all_change P Q xs f a.1)

module _ (p q : Parts) (kept : List EventAt) (r : List ℕ) where
  -- The entries of the output are copies with one list of marks.
  marks_one : (a b : List Bool) → AreAmong p q a → AreAmong p q b → (i : ℕ) → IsMarked a i → IsMarked b i
  marks_one a b u v i m =
      let f : IsInForce p.entries i = u.in_force i m in
      let g : slice_get (marked a p.entries) (rank a i) ≡ Some f.entry = rank_get a p.entries i m ∙ f.holds in
      let c = beside_left (IsCopied p q) (slice_get (marked a p.entries) (rank a i)) (slice_get q.entries (rank a i)) f.entry (copied_get p q (marked a p.entries) q.entries (rank a i) u.copied) g in
      let x : Placed p q b (rank a i) c.0 = placed p q b v (rank a i) c.0 c.1 in
      let l : number_in_force p.entries (f.entry.class, f.entry.key) ≡ Some i = f.last in
      let k : number_in_force p.entries (c.0.class, f.entry.key) ≡ Some i = subst (λ z. number_in_force p.entries (z, f.entry.key) ≡ Some i) c.2.class l in
      let k' : number_in_force p.entries (c.0.class, c.0.key) ≡ Some i = subst (λ z. number_in_force p.entries (c.0.class, z) ≡ Some i) c.2.key k in
      let h : x.place ≡ i = (let z : number_in_force p.entries (c.0.class, c.0.key) ≡ Some x.place = x.force in cc) in
      subst (IsMarked b) h x.is_marked

  closed_too : (a b : List Bool) → AreAmong p q a → AreAmong p q b → AreClosed p kept a → AreClosed p kept b
  closed_too a b u v c = record {
    events = All-from_recursion (IsMarked b) (roots p kept) (all_change (IsMarked a) (IsMarked b) (roots p kept) (marks_one a b u v) (recursion_from_All (IsMarked a) (roots p kept) c.events));
    entries = λ n m. All-from_recursion (IsMarked b) (next_entries p n)
        (all_change (IsMarked a) (IsMarked b) (next_entries p n) (marks_one a b u v) (recursion_from_All (IsMarked a) (next_entries p n) (c.entries n (marks_one b a v u n m))));
  }

  -- At most one prefix is a receipt.
  prefix_one : (n m : ℕ) → n ≤ length r → m ≤ length r → IsReceiptOf (take n r) q → IsReceiptOf (take m r) q → n ≡ m
  prefix_one n m h k s t =
      let o = exact_once receipt_format (take n r) (take m r) (drop n r) (drop m r) s.lines t.lines s.spelled t.spelled (take_drop n r ∙ sym (take_drop m r)) in
      sym (take_size r n h) ∙ (o.place ∙ take_size r m k)

  pub checked_once : (x y : Result ℕ Doubt) → Checked p q kept r x → Checked p q kept r y → x ≡ y
  checked_once (Err ReceiptLong) y h k = absurd h
  checked_once (Err OutRefused) y h k = absurd h
  checked_once (Err ChunksDiffer) y h k = absurd h
  checked_once (Err ClassesDiffer) (Err ReceiptLong) h k = absurd k
  checked_once (Err ClassesDiffer) (Err OutRefused) h k = absurd k
  checked_once (Err ClassesDiffer) (Err ChunksDiffer) h k = absurd k
  checked_once (Err ClassesDiffer) (Err ClassesDiffer) h k = refl
  checked_once (Err ClassesDiffer) (Err EventsDiffer) h k = absurd (h k.0)
  checked_once (Err ClassesDiffer) (Err EntriesDiffer) h k = absurd (h k.0)
  checked_once (Err ClassesDiffer) (Err EntryMissing) h k = absurd (h k.0)
  checked_once (Err ClassesDiffer) (Err ReceiptBad) h k = absurd (h k.0)
  checked_once (Err ClassesDiffer) (Ok m) h k = absurd (h k.1.classes)
  checked_once (Err EventsDiffer) (Err ReceiptLong) h k = absurd k
  checked_once (Err EventsDiffer) (Err OutRefused) h k = absurd k
  checked_once (Err EventsDiffer) (Err ChunksDiffer) h k = absurd k
  checked_once (Err EventsDiffer) (Err ClassesDiffer) h k = absurd (k h.0)
  checked_once (Err EventsDiffer) (Err EventsDiffer) h k = refl
  checked_once (Err EventsDiffer) (Err EntriesDiffer) h k = absurd (h.1 k.1)
  checked_once (Err EventsDiffer) (Err EntryMissing) h k = absurd (h.1 k.1)
  checked_once (Err EventsDiffer) (Err ReceiptBad) h k = absurd (h.1 k.1)
  checked_once (Err EventsDiffer) (Ok m) h k = absurd (h.1 k.1.events)
  checked_once (Err EntriesDiffer) (Err ReceiptLong) h k = absurd k
  checked_once (Err EntriesDiffer) (Err OutRefused) h k = absurd k
  checked_once (Err EntriesDiffer) (Err ChunksDiffer) h k = absurd k
  checked_once (Err EntriesDiffer) (Err ClassesDiffer) h k = absurd (k h.0)
  checked_once (Err EntriesDiffer) (Err EventsDiffer) h k = absurd (k.1 h.1)
  checked_once (Err EntriesDiffer) (Err EntriesDiffer) h k = refl
  checked_once (Err EntriesDiffer) (Err EntryMissing) h k = absurd (h.2 k.2 k.3)
  checked_once (Err EntriesDiffer) (Err ReceiptBad) h k = absurd (h.2 k.2 k.3)
  checked_once (Err EntriesDiffer) (Ok m) h k = absurd (h.2 k.1.marks k.1.among)
  checked_once (Err EntryMissing) (Err ReceiptLong) h k = absurd k
  checked_once (Err EntryMissing) (Err OutRefused) h k = absurd k
  checked_once (Err EntryMissing) (Err ChunksDiffer) h k = absurd k
  checked_once (Err EntryMissing) (Err ClassesDiffer) h k = absurd (k h.0)
  checked_once (Err EntryMissing) (Err EventsDiffer) h k = absurd (k.1 h.1)
  checked_once (Err EntryMissing) (Err EntriesDiffer) h k = absurd (k.2 h.2 h.3)
  checked_once (Err EntryMissing) (Err EntryMissing) h k = refl
  checked_once (Err EntryMissing) (Err ReceiptBad) h k = absurd (h.4 (closed_too k.2 h.2 k.3 h.3 k.4))
  checked_once (Err EntryMissing) (Ok m) h k = absurd (h.4 (closed_too k.1.marks h.2 k.1.among h.3 k.1.closed))
  checked_once (Err ReceiptBad) (Err ReceiptLong) h k = absurd k
  checked_once (Err ReceiptBad) (Err OutRefused) h k = absurd k
  checked_once (Err ReceiptBad) (Err ChunksDiffer) h k = absurd k
  checked_once (Err ReceiptBad) (Err ClassesDiffer) h k = absurd (k h.0)
  checked_once (Err ReceiptBad) (Err EventsDiffer) h k = absurd (k.1 h.1)
  checked_once (Err ReceiptBad) (Err EntriesDiffer) h k = absurd (k.2 h.2 h.3)
  checked_once (Err ReceiptBad) (Err EntryMissing) h k = absurd (k.4 (closed_too h.2 k.2 h.3 k.3 h.4))
  checked_once (Err ReceiptBad) (Err ReceiptBad) h k = refl
  checked_once (Err ReceiptBad) (Ok m) h k = absurd (h.5 m k.1.shown)
  checked_once (Ok n) (Err ReceiptLong) h k = absurd k
  checked_once (Ok n) (Err OutRefused) h k = absurd k
  checked_once (Ok n) (Err ChunksDiffer) h k = absurd k
  checked_once (Ok n) (Err ClassesDiffer) h k = absurd (k h.1.classes)
  checked_once (Ok n) (Err EventsDiffer) h k = absurd (k.1 h.1.events)
  checked_once (Ok n) (Err EntriesDiffer) h k = absurd (k.2 h.1.marks h.1.among)
  checked_once (Ok n) (Err EntryMissing) h k = absurd (k.4 (closed_too h.1.marks k.2 h.1.among k.3 h.1.closed))
  checked_once (Ok n) (Err ReceiptBad) h k = absurd (k.5 n h.1.shown)
  checked_once (Ok n) (Ok m) h k = ap (λ z. Ok z) (prefix_one n m h.0 k.0 h.1.shown k.1.shown)
