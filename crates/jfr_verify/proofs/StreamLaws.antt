-- Lists of chunks are compared pair by pair.
use Rattle.std.specs.Prelude.{◌≡◌, ◌≤◌, ◌+◌, ℕ, List, [], ◌∷◌, ◌++◌, take, drop, length, Option, Some, None, Result, Ok, Err}
use Rattle.std.specs.List.{AllByRecursion}
use Rattle.std.proofs.Common.{ap, arith, refl, sym, ◌∙◌, subst}
use Rattle.jfr_base.specs.declared.flaw.Refusal.{Refusal}
use Rattle.jfr_filter.specs.Filters.{Given}
use Rattle.jfr_chunk.specs.Parts.{Parts, AreParts, events_of}
use Rattle.jfr_chunk.specs.Chosen.{chosen, kept_of}
use Rattle.jfr_chunk.proofs.ReachedLaws.{path_reach}
use Rattle.jfr_chunk.proofs.HasNodesLaws.{has_nodes, event_is}
use Rattle.jfr_chunk.specs.Metas.{Names}
use Rattle.jfr_laws.specs.Laws.{IsKept}
use Rattle.jfr_verify.specs.Receipts.{receipt_of}
use Rattle.jfr_verify.specs.Laws.{Passes}
use Rattle.jfr_verify.specs.Checked.{Checked}
use Rattle.jfr_verify.specs.Streams.{Onward, Compared, AreVerified, AreScrubbed, receipts}
use Rattle.jfr_verify.specs.declared.doubt.Doubt.{Doubt}
use Rattle.jfr_verify.specs.declared.doubt.Doubt.TheVariants.{ChunksDiffer, ReceiptBad}
use Rattle.jfr_verify.specs.declared.verdict.Verdict.{Verdict}
use Rattle.jfr_verify.specs.declared.verdict.Verdict.TheVariants.{Verified, Doubted, Refused}
use Rattle.jfr_verify.proofs.CompleteLaws.{kept_passes}
use Rattle.jfr_verify.proofs.VerifiedLaws.{verified}
use Rattle.jfr_verify.proofs.LineLaws.{receipt_of_is_receipt}
use Rattle.jfr_verify.proofs.UniqueLaws.{checked_once}
use Rattle.jfr_verify.proofs.SpellingLaws.{receipt_exact}
use Rattle.jfr_verify.proofs.AnswerLaws.{verdict}

take_front : (a b : List ℕ) → take (length a) (a ++ b) ≡ a
take_front [] b = refl
take_front (x ∷ a) b = ap (λ z. x ∷ z) (take_front a b)

drop_front : (a b : List ℕ) → drop (length a) (a ++ b) ≡ b
drop_front [] b = refl
drop_front (x ∷ a) b = drop_front a b

front_within : (a b : List ℕ) → length a ≤ length (a ++ b)
front_within [] b = omega arith
front_within (x ∷ a) b = omega (arith, front_within a b)

module _ (g : Given) where
  -- There is one verdict.
  pub compared_once : (ps : List Parts) (end : Option Refusal) (qs : List Parts) (r : List ℕ) (n : ℕ) (x y : Verdict) → Compared g ps end qs r n x → Compared g ps end qs r n y → x ≡ y
  compared_once [] (Some f) qs r n x y h k = h ∙ sym k
  compared_once [] None [] [] n x y h k = h ∙ sym k
  compared_once [] None [] (b ∷ r) n x y h k = h ∙ sym k
  compared_once [] None (q ∷ qs) r n x y h k = h ∙ sym k
  compared_once (p ∷ ps) end [] r n x y h k = h ∙ sym k
  compared_once (p ∷ ps) end (q ∷ qs) r n x y h k = by_verdict h.0 h.2
      (subst (Onward (λ m. Compared g ps end qs (drop m r) (n + 1) y) (λ d. y ≡ Doubted (n + 1) d)) (checked_once p q (kept_of g p) r k.0 h.0 k.1 h.1) k.2)
      (λ m. compared_once ps end qs (drop m r) (n + 1) x y)
    where
      by_verdict : (v : Result ℕ Doubt) → Onward (λ m. Compared g ps end qs (drop m r) (n + 1) x) (λ d. x ≡ Doubted (n + 1) d) v
          → Onward (λ m. Compared g ps end qs (drop m r) (n + 1) y) (λ d. y ≡ Doubted (n + 1) d) v
          → ((m : ℕ) → Compared g ps end qs (drop m r) (n + 1) x → Compared g ps end qs (drop m r) (n + 1) y → x ≡ y) → x ≡ y
      by_verdict (Ok m) h k f = f m h k
      by_verdict (Err d) h k f = h ∙ sym k

  -- There is a verdict.
  pub compared_is : (ps : List Parts) (end : Option Refusal) (qs : List Parts) (r : List ℕ) (n : ℕ) → (x : Verdict) × Compared g ps end qs r n x
  compared_is [] (Some f) qs r n = (Refused f, refl)
  compared_is [] None [] [] n = (Verified n, refl)
  compared_is [] None [] (b ∷ r) n = (Doubted n ReceiptBad, refl)
  compared_is [] None (q ∷ qs) r n = (Doubted (n + 1) ChunksDiffer, refl)
  compared_is (p ∷ ps) end [] r n = (Doubted (n + 1) ChunksDiffer, refl)
  compared_is (p ∷ ps) end (q ∷ qs) r n = by_verdict (verdict p q (kept_of g p) r) (λ m. compared_is ps end qs (drop m r) (n + 1))
    where
      by_verdict : (y : Result ℕ Doubt) × Checked p q (kept_of g p) r y → ((m : ℕ) → (x : Verdict) × Compared g ps end qs (drop m r) (n + 1) x) → (x : Verdict) × Compared g (p ∷ ps) end (q ∷ qs) r n x
      by_verdict (Ok m, c) f = let z = f m in (z.0, (Ok m, c, z.1))
      by_verdict (Err d, c) f = (Doubted (n + 1) d, (Err d, c, refl))

  -- If all are verified, each output means the same as its input.
  pub all_verified : (ps : List Parts) (end : Option Refusal) (qs : List Parts) (r : List ℕ) (n m : ℕ) → AllByRecursion AreParts ps → AllByRecursion AreParts qs → Compared g ps end qs r n (Verified m)
      → AreVerified g ps qs × (m ≡ n + length ps) × (end ≡ None)
  all_verified [] (Some f) qs r n m a b h = cc
  all_verified [] None [] [] n m a b h = (tt, (let q : m ≡ n = number m n h in omega arith), refl)
    where
      number : (i j : ℕ) → Verified i ≡ Verified j → i ≡ j
      number i j e = cc
  all_verified [] None [] (x ∷ r) n m a b h = cc
  all_verified [] None (q ∷ qs) r n m a b h = cc
  all_verified (p ∷ ps) end [] r n m a b h = cc
  all_verified (p ∷ ps) end (q ∷ qs) r n m a b h = by_verdict h.0 h.1 h.2 (λ i. all_verified ps end qs (drop i r) (n + 1) m a.1 b.1)
    where
      by_verdict : (v : Result ℕ Doubt) → Checked p q (kept_of g p) r v → Onward (λ i. Compared g ps end qs (drop i r) (n + 1) (Verified m)) (λ d. Verified m ≡ Doubted (n + 1) d) v
          → ((i : ℕ) → Compared g ps end qs (drop i r) (n + 1) (Verified m) → AreVerified g ps qs × (m ≡ n + 1 + length ps) × (end ≡ None))
          → AreVerified g (p ∷ ps) (q ∷ qs) × (m ≡ n + length (p ∷ ps)) × (end ≡ None)
      by_verdict (Ok i) c k f =
          let z = f i k in
          ((verified p q a.0 b.0 (chosen g p) (take i r) c.1, z.0), omega (arith, z.1), z.2)
      by_verdict (Err d) c k f = cc

  -- The outputs of a scrub are verified with their own receipts.
  pub scrubbed_is_verified : (names : Names) (ps qs : List Parts) (n : ℕ) → AreScrubbed names g ps qs → Compared g ps None qs (receipts qs) n (Verified (n + length ps))
  scrubbed_is_verified names [] [] n l = ap Verified (let z : n + 0 ≡ n = omega arith in z)
  scrubbed_is_verified names [] (q ∷ qs) n l = absurd l
  scrubbed_is_verified names (p ∷ ps) [] n l = absurd l
  scrubbed_is_verified names (p ∷ ps) (q ∷ qs) n l = (Ok (length (receipt_of q)), checked, onward (scrubbed_is_verified names ps qs (n + 1) l.2))
    where
      k : IsKept names p (kept_of g p)
      k = l.1.0

      passes : Passes p k.parts (kept_of g p) (receipt_of k.parts)
      passes = kept_passes p l.0 (chosen g p) names k
          (λ all. receipt_of_is_receipt k.parts (λ i h. path_reach k.parts (has_nodes k.parts k.valid) (events_of k.parts) (λ e m. (let v = event_is k.parts k.valid e m in (v.value, v.node))) i
          (all i h)) (receipt_exact k.parts))

      checked : Checked p q (kept_of g p) (receipts (q ∷ qs)) (Ok (length (receipt_of q)))
      checked = (
        front_within (receipt_of q) (receipts qs),
        subst (Passes p q (kept_of g p)) (sym (take_front (receipt_of q) (receipts qs)))
            (subst (λ z. Passes p z (kept_of g p) (receipt_of z)) l.1.1 passes),
      )

      onward : Compared g ps None qs (receipts qs) (n + 1) (Verified (n + 1 + length ps))
          → Compared g ps None qs (drop (length (receipt_of q)) (receipts (q ∷ qs))) (n + 1) (Verified (n + length (p ∷ ps)))
      onward c =
          let e : n + 1 + length ps ≡ n + length (p ∷ ps) = omega arith in
          subst (λ z. Compared g ps None qs z (n + 1) (Verified (n + length (p ∷ ps)))) (sym (drop_front (receipt_of q) (receipts qs)))
          (subst (λ z. Compared g ps None qs (receipts qs) (n + 1) (Verified z)) e c)
