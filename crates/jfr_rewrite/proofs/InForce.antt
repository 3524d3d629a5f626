-- If entries keep their keys, the changed ones are in force where the old ones are.
use Rattle.std.specs.Prelude.{◌≡◌, ℕ, zero, suc, ◌+◌, ◌&&◌, ◌==◌, Bool, List, [], ◌∷◌, slice_get, Option, Some, None, option_and_then}
use Rattle.std.proofs.Common.{ap, refl, sym, ◌∙◌, subst}
use Rattle.jfr_value.specs.Nodes.{Both}
use Rattle.jfr_pool.specs.declared.entry.EntryAt.{EntryAt}
use Rattle.jfr_pool.specs.Entries.{in_force, or_later, last_from, number_in_force}
use Rattle.jfr_pool.proofs.Targets.{hits}
use Rattle.jfr_worklist.specs.Marks.{IsMarked}
use Rattle.jfr_chunk.specs.Parts.{Parts, EventAt}
use Rattle.jfr_chunk.specs.Reach.{marked}
use Rattle.jfr_laws.proofs.Entries.{marked_force, none_force}
use Rattle.jfr_laws.proofs.Marks.{rank, rank_get}
use Rattle.jfr_rewrite.specs.Rewrite.{Rewrite, pair_of}
use Rattle.jfr_rewrite.specs.Rewritten.{OneToOne, HasChangedValue, IsChangedEntry}
use Rattle.jfr_rewrite.specs.Paths.{MarksMet, MeetsChanged, Stops}

module _ (w : Rewrite) (p q : Parts) (same : (t : ℕ × ℕ) → w.key t ≡ t.1) where
  abbrev Entries : List EntryAt → List EntryAt → Type 0
  Entries = OneToOne (IsChangedEntry w p q)

  changed_get : (es fs : List EntryAt) (n : ℕ) → Entries es fs → Both (HasChangedValue w.change p q) (slice_get es n) (slice_get fs n)
  changed_get [] [] n a = tt
  changed_get [] (f ∷ fs) n a = absurd a
  changed_get (e ∷ es) [] n a = absurd a
  changed_get (e ∷ es) (f ∷ fs) zero a = a.0.value
  changed_get (e ∷ es) (f ∷ fs) (suc n) a = changed_get es fs n a.1

  changed_last : (n : ℕ) (es fs : List EntryAt) (t : ℕ × ℕ) → Entries es fs → last_from n es t ≡ last_from n fs t
  changed_last n [] [] t a = refl
  changed_last n [] (f ∷ fs) t a = absurd a
  changed_last n (e ∷ es) [] t a = absurd a
  changed_last n (e ∷ es) (f ∷ fs) t a =
      let k : e.key ≡ f.key = sym (same (pair_of e)) ∙ a.0.key in
      let h : hits e t ≡ hits f t = ap (λ z. (z == t.0) && (e.key == t.1)) a.0.value.class ∙ ap (λ z. (f.class == t.0) && (z == t.1)) k in
      ap (λ z. or_later n z (last_from (n + 1) es t)) h ∙ ap (or_later n (hits f t)) (changed_last (n + 1) es fs t a.1)

  pub changed_force : (es fs : List EntryAt) (t : ℕ × ℕ) → Entries es fs → number_in_force es t ≡ number_in_force fs t
  unfolding number_in_force
  changed_force es fs t a = changed_last 0 es fs t a

  pub in_force_changed : (marks : List Bool) (t : ℕ × ℕ) → Entries (marked marks p.entries) q.entries → ((n : ℕ) → number_in_force p.entries t ≡ Some n → IsMarked marks n)
      → Both (HasChangedValue w.change p q) (in_force p.entries t) (in_force q.entries t)
  in_force_changed marks t a h = by_number (number_in_force p.entries t) refl
    where
      At : Option ℕ → Option ℕ → Type 0
      At m n = Both (HasChangedValue w.change p q) (option_and_then (λ i. slice_get p.entries i) m) (option_and_then (λ i. slice_get q.entries i) n)

      by_numbers : (m n : Option ℕ) → number_in_force p.entries t ≡ m → number_in_force q.entries t ≡ n → At m n → At (number_in_force p.entries t) (number_in_force q.entries t)
      by_numbers m n e f s = subst (λ z. At z (number_in_force q.entries t)) (sym e) (subst (At m) (sym f) s)

      moved : number_in_force q.entries t ≡ number_in_force (marked marks p.entries) t
      moved = sym (changed_force (marked marks p.entries) q.entries t a)

      by_number : (o : Option ℕ) → number_in_force p.entries t ≡ o → At (number_in_force p.entries t) (number_in_force q.entries t)
      by_number None e = by_numbers None None e (moved ∙ none_force marks p.entries t e) tt
      by_number (Some n) e =
          let m : IsMarked marks n = h n e in
          let c = changed_get (marked marks p.entries) q.entries (rank marks n) a in
          by_numbers (Some n) (Some (rank marks n)) e (moved ∙ marked_force marks p.entries t n e m)
          (subst (λ z. Both (HasChangedValue w.change p q) z (slice_get q.entries (rank marks n))) (rank_get marks p.entries n m) c)

  pub same_keys_meet : (stops : Stops) (kept : List EventAt) (marks : List Bool) → Entries (marked marks p.entries) q.entries → MarksMet stops p kept marks → MeetsChanged w.change w.key stops p q kept
  same_keys_meet stops kept marks a met t u =
      subst (λ z. Both (HasChangedValue w.change p q) (in_force p.entries t) (in_force q.entries (t.0, z))) (sym (same t)) (in_force_changed marks t a (λ n e. met t u n e))
