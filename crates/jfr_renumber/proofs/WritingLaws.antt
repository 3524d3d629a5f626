-- The output chunk with these keys and entries, as it is written.
use Rattle.std.specs.Prelude.{◌≡◌, ℕ, ◌≤◌, Bool, true, false, List, Option, Some, None, Err, unwrap_or, if◌then◌else◌}
use Rattle.std.proofs.Common.{ap, arith, sym, ◌∙◌, subst}
use Rattle.jfr_pool.specs.declared.entry.EntryAt.{EntryAt}
use Rattle.jfr_chunk.specs.Parts.{Parts, AreParts}
use Rattle.jfr_chunk.specs.Reach.{kept_by, marked}
use Rattle.jfr_chunk.specs.Scrub.{output_records}
use Rattle.jfr_laws.proofs.Same.{chosen_events}
use Rattle.jfr_output.specs.RemainingRecords.{IsNewMetadata}
use Rattle.jfr_rewrite.specs.Rewrite.{rewritten}
use Rattle.jfr_rewrite.specs.Rewritten.{CarriesAll}
use Rattle.jfr_rewrite.specs.Writing.{AreSomeOf, Wrote}
use Rattle.jfr_rewrite.specs.declared.fault.WriteFault.{WriteFault}
use Rattle.jfr_rewrite.specs.declared.fault.WriteFault.TheVariants as faults
use Rattle.jfr_renumber.specs.Meaning.{AreNewKeys}
use Rattle.jfr_renumber.specs.Numbers.{NumberedPairs, number_of, number_or_zero}
use Rattle.jfr_renumber.specs.Renumber.{assembled_by, firsts, new_bytes, new_key, new_key_of, renumber_with, with_keys}
use Rattle.jfr_renumber.proofs.AgreeLaws.{number_used, output_same}
use Rattle.jfr_renumber.proofs.LawLaws.{new_keys_are}
use Rattle.jfr_renumber.proofs.Renumbered.{firsts_marked}
use Rattle.jfr_renumber.proofs.RewrittenLaws.{is_rewritten}
use Rattle.jfr_renumber.proofs.Room.{carries_all}

-- Keys that are the new ones of all that is used are no larger than the old ones.
pub numbers_below : (p : Parts) → AreParts p → (flags : List Bool) (k : NumberedPairs) → ((t : ℕ × ℕ) → number_of k t ≡ new_key_of p (kept_by p flags) t) → (t : ℕ × ℕ) → number_or_zero k t ≤ t.1
numbers_below p a flags k h t = subst (λ o. unwrap_or o 0 ≤ t.1) (sym (h t)) (by_test _)
  where
    keys : AreNewKeys p (kept_by p flags) (new_key p (kept_by p flags))
    keys = new_keys_are p a (kept_by p flags) (chosen_events p flags)

    by_test : (b : Bool) → unwrap_or (if b then Some (new_key p (kept_by p flags) t) else None) 0 ≤ t.1
    by_test true = keys.most t
    by_test false = omega arith

-- With these entries and keys the rewritten chunk is the output with new keys.
pub all_renumbered : (slim : Option (List ℕ)) (p : Parts) (a : AreParts p) (flags : List Bool) (k : NumberedPairs) (entries : List EntryAt)
    → ((t : ℕ × ℕ) → number_of k t ≡ new_key_of p (kept_by p flags) t) → entries ≡ firsts p (kept_by p flags)
    → rewritten (with_keys (number_or_zero k) slim) p (kept_by p flags) entries ≡ renumber_with slim p (kept_by p flags)
all_renumbered slim p a flags k entries h e =
    sym (is_rewritten (number_or_zero k) slim p (kept_by p flags) entries)
    ∙ (ap (λ z. assembled_by p (new_bytes (number_or_zero k) p (kept_by p flags) z) (output_records slim p (kept_by p flags))) e
    ∙ output_same p a flags (number_or_zero k) (number_used p a flags k h) slim)

-- The first entries are some of the chunk's.
pub firsts_some : (p : Parts) (flags : List Bool) (entries : List EntryAt) → entries ≡ firsts p (kept_by p flags) → AreSomeOf p entries
firsts_some p flags entries e = let m = firsts_marked p (kept_by p flags) in (m.0, e ∙ m.1)

-- Each size fits in its old width.
pub all_carried : (slim : Option (List ℕ)) (p : Parts) (a : AreParts p) (flags : List Bool) (k : NumberedPairs) (entries : List EntryAt)
    → ((t : ℕ × ℕ) → number_of k t ≡ new_key_of p (kept_by p flags) t) → entries ≡ firsts p (kept_by p flags)
    → IsNewMetadata p (kept_by p flags) slim → CarriesAll (with_keys (number_or_zero k) slim) p (kept_by p flags) entries
all_carried slim p a flags k entries h e n =
    let m = firsts_marked p (kept_by p flags) in
    subst (λ z. CarriesAll (with_keys (number_or_zero k) slim) p (kept_by p flags) z) (sym (e ∙ m.1))
    (subst (λ s. CarriesAll (with_keys (number_or_zero k) s) p (kept_by p flags) (marked m.0 p.entries)) (sym n.is)
    (carries_all p a flags (number_or_zero k) (numbers_below p a flags k h) m.0 n.names))

-- If all sizes are carried, the fault isn't `TooLong`.
pub not_too_long : {A : Type 0} (fault : WriteFault) (P : A → Type 0) (C : Type 0) → fault ≡ faults.TooLong → Wrote (Err fault) P C → C → ⊥
not_too_long fault P C e h c = subst (λ z. Wrote (Err z) P C) e h c
