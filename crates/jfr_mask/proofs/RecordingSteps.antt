-- One more chunk of a recording: what is asked for it, and the dictionary and the output after it.
use Rattle.std.specs.Prelude.{◌≡◌, ℕ, ◌+◌, ◌<◌, ◌≤◌, ◌^◌, Bool, true, false, ◌||◌, nat_le, List, [], ◌∷◌, ◌++◌, length, Option, None, Ok, Err}
use Rattle.std.proofs.Common.{ap, arith, refl, sym, subst, ◌∙◌, append-nil, append_assoc, length-append}
use Rattle.jfr_base.specs.declared.flaw.Flaw.{Flaw}
use Rattle.jfr_base.specs.declared.flaw.ReadFault.{ReadFault}
use Rattle.jfr_base.specs.declared.flaw.ReadFault.TheVariants as readings
use Rattle.jfr_filter.specs.Filters.{Given}
use Rattle.jfr_header.specs.Cuts.{joined}
use Rattle.jfr_header.specs.Endings.{after_chunk}
use Rattle.jfr_header.specs.declared.ending.Ending.{Ending}
use Rattle.jfr_plan.specs.Ends.{TooLong, refused}
use Rattle.jfr_plan.specs.Effects.{Append}
use Rattle.jfr_plan.specs.Makes.{IsFlawOf}
use Rattle.jfr_plan.specs.Rules.{Goes, Stops}
use Rattle.jfr_chunk.specs.Chosen.{kept_of}
use Rattle.jfr_chunk.specs.Parts.{Parts}
use Rattle.jfr_chunk.specs.Refusal.{flaw_in, read_parts, refusal_of}
use Rattle.jfr_mask.specs.declared.fault.MaskFault.{MaskFault}
use Rattle.jfr_mask.specs.declared.fault.MaskFault.TheVariants as faults
use Rattle.jfr_mask.specs.MaskOf.{Masking, dictionary_after, mask_of}
use Rattle.jfr_mask.specs.RecordingMaskers.{AnswersAsked, IsUnmasked, after_masking}
use Rattle.jfr_mask.specs.Recordings.{all_masked, asks_by, asks_masked, dictionary_by, dictionary_over, dictionary_with, is_too_long, masked, masked_by}

module _ (g : Given) (m : Masking) where
  pub dictionary_next : (d cs : List (List ℕ)) (c : List ℕ) → dictionary_over g m d (cs ++ c ∷ []) ≡ dictionary_with g m (dictionary_over g m d cs) c
  dictionary_next d [] c = refl
  dictionary_next d (x ∷ cs) c = dictionary_next (dictionary_with g m d x) cs c

  pub masked_next : (d cs : List (List ℕ)) (c : List ℕ) → joined (all_masked g m d (cs ++ c ∷ [])) ≡ joined (all_masked g m d cs) ++ masked g m (dictionary_over g m d cs) c
  masked_next d [] c = append-nil (masked g m d c)
  masked_next d (x ∷ cs) c =
      let e = dictionary_with g m d x in
      ap (λ z. masked g m d x ++ z) (masked_next e cs c) ∙ sym (append_assoc (masked g m d x) (joined (all_masked g m e cs)) (masked g m (dictionary_over g m e cs) c))

  pub length_next : (d cs : List (List ℕ)) (c : List ℕ) → length (joined (all_masked g m d (cs ++ c ∷ []))) ≡ length (joined (all_masked g m d cs)) + length (masked g m (dictionary_over g m d cs) c)
  length_next d cs c = ap (λ (z : List ℕ). length z) (masked_next d cs c) ∙ length-append (joined (all_masked g m d cs)) (masked g m (dictionary_over g m d cs) c)

  -- A chunk that is read isn't refused, and its masked chunk and its dictionary are those of its parts.
  pub read_masked : (d : List (List ℕ)) (c : List ℕ) (p : Parts) → read_parts c ≡ Ok p → masked g m d c ≡ mask_of m d p (kept_of g p)
  unfolding masked
  read_masked d c p e = ap (masked_by g m d) e

  pub read_dictionary : (d : List (List ℕ)) (c : List ℕ) (p : Parts) → read_parts c ≡ Ok p → dictionary_with g m d c ≡ dictionary_after m d p (kept_of g p)
  unfolding dictionary_with
  read_dictionary d c p e = ap (dictionary_by g m d) e

pub read_accepted : (c : List ℕ) (p : Parts) → read_parts c ≡ Ok p → refusal_of c ≡ None
unfolding refusal_of
read_accepted c p e = ap flaw_in e

not_long : (before : ℕ) (bytes : List ℕ) → before < 2 ^ 40 → length bytes < 2 ^ 30 → is_too_long before bytes ≡ false
not_long before bytes h k = by_bools (nat_le (2 ^ 40) before) (nat_le (2 ^ 30) (length bytes)) refl refl
  where
    by_bools : (s t : Bool) → nat_le (2 ^ 40) before ≡ s → nat_le (2 ^ 30) (length bytes) ≡ t → is_too_long before bytes ≡ false
    by_bools true t e f = absurd (grind arith)
    by_bools false true e f = absurd (grind arith)
    by_bools false false e f = ap (λ z. z || nat_le (2 ^ 30) (length bytes)) e ∙ f

long_before : (before : ℕ) (bytes : List ℕ) → 2 ^ 40 ≤ before → is_too_long before bytes ≡ true
long_before before bytes h = by_bool (nat_le (2 ^ 40) before) refl
  where
    by_bool : (s : Bool) → nat_le (2 ^ 40) before ≡ s → is_too_long before bytes ≡ true
    by_bool true e = ap (λ z. z || nat_le (2 ^ 30) (length bytes)) e
    by_bool false e = absurd (grind arith)

long_itself : (before : ℕ) (bytes : List ℕ) → 2 ^ 30 ≤ length bytes → is_too_long before bytes ≡ true
long_itself before bytes h = by_bools (nat_le (2 ^ 40) before) (nat_le (2 ^ 30) (length bytes)) refl refl
  where
    by_bools : (s t : Bool) → nat_le (2 ^ 40) before ≡ s → nat_le (2 ^ 30) (length bytes) ≡ t → is_too_long before bytes ≡ true
    by_bools true t e f = ap (λ z. z || nat_le (2 ^ 30) (length bytes)) e
    by_bools false true e f = ap (λ z. z || nat_le (2 ^ 30) (length bytes)) e ∙ f
    by_bools false false e f = absurd (grind arith)

-- A masked chunk that isn't too long.
pub is_short : (before : ℕ) (bytes : List ℕ) → is_too_long before bytes ≡ false → (before < 2 ^ 40) × (length bytes < 2 ^ 30)
is_short before bytes e = by_bools (nat_le (2 ^ 40) before) (nat_le (2 ^ 30) (length bytes)) refl refl
  where
    by_bools : (s t : Bool) → nat_le (2 ^ 40) before ≡ s → nat_le (2 ^ 30) (length bytes) ≡ t → (before < 2 ^ 40) × (length bytes < 2 ^ 30)
    by_bools true t f k = absurd (not_both (sym e ∙ ap (λ z. z || nat_le (2 ^ 30) (length bytes)) f))
      where
        not_both : false ≡ true → ⊥
        not_both h = cc
    by_bools false true f k = absurd (not_both (sym e ∙ ap (λ z. z || nat_le (2 ^ 30) (length bytes)) f ∙ k))
      where
        not_both : false ≡ true → ⊥
        not_both h = cc
    by_bools false false f k = (grind arith, grind arith)

asked_by : (o : Option Flaw) (long : Bool) (n : ℕ) (bytes : List ℕ) (t : Bool) → o ≡ None → long ≡ t → asks_by o long n bytes ≡ asks_by None t n bytes
asked_by o long n bytes t e f = ap (λ z. asks_by z long n bytes) e ∙ ap (λ z. asks_by None z n bytes) f

-- What is asked for an accepted chunk, by what is known of its masked chunk.
pub asks_append : (g : Given) (m : Masking) (d : List (List ℕ)) (before n : ℕ) (c bytes : List ℕ) → refusal_of c ≡ None → masked g m d c ≡ bytes → before < 2 ^ 40 → length bytes < 2 ^ 30
    → asks_masked g m d before n c ≡ Goes (Append bytes ∷ [])
asks_append g m d before n c bytes none e h k =
    asked_by (refusal_of c) (is_too_long before (masked g m d c)) n (masked g m d c) false none (ap (is_too_long before) e ∙ not_long before bytes h k)
    ∙ ap (λ z. Goes (Append z ∷ [])) e

pub asks_late : (g : Given) (m : Masking) (d : List (List ℕ)) (before n : ℕ) (c : List ℕ) → refusal_of c ≡ None → 2 ^ 40 ≤ before → asks_masked g m d before n c ≡ Stops (TooLong n)
asks_late g m d before n c none h =
    asked_by (refusal_of c) (is_too_long before (masked g m d c)) n (masked g m d c) true none (long_before before (masked g m d c) h)

pub asks_long : (g : Given) (m : Masking) (d : List (List ℕ)) (before n : ℕ) (c : List ℕ) → refusal_of c ≡ None → 2 ^ 30 ≤ length (masked g m d c) → asks_masked g m d before n c ≡ Stops (TooLong n)
asks_long g m d before n c none h =
    asked_by (refusal_of c) (is_too_long before (masked g m d c)) n (masked g m d c) true none (long_itself before (masked g m d c) h)

-- A chunk that couldn't be read.
pub asks_refused : (g : Given) (m : Masking) (d : List (List ℕ)) (before n number : ℕ) (c bytes : List ℕ) (fault : ReadFault) (e : Ending) → number ≡ n → IsFlawOf (refusal_of c) fault
    → e ≡ after_chunk number fault → AnswersAsked (asks_masked g m d before n c) (Err e) bytes
asks_refused g m d before n number c bytes (readings.Flawed f) e same flaw is =
    subst (λ z. AnswersAsked (asks_masked g m d before n c) (Err z) bytes) (sym is)
    (ap (λ o. asks_by o (is_too_long before (masked g m d c)) n (masked g m d c)) flaw ∙ ap (λ k. Stops (refused k f)) (sym same))
asks_refused g m d before n number c bytes readings.Memory e same flaw is = subst (λ z. AnswersAsked (asks_masked g m d before n c) (Err z) bytes) (sym is) tt

pub unread_unmasked : (number : ℕ) (fault : ReadFault) (e : Ending) → e ≡ after_chunk number fault → IsUnmasked e
unread_unmasked number (readings.Flawed f) e is = subst IsUnmasked (sym is) tt
unread_unmasked number readings.Memory e is = subst IsUnmasked (sym is) tt

-- A chunk that couldn't be masked.
pub asks_unmasked : (g : Given) (m : Masking) (d : List (List ℕ)) (before n number : ℕ) (c bytes : List ℕ) (fault : MaskFault) (e : Ending) → number ≡ n → refusal_of c ≡ None
    → (fault ≡ faults.TooLong → 2 ^ 30 ≤ length (masked g m d c)) → e ≡ after_masking number fault → AnswersAsked (asks_masked g m d before n c) (Err e) bytes
asks_unmasked g m d before n number c bytes faults.TooLong e same none long is =
    subst (λ z. AnswersAsked (asks_masked g m d before n c) (Err z) bytes) (sym is) (asks_long g m d before n c none (long refl) ∙ ap (λ k. Stops (TooLong k)) (sym same))
asks_unmasked g m d before n number c bytes faults.Memory e same none long is = subst (λ z. AnswersAsked (asks_masked g m d before n c) (Err z) bytes) (sym is) tt

pub fault_unmasked : (number : ℕ) (fault : MaskFault) (e : Ending) → e ≡ after_masking number fault → IsUnmasked e
fault_unmasked number faults.TooLong e is = subst IsUnmasked (sym is) tt
fault_unmasked number faults.Memory e is = subst IsUnmasked (sym is) tt
