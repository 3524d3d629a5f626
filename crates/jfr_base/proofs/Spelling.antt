-- What is spelled is read back, and the shortest spelling is the shortest.
use Rattle.std.specs.Prelude.{◌≡◌, ℕ, zero, suc, ◌+◌, ◌*◌, ◌%◌, ◌/◌, ◌<◌, ◌≤◌, List, [], ◌∷◌, length, ◌⊎◌, nat_lt, true, false}
use Rattle.std.proofs.lemmas.Bool.{cases_lt}
use Rattle.std.proofs.Common.{ap, arith, refl, sym, inl, inr}
use Rattle.jfr_base.specs.Integer.{IsSpellingWithin, Spells, worth_within, spell_within, spell, spell_as, spell_in}

-- A group with more to come, before a spelling.
longer : (k b : ℕ) (f : List ℕ) → 128 ≤ b → IsSpellingWithin k f → IsSpellingWithin (suc k) (b ∷ f)
longer k b [] h s = absurd s
longer k b (f ∷ fs) h s = (h, s)

last_group : (v : ℕ) → v < 128 → v % 128 + 128 * 0 ≡ v
last_group v h = omega arith

group : (v w : ℕ) → w ≡ v / 128 → (v % 128 + 128) % 128 + 128 * w ≡ v
group v w e = omega arith

abbrev pub IsOf : ℕ → ℕ → List ℕ → Type 0
IsOf k v b = IsSpellingWithin k b × (worth_within k b ≡ v)

pub one_group : (k v : ℕ) → v < 128 → IsOf (suc k) v (v ∷ [])
one_group k v h = (h, last_group v h)

pub more_groups : (k v : ℕ) (f : List ℕ) → IsOf k (v / 128) f → IsOf (suc k) v ((v % 128 + 128) ∷ f)
more_groups k v f p = (longer k (v % 128 + 128) f (omega arith) p.0, group v (worth_within k f) p.1)

spelled_within : (k v : ℕ) → IsOf k v (spell_within k v)
spelled_within zero v = (refl, refl)
spelled_within (suc k) v = by_test (cases_lt v 128) (spelled_within k (v / 128))
  where
    by_test : ((v < 128) ⊎ (128 ≤ v)) → IsOf k (v / 128) (spell_within k (v / 128)) → IsOf (suc k) v (spell_within (suc k) v)
    by_test (inl h) p = let t : nat_lt v 128 ≡ true = grind arith in rw t (one_group k v h)
    by_test (inr h) p = let t : nat_lt v 128 ≡ false = grind arith in rw t (more_groups k v (spell_within k (v / 128)) p)

pub spell_spells : (v : ℕ) → Spells (spell v) v
unfolding spell
spell_spells v = let p = spelled_within 8 v in record { form = p.0; worth = sym p.1 }

-- The shortest spelling is no longer than any spelling of the value or of a larger one.
shortest : (k v : ℕ) (b : List ℕ) → IsSpellingWithin k b → v ≤ worth_within k b → length (spell_within k v) ≤ length b
shortest k v [] s h = absurd s
shortest zero v (b ∷ bs) s h = omega arith
shortest (suc k) v (b ∷ []) s h =
    let i : v < 128 = omega arith in
    let t : nat_lt v 128 ≡ true = grind arith in
    rw t (omega arith)
shortest (suc k) v (b ∷ c ∷ bs) s h = by_test (cases_lt v 128) (shortest k (v / 128) (c ∷ bs) s.1 (less v (b % 128) (worth_within k (c ∷ bs)) (omega arith) h))
  where
    less : (v r w : ℕ) → r < 128 → v ≤ r + 128 * w → v / 128 ≤ w
    less v r w i j = omega arith

    by_test : ((v < 128) ⊎ (128 ≤ v)) → length (spell_within k (v / 128)) ≤ length (c ∷ bs) → length (spell_within (suc k) v) ≤ length (b ∷ c ∷ bs)
    by_test (inl i) p = let t : nat_lt v 128 ≡ true = grind arith in rw t (omega arith)
    by_test (inr i) p = let t : nat_lt v 128 ≡ false = grind arith in rw t (omega arith)

pub spell_short : (b : List ℕ) (v w : ℕ) → Spells b w → v ≤ w → length (spell v) ≤ length b
unfolding spell
spell_short b v w s h = let e : w ≡ worth_within 8 b = s.worth in shortest 8 v b s.form (omega arith)

within_most : (k v : ℕ) → length (spell_within k v) ≤ k + 1
within_most zero v = omega arith
within_most (suc k) v = by_test (cases_lt v 128) (within_most k (v / 128))
  where
    by_test : ((v < 128) ⊎ (128 ≤ v)) → length (spell_within k (v / 128)) ≤ k + 1 → length (spell_within (suc k) v) ≤ suc k + 1
    by_test (inl i) p = let t : nat_lt v 128 ≡ true = grind arith in rw t (omega arith)
    by_test (inr i) p = let t : nat_lt v 128 ≡ false = grind arith in rw t (omega arith)

pub spell_most : (v : ℕ) → length (spell v) ≤ 9
unfolding spell
spell_most v = within_most 8 v

-- A value can be spelled in the number of bytes that a larger one took.
spelled_as : (k v : ℕ) (b : List ℕ) → IsSpellingWithin k b → v ≤ worth_within k b → IsOf k v (spell_as (length b) v) × (length (spell_as (length b) v) ≡ length b)
spelled_as k v [] s h = absurd s
spelled_as zero v (b ∷ []) s h = ((refl, refl), refl)
spelled_as zero v (b ∷ c ∷ bs) s h = cc
spelled_as (suc k) v (b ∷ []) s h = (one_group k v (omega arith), refl)
spelled_as (suc k) v (b ∷ c ∷ bs) s h =
    let p = spelled_as k (v / 128) (c ∷ bs) s.1 (less v (b % 128) (worth_within k (c ∷ bs)) (omega arith) h) in
    (more_groups k v (spell_as (length (c ∷ bs)) (v / 128)) p.0, ap (λ n. suc n) p.1)
  where
    less : (v r w : ℕ) → r < 128 → v ≤ r + 128 * w → v / 128 ≤ w
    less v r w i j = omega arith

pub spell_in_spells : (b : List ℕ) (v w : ℕ) → Spells b w → v ≤ w → Spells (spell_in (length b) v) v × (length (spell_in (length b) v) ≡ length b)
unfolding spell_in
spell_in_spells b v w s h =
    let e : w ≡ worth_within 8 b = s.worth in
    let p = spelled_as 8 v b s.form (omega arith) in
    (record { form = p.0.0; worth = sym p.0.1 }, p.1)

-- A large number takes all nine bytes.
abbrev pub power : ℕ → ℕ
power zero = 1
power (suc k) = 128 * power k

pub some_power : (k : ℕ) → 1 ≤ power k
some_power zero = omega arith
some_power (suc k) = omega (arith, some_power k)

full_or_small : (k : ℕ) (b : List ℕ) → IsSpellingWithin k b → (length b ≡ k + 1) ⊎ (worth_within k b < power k)
full_or_small k [] s = absurd s
full_or_small zero (b ∷ []) s = inl refl
full_or_small zero (b ∷ c ∷ bs) s = cc
full_or_small (suc k) (b ∷ []) s = inr (omega (arith, some_power k))
full_or_small (suc k) (b ∷ c ∷ bs) s = by_rest (full_or_small k (c ∷ bs) s.1)
  where
    by_rest : ((length (c ∷ bs) ≡ k + 1) ⊎ (worth_within k (c ∷ bs) < power k)) → (length (b ∷ c ∷ bs) ≡ suc k + 1) ⊎ (worth_within (suc k) (b ∷ c ∷ bs) < power (suc k))
    by_rest (inl e) = inl (omega arith)
    by_rest (inr h) = let r : b % 128 < 128 = omega arith in inr (small (b % 128) (worth_within k (c ∷ bs)) (power k) r h)
      where
        small : (r w p : ℕ) → r < 128 → w < p → r + 128 * w < 128 * p
        small r w p i j = omega arith

pub nine_bytes : (b : List ℕ) (v : ℕ) → Spells b v → 72057594037927936 ≤ v → length b ≡ 9
nine_bytes b v s h = by_case (full_or_small 8 b s.form)
  where
    by_case : ((length b ≡ 9) ⊎ (worth_within 8 b < power 8)) → length b ≡ 9
    by_case (inl e) = e
    by_case (inr i) = let e : v ≡ worth_within 8 b = s.worth in let j : worth_within 8 b < 72057594037927936 = i in absurd (omega arith)

pub some_byte : (b : List ℕ) (v : ℕ) → Spells b v → 1 ≤ length b
some_byte [] v s = absurd s.form
some_byte (b ∷ bs) v s = omega arith
