-- An integer that is written group by group.
use Rattle.std.specs.Prelude.{◌≡◌, ℕ, zero, suc, ◌+◌, ◌*◌, ◌^◌, ◌%◌, ◌/◌, ◌<◌, ◌≤◌, ◌⊎◌, List, [], ◌∷◌, ◌++◌, length, take, nat_lt, true, false, slice_set}
use Rattle.std.proofs.Common.{ap, arith, refl, sym, ◌∙◌, inl, inr, subst, add-one}
use Rattle.std.proofs.lemmas.Bool.{cases_lt}
use Rattle.std.proofs.lemmas.List.{append_assoc, append-nil}
use Rattle.std.proofs.lemmas.Nat.{pow-add}
use Rattle.std.proofs.Math.Seq.{take-suc-set}
use Rattle.jfr_base.specs.Integer.{FitsIn, Spells, spell, spell_in, spell_within, spell_as}
use Rattle.jfr_base.specs.Laws.{AreBytes}
use Rattle.jfr_base.proofs.Spelling.{power, IsOf, one_group, more_groups}

spell_small : (k v : ℕ) → v < 128 → spell_within k v ≡ v ∷ []
spell_small zero v h = refl
spell_small (suc k) v h = let t : nat_lt v 128 ≡ true = grind arith in rw t refl

-- A value below 128 is its own spelling.
pub spell_byte : (v : ℕ) → v < 128 → spell v ≡ v ∷ []
unfolding spell
spell_byte v h = spell_small 8 v h

spell_large : (k v : ℕ) → 128 ≤ v → spell_within (suc k) v ≡ (v % 128 + 128) ∷ spell_within k (v / 128)
spell_large k v h = let t : nat_lt v 128 ≡ false = grind arith in rw t refl

-- A byte that is stored after those before it.
stored : (into front rest : List ℕ) (i byte : ℕ) → i < length into → front ≡ take i into ++ byte ∷ rest → front ≡ take (i + 1) (slice_set into i byte) ++ rest
stored into front rest i byte h e =
    let s : take (i + 1) (slice_set into i byte) ≡ take i into ++ byte ∷ [] = ap (λ n. take n (slice_set into i byte)) (add-one i) ∙ take-suc-set into i byte h in
    e ∙ (sym (append_assoc (take i into) (byte ∷ []) rest) ∙ ap (λ z. z ++ rest) (sym s))

-- What a writer of the shortest spelling knows between two groups.
pub record Writing (value i rest : ℕ) (into : List ℕ) : Type 0 where
  pub groups : ℕ
  pub room : i + groups ≡ 8
  pub small : rest < 256 * power groups
  pub written : spell value ≡ take i into ++ spell_within groups rest

pub writing_start : (value : ℕ) (into : List ℕ) → value < 18446744073709551616 → Writing value 0 value into
unfolding spell
writing_start value into h = record { groups = 8; room = refl; small = h; written = refl }

pub writing_last : (value i rest : ℕ) (into : List ℕ) → Writing value i rest into → i < length into → rest < 128 → take (i + 1) (slice_set into i rest) ≡ spell value
writing_last value i rest into w h j =
    let e : spell value ≡ take i into ++ rest ∷ [] = w.written ∙ ap (λ z. take i into ++ z) (spell_small w.groups rest j) in
    sym (stored into (spell value) [] i rest h e ∙ append-nil (take (i + 1) (slice_set into i rest)))

pub writing_ninth : (value rest : ℕ) (into : List ℕ) → Writing value 8 rest into → 8 < length into → (rest < 256) × (take 9 (slice_set into 8 rest) ≡ spell value)
writing_ninth value rest into w h =
    let z : w.groups ≡ 0 = omega (arith, w.room) in
    let e : spell value ≡ take 8 into ++ rest ∷ [] = w.written ∙ ap (λ g. take 8 into ++ spell_within g rest) z in
    (subst (λ g. rest < 256 * power g) z w.small, sym (stored into (spell value) [] 8 rest h e ∙ append-nil (take 9 (slice_set into 8 rest))))

pub writing_next : (value i rest : ℕ) (into : List ℕ) → Writing value i rest into → i < length into → i < 8 → 128 ≤ rest → Writing value (i + 1) (rest / 128) (slice_set into i (rest % 128 + 128))
writing_next value i rest into w h l j = by_groups w.groups refl
  where
    by_groups : (g : ℕ) → w.groups ≡ g → Writing value (i + 1) (rest / 128) (slice_set into i (rest % 128 + 128))
    by_groups zero e = absurd (omega (arith, w.room))
    by_groups (suc k) e =
        let small : rest < 256 * power (suc k) = subst (λ g. rest < 256 * power g) e w.small in
        let s : spell value ≡ take i into ++ (rest % 128 + 128) ∷ spell_within k (rest / 128) =
        w.written ∙ ap (λ z. take i into ++ z) (ap (λ g. spell_within g rest) e ∙ spell_large k rest j) in
        record {
          groups = k;
          room = omega (arith, w.room);
          small = less rest (power k) small;
          written = stored into (spell value) (spell_within k (rest / 128)) i (rest % 128 + 128) h s;
        }
      where
        less : (r p : ℕ) → r < 256 * (128 * p) → r / 128 < 256 * p
        less r p h = omega arith

-- What a writer in a count of bytes knows between two groups.
pub record Filling (value count i rest : ℕ) (into : List ℕ) : Type 0 where
  pub groups : ℕ
  pub room : i + groups + 1 ≡ count
  pub small : rest < 256 * power groups
  pub written : spell_in count value ≡ take i into ++ spell_as (suc groups) rest

power_is : (k : ℕ) → power k ≡ 2 ^ (7 * k)
power_is zero = refl
power_is (suc k) =
    let e : 7 * suc k ≡ 7 * k + 7 = omega arith in
    let f : 2 ^ (7 * k + 7) ≡ 2 ^ (7 * k) * 128 = pow-add 2 (7 * k) 7 in
    let i = power_is k in
    sym (ap (λ n. 2 ^ n) e ∙ (f ∙ omega arith))

pub filling_start : (value count : ℕ) (into : List ℕ) → 1 ≤ count → value < 18446744073709551616 → FitsIn value count → Filling value count 0 value into
unfolding spell_in
filling_start value zero into h v f = absurd (omega arith)
filling_start value (suc k) into h v f = record { groups = k; room = omega arith; small = by_fit f; written = refl }
  where
    by_fit : (value < 2 ^ (7 * suc k)) ⊎ (suc k ≡ 9) → value < 256 * power k
    by_fit (inl i) = let e : power (suc k) ≡ 2 ^ (7 * suc k) = power_is (suc k) in omega arith
    by_fit (inr e) = let j : k ≡ 8 = omega arith in subst (λ z. value < 256 * power z) (sym j) v

pub filling_next : (value count i rest : ℕ) (into : List ℕ) → Filling value count i rest into → i < length into → i + 1 < count
    → Filling value count (i + 1) (rest / 128) (slice_set into i (rest % 128 + 128))
filling_next value count i rest into w h j = by_groups w.groups refl
  where
    by_groups : (g : ℕ) → w.groups ≡ g → Filling value count (i + 1) (rest / 128) (slice_set into i (rest % 128 + 128))
    by_groups zero e = absurd (omega (arith, w.room))
    by_groups (suc k) e =
        let small : rest < 256 * power (suc k) = subst (λ g. rest < 256 * power g) e w.small in
        let s : spell_in count value ≡ take i into ++ (rest % 128 + 128) ∷ spell_as (suc k) (rest / 128) = w.written ∙ ap (λ g. take i into ++ spell_as (suc g) rest) e in
        record {
          groups = k;
          room = omega (arith, w.room);
          small = less rest (power k) small;
          written = stored into (spell_in count value) (spell_as (suc k) (rest / 128)) i (rest % 128 + 128) h s;
        }
      where
        less : (r p : ℕ) → r < 256 * (128 * p) → r / 128 < 256 * p
        less r p h = omega arith

pub filling_last : (value count i rest : ℕ) (into : List ℕ) → Filling value count i rest into → i < length into → i + 1 ≡ count
    → (rest < 256) × (take count (slice_set into i rest) ≡ spell_in count value)
filling_last value count i rest into w h j =
    let z : w.groups ≡ 0 = omega (arith, w.room) in
    let e : spell_in count value ≡ take i into ++ rest ∷ [] = w.written ∙ ap (λ g. take i into ++ spell_as (suc g) rest) z in (
      subst (λ g. rest < 256 * power g) z w.small,
      ap (λ n. take n (slice_set into i rest)) (sym j) ∙ sym (stored into (spell_in count value) [] i rest h e ∙ append-nil (take (i + 1) (slice_set into i rest))),
    )

-- What is written in a count of bytes spells the value.
as_spells : (k n v : ℕ) → n ≤ k → (v < power (suc n)) ⊎ (n ≡ k) → IsOf k v (spell_as (suc n) v)
as_spells zero zero v h f = (refl, refl)
as_spells zero (suc n) v h f = absurd (omega arith)
as_spells (suc k) zero v h (inl i) = one_group k v i
as_spells (suc k) zero v h (inr e) = absurd (omega arith)
as_spells (suc k) (suc n) v h f = more_groups k v (spell_as (suc n) (v / 128)) (as_spells k n (v / 128) (omega arith) (by_fit f))
  where
    by_fit : (v < power (suc (suc n))) ⊎ (suc n ≡ suc k) → (v / 128 < power (suc n)) ⊎ (n ≡ k)
    by_fit (inl i) = inl (less v (power (suc n)) i)
      where
        less : (v p : ℕ) → v < 128 * p → v / 128 < p
        less v p h = omega arith
    by_fit (inr e) = inr (omega arith)

pub fits_spells : (value count : ℕ) → 1 ≤ count → count ≤ 9 → FitsIn value count → Spells (spell_in count value) value
unfolding spell_in
fits_spells value zero h i f = absurd (omega arith)
fits_spells value (suc n) h i f = let p = as_spells 8 n value (omega arith) (by_fit f) in record { form = p.0; worth = sym p.1 }
  where
    by_fit : FitsIn value (suc n) → (value < power (suc n)) ⊎ (n ≡ 8)
    by_fit (inl j) = inl (subst (λ z. value < z) (sym (power_is (suc n))) j)
    by_fit (inr e) = inr (omega arith)

-- What is written are bytes.
within_bytes : (k v : ℕ) → v < 256 * power k → AreBytes (spell_within k v)
within_bytes zero v h = (omega arith, tt)
within_bytes (suc k) v h = by_test (cases_lt v 128) (within_bytes k (v / 128) (less v (power k) h))
  where
    less : (r p : ℕ) → r < 256 * (128 * p) → r / 128 < 256 * p
    less r p h = omega arith

    by_test : ((v < 128) ⊎ (128 ≤ v)) → AreBytes (spell_within k (v / 128)) → AreBytes (spell_within (suc k) v)
    by_test (inl i) b = subst AreBytes (sym (spell_small (suc k) v i)) (omega arith, tt)
    by_test (inr i) b = subst AreBytes (sym (spell_large k v i)) (omega arith, b)

pub spell_bytes : (v : ℕ) → v < 18446744073709551616 → AreBytes (spell v)
unfolding spell
spell_bytes v h = within_bytes 8 v h

as_bytes : (n v : ℕ) → v < 256 * power n → AreBytes (spell_as (suc n) v)
as_bytes zero v h = (omega arith, tt)
as_bytes (suc n) v h = (omega arith, as_bytes n (v / 128) (less v (power n) h))
  where
    less : (r p : ℕ) → r < 256 * (128 * p) → r / 128 < 256 * p
    less r p h = omega arith

pub spell_in_bytes : (value count : ℕ) → 1 ≤ count → value < 18446744073709551616 → FitsIn value count → AreBytes (spell_in count value)
unfolding spell_in
spell_in_bytes value zero h v f = absurd (omega arith)
spell_in_bytes value (suc k) h v f = as_bytes k value (filling_small (filling_start value (suc k) [] h v f))
  where
    filling_small : (w : Filling value (suc k) 0 value []) → value < 256 * power k
    filling_small w = let e : w.groups ≡ k = omega (arith, w.room) in subst (λ g. value < 256 * power g) e w.small

-- What a counter of bytes knows between two groups.
pub record Counting (value len rest : ℕ) : Type 0 where
  pub groups : ℕ
  pub room : len + groups ≡ 9
  pub counted : length (spell value) + 1 ≡ len + length (spell_within groups rest)

pub counting_start : (value : ℕ) → Counting value 1 value
unfolding spell
counting_start value = record { groups = 8; room = refl; counted = omega arith }

pub counting_last : (value len rest : ℕ) → Counting value len rest → rest < 128 → len ≡ length (spell value)
counting_last value len rest w h =
    let e : length (spell_within w.groups rest) ≡ 1 = ap length (spell_small w.groups rest h) in
    omega (arith, w.counted)

pub counting_ninth : (value len rest : ℕ) → Counting value len rest → len ≡ 9 → 9 ≡ length (spell value)
counting_ninth value len rest w h =
    let z : w.groups ≡ 0 = omega (arith, w.room) in
    let e : length (spell_within w.groups rest) ≡ 1 = ap (λ g. length (spell_within g rest)) z in
    omega (arith, w.counted)

pub counting_next : (value len rest : ℕ) → Counting value len rest → len < 9 → 128 ≤ rest → Counting value (len + 1) (rest / 128)
counting_next value len rest w h j = by_groups w.groups refl
  where
    by_groups : (g : ℕ) → w.groups ≡ g → Counting value (len + 1) (rest / 128)
    by_groups zero e = absurd (omega (arith, w.room))
    by_groups (suc k) e =
        let s : length (spell_within w.groups rest) ≡ length (spell_within k (rest / 128)) + 1 = ap (λ g. length (spell_within g rest)) e ∙ (ap length (spell_large k rest j) ∙ omega arith) in
        record { groups = k; room = omega (arith, w.room); counted = omega (arith, w.counted) }
