-- The format of a string reads exactly the spellings of strings.
use Rattle.std.specs.Prelude.{◌≡◌, ◌≢◌, ℕ, zero, suc, ◌≤◌, Bool, true, false, List, [], ◌∷◌, ◌++◌, length, Some, None, ◌==◌, nat_lt, if◌then◌else◌}
use Rattle.std.proofs.Common.{ap, arith, refl, sym, ◌∙◌, subst}
use Rattle.std.proofs.lemmas.List.{append-nil}
use Rattle.std.proofs.lemmas.Map.Views.{exact_unsigned_eq}
use Rattle.jfr_base.specs.Integer.{Spells}
use Rattle.jfr_base.specs.Formats.{Done, Int, Run, ◌>>=◌, times, integer, unchecked, Exactly}
use Rattle.jfr_base.specs.declared.reason.Reason.TheVariants.{StringKind}
use Rattle.jfr_text.specs.Strings.{Content, Null, Empty, Key, Utf8, Units, Latin, SpellAll, Counted, IsBody, IsString, kind_fault, after_kind, string_format}
use Rattle.jfr_base.proofs.ExactLaws.{exact_bind, bind_exact}
use Rattle.jfr_base.proofs.FreeLaws.{PlaceFree, bind_free, times_free, if_free}

no_rest : (b h r : List ℕ) → b ≡ h ++ r → r ≡ [] → b ≡ h
no_rest b h r e d = e ∙ (ap (λ z. h ++ z) d ∙ append-nil h)

units_are : (n : ℕ) (b us : List ℕ) → Exactly (times n integer) b us → SpellAll b us × (length us ≡ n)
units_are zero b us e = subst (λ z. SpellAll b z × (length z ≡ 0)) (sym e.0) (e.1, refl)
units_are (suc n) b us e =
    let j = exact_bind (times n integer) (λ rest. Done (e.2 ∷ rest)) e.1 us e.6 in
    let r = units_are n j.front j.value j.first in
    let q : e.1 ≡ j.front = no_rest e.1 j.front j.rest j.split j.second.1 in
    subst (λ z. SpellAll b z × (length z ≡ suc n)) (sym j.second.0) ((e.0, e.1, e.3, e.4, subst (λ z. SpellAll z j.value) (sym q) r.0), ap (λ z. suc z) r.1)

are_units : (b us : List ℕ) → SpellAll b us → Exactly (times (length us) integer) b us
are_units b [] s = (refl, s)
are_units b (v ∷ us) s =
    (s.0, s.1, v, s.2, s.3, refl, bind_exact (times (length us) integer) (λ rest. Done (v ∷ rest)) s.1 [] s.1 us (v ∷ us) (sym (append-nil s.1)) (are_units s.1 us s.4) (refl, refl))

spelled_alone : (r h t : List ℕ) (v : ℕ) → r ≡ h ++ t → t ≡ [] → Spells h v → Spells r v
spelled_alone r h t v e d s = subst (λ z. Spells z v) (sym (no_rest r h t e d)) s

-- A length, and a run of this many bytes.
counted_run : (r h t : List ℕ) (n : ℕ) (c d : List ℕ) → r ≡ h ++ t → Spells h n → t ≡ c ++ d → length c ≡ n → d ≡ [] → Counted r (length c) (λ z. z ≡ c)
counted_run r h t n c d e s f l g = (h, t, e, subst (Spells h) (sym l) s, no_rest t c d f g)

kind_bound : (kind : ℕ) → kind_fault true kind ≡ None → kind ≤ 5
kind_bound kind q = by_test (nat_lt 5 kind) refl q
  where
    by_test : (t : Bool) → nat_lt 5 kind ≡ t → (if t then Some StringKind else None) ≡ None → kind ≤ 5
    by_test true t q = cc
    by_test false t q = grind arith

kind_faults : (kind : ℕ) → kind ≤ 5 → kind_fault true kind ≡ None
kind_faults kind h = let t : nat_lt 5 kind ≡ false = grind arith in rw t refl

not_zero : (a b : ℕ) → (a == b) ≡ false → a ≢ b
not_zero a b h = grind arith

kind_five : (kind : ℕ) → kind ≤ 5 → (kind == 0) ≡ false → (kind == 1) ≡ false → (kind == 2) ≡ false → (kind == 3) ≡ false → (kind == 4) ≡ false → kind ≡ 5
kind_five kind h n0 n1 n2 n3 n4 = omega (arith, not_zero kind 0 n0, not_zero kind 1 n1, not_zero kind 2 n2, not_zero kind 3 n3, not_zero kind 4 n4)

module _ (r : List ℕ) (s : Content) where
  pub body_is : (kind : ℕ) → kind_fault true kind ≡ None → Exactly (after_kind kind) r s → IsBody s kind r
  body_is kind q e = at0 (kind == 0) refl e
    where
      bound : kind ≤ 5
      bound = kind_bound kind q

      at5 : (kind == 0) ≡ false → (kind == 1) ≡ false → (kind == 2) ≡ false → (kind == 3) ≡ false → (kind == 4) ≡ false → Exactly (Int unchecked (λ n spelled. Run n (λ bytes. Done (Latin bytes)))) r s
          → IsBody s kind r
      at5 n0 n1 n2 n3 n4 e = subst (λ z. IsBody z kind r) (sym e.6.4.0) (kind_five kind bound n0 n1 n2 n3 n4, counted_run r e.0 e.1 e.2 e.6.0 e.6.1 e.3 e.4 e.6.2 e.6.3 e.6.4.1)

      at4 : (t : Bool) → (kind == 4) ≡ t → (kind == 0) ≡ false → (kind == 1) ≡ false → (kind == 2) ≡ false → (kind == 3) ≡ false
          → Exactly (if t then Int unchecked (λ n spelled. times n integer >>= λ us. Done (Units us)) else Int unchecked (λ n spelled. Run n (λ bytes. Done (Latin bytes)))) r s → IsBody s kind r
      at4 true t n0 n1 n2 n3 e =
          let i = exact_bind (times e.2 integer) (λ us. Done (Units us)) e.1 s e.6 in
          let u = units_are e.2 i.front i.value i.first in
          subst (λ z. IsBody z kind r) (sym i.second.0)
          (exact_unsigned_eq kind 4 t, (e.0, e.1, e.3, subst (Spells e.0) (sym u.1) e.4, subst (λ z. SpellAll z i.value) (sym (no_rest e.1 i.front i.rest i.split i.second.1)) u.0))
      at4 false t n0 n1 n2 n3 e = at5 n0 n1 n2 n3 t e

      at3 : (t : Bool) → (kind == 3) ≡ t → (kind == 0) ≡ false → (kind == 1) ≡ false → (kind == 2) ≡ false
          → Exactly (if t then Int unchecked (λ n spelled. Run n (λ bytes. Done (Utf8 bytes))) else if kind == 4 then Int unchecked (λ n spelled. times n integer >>= λ us. Done (Units us)) else Int unchecked (λ n spelled. Run n (λ bytes. Done (Latin bytes)))) r s → IsBody s kind r
      at3 true t n0 n1 n2 e = subst (λ z. IsBody z kind r) (sym e.6.4.0) (exact_unsigned_eq kind 3 t, counted_run r e.0 e.1 e.2 e.6.0 e.6.1 e.3 e.4 e.6.2 e.6.3 e.6.4.1)
      at3 false t n0 n1 n2 e = at4 (kind == 4) refl n0 n1 n2 t e

      at2 : (t : Bool) → (kind == 2) ≡ t → (kind == 0) ≡ false → (kind == 1) ≡ false
          → Exactly (if t then Int unchecked (λ key spelled. Done (Key key)) else if kind == 3 then Int unchecked (λ n spelled. Run n (λ bytes. Done (Utf8 bytes))) else if kind == 4 then Int unchecked (λ n spelled. times n integer >>= λ us. Done (Units us)) else Int unchecked (λ n spelled. Run n (λ bytes. Done (Latin bytes)))) r s → IsBody s kind r
      at2 true t n0 n1 e = subst (λ z. IsBody z kind r) (sym e.6.0) (exact_unsigned_eq kind 2 t, spelled_alone r e.0 e.1 e.2 e.3 e.6.1 e.4)
      at2 false t n0 n1 e = at3 (kind == 3) refl n0 n1 t e

      at1 : (t : Bool) → (kind == 1) ≡ t → (kind == 0) ≡ false
          → Exactly (if t then Done Empty else if kind == 2 then Int unchecked (λ key spelled. Done (Key key)) else if kind == 3 then Int unchecked (λ n spelled. Run n (λ bytes. Done (Utf8 bytes))) else if kind == 4 then Int unchecked (λ n spelled. times n integer >>= λ us. Done (Units us)) else Int unchecked (λ n spelled. Run n (λ bytes. Done (Latin bytes)))) r s → IsBody s kind r
      at1 true t n0 e = subst (λ z. IsBody z kind r) (sym e.0) (exact_unsigned_eq kind 1 t, e.1)
      at1 false t n0 e = at2 (kind == 2) refl n0 t e

      at0 : (t : Bool) → (kind == 0) ≡ t
          → Exactly (if t then Done Null else if kind == 1 then Done Empty else if kind == 2 then Int unchecked (λ key spelled. Done (Key key)) else if kind == 3 then Int unchecked (λ n spelled. Run n (λ bytes. Done (Utf8 bytes))) else if kind == 4 then Int unchecked (λ n spelled. times n integer >>= λ us. Done (Units us)) else Int unchecked (λ n spelled. Run n (λ bytes. Done (Latin bytes)))) r s → IsBody s kind r
      at0 true t e = subst (λ z. IsBody z kind r) (sym e.0) (exact_unsigned_eq kind 0 t, e.1)
      at0 false t e = at1 (kind == 1) refl t e

pub exact_is : (b : List ℕ) (s : Content) → Exactly (string_format true) b s → IsString b s
unfolding string_format
exact_is b s e = subst (λ z. IsString z s) (sym e.2) (body_is e.1 s e.0 e.3 e.4)

-- And back.
body_exact : (s : Content) (kind : ℕ) (r : List ℕ) → IsBody s kind r → (kind ≤ 5) × Exactly (after_kind kind) r s
body_exact Null kind r i = subst (λ z. (z ≤ 5) × Exactly (after_kind z) r Null) (sym i.0) (omega arith, (refl, i.1))
body_exact Empty kind r i = subst (λ z. (z ≤ 5) × Exactly (after_kind z) r Empty) (sym i.0) (omega arith, (refl, i.1))
body_exact (Key key) kind r i = subst (λ z. (z ≤ 5) × Exactly (after_kind z) r (Key key)) (sym i.0) (omega arith, (r, [], key, sym (append-nil r), i.1, refl, (refl, refl)))
body_exact (Utf8 bytes) kind r i =
    let c = i.1 in
    subst (λ z. (z ≤ 5) × Exactly (after_kind z) r (Utf8 bytes)) (sym i.0) (omega arith, (c.0, c.1, length bytes, c.2, c.3, refl, (bytes, [], c.4 ∙ sym (append-nil bytes), refl, (refl, refl))))
body_exact (Units units) kind r i =
    let c = i.1 in
    subst (λ z. (z ≤ 5) × Exactly (after_kind z) r (Units units)) (sym i.0) (
      omega arith,
      (
        c.0,
        c.1,
        length units,
        c.2,
        c.3,
        refl,
        bind_exact (times (length units) integer) (λ us. Done (Units us)) c.1 [] c.1 units (Units units) (sym (append-nil c.1))
            (are_units c.1 units c.4) (refl, refl),
      ),
    )
body_exact (Latin bytes) kind r i =
    let c = i.1 in
    subst (λ z. (z ≤ 5) × Exactly (after_kind z) r (Latin bytes)) (sym i.0) (omega arith, (c.0, c.1, length bytes, c.2, c.3, refl, (bytes, [], c.4 ∙ sym (append-nil bytes), refl, (refl, refl))))

pub is_exact : (b : List ℕ) (s : Content) → IsString b s → Exactly (string_format true) b s
unfolding string_format
is_exact [] s i = absurd i
is_exact (kind ∷ r) s i = let e = body_exact s kind r i in (kind, r, refl, kind_faults kind e.0, e.1)

pub string_free : (keyed : Bool) → PlaceFree (string_format keyed)
unfolding string_format
string_free keyed = λ kind.
    if_free (kind == 0) _ _ tt (if_free (kind == 1) _ _ tt
    (if_free (kind == 2) _ _ (λ v s. tt) (if_free (kind == 3) _ _ (λ v s b. tt)
    (if_free (kind == 4) _ _ (λ n s. bind_free (times n integer) (λ us. Done (Units us)) (times_free n integer (λ v s. tt)) (λ us. tt)) (λ v s b. tt)))))
