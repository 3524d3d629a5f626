-- The grammar of strings and their format agree.
use Rattle.std.specs.Prelude.{◌≡◌, ℕ, zero, suc, ◌-◌, ◌<◌, ◌≤◌, ◌==◌, nat_lt, Bool, true, false, List, [], ◌∷◌, ◌++◌, length, slice_range, Some, None, Ok, Err}
use Rattle.std.proofs.Common.{ap, refl, sym, subst, arith, ◌∙◌, append-nil, take_all}
use Rattle.jfr_base.specs.declared.reason.Reason.{Reason}
use Rattle.jfr_base.specs.declared.reason.Reason.TheVariants.{StringKind}
use Rattle.jfr_base.specs.Integer.{Spells}
use Rattle.jfr_base.specs.Formats.{Done, times, integer, Exactly, Answer, Fails, Reads, run}
use Rattle.jfr_base.proofs.Exact.{ReadsOrFails, run_reads_or_fails}
use Rattle.jfr_base.proofs.ExactLaws.{exact_bind, bind_exact}
use Rattle.jfr_base.proofs.FreeLaws.{PlaceFree, bind_free, times_free, if_free}
use Rattle.jfr_base.proofs.OneAnswer.{has_one_answer}
use Rattle.jfr_base.proofs.RunLaws.{Stands, exact_run}
use Rattle.jfr_text.specs.Strings.{Content, Null, Empty, Key, Utf8, Units, Latin, SpellAll, IsBody, IsString, IsAllowed, kind_fault, after_kind, string_format}
use Rattle.jfr_text.proofs.SpellLaws.{times_spelled, spelled_times}

-- No unit asks for a place.
pub string_free : (keyed : Bool) → PlaceFree (string_format keyed)
unfolding string_format
string_free keyed kind =
    if_free (kind == 0) _ _ tt
    (if_free (kind == 1) _ _ tt
    (if_free (kind == 2) _ _ (λ v s. tt)
    (if_free (kind == 3) _ _ (λ n s bytes. tt)
    (if_free (kind == 4) _ _ (λ n s. bind_free (times n integer) (λ units. Done (Units units)) (times_free n integer (λ v s. tt)) (λ units. tt))
    (λ n s bytes. tt)))))

-- ---- what the format reads is in the grammar

key_body : (r : List ℕ) (s : Content) → Exactly (after_kind 2) r s → IsBody s 2 r
key_body r s e =
    let whole : r ≡ e.0 = e.3 ∙ (ap (λ z. e.0 ++ z) e.6.1 ∙ append-nil e.0) in
    subst (λ t. IsBody t 2 r) (sym e.6.0) (refl, subst (λ z. Spells z e.2) (sym whole) e.4)

counted : (r h t b u : List ℕ) (n : ℕ) → r ≡ h ++ t → Spells h n → t ≡ b ++ u → length b ≡ n → u ≡ [] → (front rest : List ℕ) × (r ≡ front ++ rest) × Spells front (length b) × (rest ≡ b)
counted r h t b u n e s f l z = (h, t, e, subst (Spells h) (sym l) s, f ∙ (ap (λ w. b ++ w) z ∙ append-nil b))

utf8_body : (r : List ℕ) (s : Content) → Exactly (after_kind 3) r s → IsBody s 3 r
utf8_body r s e =
    let i = e.6 in
    subst (λ t. IsBody t 3 r) (sym i.4.0) (refl, counted r e.0 e.1 i.0 i.1 e.2 e.3 e.4 i.2 i.3 i.4.1)

latin_body : (r : List ℕ) (s : Content) → Exactly (after_kind 5) r s → IsBody s 5 r
latin_body r s e =
    let i = e.6 in
    subst (λ t. IsBody t 5 r) (sym i.4.0) (refl, counted r e.0 e.1 i.0 i.1 e.2 e.3 e.4 i.2 i.3 i.4.1)

units_body : (r : List ℕ) (s : Content) → Exactly (after_kind 4) r s → IsBody s 4 r
units_body r s e =
    let i = exact_bind (times e.2 integer) (λ units. Done (Units units)) e.1 s e.6 in
    let whole : e.1 ≡ i.front = i.split ∙ (ap (λ z. i.front ++ z) i.second.1 ∙ append-nil i.front) in
    let p = times_spelled e.2 i.front i.value i.first in
    subst (λ t. IsBody t 4 r) (sym i.second.0) (refl, (e.0, e.1, e.3, subst (Spells e.0) (sym p.1) e.4, subst (λ z. SpellAll z i.value) (sym whole) p.0))

body_of_format : (kind : ℕ) (r : List ℕ) (s : Content) → (5 < kind → ⊥) → Exactly (after_kind kind) r s → IsBody s kind r
body_of_format zero r s k e = subst (λ t. IsBody t 0 r) (sym e.0) (refl, e.1)
body_of_format (suc zero) r s k e = subst (λ t. IsBody t 1 r) (sym e.0) (refl, e.1)
body_of_format (suc (suc zero)) r s k e = key_body r s e
body_of_format (suc (suc (suc zero))) r s k e = utf8_body r s e
body_of_format (suc (suc (suc (suc zero)))) r s k e = units_body r s e
body_of_format (suc (suc (suc (suc (suc zero))))) r s k e = latin_body r s e
body_of_format (suc (suc (suc (suc (suc (suc n)))))) r s k e = absurd (k (omega arith))

known : (keyed : Bool) (kind : ℕ) → kind_fault keyed kind ≡ None → 5 < kind → ⊥
known keyed kind e h = let t : nat_lt 5 kind ≡ true = grind arith in let f : Some StringKind ≡ None = rw t at e in cc

no_key : (keyed : Bool) (kind : ℕ) (r : List ℕ) (s : Content) → kind_fault keyed kind ≡ None → IsBody s kind r → IsAllowed keyed s
no_key true kind r s e b = tt
no_key false kind r Null e b = tt
no_key false kind r Empty e b = tt
no_key false kind r (Key key) e b = let f : kind_fault false 2 ≡ None = ap (kind_fault false) (sym b.0) ∙ e in cc
no_key false kind r (Utf8 bytes) e b = tt
no_key false kind r (Units units) e b = tt
no_key false kind r (Latin bytes) e b = tt

pub string_of_format : (keyed : Bool) (b : List ℕ) (s : Content) → Exactly (string_format keyed) b s → IsString b s × IsAllowed keyed s
unfolding string_format
string_of_format keyed b s e =
    let body = body_of_format e.0 e.1 s (known keyed e.0 e.3) e.4 in
    (subst (λ z. IsString z s) (sym e.2) body, no_key keyed e.0 e.1 s e.3 body)

-- ---- and what is in the grammar the format reads

abbrev IsRead : Bool → ℕ → List ℕ → Content → Type 0
IsRead keyed kind r s = (kind_fault keyed kind ≡ None) × Exactly (after_kind kind) r s

key_fault : (keyed : Bool) (key : ℕ) → IsAllowed keyed (Key key) → kind_fault keyed 2 ≡ None
key_fault true key a = refl
key_fault false key a = absurd a

other_fault : (keyed : Bool) (kind : ℕ) → (5 < kind → ⊥) → (kind ≡ 2 → ⊥) → kind_fault keyed kind ≡ None
other_fault true kind k n = let t : nat_lt 5 kind ≡ false = grind arith in rw t refl
other_fault false kind k n = let t : nat_lt 5 kind ≡ false = grind arith in let u : (kind == 2) ≡ false = grind arith in rw (t, u) refl

body_is_read : (keyed : Bool) (r : List ℕ) (s : Content) (kind : ℕ) → IsAllowed keyed s → IsBody s kind r → IsRead keyed kind r s
body_is_read keyed r Null kind a e = subst (λ k. IsRead keyed k r Null) (sym e.0) (other_fault keyed 0 (λ h. omega arith) (λ h. omega arith), (refl, e.1))
body_is_read keyed r Empty kind a e = subst (λ k. IsRead keyed k r Empty) (sym e.0) (other_fault keyed 1 (λ h. omega arith) (λ h. omega arith), (refl, e.1))
body_is_read keyed r (Key key) kind a e = subst (λ k. IsRead keyed k r (Key key)) (sym e.0) (key_fault keyed key a, (r, [], key, sym (append-nil r), e.1, refl, (refl, refl)))
body_is_read keyed r (Utf8 bytes) kind a e =
    let c = e.1 in
    subst (λ k. IsRead keyed k r (Utf8 bytes)) (sym e.0)
    (other_fault keyed 3 (λ h. omega arith) (λ h. omega arith), (c.0, c.1, length bytes, c.2, c.3, refl, (bytes, [], c.4 ∙ sym (append-nil bytes), refl, (refl, refl))))
body_is_read keyed r (Units units) kind a e =
    let c = e.1 in
    subst (λ k. IsRead keyed k r (Units units)) (sym e.0) (
      other_fault keyed 4 (λ h. omega arith) (λ h. omega arith),
      (
        c.0,
        c.1,
        length units,
        c.2,
        c.3,
        refl,
        bind_exact (times (length units) integer) (λ us. Done (Units us)) c.1 [] c.1 units (Units units) (sym (append-nil c.1)) (spelled_times units c.1 c.4) (refl, refl),
      ),
    )
body_is_read keyed r (Latin bytes) kind a e =
    let c = e.1 in
    subst (λ k. IsRead keyed k r (Latin bytes)) (sym e.0)
    (other_fault keyed 5 (λ h. omega arith) (λ h. omega arith), (c.0, c.1, length bytes, c.2, c.3, refl, (bytes, [], c.4 ∙ sym (append-nil bytes), refl, (refl, refl))))

pub format_of_string : (keyed : Bool) (b : List ℕ) (s : Content) → IsString b s → IsAllowed keyed s → Exactly (string_format keyed) b s
unfolding string_format
format_of_string keyed [] s e a = absurd e
format_of_string keyed (kind ∷ r) s e a = let p = body_is_read keyed r s kind a e in (kind, r, refl, p.0, p.1)

-- ---- the bytes determine what the string holds

abbrev held : Answer Content → Content
held (Ok got) = got.value
held (Err flaw) = Null

always : (s : Content) → IsAllowed true s
always s = tt

pub one_content : (b : List ℕ) (s t : Content) → IsString b s → IsString b t → s ≡ t
one_content b s t e f =
    let all : Stands b 0 (length b) b = record { order = omega arith; within = omega arith; bytes = take_all (length b - 0) b (omega arith) } in
    let within : length b ≤ length b = omega arith in
    let read : (u : Content) → IsString b u → run (string_format true) b (length b) 0 ≡ Ok (record { value = u; place = length b }) =
    λ u g. exact_run b (length b) within (string_format true) 0 (length b) b u (format_of_string true b u g (always u)) all within in
    ap held (sym (read s e) ∙ read t f)

-- ---- a valid string is read, and not refused

module _ (x : List ℕ) (at to end : ℕ) (s : Content) (order : at ≤ to) (within : to ≤ end) (bound : end ≤ length x) (is : IsString (slice_range x at to) s) where
  pub string_read : Reads (string_format true) x end at s to
  string_read =
      let all : Stands x at to (slice_range x at to) = record { order = order; within = omega arith; bytes = refl } in
      let e = exact_run x end bound (string_format true) at to (slice_range x at to) s (format_of_string true (slice_range x at to) s is (always s)) all within in
      subst (λ (a : Answer Content). ReadsOrFails (string_format true) x end at a) e (run_reads_or_fails (string_format true) x end at (omega arith) bound)

  pub not_refused : (o : ℕ) (why : Reason) → Fails (string_format true) x end at o why → ⊥
  not_refused o why f = (has_one_answer (string_format true) x end at (omega arith) bound).not_both (s, to, string_read) (o, why, f)
