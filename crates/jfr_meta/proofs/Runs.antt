-- What formats give, one unit after another.
use Rattle.std.specs.Prelude.{◌≡◌, ℕ, suc, ◌+◌, ◌-◌, ◌<◌, ◌≤◌, List, [], ◌∷◌, ◌++◌, Some, None, Ok, Err, nat_lt, true, false}
use Rattle.std.proofs.Common.{ap, arith, refl, sym, ◌∙◌, append_assoc, append-nil}
use Rattle.jfr_base.specs.declared.flaw.Flaw.{Flaw}
use Rattle.jfr_base.specs.declared.integer.Var.{Var}
use Rattle.jfr_base.specs.declared.reason.Reason.TheVariants.{Short, StringIndex}
use Rattle.jfr_base.specs.Formats.{Format, Done, ◌>>=◌, Answer, refused, on, after_int, unchecked, int_at, integer, run, times}
use Rattle.jfr_base.proofs.FormatLaws.{run-bind}
use Rattle.jfr_meta.specs.Body.{index, index_check, pair}

abbrev pub ok : {A : Type 0} → A → ℕ → Answer A
ok a p = Ok (record { value = a; place = p })

-- If the first format gives a value, the next one continues from there; if it fails, the whole fails.
pub bind_ok : {A B : Type 0} (f : Format A) (g : A → Format B) (x : List ℕ) (end at : ℕ) (a : A) (p : ℕ) → run f x end at ≡ ok a p → run (f >>= g) x end at ≡ run (g a) x end p
bind_ok f g x end at a p e = run-bind f g x end at ∙ ap (λ r. on r (λ a p. run (g a) x end p)) e

pub bind_err : {A B : Type 0} (f : Format A) (g : A → Format B) (x : List ℕ) (end at : ℕ) (w : Flaw) → run f x end at ≡ Err w → run (f >>= g) x end at ≡ Err w
bind_err f g x end at w e = run-bind f g x end at ∙ ap (λ r. on r (λ a p. run (g a) x end p)) e

pub done_ok : {A : Type 0} (a : A) (x : List ℕ) (end at : ℕ) → run (Done a) x end at ≡ ok a at
unfolding run
done_ok a x end at = refl

-- An integer.
pub integer_ok : (x : List ℕ) (end at : ℕ) (v : Var) → int_at x at end ≡ Some v → run integer x end at ≡ ok v.value v.end
unfolding run
integer_ok x end at v e = ap (after_int x at unchecked (λ v s p. ok v p)) e

pub integer_none : (x : List ℕ) (end at : ℕ) (w : Flaw) → (int_at x at end ≡ None) × (w ≡ record { offset = at; reason = Short }) → run integer x end at ≡ Err w
unfolding run
integer_none x end at w e = ap (after_int x at unchecked (λ v s p. ok v p)) e.0 ∙ sym (ap (λ z. Err z) e.1)

-- An index.
pub index_ok : (limit : ℕ) (x : List ℕ) (end at : ℕ) (v : Var) → int_at x at end ≡ Some v → v.value < limit → run (index limit) x end at ≡ ok v.value v.end
unfolding run
index_ok limit x end at v e h =
    let t : nat_lt v.value limit ≡ true = grind arith in
    ap (after_int x at (index_check limit) (λ v s p. ok v p)) e ∙ rw t refl

pub index_over : (limit : ℕ) (x : List ℕ) (end at : ℕ) (v : Var) → int_at x at end ≡ Some v → limit ≤ v.value → run (index limit) x end at ≡ refused at StringIndex
unfolding run
index_over limit x end at v e h =
    let t : nat_lt v.value limit ≡ false = grind arith in
    ap (after_int x at (index_check limit) (λ v s p. ok v p)) e ∙ rw t refl

pub index_none : (limit : ℕ) (x : List ℕ) (end at : ℕ) (w : Flaw) → (int_at x at end ≡ None) × (w ≡ record { offset = at; reason = Short }) → run (index limit) x end at ≡ Err w
unfolding run
index_none limit x end at w e = ap (after_int x at (index_check limit) (λ v s p. ok v p)) e.0 ∙ sym (ap (λ z. Err z) e.1)

-- An attribute.
pub pair_ok : (limit : ℕ) (x : List ℕ) (end at : ℕ) (k p v q : ℕ) → run (index limit) x end at ≡ ok k p → run (index limit) x end p ≡ ok v q → run (pair limit) x end at ≡ ok (k, v) q
unfolding run
pair_ok limit x end at k p v q e f =
    bind_ok (index limit) (λ key. index limit >>= λ value. Done (key, value)) x end at k p e ∙ bind_ok (index limit) (λ value. Done (k, value)) x end p v q f

pub pair_no_key : (limit : ℕ) (x : List ℕ) (end at : ℕ) (w : Flaw) → run (index limit) x end at ≡ Err w → run (pair limit) x end at ≡ Err w
pair_no_key limit x end at w e = bind_err (index limit) (λ key. index limit >>= λ value. Done (key, value)) x end at w e

pub pair_no_value : (limit : ℕ) (x : List ℕ) (end at : ℕ) (k p : ℕ) (w : Flaw) → run (index limit) x end at ≡ ok k p → run (index limit) x end p ≡ Err w → run (pair limit) x end at ≡ Err w
pair_no_value limit x end at k p w e f =
    bind_ok (index limit) (λ key. index limit >>= λ value. Done (key, value)) x end at k p e ∙ bind_err (index limit) (λ value. Done (k, value)) x end p w f

-- So many, of which some were read: the values so far, and then what the rest gives.
abbrev pub behind : {A : Type 0} → List A → Answer (List A) → Answer (List A)
behind xs (Ok g) = ok (xs ++ g.value) g.place
behind xs (Err w) = Err w

pub record Reading {A : Type 0} (f : Format A) (x : List ℕ) (end at n i place : ℕ) (xs : List A) : Type 0 where
  pub from : at ≤ place
  pub to : place ≤ end
  pub same : run (times n f) x end at ≡ behind xs (run (times (n - i) f) x end place)

behind_none : {A : Type 0} (r : Answer (List A)) → behind [] r ≡ r
behind_none (Ok g) = refl
behind_none (Err w) = refl

pub reading_start : {A : Type 0} (f : Format A) (x : List ℕ) (end at n : ℕ) → at ≤ end → Reading f x end at n 0 at []
reading_start f x end at n h = record {
  from = omega arith;
  to = h;
  same = sym (behind_none (run (times n f) x end at)) ∙ ap (λ z. behind [] (run (times z f) x end at)) (omega arith);
}

times_ok : {A : Type 0} (f : Format A) (k : ℕ) (x : List ℕ) (end place : ℕ) (xs : List A) (a : A) (p : ℕ) → run f x end place ≡ ok a p
    → behind xs (run (times (suc k) f) x end place) ≡ behind (xs ++ a ∷ []) (run (times k f) x end p)
unfolding run
times_ok {A = A} f k x end place xs a p e =
    ap (behind xs) (bind_ok f (λ a. times k f >>= λ rest. Done (a ∷ rest)) x end place a p e ∙ run-bind (times k f) (λ rest. Done (a ∷ rest)) x end p)
    ∙ by_rest (run (times k f) x end p)
  where
    by_rest : (r : Answer (List A)) → behind xs (on r (λ rest q. ok (a ∷ rest) q)) ≡ behind (xs ++ a ∷ []) r
    by_rest (Ok g) = ap (λ z. ok z g.place) (sym (append_assoc xs (a ∷ []) g.value))
    by_rest (Err w) = refl

pub reading_next : {A : Type 0} (f : Format A) (x : List ℕ) (end at n i place : ℕ) (xs : List A) (a : A) (p : ℕ) → Reading f x end at n i place xs → i < n
    → run f x end place ≡ ok a p → place ≤ p → p ≤ end → Reading f x end at n (i + 1) p (xs ++ a ∷ [])
reading_next f x end at n i place xs a p r h e from to =
    let k : n - i ≡ suc (n - (i + 1)) = omega arith in
    let o : at ≤ place = r.from in
    record {
      from = omega arith;
      to = to;
      same = r.same ∙ (ap (λ z. behind xs (run (times z f) x end place)) k ∙ times_ok f (n - (i + 1)) x end place xs a p e);
    }

pub reading_err : {A : Type 0} (f : Format A) (x : List ℕ) (end at n i place : ℕ) (xs : List A) (w : Flaw) → Reading f x end at n i place xs → i < n
    → run f x end place ≡ Err w → run (times n f) x end at ≡ Err w
reading_err f x end at n i place xs w r h e =
    let k : n - i ≡ suc (n - (i + 1)) = omega arith in
    r.same ∙ (ap (λ z. behind xs (run (times z f) x end place)) k ∙ ap (behind xs) (bind_err f (λ a. times (n - (i + 1)) f >>= λ rest. Done (a ∷ rest)) x end place w e))

pub reading_end : {A : Type 0} (f : Format A) (x : List ℕ) (end at n i place : ℕ) (xs : List A) → Reading f x end at n i place xs → n ≤ i → run (times n f) x end at ≡ ok xs place
unfolding run
reading_end f x end at n i place xs r h =
    let k : n - i ≡ 0 = omega arith in
    r.same ∙ (ap (λ z. behind xs (run (times z f) x end place)) k ∙ ap (λ z. ok z place) (append-nil xs))
