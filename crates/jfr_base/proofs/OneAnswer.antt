-- A format reads a value or fails, never both, and its one answer is the one that is computed.
use Rattle.std.specs.Prelude.{◌≡◌, ℕ, ◌+◌, ◌<◌, ◌≤◌, List, length, slice_range, slice_index, Option, Some, None, ◌⊎◌, Ok, Err, nat_lt, nat_le, true, false}
use Rattle.std.proofs.Common.{ap, arith, refl, sym, ◌∙◌, inl, inr, subst}
use Rattle.jfr_base.specs.declared.reason.Reason.{Reason}
use Rattle.jfr_base.specs.declared.reason.Reason.TheVariants.{Short, Trailing}
use Rattle.jfr_base.specs.declared.flaw.Flaw.{Flaw}
use Rattle.jfr_base.specs.declared.integer.Var.{Var}
use Rattle.jfr_base.specs.Integer.{IntAt}
use Rattle.jfr_base.specs.Formats.{Format, Done, Stop, Int, Byte, Run, Here, Refuse, Got, Answer, checked, refused, int_at, after_int, run, Reads, Fails}
use Rattle.jfr_base.specs.Laws.{ReadsSome, FailsSome, HasOneAnswer, IsComputed}
use Rattle.jfr_base.proofs.Exact.{int_found, int_none, ReadsOrFails, run_reads_or_fails}
use Rattle.jfr_base.proofs.OnceLaws.{once_ok}
use Rattle.jfr_base.proofs.OneInt.{int_one}

abbrev got : {A : Type 0} → A → ℕ → Got A
got a p = record { value = a; place = p }

abbrev var : ℕ → ℕ → Var
var v q = record { value = v; end = q }

-- The integer that is there is computed.
pub int_computed : (x : List ℕ) (at end q v : ℕ) → at ≤ end → end ≤ length x → IntAt x at q v → q ≤ end → int_at x at end ≡ Some (var v q)
int_computed x at end q v h i p j = by_answer (int_at x at end) refl
  where
    by_answer : (o : Option Var) → int_at x at end ≡ o → o ≡ Some (var v q)
    by_answer None e = absurd (int_none x at end i e q v p j)
    by_answer (Some w) e =
        let f = int_one x at w.end q w.value v (int_found x at end w h i e).0 p in
        ap (λ m. Some (var m w.end)) f.1 ∙ ap (λ m. Some (var v m)) f.0

-- If there is none, none is computed.
pub none_computed : (x : List ℕ) (at end : ℕ) → at ≤ end → end ≤ length x → ((q v : ℕ) → IntAt x at q v → q ≤ end → ⊥) → int_at x at end ≡ None
none_computed x at end h i n = by_answer (int_at x at end) refl
  where
    by_answer : (o : Option Var) → int_at x at end ≡ o → o ≡ None
    by_answer None e = refl
    by_answer (Some w) e = let f = int_found x at end w h i e in absurd (n w.end w.value f.0 f.1)

checked_fails : {A : Type 0} (at o : ℕ) (why : Reason) (c : Option Reason) (r : Answer A) (F : Type 0) → ((c ≡ Some why) × (o ≡ at)) ⊎ ((c ≡ None) × F) → (F → r ≡ refused o why)
    → checked at c r ≡ refused o why
checked_fails at o why c r F (inl e) k = ap (λ z. checked at z r) e.0 ∙ ap (λ p. refused p why) (sym e.1)
checked_fails at o why c r F (inr e) k = ap (λ z. checked at z r) e.0 ∙ k e.1

module _ (x : List ℕ) (end : ℕ) (inside : end ≤ length x) where
  -- What is read is computed.
  pub reads_computed : {A : Type 0} (f : Format A) (at : ℕ) (a : A) (to : ℕ) → at ≤ end → Reads f x end at a to → run f x end at ≡ Ok (got a to)
  unfolding run
  reads_computed (Done b) at a to h r = ap (λ z. Ok (got z at)) (sym r.0) ∙ ap (λ p. Ok (got a p)) (sym r.1)
  reads_computed (Stop next) at a to h r =
      let j : end ≤ at = r.0 in
      let t : nat_lt at end ≡ false = grind arith in
      rw t (reads_computed next at a to h r.1)
  reads_computed (Int check next) at a to h r =
      ap (after_int x at check (λ v s p. run (next v s) x end p)) (int_computed x at end r.0 r.1 h inside r.2 r.3)
      ∙ (ap (λ o. checked at o (run (next r.1 (slice_range x at r.0)) x end r.0)) r.4
      ∙ reads_computed (next r.1 (slice_range x at r.0)) r.0 a to r.3 r.5)
  reads_computed (Byte check next) at a to h r =
      let j : at < end = r.0 in
      let t : nat_lt at end ≡ true = grind arith in
      rw t (ap (λ o. checked at o (run (next (slice_index x at)) x end (at + 1))) r.1 ∙ reads_computed (next (slice_index x at)) (at + 1) a to (omega arith) r.2)
  reads_computed (Run n next) at a to h r =
      let j : at + n ≤ end = r.0 in
      let t : nat_le (at + n) end ≡ true = grind arith in
      rw t (reads_computed (next (slice_range x at (at + n))) (at + n) a to j r.1)
  reads_computed (Here next) at a to h r = reads_computed (next at) at a to h r
  reads_computed (Refuse why) at a to h r = absurd r

  -- What fails is computed.
  pub fails_computed : {A : Type 0} (f : Format A) (at o : ℕ) (why : Reason) → at ≤ end → Fails f x end at o why → run f x end at ≡ refused o why
  unfolding run
  fails_computed (Done b) at o why h r = absurd r
  fails_computed (Stop next) at o why h (inl r) =
      let j : at < end = r.0 in
      let t : nat_lt at end ≡ true = grind arith in
      rw t (ap (λ p. refused p Trailing) (sym r.1) ∙ ap (refused o) (sym r.2))
  fails_computed (Stop next) at o why h (inr r) =
      let j : end ≤ at = r.0 in
      let t : nat_lt at end ≡ false = grind arith in
      rw t (fails_computed next at o why h r.1)
  fails_computed (Int check next) at o why h (inl r) =
      ap (after_int x at check (λ v s p. run (next v s) x end p)) (none_computed x at end h inside r.0)
      ∙ (ap (λ p. refused p Short) (sym r.1) ∙ ap (refused o) (sym r.2))
  fails_computed (Int check next) at o why h (inr r) =
      ap (after_int x at check (λ v s p. run (next v s) x end p)) (int_computed x at end r.0 r.1 h inside r.2 r.3)
      ∙ checked_fails at o why (check r.1) (run (next r.1 (slice_range x at r.0)) x end r.0) (Fails (next r.1 (slice_range x at r.0)) x end r.0 o why) r.4
      (λ f. fails_computed (next r.1 (slice_range x at r.0)) r.0 o why r.3 f)
  fails_computed (Byte check next) at o why h (inl r) =
      let j : end ≤ at = r.0 in
      let t : nat_lt at end ≡ false = grind arith in
      rw t (ap (λ p. refused p Short) (sym r.1) ∙ ap (refused o) (sym r.2))
  fails_computed (Byte check next) at o why h (inr r) =
      let j : at < end = r.0 in
      let t : nat_lt at end ≡ true = grind arith in
      rw t (checked_fails at o why (check (slice_index x at)) (run (next (slice_index x at)) x end (at + 1)) (Fails (next (slice_index x at)) x end (at + 1) o why) r.1
      (λ f. fails_computed (next (slice_index x at)) (at + 1) o why (omega arith) f))
  fails_computed (Run n next) at o why h (inl r) =
      let j : end < at + n = r.0 in
      let t : nat_le (at + n) end ≡ false = grind arith in
      rw t (ap (λ p. refused p Short) (sym r.1) ∙ ap (refused o) (sym r.2))
  fails_computed (Run n next) at o why h (inr r) =
      let j : at + n ≤ end = r.0 in
      let t : nat_le (at + n) end ≡ true = grind arith in
      rw t (fails_computed (next (slice_range x at (at + n))) (at + n) o why j r.1)
  fails_computed (Here next) at o why h r = fails_computed (next at) at o why h r
  fails_computed (Refuse why') at o why h r = ap (λ p. refused p why') (sym r.0) ∙ ap (refused o) (sym r.1)

module _ {A : Type 0} (f : Format A) (x : List ℕ) (end at : ℕ) (order : at ≤ end) (inside : end ≤ length x) where
  read_of : (v : A) (to : ℕ) → run f x end at ≡ Ok (got v to) → Reads f x end at v to
  read_of v to e = subst (ReadsOrFails f x end at) e (run_reads_or_fails f x end at order inside)

  failed_of : (o : ℕ) (why : Reason) → run f x end at ≡ refused o why → Fails f x end at o why
  failed_of o why e = subst (ReadsOrFails f x end at) e (run_reads_or_fails f x end at order inside)

  pub is_computed : IsComputed f x end at
  is_computed = record {
    reads = λ v to. (reads_computed x end inside f at v to order, read_of v to);
    fails = λ o why. (fails_computed x end inside f at o why order, failed_of o why);
  }

  some_of : (r : Answer A) → ReadsOrFails f x end at r → ReadsSome f x end at ⊎ FailsSome f x end at
  some_of (Ok g) s = inl (g.value, g.place, s)
  some_of (Err e) s = inr (e.offset, e.reason, s)

  one_fault : (o p : ℕ) (why other : Reason) (r : Answer A) → r ≡ refused o why → r ≡ refused p other → (o ≡ p) × (why ≡ other)
  one_fault o p why other r e g =
      let h : Flaw = record { offset = o; reason = why } in
      let k : Flaw = record { offset = p; reason = other } in
      let s : h ≡ k = cc (sym e ∙ g) in
      (ap (λ (z : Flaw). z.offset) s, ap (λ (z : Flaw). z.reason) s)

  pub has_one_answer : HasOneAnswer f x end at
  has_one_answer = record {
    some = some_of (run f x end at) (run_reads_or_fails f x end at order inside);
    not_both = λ r s. differ (run f x end at) (reads_computed x end inside f at r.0 r.1 order r.2) (fails_computed x end inside f at s.0 s.1 order s.2);
    one_reading = λ v w p q r s. let o = once_ok v w p q (run f x end at) (reads_computed x end inside f at v p order r) (reads_computed x end inside f at w q order s) in (o.value, o.place);
    one_failure = λ o p why other r s. one_fault o p why other (run f x end at) (fails_computed x end inside f at o why order r) (fails_computed x end inside f at p other order s);
  }
    where
      differ : {g : Got A} {e : Flaw} (r : Answer A) → r ≡ Ok g → r ≡ Err e → ⊥
      differ r p q = cc
