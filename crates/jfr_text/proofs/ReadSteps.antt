-- What a format computes, unit by unit.
use Rattle.std.specs.Prelude.{◌≡◌, ℕ, zero, suc, ◌+◌, ◌<◌, ◌≤◌, List, slice_range, slice_index, Some, None, Ok, Err, nat_le, nat_lt, true, false}
use Rattle.std.proofs.Common.{ap, refl, sym, ◌∙◌, arith}
use Rattle.jfr_base.specs.declared.reason.Reason.TheVariants.{Short}
use Rattle.jfr_base.specs.declared.integer.Var.{Var}
use Rattle.jfr_base.specs.declared.flaw.Flaw.{Flaw}
use Rattle.jfr_base.specs.Formats.{Format, Done, Int, Run, unchecked, ◌>>=◌, on, checked, int_at, after_int, run}
use Rattle.jfr_base.proofs.FormatLaws.{run-bind}
use Rattle.jfr_text.specs.Strings.{kind_fault, after_kind, bare_content, key_format, string_format}

module _ {A : Type 0} (x : List ℕ) (end at : ℕ) where
  pub int_missing : (next : ℕ → List ℕ → Format A) (e : Flaw) → (int_at x at end ≡ None) × (e ≡ record { offset = at; reason = Short }) → run (Int unchecked next) x end at ≡ Err e
  unfolding run
  int_missing next e h = ap (after_int x at unchecked (λ v s p. run (next v s) x end p)) h.0 ∙ ap (λ (f : Flaw). Err f) (sym h.1)

  pub int_there : (next : ℕ → List ℕ → Format A) (v : Var) → int_at x at end ≡ Some v → run (Int unchecked next) x end at ≡ run (next v.value (slice_range x at v.end)) x end v.end
  unfolding run
  int_there next v h = ap (after_int x at unchecked (λ v s p. run (next v s) x end p)) h

  pub done_there : (value : A) → run (Done value) x end at ≡ Ok (record { value = value; place = at })
  unfolding run
  done_there value = refl

  pub run_missing : (n : ℕ) (next : List ℕ → Format A) → end < at + n → run (Run n next) x end at ≡ Err (record { offset = at; reason = Short })
  unfolding run
  run_missing n next h = let t : nat_le (at + n) end ≡ false = grind arith in rw t refl

  pub run_there : (n : ℕ) (next : List ℕ → Format A) → at + n ≤ end → run (Run n next) x end at ≡ run (next (slice_range x at (at + n))) x end (at + n)
  unfolding run
  run_there n next h = let t : nat_le (at + n) end ≡ true = grind arith in rw t refl

-- What is made of what was read, and of a flaw.
module _ {A B : Type 0} (x : List ℕ) (end at : ℕ) (f : Format A) (g : A → Format B) where
  pub made_of_value : (v : A) (to : ℕ) → run f x end at ≡ Ok (record { value = v; place = to }) → run (f >>= g) x end at ≡ run (g v) x end to
  made_of_value v to h = run-bind f g x end at ∙ ap (λ r. on r (λ a p. run (g a) x end p)) h

  pub made_of_flaw : (e : Flaw) → run f x end at ≡ Err e → run (f >>= g) x end at ≡ Err e
  made_of_flaw e h = run-bind f g x end at ∙ ap (λ r. on r (λ a p. run (g a) x end p)) h

-- A string, by its kind byte.
module _ (x : List ℕ) (end at : ℕ) where
  pub kind_missing : end ≤ at → run (string_format true) x end at ≡ Err (record { offset = at; reason = Short })
  unfolding run string_format
  kind_missing h = let t : nat_lt at end ≡ false = grind arith in rw t refl

  pub kind_there : at < end → run (string_format true) x end at ≡ checked at (kind_fault true (slice_index x at)) (run (after_kind (slice_index x at)) x end (at + 1))
  unfolding run string_format
  kind_there h = let t : nat_lt at end ≡ true = grind arith in rw t refl

  pub bare_there : at < end → slice_index x at < 2 → run (string_format true) x end at ≡ Ok (record { value = bare_content (slice_index x at); place = at + 1 })
  unfolding run
  bare_there h i = kind_there h ∙ by_kind (slice_index x at) i
    where
      by_kind : (kind : ℕ) → kind < 2 → checked at (kind_fault true kind) (run (after_kind kind) x end (at + 1)) ≡ Ok (record { value = bare_content kind; place = at + 1 })
      by_kind zero i = refl
      by_kind (suc zero) i = refl
      by_kind (suc (suc n)) i = absurd (omega arith)

  pub key_there : at < end → slice_index x at ≡ 2 → run (string_format true) x end at ≡ run key_format x end (at + 1)
  key_there h e = kind_there h ∙ ap (λ k. checked at (kind_fault true k) (run (after_kind k) x end (at + 1))) e
