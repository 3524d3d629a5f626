-- What follows if the checker accepts a pair of chunks.
use Rattle.std.specs.Prelude.{◌≡◌, ℕ, Bool, List, take, Result, Ok, Err, IfOk}
use Rattle.std.proofs.Common.{sym, subst}
use Rattle.jfr_base.specs.declared.memory.NoMemory.{NoMemory}
use Rattle.jfr_filter.specs.Filters.{Given}
use Rattle.jfr_chunk.specs.Parts.{Parts, AreParts}
use Rattle.jfr_chunk.specs.Chosen.{chosen, kept_of}
use Rattle.jfr_chunk.specs.Reach.{kept_by}
use Rattle.jfr_verify.specs.declared.doubt.CheckFault.{CheckFault}
use Rattle.jfr_verify.specs.declared.doubt.Doubt.{Doubt}
use Rattle.jfr_verify.specs.Checked.{Checked, answer_of}
use Rattle.jfr_verify.specs.Laws.{IsVerified}
use Rattle.jfr_verify.proofs.VerifiedLaws.{verified}

module _ (g : Given) (p q : Parts) (r : List ℕ) (a : AreParts p) (b : AreParts q) (flags : List Bool) (k : flags ≡ chosen g p) where
  -- If the answer is a length, the pair is verified.
  accepted : (x : Result (Result ℕ Doubt) NoMemory) → IfOk x (Checked p q (kept_by p flags) r) → IfOk (answer_of x) (λ len. IsVerified p q (kept_of g p))
  accepted (Ok (Ok n)) h = subst (λ fs. IsVerified p q (kept_by p fs)) k (verified p q a b flags (take n r) h.1)
  accepted (Ok (Err d)) h = tt
  accepted (Err m) h = tt

  pub checked_verified : (x : Result (Result ℕ Doubt) NoMemory) → IfOk x (Checked p q (kept_by p flags) r) → (y : Result ℕ CheckFault) → y ≡ answer_of x → IfOk y (λ len. IsVerified p q (kept_of g p))
  checked_verified x h y e = subst (λ z. IfOk z (λ len. IsVerified p q (kept_of g p))) (sym e) (accepted x h)
