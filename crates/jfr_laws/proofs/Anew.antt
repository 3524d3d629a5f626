-- A record that is built anew is a record at the offset of its bytes.
use Rattle.std.specs.Prelude.{◌≡◌, ℕ, ◌+◌, ◌-◌, List, length}
use Rattle.std.proofs.Common.{arith, sym, subst}
use Rattle.std.proofs.lemmas.List.{take_all}
use Rattle.jfr_base.proofs.HoldLaws.{Holds}
use Rattle.jfr_frame.specs.Records.{IsRecord, record_bytes}
use Rattle.jfr_laws.proofs.Copied.{record_copied}
use Rattle.jfr_laws.proofs.ReadBack.{moved_frame}
use Rattle.jfr_laws.proofs.OutputRecords.{own_frame}

pub own_bytes : (x : List ℕ) → record_bytes x (own_frame x) ≡ x
own_bytes x = take_all ((0 + length x) - 0) x (omega arith)

pub anew_stands : (x b : List ℕ) (at : ℕ) → IsRecord x (own_frame x) → Holds b (length b) at x → IsRecord b (moved_frame at (own_frame x) (length x))
anew_stands x b at s h =
    subst (λ z. IsRecord b (moved_frame at (own_frame x) (length z))) (own_bytes x)
    (record_copied x b (own_frame x) at s (subst (Holds b (length b) at) (sym (own_bytes x)) h))
