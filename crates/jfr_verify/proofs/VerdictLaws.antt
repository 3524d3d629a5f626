-- Of three files exactly one verdict is right.
use Rattle.std.specs.Prelude.{◌≡◌, ◌+◌, ◌^◌, ◌<◌, ◌≤◌, ℕ, Bool, true, false, List, length, nat_le, Option, Some, None}
use Rattle.std.specs.List.{flat_map}
use Rattle.std.proofs.Common.{ap, arith, refl, sym, ◌∙◌, subst}
use Rattle.jfr_base.specs.declared.flaw.Refusal.{Refusal}
use Rattle.jfr_filter.specs.Filters.{Given}
use Rattle.jfr_chunk.specs.Parts.{Parts}
use Rattle.jfr_verify.specs.Recordings.{Recording, recording_of}
use Rattle.jfr_verify.specs.Streams.{Compared, receipts}
use Rattle.jfr_verify.specs.Verdicts.{Three, HasReceipts, HasOutput, VerdictOf, long, refused, compared, HasNoVerdict, HasOneVerdict, HasVerdict, LacksOne, no_input, no_output, no_receipt, AllVerified, HasVerifiedScrubs, ComparedWith, output_of, receipt_for}
use Rattle.jfr_verify.specs.declared.doubt.Doubt.TheVariants.{ReceiptLong, OutRefused}
use Rattle.jfr_verify.specs.declared.verdict.Verdict.{Verdict}
use Rattle.jfr_verify.specs.declared.verdict.Verdict.TheVariants.{Verified, Doubted}
use Rattle.jfr_verify.proofs.RecordingLaws.{is_read}
use Rattle.jfr_verify.proofs.ScrubLaws.{made_of}
use Rattle.jfr_verify.proofs.StreamLaws.{compared_once, compared_is, all_verified, scrubbed_is_verified}

some_same : (o : Option (List ℕ)) (x y : List ℕ) → o ≡ Some x → o ≡ Some y → x ≡ y
some_same o x y e f = let h : Some x ≡ Some y = sym e ∙ f in cc

not_both : (x y : List ℕ) → x ≡ y → 2 ^ 40 ≤ length x → length y < 2 ^ 40 → ⊥
not_both x y e l s = let k : length x ≡ length y = ap length e in omega (arith, k, l, s)

same_refusal : (o : Option Refusal) (f h : Refusal) → o ≡ Some f → o ≡ Some h → f ≡ h
same_refusal o f h e i = let k : Some f ≡ Some h = sym e ∙ i in cc

no_refusal : (o : Option Refusal) (f : Refusal) → o ≡ Some f → o ≡ None → ⊥
no_refusal o f e n = let k : Some f ≡ None = sym e ∙ n in cc

none_there : (o : Option (List ℕ)) (x : List ℕ) → o ≡ Some x → o ≡ None → ⊥
none_there o x e n = let k : Some x ≡ None = sym e ∙ n in cc

module _ (g : Given) (t : Three) where
  same_output : (o p : HasOutput t) → o.bytes ≡ p.bytes
  same_output o p = some_same t.output o.bytes p.bytes o.is p.is

  too_long : (r : List ℕ) → t.receipt ≡ Some r → 2 ^ 40 ≤ length r → HasReceipts t → ⊥
  too_long r i l h = not_both r h.bytes (some_same t.receipt r h.bytes i h.is) l h.short

  refused_once : (o p : HasOutput t) (f : Refusal) → (recording_of o.bytes).refusal ≡ Some f → (recording_of p.bytes).refusal ≡ None → ⊥
  refused_once o p f e n = no_refusal (recording_of o.bytes).refusal f e (ap (λ (z : List ℕ). (recording_of z).refusal) (same_output o p) ∙ n)

  -- There is one verdict.
  pub one_verdict : HasOneVerdict g t
  one_verdict x y (long r i l e) (long s j m f) = e ∙ sym f
  one_verdict x y (long r i l e) (refused s p f j h) = absurd (too_long r i l s)
  one_verdict x y (long r i l e) (compared s p n b j h) = absurd (too_long r i l s)
  one_verdict x y (refused r o f i e) (long s j m h) = absurd (too_long s j m r)
  one_verdict x y (refused r o f i e) (refused s p k j h) =
      let same : f ≡ k = same_refusal (recording_of o.bytes).refusal f k i (ap (λ (z : List ℕ). (recording_of z).refusal) (same_output o p) ∙ j) in
      e ∙ ap (λ (z : Refusal). Doubted z.chunk OutRefused) same ∙ sym h
  one_verdict x y (refused r o f i e) (compared s p n b j h) = absurd (refused_once o p f i n)
  one_verdict x y (compared r o n a i c) (long s j m h) = absurd (too_long s j m r)
  one_verdict x y (compared r o n a i c) (refused s p f j h) = absurd (refused_once p o f j n)
  one_verdict x y (compared r o n a i c) (compared s p m b j d) =
      let ra : r.bytes ≡ s.bytes = some_same t.receipt r.bytes s.bytes r.is s.is in
      let ia : a ≡ b = some_same t.input a b i j in
      let moved = subst (λ (z : List ℕ). ComparedWith g (recording_of z) (recording_of p.bytes).parts s.bytes 0 x) ia
      (subst (λ (z : List ℕ). ComparedWith g (recording_of a) (recording_of z).parts s.bytes 0 x) (same_output o p)
      (subst (λ (z : List ℕ). ComparedWith g (recording_of a) (recording_of o.bytes).parts z 0 x) ra c)) in
      compared_once g (recording_of b).parts (recording_of b).refusal (recording_of p.bytes).parts s.bytes 0 x y moved d

  -- Without the receipts no verdict is right; nor without an output, if the receipts are read; nor without an
  -- input, if the output is read, too.
  pub none_without_receipts : t.receipt ≡ None → HasNoVerdict g t
  none_without_receipts n x (long r i l e) = none_there t.receipt r i n
  none_without_receipts n x (refused r o f i e) = none_there t.receipt r.bytes r.is n
  none_without_receipts n x (compared r o m a i c) = none_there t.receipt r.bytes r.is n

  pub none_without_output : HasReceipts t → t.output ≡ None → HasNoVerdict g t
  none_without_output h n x (long r i l e) = too_long r i l h
  none_without_output h n x (refused r o f i e) = none_there t.output o.bytes o.is n
  none_without_output h n x (compared r o m a i c) = none_there t.output o.bytes o.is n

  pub none_without_input : HasReceipts t → (o : HasOutput t) → (recording_of o.bytes).refusal ≡ None → t.input ≡ None → HasNoVerdict g t
  none_without_input h o w n x (long r i l e) = too_long r i l h
  none_without_input h o w n x (refused r p f i e) = refused_once p o f i w
  none_without_input h o w n x (compared r p m a i c) = none_there t.input a i n

  -- If it is Verified, all chunks are verified.
  pub verified_all : (n : ℕ) → VerdictOf g t (Verified n) → AllVerified g t n
  verified_all n (long r i l e) = cc
  verified_all n (refused r o f i e) = cc
  verified_all n (compared r o e a i c) =
      let z = all_verified g (recording_of a).parts (recording_of a).refusal (recording_of o.bytes).parts r.bytes 0 n (is_read a).parts (is_read o.bytes).parts c in
      record {
        input = a;
        input_is = i;
        input_ends = z.2;
        output = o.bytes;
        output_is = o.is;
        output_ends = e;
        verified = z.0;
        counted = (let k : n ≡ 0 + length (recording_of a).parts = z.1 in omega arith);
      }

  -- The scrubs of a recording are verified.
  pub scrubs_verified : HasVerifiedScrubs g t
  scrubs_verified s =
      let m = made_of s.names g s.input s.input_ends in
      let ps : List Parts = (recording_of s.input).parts in
      let made : List ℕ = flat_map (output_of s.names g) ps in
      let receipt : List ℕ = flat_map (receipt_for s.names g) ps in
      let zero : 0 + length ps ≡ length ps = omega arith in
      let c : Compared g ps None m.outputs (receipts m.outputs) 0 (Verified (length ps)) =
      subst (λ (k : ℕ). Compared g ps None m.outputs (receipts m.outputs) 0 (Verified k)) zero (scrubbed_is_verified g s.names ps m.outputs 0 m.scrubbed) in
      compared (record { bytes = receipt; is = s.receipt_is; short = s.short }) (record { bytes = made; is = s.output_is }) (ap (λ (k : Recording). k.refusal) m.read) s.input s.input_is
      (subst (λ (z : Option Refusal). Compared g ps z (recording_of made).parts receipt 0 (Verified (length ps))) (sym s.input_ends)
      (subst (λ (k : Recording). Compared g ps None k.parts receipt 0 (Verified (length ps))) (sym m.read)
      (subst (λ (z : List ℕ). Compared g ps None m.outputs z 0 (Verified (length ps))) (sym m.receipted) c)))

-- There is a verdict if the files exist.
by_refusal : (g : Given) (a y r : List ℕ) (o : Option Refusal) → (recording_of y).refusal ≡ o → length r < 2 ^ 40
    → (x : Verdict) × VerdictOf g (record { input = Some a; output = Some y; receipt = Some r }) x
by_refusal g a y r (Some f) e s = (Doubted f.chunk OutRefused, refused (record { bytes = r; is = refl; short = s }) (record { bytes = y; is = refl }) f e refl)
by_refusal g a y r None e s =
    let z = compared_is g (recording_of a).parts (recording_of a).refusal (recording_of y).parts r 0 in
    (z.0, compared (record { bytes = r; is = refl; short = s }) (record { bytes = y; is = refl }) e a refl z.1)

by_length : (g : Given) (a y r : List ℕ) (b : Bool) → nat_le (2 ^ 40) (length r) ≡ b → (x : Verdict) × VerdictOf g (record { input = Some a; output = Some y; receipt = Some r }) x
by_length g a y r true e = (Doubted 0 ReceiptLong, long r refl (let k : 2 ^ 40 ≤ length r = grind arith in k) refl)
by_length g a y r false e = by_refusal g a y r (recording_of y).refusal refl (let k : length r < 2 ^ 40 = grind arith in k)

pub some_verdict : (g : Given) (t : Three) → HasVerdict g t
some_verdict g t a y r e = subst (λ (z : Three). (x : Verdict) × VerdictOf g z x) (sym e) (by_length g a y r (nat_le (2 ^ 40) (length r)) refl)

-- If no verdict is right, a file doesn't exist.
pub lacks_one : (g : Given) (t : Three) → HasNoVerdict g t → LacksOne t
lacks_one g t n = by_files t.input t.output t.receipt refl refl refl
  where
    made : (a y r : Option (List ℕ)) → Three
    made a y r = record { input = a; output = y; receipt = r }

    by_files : (a y r : Option (List ℕ)) → t.input ≡ a → t.output ≡ y → t.receipt ≡ r → LacksOne t
    by_files None y r i o s = no_input i
    by_files (Some a) None r i o s = no_output o
    by_files (Some a) (Some y) None i o s = no_receipt s
    by_files (Some a) (Some y) (Some r) i o s =
        let e : t ≡ made (Some a) (Some y) (Some r) = ap (λ z. made z t.output t.receipt) i ∙ (ap (λ z. made (Some a) z t.receipt) o ∙ ap (made (Some a) (Some y)) s) in
        let v = some_verdict g t a y r e in
        absurd (n v.0 v.1)
