-- What a check leaves.
use Rattle.std.specs.Prelude.{◌≡◌, ℕ, List, [], true, Option, None, Some, IsTrue, IfSome, IsSome}
use Rattle.std.proofs.Common.{ap, refl, subst, ◌∙◌}
use Rattle.jfr_base.specs.declared.flaw.Refusal.{Refusal}
use Rattle.jfr_outside.specs.World.{World, State, SinkState, IfKnown}
use Rattle.jfr_header.specs.Taking.{IsKept, IfContentsKnown}
use Rattle.jfr_header.specs.declared.ending.Ending.{Ending}
use Rattle.jfr_header.specs.declared.ending.Ending.TheVariants.{Done, Refused, ReadFault, WriteFault, TooManyParts, MaskTooLong, Memory}
use Rattle.jfr_filter.specs.Filters.{Given}
use Rattle.jfr_plan.specs.Ends.{Fine, CommandEnd, Ends, NotRead, NotWritten, RanOut, command_end}
use Rattle.jfr_plan.specs.Ends as ends
use Rattle.jfr_plan.specs.Effects.{Snapshot, Write, outside, snapshot}
use Rattle.jfr_verify.specs.declared.doubt.Doubt.{Doubt}
use Rattle.jfr_verify.specs.declared.verdict.Verdict.{Verdict}
use Rattle.jfr_verify.specs.declared.verdict.Verdict.TheVariants as verdicts
use Rattle.jfr_verify.specs.Faults.{Counts}
use Rattle.jfr_verify.specs.Verdicts.{AllVerified, HasNoVerdict, LacksOne, Three, VerdictOf, no_input, no_output, no_receipt, three}
use Rattle.jfr_words.specs.declared.order.Order.{Order}
use Rattle.jfr_words.specs.declared.order.Order.TheVariants as orders
use Rattle.jfr_words.specs.Words.{file_name}
use Rattle.jfr_cli.specs.Texts.{IsWritten}
use Rattle.jfr_cli.specs.Works.{Work, CanCheck, Checks, WorkOutcome, verified_line}
use Rattle.jfr_cli.specs.Runs.{Carries, Doubts}

-- Without a change of the files and of the open output, only the text can have changed.
pub stand_kept : (w v : World) (x y : Option (List ℕ)) → IsKept w v → y ≡ x → snapshot v y ≡ snapshot w x
stand_kept w v x y k e = ap (λ f. record { files = f; output = v.output; text = y; sound = true }) k.0
    ∙ (ap (λ o. record { files = w.files; output = o; text = y; sound = true }) k.1 ∙ ap (snapshot w) e)

module _ (g : Given) (input output receipt : List ℕ) (a b : State) (s z : SinkState) (kept : IfContentsKnown a b IsKept) where
  abbrev files : World → Three
  files w = three (file_name input) (file_name output) (file_name receipt) w

  abbrev work : Work
  work = Checks g (file_name input) (file_name output) (file_name receipt)

  -- What a check leaves, from what is known of the files.
  leaves_by : (Known : World → Type 0) (Q : World → World → Snapshot → Snapshot → Type 0) → IfSome a.contents Known
      → ((w v : World) → IsKept w v → Known w → Q w v (snapshot w s.written) (snapshot v z.written)) → IfKnown a.contents b.contents (λ w v. Q w v (snapshot w s.written) (snapshot v z.written))
  leaves_by Known Q known f = by_told a.contents b.contents kept known
    where
      by_told : (t u : Option World) → IfKnown t u IsKept → IfSome t Known → IfKnown t u (λ w v. Q w v (snapshot w s.written) (snapshot v z.written))
      by_told None u k h = tt
      by_told (Some w) None k h = k
      by_told (Some w) (Some v) k h = f w v k h

  all_known : (t : Option World) → IfSome t (λ w. Unit {0})
  all_known None = tt
  all_known (Some w) = tt

  -- A steady place with the three files doesn't lack one.
  has_all : (x : Verdict) → (IsTrue a.steady → x ≡ verdicts.ReadFault → IfSome a.contents (λ w. LacksOne (files w))) → CanCheck (file_name input) (file_name output) (file_name receipt) a
      → x ≡ verdicts.ReadFault → ⊥
  has_all x lacks can e = by_lack (subst (λ t. IfSome t (λ w. LacksOne (files w))) can.contents (lacks can.steady e))
    where
      by_lack : LacksOne (files can.world) → ⊥
      by_lack (no_input h) = let x : IsSome {T = List ℕ} None = subst (λ o. IsSome {T = List ℕ} o) h can.has_input in cc
      by_lack (no_output h) = let x : IsSome {T = List ℕ} None = subst (λ o. IsSome {T = List ℕ} o) h can.has_output in cc
      by_lack (no_receipt h) = let x : IsSome {T = List ℕ} None = subst (λ o. IsSome {T = List ℕ} o) h can.has_receipt in cc

  -- All chunks are verified, and their number is written, or couldn't be.
  pub check_verified : (n : ℕ) (e : Ending) → IfSome a.contents (λ w. VerdictOf g (files w) (verdicts.Verified n)) → IfSome a.contents (λ w. AllVerified g (files w) n)
      → Counts (verdicts.Verified n) a b → IsWritten (verified_line n) e s z
      → Carries (orders.Verify g input output receipt) e (outside a s) (outside b z)
  check_verified n Done is all counts w = record {
    leaves =
        leaves_by (λ w. VerdictOf g (files w) (verdicts.Verified n)) (λ w v. WorkOutcome a.steady work (Ends Fine) w v) is
        (λ x y k h. (verdicts.Verified n, h, record { end = refl; holds = stand_kept x y z.written z.written k refl ∙ ap (snapshot x) w.0 }));
    counts = (tt, (counts.reads, counts.writes, w.1, counts.same));
    sink = tt;
    text = tt;
    place = tt;
    wrote = λ e. by_told a.contents all;
    can_read = λ can. (λ h. cc);
    can_create = λ can. absurd can;
  }
    where
      by_told : (t : Option World) → IfSome t (λ w. AllVerified g (files w) n) → IfSome t (λ w. (count : ℕ) × AllVerified g (files w) count)
      by_told None h = tt
      by_told (Some w) h = (n, h)
  check_verified n WriteFault is all counts w = record {
    leaves =
        leaves_by (λ w. VerdictOf g (files w) (verdicts.Verified n)) (λ w v. WorkOutcome a.steady work NotWritten w v) is
        (λ x y k h. (
          verdicts.Verified n,
          h,
          record {
            first = [];
            failed = Write (verified_line n);
            rest = [];
            bytes = w.0.0;
            parts = refl;
            holds = stand_kept x y z.written z.written k refl
                ∙ ap (snapshot x) w.0.1;
            cause = λ h. tt;
          },
        ));
    counts = (counts.reads, counts.writes, w.1, counts.same);
    sink = tt;
    text = tt;
    place = tt;
    wrote = λ e. cc;
    can_read = λ can. (λ h. cc);
    can_create = λ can. absurd can;
  }
  check_verified n Memory is all counts w = record {
    leaves = leaves_by (λ w. Unit {0}) (λ w v. WorkOutcome a.steady work RanOut w v) (all_known a.contents) (λ x y k h. stand_kept x y s.written z.written k w.0);
    counts = (counts.reads, counts.writes, w.1, counts.same);
    sink = tt;
    text = tt;
    place = tt;
    wrote = λ e. cc;
    can_read = λ can. (λ h. cc);
    can_create = λ can. absurd can;
  }
  check_verified n (Refused r) is all counts w = absurd w
  check_verified n ReadFault is all counts w = absurd w
  check_verified n TooManyParts is all counts w = absurd w
  check_verified n (MaskTooLong k) is all counts w = absurd w

-- Nothing is written.
module _ (g : Given) (input output receipt : List ℕ) (a b : State) (s : SinkState) (kept : IfContentsKnown a b IsKept) where
  abbrev files_of : World → Three
  files_of w = three (file_name input) (file_name output) (file_name receipt) w

  abbrev order : Order
  order = orders.Verify g input output receipt

  pub check_refused : (r : Refusal) → IfSome a.contents (λ w. VerdictOf g (files_of w) (verdicts.Refused r)) → Counts (verdicts.Refused r) a b → Carries order (Refused r) (outside a s) (outside b s)
  check_refused r is counts = record {
    leaves =
        leaves_by g input output receipt a b s s kept (λ w. VerdictOf g (files_of w) (verdicts.Refused r))
        (λ w v. WorkOutcome a.steady (Checks g (file_name input) (file_name output) (file_name receipt)) (Ends (ends.Refused r)) w v) is
        (λ x y k h. (verdicts.Refused r, h, record { end = refl; holds = stand_kept x y s.written s.written k refl }));
    counts = (tt, (counts.reads, counts.writes, refl, counts.same));
    sink = tt;
    text = refl;
    place = tt;
    wrote = λ e. cc;
    can_read = λ can. (λ h. cc);
    can_create = λ can. absurd can;
  }

  pub check_halted : (IsTrue a.steady → verdicts.ReadFault ≡ verdicts.ReadFault → IfSome a.contents (λ w. HasNoVerdict g (files_of w)))
      → (IsTrue a.steady → verdicts.ReadFault ≡ verdicts.ReadFault → IfSome a.contents (λ w. LacksOne (files_of w)))
      → Counts verdicts.ReadFault a b → Carries order ReadFault (outside a s) (outside b s)
  check_halted none lacks counts = record {
    leaves =
        leaves_by g input output receipt a b s s kept (λ w. IsTrue a.steady → HasNoVerdict g (files_of w))
        (λ w v. WorkOutcome a.steady (Checks g (file_name input) (file_name output) (file_name receipt)) NotRead w v) (by_told a.contents (λ h. none h refl))
        (λ x y k h. (stand_kept x y s.written s.written k refl, h));
    counts = (counts.reads, counts.writes, refl, counts.same);
    sink = tt;
    text = refl;
    place = tt;
    wrote = λ e. cc;
    can_read = λ can. (λ h. has_all g input output receipt a b s s kept verdicts.ReadFault lacks can refl);
    can_create = λ can. absurd can;
  }
    where
      by_told : (t : Option World) → (IsTrue a.steady → IfSome t (λ w. HasNoVerdict g (files_of w))) → IfSome t (λ w. IsTrue a.steady → HasNoVerdict g (files_of w))
      by_told None h = tt
      by_told (Some w) h = h

  pub check_short : Counts verdicts.Memory a b → Carries order Memory (outside a s) (outside b s)
  check_short counts = record {
    leaves =
        leaves_by g input output receipt a b s s kept (λ w. Unit {0}) (λ w v. WorkOutcome a.steady (Checks g (file_name input) (file_name output) (file_name receipt)) RanOut w v)
        (all_known g input output receipt a b s s kept a.contents)
        (λ x y k h. stand_kept x y s.written s.written k refl);
    counts = (counts.reads, counts.writes, refl, counts.same);
    sink = tt;
    text = tt;
    place = tt;
    wrote = λ e. cc;
    can_read = λ can. (λ h. cc);
    can_create = λ can. absurd can;
  }

  pub check_doubted : (chunk : ℕ) (doubt : Doubt) → IfSome a.contents (λ w. VerdictOf g (files_of w) (verdicts.Doubted chunk doubt)) → Counts (verdicts.Doubted chunk doubt) a b
      → Doubts (Checks g (file_name input) (file_name output) (file_name receipt)) chunk doubt (outside a s) (outside b s)
  check_doubted chunk doubt is counts = record {
    check = tt;
    verdict =
        leaves_by g input output receipt a b s s kept (λ w. VerdictOf g (files_of w) (verdicts.Doubted chunk doubt)) (λ w v t u. VerdictOf g (files_of w) (verdicts.Doubted chunk doubt) × (u ≡ t)) is
        (λ x y k h. (h, stand_kept x y s.written s.written k refl));
    sink = refl;
    counts = (counts.reads, counts.writes, refl, counts.same);
  }

-- A claim about three names, with other names for the same files.
pub renamed : (i j o q r u : List ℕ) (P : List ℕ → List ℕ → List ℕ → Type 0) → i ≡ j → o ≡ q → r ≡ u → P i o r → P j q u
renamed i j o q r u P a b c h = subst (λ x. P x q u) a (subst (λ x. P i x u) b (subst (λ x. P i o x) c h))
