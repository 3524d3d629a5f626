-- Where the output and the table can be created, no write fails.
use Rattle.std.specs.Prelude.{◌≡◌, ◌+◌, ◌^◌, ℕ, Bool, true, false, nat_le, IsTrue, List, [], ◌∷◌, ◌++◌, length, Option, Some, None, IsSome, IfSome, if◌then◌else◌, unwrap_or}
use Rattle.std.proofs.Common.{refl, subst, sym, ◌∙◌}
use Rattle.std.specs.FinMap as fin
use Rattle.jfr_base.specs.declared.flaw.Flaw.{Flaw}
use Rattle.jfr_outside.specs.World.{State, World, file, grown}
use Rattle.jfr_filter.specs.Filters.{Given}
use Rattle.jfr_header.specs.declared.ending.Ending.{Ending}
use Rattle.jfr_header.specs.declared.ending.Ending.TheVariants.{WriteFault}
use Rattle.jfr_plan.specs.Ends.{TooLong}
use Rattle.jfr_plan.specs.Effects.{Append, AtEnd, Create, Finish, Snapshot, Cannot, apply, effects, snapshot, without_sink}
use Rattle.jfr_plan.specs.Outcomes.{Breaks}
use Rattle.jfr_plan.specs.Clauses.{Broken, CanCreate, Ran}
use Rattle.jfr_plan.specs.Rules.{Masked, cut_after, plan_after, plan_in, walk, walk_on}
use Rattle.jfr_plan.proofs.Clauses.{Cans, none_breaks, writes_clause}
use Rattle.jfr_plan.proofs.Walking.{effects_needing}
use Rattle.jfr_chunk.specs.Refusal.{refusal_of}
use Rattle.jfr_mask.specs.Commands.{CanCreateBoth, MaskWork, known_in, mask_plan, mask_task, masking_with, none_known, plan_knowing, plan_named, rule_with}
use Rattle.jfr_mask.specs.MaskOf.{Masking}
use Rattle.jfr_mask.specs.Recordings.{asks_by, dictionary_over, masked, masking_rule, table_effects, table_lines}
use Rattle.jfr_mask.proofs.MaskedFile.{appends, elsewhere}
use Rattle.jfr_mask.proofs.TaskLaws.{before_of, told_at}

some_open : (s : Snapshot) (n : List ℕ) → s.output ≡ Some n → s.output ≡ None → ⊥
some_open s n e f = cc

none_some : (o : Option (List ℕ)) → o ≡ None → IsSome o → ⊥
none_some None e h = cc
none_some (Some x) e h = cc

-- What is appended to an open output, which is then finished.
lines_can : (name : List ℕ) (lines : List (List ℕ)) (s : Snapshot) → s.output ≡ Some name → Cans (appends lines ++ Finish ∷ []) s
lines_can name [] s o = (some_open s name o, tt)
lines_can name (b ∷ lines) s o = (some_open s name o, lines_can name lines (apply (Append b) s) o)

-- No file has the name of the table, if there is one.
abbrev pub IsNew : Option (List ℕ) → Snapshot → Type 0
IsNew o s = IfSome o (λ name. fin.get s.files name ≡ None)

table_can : (o : Option (List ℕ)) (d : List (List ℕ)) (s : Snapshot) → s.output ≡ None → IsNew o s → Cans (table_effects o d) s
table_can None d s e n = tt
table_can (Some name) d s e n = ((λ h. none_some s.output e (h n)), lines_can name (table_lines 1 d) (apply (Create name) s) refl)

module _ (g : Given) (m : Masking) (output : List ℕ) (table : Option (List ℕ)) (apart : IfSome table (λ name. output ≡ name → ⊥)) where
  new_by : (o : Option (List ℕ)) → IfSome o (λ name. output ≡ name → ⊥) → (v : List ℕ) (s : Snapshot) → IsNew o s → IsNew o (record s { files = fin.insert s.files output v })
  new_by None a v s n = tt
  new_by (Some name) a v s n = elsewhere s.files output name v a ∙ n

  still_new : (b : List ℕ) (s : Snapshot) → s.output ≡ Some output → IsNew table s → IsNew table (apply (Append b) s)
  still_new b s o n = subst (λ p. IsNew table (record s { files = grown p b s.files })) (sym o) (new_by table apart (unwrap_or (fin.get s.files output) [] ++ b) s n)

  walk_can : (bf cs : List (List ℕ)) (flaw : Option Flaw) (s : Snapshot) → s.output ≡ Some output → IsNew table s → Cans (effects (walk (masking_rule g m output table) bf cs flaw).steps) s
  walk_can bf [] (Some f) s o n = tt
  walk_can bf [] None s o n =
      subst (λ es. Cans es s) (sym (effects_needing AtEnd (Finish ∷ table_effects table (dictionary_over g m [] bf))))
      (some_open s output o, table_can table (dictionary_over g m [] bf) (apply Finish s) refl n)
  walk_can bf (c ∷ cs) flaw s o n = by_asks (refusal_of c) _ (λ z k. walk_can (bf ++ c ∷ []) cs flaw (apply (Append z) s) o k)
    where
      by_asks : (f : Option Flaw) (long : Bool)
          → ((z : List ℕ) → IsNew table (apply (Append z) s) → Cans (effects (walk (masking_rule g m output table) (bf ++ c ∷ []) cs flaw).steps) (apply (Append z) s))
          → Cans (effects (walk_on (asks_by f long (length bf + 1) (masked g m (dictionary_over g m [] bf) c)) (length bf + 1) (walk (masking_rule g m output table) (bf ++ c ∷ []) cs flaw)).steps) s
      by_asks (Some f) long later = tt
      by_asks None true later = tt
      by_asks None false later =
          let z = masked g m (dictionary_over g m [] bf) c in
          (some_open s output o, later z (still_new z s o n))

  file_can : (x : Option (List ℕ)) (s : Snapshot) → (Cannot (Create output) s → ⊥) → IsNew table s → Cans (effects (plan_after (masking_rule g m output table) [] x).steps) s
  file_can None s h n = tt
  file_can (Some x) s h n = (h, walk_can [] (cut_after [] x).chunks (cut_after [] x).flaw (apply (Create output) s) refl (new_by table apart [] s n))

module _ (k : MaskWork) (w : World) (s : Snapshot) (apart : IfSome k.table (λ name. k.output ≡ name → ⊥)) (h : Cannot (Create k.output) s → ⊥) (n : IsNew k.table s) where
  rule_can : (known : List ℕ → Bool) → Cans (effects (plan_in (rule_with k known) k.input w).steps) s
  rule_can known = file_can k.filter (masking_with k known) k.output k.table apart (file w k.input) s h n

  long_can : (bytes : List ℕ) (t : Bool) → Cans (effects (if t then record { steps = []; end = Some (TooLong 0) } else plan_in (rule_with k (known_in bytes)) k.input w).steps) s
  long_can bytes true = tt
  long_can bytes false = rule_can (known_in bytes)

  knowing_can : (o : Option (List ℕ)) → Cans (effects (plan_knowing k o w).steps) s
  knowing_can None = tt
  knowing_can (Some bytes) = long_can bytes (nat_le (2 ^ 30) (length bytes))

  named_can : (o : Option (List ℕ)) → Cans (effects (plan_named k o w).steps) s
  named_can None = rule_can none_known
  named_can (Some name) = knowing_can (file w name)

-- In the world of the place both files are new.
record AreNew (k : MaskWork) (w : World) : Type 0 where
  pub output : file w k.output ≡ None
  pub closed : w.output ≡ None
  pub table : IfSome k.table (λ name. file w name ≡ None)
  pub apart : IfSome k.table (λ name. k.output ≡ name → ⊥)

are_new : (k : MaskWork) (a : State) (c : CanCreateBoth k a) → AreNew k c.output.world
are_new k a c = record { output = c.output.new; closed = c.output.closed; table = by_name k.table c.table; apart = apart_by k.table c.table }
  where
    same_world : (x y : World) → a.contents ≡ Some x → a.contents ≡ Some y → x ≡ y
    same_world x y e f = cc

    by_name : (o : Option (List ℕ)) → IfSome o (λ name. CanCreate name a × (k.output ≡ name → ⊥)) → IfSome o (λ name. file c.output.world name ≡ None)
    by_name None h = tt
    by_name (Some name) h = subst (λ z. file z name ≡ None) (same_world h.0.world c.output.world h.0.contents c.output.contents) h.0.new

    apart_by : (o : Option (List ℕ)) → IfSome o (λ name. CanCreate name a × (k.output ≡ name → ⊥)) → IfSome o (λ name. k.output ≡ name → ⊥)
    apart_by None h = tt
    apart_by (Some name) h = h.1

never_breaks : (k : MaskWork) (w v : World) (st : Bool) → IsTrue st → AreNew k w → Breaks st (effects (mask_plan k w).steps) (snapshot w None) (snapshot v None) → ⊥
never_breaks k w v st steady are z =
    none_breaks (effects (mask_plan k w).steps) z.first z.rest z.failed (snapshot w None)
    (named_can k w (snapshot w None) are.apart (λ h. none_some w.output are.closed (h are.output)) are.table k.known) z.parts (z.cause steady)

no_write_fault : (k : MaskWork) (e : Ending) (a b : State) → CanCreateBoth k a → Ran (mask_task k) e (without_sink a) (without_sink b) → e ≡ WriteFault → ⊥
no_write_fault k e a b c ran is =
    let h : Broken (mask_task k) (without_sink a) (without_sink b) = ran.broken is in
    told_at a.contents c.output.world (λ w. AreNew k w → ⊥) c.output.contents
    (before_of a.contents b.contents (λ w v. Breaks a.steady (effects (mask_plan k w).steps) (snapshot w None) (snapshot v None)) (λ w. AreNew k w → ⊥) h
    (λ w v z are. never_breaks k w v a.steady c.output.steady are z))
    (are_new k a c)

pub can_create : (k : MaskWork) (e : Ending) (a b : State) → Ran (mask_task k) e (without_sink a) (without_sink b) → CanCreateBoth k a → (e ≡ WriteFault → ⊥) × (b.write_faults ≡ a.write_faults)
can_create k e a b ran c =
    let no = no_write_fault k e a b c ran in
    (no, writes_clause Masked e (without_sink a) (without_sink b) ran.counts no)
