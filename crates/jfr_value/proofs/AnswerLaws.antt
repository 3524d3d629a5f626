-- At each offset there is exactly one answer for a known class: a value, or a flaw.
use Rattle.std.specs.Prelude.{◌≡◌, ◌⊎◌, ℕ, ◌≤◌, List, length, Option, Some, None, Result, Ok, Err, IsSome, IfOk, IfErr}
use Rattle.std.proofs.Common.{ap, arith, refl, sym, ◌∙◌, inl, inr, subst}
use Rattle.jfr_base.specs.declared.flaw.Flaw.{Flaw}
use Rattle.jfr_base.specs.declared.reason.Reason.{Reason}
use Rattle.jfr_base.specs.Formats.{Got, Answer, Reads, run, end_or_flaw}
use Rattle.jfr_base.proofs.Exact.{ReadsOrFails, run_reads_or_fails}
use Rattle.jfr_base.proofs.OneAnswer.{has_one_answer}
use Rattle.jfr_base.proofs.OnceLaws.{once_ok}
use Rattle.jfr_layout.specs.Classes.{Class, Classes, Sound, find_class}
use Rattle.jfr_layout.specs.declared.shape.Shape.{Shape}
use Rattle.jfr_value.specs.Values.{Value}
use Rattle.jfr_value.specs.Reading.{value_format}
use Rattle.jfr_value.specs.Nodes.{node_at, IsNode, EndsAt, IsRefused, IsValueReason}
use Rattle.jfr_value.specs.Laws.{HasOneAnswer}
use Rattle.jfr_value.proofs.DepthLaws.{IsKnown}
use Rattle.jfr_value.proofs.FlawLaws.{value_plain}
use Rattle.jfr_value.proofs.NodeLaws.{read_node, node_read}

pub some_known : (k : Classes) (s : Shape) → IsSome (find_class k s.class) → IsKnown k s
some_known k s h = by_class (find_class k s.class) refl h
  where
    by_class : (o : Option Class) → find_class k s.class ≡ o → IsSome o → IsKnown k s
    by_class None q h = cc
    by_class (Some c) q h = (c, q)

pub node_reads : (k : Classes) (c : List ℕ) (s : Shape) (at to end : ℕ) (v : Value) → Sound k → IsNode k c (node_at s at to) v → to ≤ end → at ≤ end → end ≤ length c
    → Reads (value_format k s) c end at v to
node_reads k c s at to end v sound n l o h = by_answer (run (value_format k s) c end at) (node_read k c (node_at s at to) v end sound n l h) (run_reads_or_fails (value_format k s) c end at o h)
  where
    by_answer : (r : Answer Value) → r ≡ Ok (record { value = v; place = to }) → ReadsOrFails (value_format k s) c end at r → Reads (value_format k s) c end at v to
    by_answer (Ok g) e r =
        let q : g ≡ record { value = v; place = to } = cc in
        subst (λ (z : Got Value). Reads (value_format k s) c end at z.value z.place) q r
    by_answer (Err f) e r = cc

-- A node has one end and one value.
pub one_node : (k : Classes) (c : List ℕ) (s : Shape) (at to too : ℕ) (v w : Value) → Sound k → IsNode k c (node_at s at to) v → IsNode k c (node_at s at too) w → (to ≡ too) × (v ≡ w)
one_node k c s at to too v w sound n m =
    let o = once_ok v w to too (run (value_format k s) c (length c) at) (node_read k c (node_at s at to) v (length c) sound n n.within (omega arith))
    (node_read k c (node_at s at too) w (length c) sound m m.within (omega arith)) in
    (o.place, o.value)

flaw_is : (e f : Flaw) → e.offset ≡ f.offset → e.reason ≡ f.reason → e ≡ f
flaw_is e f p q =
    let flaw : ℕ → Reason → Flaw = λ o r. record { offset = o; reason = r } in
    ap (λ o. flaw o e.reason) p ∙ ap (λ r. flaw f.offset r) q

module _ (k : Classes) (c : List ℕ) (s : Shape) (at end : ℕ) (sound : Sound k) (known : IsKnown k s) (o : at ≤ end) (h : end ≤ length c) where
  pub value_answer : HasOneAnswer k c s at end
  value_answer =
      let a = has_one_answer (value_format k s) c end at o h in
      record {
        some = by_answer (run (value_format k s) c end at) (run_reads_or_fails (value_format k s) c end at o h);
        not_both = λ to l (v, n) flaw f. a.not_both (v, to, node_reads k c s at to end v sound n l o h) (flaw.offset, flaw.reason, f);
        one_value = λ to too v w n m. one_node k c s at to too v w sound n m;
        one_flaw = λ e f x y. (let z = a.one_failure e.offset f.offset e.reason f.reason x y in flaw_is e f z.0 z.1);
        reason = λ e x. value_plain k s c end at e.offset e.reason sound known x;
      }
    where
      by_answer : (r : Answer Value) → ReadsOrFails (value_format k s) c end at r → ((to : ℕ) × (to ≤ end) × EndsAt k c s at to) ⊎ ((flaw : Flaw) × IsRefused k c s at end flaw)
      by_answer (Ok g) r = let n = read_node k s c end at g.place g.value h o r in inl (g.place, n.1, (g.value, n.0))
      by_answer (Err e) r = inr (e, r)

-- What the place or the flaw of the format's answer says.
module _ (k : Classes) (x : List ℕ) (s : Shape) (at end : ℕ) (o : at ≤ end) (h : end ≤ length x) where
  pub end_ok : (r : Result ℕ Flaw) → r ≡ end_or_flaw (run (value_format k s) x end at) → IfOk r (λ to. EndsAt k x s at to × (to ≤ end))
  end_ok r e = subst (λ z. IfOk z (λ to. EndsAt k x s at to × (to ≤ end))) (sym e) (by_answer (run (value_format k s) x end at) (run_reads_or_fails (value_format k s) x end at o h))
    where
      by_answer : (a : Answer Value) → ReadsOrFails (value_format k s) x end at a → IfOk (end_or_flaw a) (λ to. EndsAt k x s at to × (to ≤ end))
      by_answer (Ok g) q = let n = read_node k s x end at g.place g.value h o q in ((g.value, n.0), n.1)
      by_answer (Err f) q = tt

  pub end_refused : (r : Result ℕ Flaw) → r ≡ end_or_flaw (run (value_format k s) x end at) → IfErr r (IsRefused k x s at end)
  end_refused r e = subst (λ z. IfErr z (IsRefused k x s at end)) (sym e) (by_answer (run (value_format k s) x end at) (run_reads_or_fails (value_format k s) x end at o h))
    where
      by_answer : (a : Answer Value) → ReadsOrFails (value_format k s) x end at a → IfErr (end_or_flaw a) (IsRefused k x s at end)
      by_answer (Ok g) q = tt
      by_answer (Err f) q = q

  pub end_reason : (r : Result ℕ Flaw) → r ≡ end_or_flaw (run (value_format k s) x end at) → Sound k → IsSome (find_class k s.class) → IfErr r (λ flaw. IsValueReason flaw.reason)
  end_reason r e sound known = by_result r (end_refused r e)
    where
      by_result : (r : Result ℕ Flaw) → IfErr r (IsRefused k x s at end) → IfErr r (λ flaw. IsValueReason flaw.reason)
      by_result (Ok to) q = tt
      by_result (Err f) q = value_plain k s x end at f.offset f.reason sound (some_known k s known) q
