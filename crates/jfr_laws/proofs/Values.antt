-- What value is read from bytes doesn't depend on their offset.
use Rattle.std.specs.Prelude.{◌≡◌, ℕ, ◌≤◌, List, [], length, Some, Ok, Err, unwrap_or, slice_range}
use Rattle.std.proofs.Common.{ap, arith, refl, subst}
use Rattle.jfr_base.specs.Formats.{Format, Exactly, Reads, Answer, Got, run}
use Rattle.jfr_base.proofs.Exact.{ReadsOrFails, run_reads_or_fails}
use Rattle.jfr_base.proofs.RunLaws.{Stands, exact_run}
use Rattle.jfr_layout.specs.Classes.{Classes}
use Rattle.jfr_value.specs.Values.{Value, Group, Nil}
use Rattle.jfr_value.specs.Reading.{value_format}
use Rattle.jfr_value.specs.Nodes.{got_value, value_of}
use Rattle.jfr_pool.specs.declared.entry.EntryAt.{EntryAt}
use Rattle.jfr_pool.specs.Entries.{inline, entry_node}

-- A value whose exact bytes are there is read there.
pub exact_reads : {A : Type 0} (f : Format A) (x : List ℕ) (end at to : ℕ) (b : List ℕ) (a : A) → Exactly f b a → Stands x at to b → to ≤ end → end ≤ length x → Reads f x end at a to
exact_reads {A = A} f x end at to b a e s i h = by_answer (run f x end at) (exact_run x end h f at to b a e s i) (run_reads_or_fails f x end at (omega (arith, s.order)) h)
  where
    by_answer : (r : Answer A) → r ≡ Ok (record { value = a; place = to }) → ReadsOrFails f x end at r → Reads f x end at a to
    by_answer (Ok g) q r =
        let p : g ≡ record { value = a; place = to } = cc in
        subst (λ (z : Got A). Reads f x end at z.value z.place) p r
    by_answer (Err w) q r = cc

-- The value of an entry.
abbrev pub value_in : List ℕ → Classes → EntryAt → Value
value_in c k e = unwrap_or (value_of k c (entry_node e)) (Group (inline e.class) [] Nil)

pub value_there : (c : List ℕ) (k : Classes) (e : EntryAt) (v : Value) → e.value_at ≤ e.end → e.end ≤ length c → Exactly (value_format k (inline e.class)) (slice_range c e.value_at e.end) v
    → value_in c k e ≡ v
unfolding value_of
value_there c k e v o h x =
    let there : value_of k c (entry_node e) ≡ Some v =
    ap got_value (exact_run c e.end h (value_format k (inline e.class)) e.value_at e.end (slice_range c e.value_at e.end) v x (record { order = o; within = h; bytes = refl }) (omega arith)) in
    ap (λ z. unwrap_or z (Group (inline e.class) [] Nil)) there
