-- What an answer that the format computes says of the string.
use Rattle.std.specs.Prelude.{◌≡◌, ℕ, ◌+◌, ◌<◌, ◌≤◌, List, length, slice_range, slice_index, true, Result, Ok, Err, IfOk, IfErr}
use Rattle.std.proofs.Common.{ap, sym, subst, arith}
use Rattle.jfr_base.specs.declared.flaw.Flaw.{Flaw}
use Rattle.jfr_base.specs.Formats.{Reads, Fails, after_int, run, unchecked}
use Rattle.jfr_base.specs.Integer.{IntAt}
use Rattle.jfr_base.proofs.Exact.{run_reads_or_fails, ReadsOrFails}
use Rattle.jfr_base.proofs.OneAnswer.{int_computed}
use Rattle.jfr_base.proofs.FreeLaws.{reads_exact}
use Rattle.jfr_base.proofs.ReadLaws.{reads_order}
use Rattle.jfr_text.specs.declared.span.StringSpan.{StringSpan}
use Rattle.jfr_text.specs.Strings.{Content, Key, IsString, after_kind, key_format, string_format}
use Rattle.jfr_text.specs.Spans.{content_of, answer_of}
use Rattle.jfr_text.proofs.StringLaws.{string_free, string_of_format}

module _ (x : List ℕ) (end at : ℕ) (order : at ≤ end) (within : end ≤ length x) where
  says : (r : Result StringSpan Flaw) → answer_of r ≡ run (string_format true) x end at → ReadsOrFails (string_format true) x end at (answer_of r)
  says r e = subst (ReadsOrFails (string_format true) x end at) (sym e) (run_reads_or_fails (string_format true) x end at order within)

  pub reads : (r : Result StringSpan Flaw) → answer_of r ≡ run (string_format true) x end at → IfOk r (λ s. Reads (string_format true) x end at (content_of s) s.end)
  reads (Ok s) e = says (Ok s) e
  reads (Err f) e = tt

  pub fails : (r : Result StringSpan Flaw) → answer_of r ≡ run (string_format true) x end at → IfErr r (λ f. Fails (string_format true) x end at f.offset f.reason)
  fails (Ok s) e = tt
  fails (Err f) e = says (Err f) e

  pub spells : (r : Result StringSpan Flaw) → answer_of r ≡ run (string_format true) x end at → IfOk r (λ s. IsString (slice_range x at s.end) (content_of s))
  spells (Ok s) e =
      let i = reads_exact (string_format true) x end at (content_of s) s.end within order (string_free true) (says (Ok s) e) in
      (string_of_format true (slice_range x at s.end) (content_of s) i.exact).0
  spells (Err f) e = tt

  -- Bytes that the format reads by computing are a string of the content.
  pub computed : (s : Content) (to : ℕ) → run (string_format true) x end at ≡ Ok (record { value = s; place = to }) → IsString (slice_range x at to) s
  computed s to e =
      let i = reads_exact (string_format true) x end at s to within order (string_free true)
      (subst (ReadsOrFails (string_format true) x end at) e (run_reads_or_fails (string_format true) x end at order within)) in
      (string_of_format true (slice_range x at to) s i.exact).0

  after : (s : Content) (to : ℕ) → Reads (string_format true) x end at s to → at < to
  unfolding string_format
  after s to r = omega (arith, reads_order (after_kind (slice_index x at)) x end (at + 1) s to r.2)

  pub ranges : (r : Result StringSpan Flaw) → answer_of r ≡ run (string_format true) x end at → IfOk r (λ s. (at < s.end) × (s.end ≤ end))
  ranges (Ok s) e =
      let read = says (Ok s) e in
      let i = reads_exact (string_format true) x end at (content_of s) s.end within order (string_free true) read in
      (after (content_of s) s.end read, i.within)
  ranges (Err f) e = tt

-- The key at an offset is the one that its format computes.
pub key_computed : (x : List ℕ) (end at to key : ℕ) → at ≤ end → end ≤ length x → IntAt x at to key → to ≤ end → run key_format x end at ≡ Ok (record { value = Key key; place = to })
unfolding run
key_computed x end at to key order within holds before =
    ap (after_int x at unchecked (λ v s p. Ok (record { value = Key v; place = p }))) (int_computed x at end to key order within holds before)
