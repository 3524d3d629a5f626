use Rattle.std.proofs.Common.{◌≡◌, ℕ, ◌+◌, List, Ok, Err, true, sym, ap, subst, ◌∙◌}
use Rattle.std.proofs.lemmas.Result.{err_from_is_err_and}
use Rattle.jfr_base.specs.declared.flaw.Flaw.{Flaw}
use Rattle.jfr_base.specs.Formats.{Format, Done, ◌>>=◌, integer, Answer, checked, run}
use Rattle.jfr_text.specs.declared.span.StringSpan.{StringSpan}
use Rattle.jfr_text.specs.Strings.{Content, Null, Empty, Key, Utf8, Units, Latin, kind_fault, after_kind, counted_bytes, counted_integers}
use Rattle.jfr_text.specs.Spans.{content_by, content_of, first_integers, answer_of}
use Rattle.jfr_text.proofs.ReadSteps.{int_missing, int_there, done_there, made_of_value, made_of_flaw}
use Rattle.jfr_text.proofs.read.read_kind.Goals as goal

-- The answer of what follows the kind byte.
abbrev Follows : List ℕ → ℕ → ℕ → Answer Content → ℕ → Type 0
Follows x end at r kind = r ≡ checked at (kind_fault true kind) (run (after_kind kind) x end (at + 1))

at_kind : (x : List ℕ) (end at : ℕ) (r : Answer Content) (kind k : ℕ) → kind ≡ k → Follows x end at r k → Follows x end at r kind
at_kind x end at r kind k e h = subst (Follows x end at r) (sym e) h

abbrev answered : Content → ℕ → Answer Content
answered v to = Ok (record { value = v; place = to })

got : (v w : Content) (p q : ℕ) → v ≡ w → p ≡ q → answered v p ≡ answered w q
got v w p q e f = ap (λ z. answered z p) e ∙ ap (λ z. answered w z) f

-- What was read, as what the string holds.
module _ (x : List ℕ) (end at : ℕ) {A : Type 0} (f : Format A) (g : A → Content) where
  holds : (span : StringSpan) (v : A) (to : ℕ) → content_of span ≡ g v → span.end ≡ to → run f x end at ≡ Ok (record { value = v; place = to })
      → answer_of (Ok span) ≡ run (f >>= λ a. Done (g a)) x end at
  holds span v to e p h = got (content_of span) (g v) span.end to e p ∙ (sym (done_there x end to (g v)) ∙ sym (made_of_value x end at f (λ a. Done (g a)) v to h))

  fails : (e : Flaw) → run f x end at ≡ Err e → answer_of (Err e) ≡ run (f >>= λ a. Done (g a)) x end at
  fails e h = sym (made_of_flaw x end at f (λ a. Done (g a)) e h)

pub returns-in_err-key-in-2-clause-exact : goal.returns-in_err-key-in-2-clause-exact
returns-in_err-key-in-2-clause-exact c =
    let p = err_from_is_err_and c.from_residual.result c.from_residual.ensures.1 in
    rw (p.1, p.2) (at_kind _ _ _ _ c.args.kind 2 c.in-2.is
    (fails c.args.bytes.now c.args.end (c.args.at + 1) integer (λ v. Key v) _ (int_missing _ _ _ (λ v s. Done v) _ c.in_err-key-in-2.ensures.exact)))

pub returns-in_err-read_bytes-in-3-clause-exact : goal.returns-in_err-read_bytes-in-3-clause-exact
returns-in_err-read_bytes-in-3-clause-exact c =
    let p = err_from_is_err_and c.from_residual-in_err-read_bytes-in-3.result c.from_residual-in_err-read_bytes-in-3.ensures.1 in
    rw (p.1, p.2) (at_kind _ _ _ _ c.args.kind 3 c.in-3.is (fails c.args.bytes.now c.args.end (c.args.at + 1) counted_bytes (λ v. Utf8 v) _ c.in_err-read_bytes-in-3.ensures.exact))

pub returns-in_err-read_integers-in-4-clause-exact : goal.returns-in_err-read_integers-in-4-clause-exact
returns-in_err-read_integers-in-4-clause-exact c =
    let p = err_from_is_err_and c.from_residual-in_err-read_integers-in-4.result c.from_residual-in_err-read_integers-in-4.ensures.1 in
    rw (p.1, p.2) (at_kind _ _ _ _ c.args.kind 4 c.in-4.is (fails c.args.bytes.now c.args.end (c.args.at + 1) counted_integers (λ v. Units v) _ c.in_err-read_integers-in-4.ensures.exact))

pub returns-in_err-read_bytes-in-5-clause-exact : goal.returns-in_err-read_bytes-in-5-clause-exact
returns-in_err-read_bytes-in-5-clause-exact c =
    let p = err_from_is_err_and c.from_residual-in_err-read_bytes-in-5.result c.from_residual-in_err-read_bytes-in-5.ensures.1 in
    rw (p.1, p.2) (at_kind _ _ _ _ c.args.kind 5 c.in-5.is (fails c.args.bytes.now c.args.end (c.args.at + 1) counted_bytes (λ v. Latin v) _ c.in_err-read_bytes-in-5.ensures.exact))

pub returns-in-0-clause-exact : goal.returns-in-0-clause-exact
returns-in-0-clause-exact c =
    let s = c.bare.result in
    let e : content_of s ≡ Null = ap (λ k. content_by k s) c.bare.ensures.place.0 in
    at_kind _ _ _ _ c.args.kind 0 c.in-0.is (got (content_of s) Null s.end (c.args.at + 1) e c.bare.ensures.place.2 ∙ sym (done_there c.args.bytes.now c.args.end (c.args.at + 1) Null))

pub returns-in-1-clause-exact : goal.returns-in-1-clause-exact
returns-in-1-clause-exact c =
    let s = c.bare-in-1.result in
    let e : content_of s ≡ Empty = ap (λ k. content_by k s) c.bare-in-1.ensures.place.0 in
    at_kind _ _ _ _ c.args.kind 1 c.in-1.is (got (content_of s) Empty s.end (c.args.at + 1) e c.bare-in-1.ensures.place.2 ∙ sym (done_there c.args.bytes.now c.args.end (c.args.at + 1) Empty))

pub returns-in_ok-key-in-2-clause-exact : goal.returns-in_ok-key-in-2-clause-exact
returns-in_ok-key-in-2-clause-exact c =
    let v = c.in_ok-key-in-2.key in
    let x = c.args.bytes.now in
    let at = c.args.at + 1 in
    at_kind _ _ _ _ c.args.kind 2 c.in-2.is (sym (made_of_value x c.args.end at integer (λ k. Done (Key k)) v.value v.end
    (int_there x c.args.end at (λ w s. Done w) v c.in_ok-key-in-2.ensures.exact ∙ done_there x c.args.end v.end v.value) ∙ done_there x c.args.end v.end (Key v.value)))

pub returns-in_ok-read_bytes-in-3-clause-exact : goal.returns-in_ok-read_bytes-in-3-clause-exact
returns-in_ok-read_bytes-in-3-clause-exact c =
    let s = c.spanned.result in
    let v = c.in_ok-read_bytes-in-3.field-0 in
    let e : content_of s ≡ Utf8 v.payload.now = ap (λ k. content_by k s) c.spanned.ensures.place.0 ∙ ap (λ b. Utf8 b) c.spanned.ensures.counted.0 in
    at_kind _ _ _ _ c.args.kind 3 c.in-3.is (holds c.args.bytes.now c.args.end (c.args.at + 1) counted_bytes
    (λ b. Utf8 b) s v.payload.now v.end e c.spanned.ensures.place.2 c.in_ok-read_bytes-in-3.ensures.exact)

pub returns-in_ok-read_integers-in-4-clause-exact : goal.returns-in_ok-read_integers-in-4-clause-exact
returns-in_ok-read_integers-in-4-clause-exact c =
    let s = c.spanned-in-4.result in
    let v = c.in_ok-read_integers-in-4.field-0 in
    let told = c.spanned-in-4.ensures in
    let e : content_of s ≡ Units (first_integers v.count v.payload.now) =
    ap (λ k. content_by k s) told.place.0 ∙ (ap (λ n. Units (first_integers n s.payload.now)) told.counted.1 ∙ ap (λ b. Units (first_integers v.count b)) told.counted.0) in
    at_kind _ _ _ _ c.args.kind 4 c.in-4.is (holds c.args.bytes.now c.args.end (c.args.at + 1) counted_integers (λ us. Units us) s
    (first_integers v.count v.payload.now) v.end e told.place.2 c.in_ok-read_integers-in-4.ensures.exact)

pub returns-in_ok-read_bytes-in-5-clause-exact : goal.returns-in_ok-read_bytes-in-5-clause-exact
returns-in_ok-read_bytes-in-5-clause-exact c =
    let s = c.spanned-in-5.result in
    let v = c.in_ok-read_bytes-in-5.field-0 in
    let told = c.spanned-in-5.ensures in
    let e : content_of s ≡ Latin v.payload.now = ap (λ k. content_by k s) told.place.0 ∙ ap (λ b. Latin b) told.counted.0 in
    at_kind _ _ _ _ c.args.kind 5 c.in-5.is (holds c.args.bytes.now c.args.end (c.args.at + 1) counted_bytes (λ b. Latin b) s v.payload.now v.end e told.place.2 c.in_ok-read_bytes-in-5.ensures.exact)
