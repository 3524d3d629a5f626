-- Integers one after another: as the grammar spells them, as a format reads them, and from the front of
-- some bytes.
use Rattle.std.specs.Prelude.{◌≡◌, ℕ, zero, suc, ◌+◌, ◌-◌, ◌≤◌, List, [], ◌∷◌, ◌++◌, length, take, drop, slice_range, Some, Ok, Err}
use Rattle.std.specs.Option.{option_map, option_map_or}
use Rattle.std.proofs.Common.{ap, refl, sym, subst, arith, ◌∙◌, append-nil, take_all, take_at, drop_at}
use Rattle.jfr_base.specs.declared.integer.Var.{Var}
use Rattle.jfr_base.specs.declared.flaw.Flaw.{Flaw}
use Rattle.jfr_base.specs.Integer.{Spells, worth_within}
use Rattle.jfr_base.specs.Formats.{Done, times, integer, ◌>>=◌, Exactly, Answer, run, end_or_flaw, int_at, prefix_length}
use Rattle.jfr_base.proofs.Exact.{found_within, run_reads_or_fails, ReadsOrFails}
use Rattle.jfr_base.proofs.ExactLaws.{exact_bind, bind_exact}
use Rattle.jfr_base.proofs.FreeLaws.{reads_exact, times_free}
use Rattle.jfr_text.specs.Strings.{SpellAll}
use Rattle.jfr_text.specs.Spans.{first_integers}

-- A single integer.
integer_spells : (b : List ℕ) (v : ℕ) → Exactly integer b v → Spells b v
integer_spells b v e =
    let whole : b ≡ e.0 = e.3 ∙ (ap (λ r. e.0 ++ r) e.6.1 ∙ append-nil e.0) in
    subst (λ (z : List ℕ). Spells z v) (sym whole) (subst (λ w. Spells e.0 w) (sym e.6.0) e.4)

spells_integer : (b : List ℕ) (v : ℕ) → Spells b v → Exactly integer b v
spells_integer b v s = (b, [], v, sym (append-nil b), s, refl, (refl, refl))

joined : (n : ℕ) (v : ℕ) (vs front rest b : List ℕ) → b ≡ front ++ rest → Spells front v → SpellAll rest vs × (length vs ≡ n) → SpellAll b (v ∷ vs) × (length (v ∷ vs) ≡ suc n)
joined n v vs front rest b e s h = ((front, rest, e, s, h.0), ap (λ m. suc m) h.1)

-- What the format reads is spelled.
pub times_spelled : (n : ℕ) (b us : List ℕ) → Exactly (times n integer) b us → SpellAll b us × (length us ≡ n)
times_spelled zero b [] e = (e.1, refl)
times_spelled zero b (v ∷ vs) e = cc
times_spelled (suc n) b us e =
    let i = exact_bind integer (λ a. times n integer >>= λ rest. Done (a ∷ rest)) b us e in
    let j = exact_bind (times n integer) (λ rest. Done (i.value ∷ rest)) i.rest us i.second in
    let whole : i.rest ≡ j.front = j.split ∙ (ap (λ r. j.front ++ r) j.second.1 ∙ append-nil j.front) in
    let all : b ≡ i.front ++ j.front = i.split ∙ ap (λ r. i.front ++ r) whole in
    subst (λ (zs : List ℕ). SpellAll b zs × (length zs ≡ suc n)) (sym j.second.0)
    (joined n i.value j.value i.front j.front b all (integer_spells i.front i.value i.first) (times_spelled n j.front j.value j.first))

-- And what is spelled is read.
pub spelled_times : (us b : List ℕ) → SpellAll b us → Exactly (times (length us) integer) b us
spelled_times [] b s = (refl, s)
spelled_times (v ∷ vs) b s =
    bind_exact integer (λ a. times (length vs) integer >>= λ rest. Done (a ∷ rest)) s.0 s.1 b v (v ∷ vs) s.2 (spells_integer s.0 v s.3)
    (bind_exact (times (length vs) integer) (λ rest. Done (v ∷ rest)) s.1 [] s.1 vs (v ∷ vs) (sym (append-nil s.1)) (spelled_times vs s.1 s.4) (refl, refl))

-- A spelling at the front is the integer there.
front_is : (front rest : List ℕ) (v : ℕ) → Spells front v → int_at (front ++ rest) 0 (length (front ++ rest)) ≡ Some (record { value = v; end = length front })
unfolding int_at
front_is front rest v s =
    let bytes = front ++ rest in
    let var : ℕ → ℕ → Var = λ w q. record { value = w; end = q } in
    let all : slice_range bytes 0 (length bytes) ≡ bytes = take_all (length bytes - 0) bytes (omega arith) in
    let found : prefix_length 8 (slice_range bytes 0 (length bytes)) ≡ Some (length front) = ap (prefix_length 8) all ∙ found_within 8 front rest s.form in
    let n : 0 + length front ≡ length front = omega arith in
    let m : 0 + length front - 0 ≡ length front = omega arith in
    let part : slice_range bytes 0 (0 + length front) ≡ front = ap (λ k. take k bytes) m ∙ take_at front rest (length front) refl in
    ap (option_map (λ n. var (worth_within 8 (slice_range bytes 0 (0 + n))) (0 + n))) found
    ∙ (ap (λ w. Some (var w (0 + length front))) (ap (worth_within 8) part ∙ sym s.worth) ∙ ap (λ q. Some (var v q)) n)

-- So many from the front are the integers that are spelled.
pub spelled_first : (us b : List ℕ) → SpellAll b us → first_integers (length us) b ≡ us
unfolding first_integers
spelled_first [] b s = refl
spelled_first (v ∷ vs) b s =
    let var : Var = record { value = v; end = length s.0 } in
    let rest : drop (length s.0) (s.0 ++ s.1) ≡ s.1 = drop_at s.0 s.1 (length s.0) refl in
    ap (first_integers (suc (length vs))) s.2
    ∙ (ap (λ o. option_map_or (λ (w : Var). w.value ∷ first_integers (length vs) (drop w.end (s.0 ++ s.1))) o []) (front_is s.0 s.1 v s.3)
    ∙ ap (λ z. v ∷ z) (ap (first_integers (length vs)) rest ∙ spelled_first vs s.1 s.4))

-- The integers are determined by where they end.
pub record ReadsAll (n : ℕ) (x : List ℕ) (end at to : ℕ) : Type 0 where
  pub order : at ≤ to
  pub spelled : SpellAll (slice_range x at to) (first_integers n (slice_range x at to))
  pub count : length (first_integers n (slice_range x at to)) ≡ n
  pub gives : run (times n integer) x end at ≡ Ok (record { value = first_integers n (slice_range x at to); place = to })

module _ (n : ℕ) (x : List ℕ) (end at : ℕ) (order : at ≤ end) (within : end ≤ length x) where
  of_exact : (us : List ℕ) (to : ℕ) → at ≤ to → Exactly (times n integer) (slice_range x at to) us → run (times n integer) x end at ≡ Ok (record { value = us; place = to }) → ReadsAll n x end at to
  of_exact us to o e r =
      let b = slice_range x at to in
      let s = times_spelled n b us e in
      let same : us ≡ first_integers n b = sym (spelled_first us b s.0) ∙ ap (λ m. first_integers m b) s.1 in
      let got : List ℕ → Answer (List ℕ) = λ zs. Ok (record { value = zs; place = to }) in
      record { order = o; spelled = subst (SpellAll b) same s.0; count = ap length (sym same) ∙ s.1; gives = r ∙ ap got same }

  of_answer : (r : Answer (List ℕ)) (to : ℕ) → run (times n integer) x end at ≡ r → ReadsOrFails (times n integer) x end at r → end_or_flaw r ≡ Ok to → ReadsAll n x end at to
  of_answer (Err w) to e s h = cc
  of_answer (Ok g) to e s h =
      let place : g.place ≡ to = cc in
      let i = reads_exact (times n integer) x end at g.value g.place within order (times_free n integer (λ v s. tt)) s in
      subst (λ q. ReadsAll n x end at q) place (of_exact g.value g.place i.order i.exact e)

  pub read_all : (to : ℕ) → end_or_flaw (run (times n integer) x end at) ≡ Ok to → ReadsAll n x end at to
  read_all to h = of_answer (run (times n integer) x end at) to refl (run_reads_or_fails (times n integer) x end at order within) h

  of_fault : (r : Answer (List ℕ)) (e : Flaw) → end_or_flaw r ≡ Err e → r ≡ Err e
  of_fault (Ok g) e h = cc
  of_fault (Err w) e h = cc

  pub read_fault : (e : Flaw) → end_or_flaw (run (times n integer) x end at) ≡ Err e → run (times n integer) x end at ≡ Err e
  read_fault e h = of_fault (run (times n integer) x end at) e h
