-- The lines of a table, appended one after another.
use Rattle.std.specs.Prelude.{◌≡◌, ℕ, zero, suc, ◌+◌, List, [], ◌∷◌, ◌++◌, drop, length, slice_get, take, Option, Some, None, Ok, Err}
use Rattle.std.proofs.Common.{ap, append_assoc, arith, refl, sym, ◌∙◌, subst}
use Rattle.std.proofs.lemmas.List.{map-append}
use Rattle.std.proofs.Math.Seq.{take-length}
use Rattle.jfr_outside.specs.World.{IfKnown, SinkState, State, World}
use Rattle.jfr_header.specs.declared.ending.Ending.{Ending}
use Rattle.jfr_header.specs.declared.ending.Ending.TheVariants.{Memory}
use Rattle.jfr_plan.specs.Effects.{Append}
use Rattle.jfr_plan.specs.Rules.{Goes}
use Rattle.jfr_plan.specs.Parts.{IsPlaceAfter, PartWorld, PlaceCounts}
use Rattle.jfr_plan.proofs.Leaving.{counts_then, leaves_more, leaves_none, leaves_then}
use Rattle.jfr_mask.specs.Recordings.{table_line, table_lines}
use Rattle.jfr_mask.proofs.MaskedFile.{appends}

-- A text's line comes after those of the texts before it, and before the others.
pub record IsLine (n : ℕ) (d : List (List ℕ)) (at : ℕ) (t : List ℕ) : Type 0 where
  pub next : take (suc at) (table_lines n d) ≡ take at (table_lines n d) ++ table_line (at + n) t ∷ []
  pub whole : table_lines n d ≡ take at (table_lines n d) ++ table_line (at + n) t ∷ drop (suc at) (table_lines n d)

pub line_at : (n : ℕ) (d : List (List ℕ)) (at : ℕ) (t : List ℕ) → slice_get d at ≡ Some t → IsLine n d at t
line_at n [] at t e = cc
line_at n (x ∷ d) zero t e =
    let same : x ≡ t = cc in
    let number : n ≡ 0 + n = omega arith in
    record {
      next = ap (λ z. table_line n z ∷ []) same ∙ ap (λ k. table_line k t ∷ []) number;
      whole = ap (λ z. table_line n z ∷ table_lines (n + 1) d) same ∙ ap (λ k. table_line k t ∷ table_lines (n + 1) d) number;
    }
line_at n (x ∷ d) (suc at) t e =
    let rest = line_at (n + 1) d at t e in
    let number : at + (n + 1) ≡ suc at + n = omega arith in
    record {
      next = ap (λ z. table_line n x ∷ z) (rest.next ∙ ap (λ k. take at (table_lines (n + 1) d) ++ table_line k t ∷ []) number);
      whole = ap (λ z. table_line n x ∷ z) (rest.whole ∙ ap (λ k. take at (table_lines (n + 1) d) ++ table_line k t ∷ drop (suc at) (table_lines (n + 1) d)) number);
    }

pub split_at : (at : ℕ) (xs : List (List ℕ)) → xs ≡ take at xs ++ drop at xs
split_at zero xs = refl
split_at (suc at) [] = refl
split_at (suc at) (x ∷ xs) = ap (λ z. x ∷ z) (split_at at xs)

lines_length : (n : ℕ) (d : List (List ℕ)) → length (table_lines n d) ≡ length d
lines_length n [] = refl
lines_length n (x ∷ d) = ap suc (lines_length (n + 1) d)

pub all_lines : (n : ℕ) (d : List (List ℕ)) → take (length d) (table_lines n d) ≡ table_lines n d
all_lines n d = ap (λ k. take k (table_lines n d)) (sym (lines_length n d)) ∙ take-length (table_lines n d)

-- These lines are appended.
pub record LinesDone (lines : List (List ℕ)) (x y : State) : Type 0 where
  pub leaves : IsPlaceAfter (appends lines) (Ok tt) x y
  pub counts : PlaceCounts (Ok tt) x y

pub no_lines : (x : State) → LinesDone [] x x
no_lines x = record { leaves = λ sink. nothing x.contents sink; counts = λ sink. (refl, refl, refl, refl) }
  where
    nothing : (o : Option World) (sink : SinkState) → IfKnown o o (PartWorld x.steady (Goes []) (Ok tt) sink.written sink.written)
    nothing None sink = tt
    nothing (Some w) sink = (refl, (refl, refl))

-- One more is.
appends_next : (lines : List (List ℕ)) (line : List ℕ) → appends (lines ++ line ∷ []) ≡ appends lines ++ Append line ∷ []
appends_next lines line = map-append (λ b. Append b) lines (line ∷ [])

pub one_more : (lines : List (List ℕ)) (line : List ℕ) (o : Unit {0}) (x y z : State) → LinesDone lines x y → IsPlaceAfter (Append line ∷ []) (Ok o) y z → PlaceCounts (Ok o) y z
    → LinesDone (lines ++ line ∷ []) x z
one_more lines line o x y z h l c = record {
  leaves = subst (λ es. IsPlaceAfter es (Ok tt) x z) (sym (appends_next lines line)) (leaves_then (appends lines) (Append line ∷ []) tt (Ok tt) x y z h.counts h.leaves l);
  counts = counts_then tt (Ok tt) x y z h.counts c;
}

-- One more failed, of all lines.
pub one_failed : (lines rest all : List (List ℕ)) (line : List ℕ) (e : Ending) (x y z : State) → all ≡ lines ++ line ∷ rest → LinesDone lines x y → IsPlaceAfter (Append line ∷ []) (Err e) y z
    → IsPlaceAfter (appends all) (Err e) x z
one_failed lines rest all line e x y z is h l =
    subst (λ es. IsPlaceAfter es (Err e) x z) (sym (ap appends is ∙ split))
    (leaves_more (appends lines ++ Append line ∷ []) (appends rest) e x z (leaves_then (appends lines) (Append line ∷ []) tt (Err e) x y z h.counts h.leaves l))
  where
    split : appends (lines ++ line ∷ rest) ≡ (appends lines ++ Append line ∷ []) ++ appends rest
    split = map-append (λ b. Append b) lines (line ∷ rest) ∙ sym (append_assoc (appends lines) (Append line ∷ []) (appends rest))

-- Memory ran out before one more.
pub none_left : (lines rest all : List (List ℕ)) (x y : State) → all ≡ lines ++ rest → LinesDone lines x y → IsPlaceAfter (appends all) (Err Memory) x y
none_left lines rest all x y is h =
    subst (λ es. IsPlaceAfter es (Err Memory) x y) (sym (ap appends is ∙ map-append (λ b. Append b) lines rest)) (leaves_none (appends lines) (appends rest) tt x y h.leaves)
