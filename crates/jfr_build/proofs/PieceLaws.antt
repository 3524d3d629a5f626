-- The pieces of bytes, one after another.
use Rattle.std.specs.Prelude.{◌≡◌, ℕ, ◌+◌, ◌<◌, ◌≤◌, ◌==◌, nat_lt, Bool, true, false, List, [], ◌∷◌, length, take, drop, Option, Some, None, MatchOption, if◌then◌else◌}
use Rattle.std.specs.List.{after_first, count_by, position, position_or_len}
use Rattle.std.specs.Borrow.{Bor}
use Rattle.std.proofs.Common.{ap, arith, lit<, refl, subst, sym, ◌∙◌}
use Rattle.std.proofs.lemmas.List.{drop-drop}
use Rattle.std.proofs.lemmas.List.Splits.{length-slice_split, slice_split_first, slice_split_none}
use Rattle.std.proofs.lemmas.List.Sums.{count_by-le-length, fails_before_first}
use Rattle.std.proofs.lemmas.Str.Pattern.{IsSplitOnceResult, split_once_first}
use Rattle.jfr_build.specs.Pieces.{pieces}

-- The index of the first mark; the length if there is none.
abbrev first_mark : ℕ → List ℕ → ℕ
first_mark mark bytes = position_or_len (λ b. b == mark) bytes

-- Without a mark there is one piece.
one_piece : (mark : ℕ) (bytes : List ℕ) → length bytes ≤ first_mark mark bytes → pieces mark bytes ≡ bytes ∷ []
one_piece mark bytes none = slice_split_none (λ b. b == mark) bytes (λ k d l. fails_before_first (λ b. b == mark) bytes k d (omega (arith, none, l)))

-- The first line ends at this index; or there is only one line.
abbrev pub EndsLine : List ℕ → Option ℕ → Type 0
EndsLine text o = MatchOption o (pieces 10 text ≡ text ∷ []) (λ at. pieces 10 text ≡ take at text ∷ pieces 10 (drop 1 (drop at text)))

pub line_cut : (text : List ℕ) (o : Option ℕ) → o ≡ position (λ b. b == 10) text → EndsLine text o
line_cut text o e = by_test (nat_lt (first_mark 10 text) (length text)) refl e
  where
    by_test : (t : Bool) → nat_lt (first_mark 10 text) (length text) ≡ t → o ≡ (if t then Some (first_mark 10 text) else None) → EndsLine text o
    by_test true f q =
        let l : first_mark 10 text < length text = grind arith in
        subst (EndsLine text) (sym q) (slice_split_first (λ b. b == 10) text 0 l ∙ ap (λ z. take (first_mark 10 text) text ∷ pieces 10 z) (sym (drop-drop 1 (first_mark 10 text) text)))
    by_test false f q =
        let l : length text ≤ first_mark 10 text = grind arith in
        subst (EndsLine text) (sym q) (one_piece 10 text l)

-- The first word, which ends before the first space, if there is one.
pub words_cut : (bytes : List ℕ) (r : Option (Bor (List ℕ) × Bor (List ℕ))) → IsSplitOnceResult 32 bytes r
    → MatchOption r (pieces 32 bytes ≡ bytes ∷ []) (λ x. pieces 32 bytes ≡ x.0.now ∷ pieces 32 x.1.now)
words_cut bytes None h =
    let none : first_mark 32 bytes ≡ length bytes = split_once_first 32 bytes None h (lit< tt) in
    one_piece 32 bytes (omega (arith, none))
words_cut bytes (Some x) h =
    let p = split_once_first 32 bytes (Some x) h (lit< tt) in
    slice_split_first (λ b. b == 32) bytes 0 p.0 ∙ (ap (λ z. z ∷ pieces 32 (after_first (λ b. b == 32) bytes)) (sym p.1) ∙ ap (λ z. x.0.now ∷ pieces 32 z) (sym p.2))

-- There is a piece, and at most one more than there are bytes.
pub some_piece : (mark : ℕ) (bytes : List ℕ) → pieces mark bytes ≡ [] → ⊥
some_piece mark bytes e =
    let n : length (pieces mark bytes) ≡ count_by (λ b. b == mark) bytes + 1 = length-slice_split (λ b. b == mark) bytes in
    let none : length (pieces mark bytes) ≡ 0 = ap length e in
    omega (arith, n, none)

pub few_pieces : (mark : ℕ) (bytes : List ℕ) → length (pieces mark bytes) ≤ length bytes + 1
few_pieces mark bytes =
    let n : length (pieces mark bytes) ≡ count_by (λ b. b == mark) bytes + 1 = length-slice_split (λ b. b == mark) bytes in
    let most : count_by (λ b. b == mark) bytes ≤ length bytes = count_by-le-length (λ b. b == mark) bytes in
    omega (arith, n, most)
