-- Texts that lie one after another: each is found where it lies, and one more can be added.
use Rattle.std.specs.Prelude.{◌≡◌, ℕ, zero, suc, ◌+◌, ◌-◌, ◌<◌, ◌≤◌, ◌⊎◌, List, [], ◌∷◌, ◌++◌, Option, Some, None, IfSome, IsUtf8, MatchOption, drop, length, map, option_map, slice_get, slice_index, slice_range, take}
use Rattle.std.specs.Borrow.{Bor}
use Rattle.std.specs.List.{AllByRecursion}
use Rattle.std.specs.Str.{chars}
use Rattle.std.proofs.Common.{ap, arith, inl, inr, refl, sym, subst, ◌∙◌, append_assoc, append-nil}
use Rattle.std.proofs.Math.Seq.{drop-append-add, drop-append_seam, take-append_seam}
use Rattle.std.proofs.lemmas.List.{length-append, length-map, map-append}
use Rattle.std.proofs.lemmas.Option.{slice_get-map, slice_get_past}
use Rattle.jfr_mask.specs.Pieces.{AreLaid, chars_in, ends_of, joined, pieces, start_at}

-- Texts that were laid one after another are cut as they were.
pieces_of : (from : ℕ) (texts : List (List ℕ)) → pieces from (ends_of from texts) (joined texts) ≡ texts
pieces_of from [] = refl
pieces_of from (t ∷ ts) =
    let end : ℕ = from + length t in
    let len : end - from ≡ length t = omega arith in
    subst (λ k. take k (t ++ joined ts) ∷ pieces (from + length t) (ends_of (from + length t) ts) (drop k (t ++ joined ts)) ≡ t ∷ ts) (sym len)
    (ap (λ z. z ∷ pieces (from + length t) (ends_of (from + length t) ts) (drop (length t) (t ++ joined ts))) (take-append_seam t (joined ts))
    ∙ (ap (λ z. t ∷ pieces (from + length t) (ends_of (from + length t) ts) z) (drop-append_seam t (joined ts)) ∙ ap (λ z. t ∷ z) (pieces_of (from + length t) ts)))

pub pieces_laid : (texts : List (List ℕ)) (ends bytes : List ℕ) → AreLaid texts ends bytes → pieces 0 ends bytes ≡ texts
pieces_laid texts ends bytes a = ap (λ z. pieces 0 z bytes) a.ended ∙ (ap (pieces 0 (ends_of 0 texts)) a.filled ∙ pieces_of 0 texts)

joined_added : (ts : List (List ℕ)) (t : List ℕ) → joined (ts ++ t ∷ []) ≡ joined ts ++ t
joined_added [] t = append-nil t
joined_added (u ∷ us) t = ap (λ z. u ++ z) (joined_added us t) ∙ sym (append_assoc u (joined us) t)

ends_added : (from : ℕ) (ts : List (List ℕ)) (t : List ℕ) → ends_of from (ts ++ t ∷ []) ≡ ends_of from ts ++ (from + length (joined ts ++ t)) ∷ []
ends_added from [] t = refl
ends_added from (u ∷ us) t = ap (λ z. (from + length u) ∷ z) (ends_added (from + length u) us t ∙ ap (λ n. ends_of (from + length u) us ++ n ∷ []) more)
  where
    more : from + length u + length (joined us ++ t) ≡ from + length ((u ++ joined us) ++ t)
    more = let e : length ((u ++ joined us) ++ t) ≡ length u + length (joined us ++ t) = ap length (append_assoc u (joined us) t) ∙ length-append u (joined us ++ t) in omega arith

utf8_added : (ts : List (List ℕ)) (t : List ℕ) → AllByRecursion IsUtf8 ts → IsUtf8 t → AllByRecursion IsUtf8 (ts ++ t ∷ [])
utf8_added [] t a u = (u, tt)
utf8_added (x ∷ xs) t a u = (a.0, utf8_added xs t a.1 u)

laid_added : (ts : List (List ℕ)) (ends bytes t : List ℕ) → AreLaid ts ends bytes → IsUtf8 t → AreLaid (ts ++ t ∷ []) (ends ++ length (bytes ++ t) ∷ []) (bytes ++ t)
laid_added ts ends bytes t a u = record {
  filled = ap (λ z. z ++ t) a.filled ∙ sym (joined_added ts t);
  ended = ap (λ z. z ++ length (bytes ++ t) ∷ []) a.ended ∙ (ap (λ z. ends_of 0 ts ++ length (z ++ t) ∷ []) a.filled
      ∙ (ap (λ n. ends_of 0 ts ++ n ∷ []) len ∙ sym (ends_added 0 ts t)));
  utf8 = utf8_added ts t a.utf8 u;
}
  where
    len : length (joined ts ++ t) ≡ 0 + length (joined ts ++ t)
    len = omega arith

pub pieces_added : (ends bytes t : List ℕ) → AreLaid (pieces 0 ends bytes) ends bytes → IsUtf8 t → pieces 0 (ends ++ length (bytes ++ t) ∷ []) (bytes ++ t) ≡ pieces 0 ends bytes ++ t ∷ []
pieces_added ends bytes t a u = pieces_laid (pieces 0 ends bytes ++ t ∷ []) (ends ++ length (bytes ++ t) ∷ []) (bytes ++ t) (laid_added (pieces 0 ends bytes) ends bytes t a u)

pub push_laid : (ends bytes t : List ℕ) → AreLaid (pieces 0 ends bytes) ends bytes → IsUtf8 t
    → AreLaid (pieces 0 (ends ++ length (bytes ++ t) ∷ []) (bytes ++ t)) (ends ++ length (bytes ++ t) ∷ []) (bytes ++ t)
push_laid ends bytes t a u = subst (λ z. AreLaid z (ends ++ length (bytes ++ t) ∷ []) (bytes ++ t)) (sym (pieces_added ends bytes t a u)) (laid_added (pieces 0 ends bytes) ends bytes t a u)

pub push_chars : (ends bytes t : List ℕ) → AreLaid (pieces 0 ends bytes) ends bytes → IsUtf8 t
    → map chars (pieces 0 (ends ++ length (bytes ++ t) ∷ []) (bytes ++ t)) ≡ map chars (pieces 0 ends bytes) ++ chars t ∷ []
push_chars ends bytes t a u = ap (map chars) (pieces_added ends bytes t a u) ∙ map-append chars (pieces 0 ends bytes) (t ∷ [])

-- Where the text with an index lies.
pub record LiesAt (from : ℕ) (texts : List (List ℕ)) (start end at : ℕ) : Type 0 where
  pub after : from ≤ start
  pub ordered : start ≤ end
  pub within : end ≤ from + length (joined texts)
  pub is : slice_get texts at ≡ Some (take (end - start) (drop (start - from) (joined texts)))

start_same : (from : ℕ) (ends : List ℕ) (at : ℕ) → start_at from ends at ≡ slice_index (from ∷ ends) at
start_same from ends zero = refl
start_same from ends (suc at) = refl

lies_after : (t : List ℕ) (ts : List (List ℕ)) (from start end at : ℕ) → LiesAt (from + length t) ts start end at → LiesAt from (t ∷ ts) start end (suc at)
lies_after t ts from start end at r =
    let whole : length (t ++ joined ts) ≡ length t + length (joined ts) = length-append t (joined ts) in
    let later : from + length t ≤ start = r.after in
    let inside : end ≤ from + length t + length (joined ts) = r.within in
    let skip : start - from ≡ length t + (start - (from + length t)) = omega arith in
    record {
      after = omega arith;
      ordered = r.ordered;
      within = omega arith;
      is = r.is ∙ ap (λ z. Some (take (end - start) z)) (sym (ap (λ n. drop n (t ++ joined ts)) skip ∙ drop-append-add t (joined ts) (start - (from + length t))));
    }

lies : (ts : List (List ℕ)) (from at end : ℕ) → slice_get (ends_of from ts) at ≡ Some end → LiesAt from ts (start_at from (ends_of from ts) at) end at
lies [] from at end e = cc
lies (t ∷ ts) from zero end e =
    let is : from + length t ≡ end = cc in
    let none : from - from ≡ 0 = omega arith in
    let len : end - from ≡ length t = omega arith in
    let whole : length (t ++ joined ts) ≡ length t + length (joined ts) = length-append t (joined ts) in
    record {
      after = omega arith;
      ordered = omega arith;
      within = omega arith;
      is = ap Some (sym (ap (λ n. take (end - from) (drop n (t ++ joined ts))) none ∙ (ap (λ n. take n (t ++ joined ts)) len ∙ take-append_seam t (joined ts))));
    }
lies (t ∷ ts) from (suc at) end e = subst (λ s. LiesAt from (t ∷ ts) s end (suc at)) (start_same (from + length t) (ends_of (from + length t) ts) at)
    (lies_after t ts from (start_at (from + length t) (ends_of (from + length t) ts) at) end at (lies ts (from + length t) at end e))

-- What lies there, if a text ends there.
pub lies_there : (ts : List (List ℕ)) (ends bytes : List ℕ) (at end : ℕ) → AreLaid ts ends bytes → slice_get ends at ≡ Some end
    → (start_at 0 ends at ≤ end) × (end ≤ length bytes) × (slice_get ts at ≡ Some (take (end - start_at 0 ends at) (drop (start_at 0 ends at) bytes)))
lies_there ts ends bytes at end a e =
    let start : ℕ = start_at 0 ends at in
    let r : LiesAt 0 ts (start_at 0 ends at) end at =
    subst (λ z. LiesAt 0 ts (start_at 0 z at) end at) (sym a.ended) (lies ts 0 at end (ap (λ z. slice_get z at) (sym a.ended) ∙ e)) in
    let inside : end ≤ 0 + length (joined ts) = r.within in
    let len : length bytes ≡ length (joined ts) = ap length a.filled in
    let none : start_at 0 ends at - 0 ≡ start_at 0 ends at = omega arith in
    (r.ordered, omega arith, r.is ∙ ap (λ z. Some (take (end - start_at 0 ends at) z)) (ap (λ n. drop n (joined ts)) none ∙ ap (drop (start_at 0 ends at)) (sym a.filled)))

-- There are as many ends as texts.
length-ends : (from : ℕ) (ts : List (List ℕ)) → length (ends_of from ts) ≡ length ts
length-ends from [] = refl
length-ends from (t ∷ ts) = ap suc (length-ends (from + length t) ts)

pub length-laid : (ts : List (List ℕ)) (ends bytes : List ℕ) → AreLaid ts ends bytes → length ends ≡ length ts
length-laid ts ends bytes a = ap length a.ended ∙ length-ends 0 ts

-- A text at an index is UTF-8.
pub utf8_at : (ts : List (List ℕ)) (at : ℕ) (t : List ℕ) → AllByRecursion IsUtf8 ts → slice_get ts at ≡ Some t → IsUtf8 t
utf8_at [] at t a e = cc
utf8_at (x ∷ xs) zero t a e = let is : x ≡ t = cc in subst IsUtf8 is a.0
utf8_at (x ∷ xs) (suc at) t a e = utf8_at xs at t a.1 e

-- The text that is got from where it lies.
module _ (ts : List (List ℕ)) (ends bytes : List ℕ) (at start end : ℕ) (laid : AreLaid ts ends bytes) (e : slice_get ends at ≡ Some end) (s : start ≡ start_at 0 ends at) where
  piece_is : (start ≤ end) × (end ≤ length bytes) × (slice_get ts at ≡ Some (slice_range bytes start end))
  piece_is = subst (λ z. (z ≤ end) × (end ≤ length bytes) × (slice_get ts at ≡ Some (take (end - z) (drop z bytes)))) (sym s) (lies_there ts ends bytes at end laid e)

  pub piece_got : (got : Option (Bor (List ℕ))) (now : List ℕ) → now ≡ bytes
      → MatchOption got ((end < start) ⊎ (length now < end)) (λ x. (start ≤ end) × (end ≤ length now) × (x.now ≡ slice_range now start end) × (length x.now + start ≡ end))
      → (chars_in got ≡ slice_get (map chars ts) at) × IfSome got (λ x. IsUtf8 x.now)
  piece_got None now n (inl h) = let o : start ≤ end = piece_is.0 in absurd (omega arith)
  piece_got None now n (inr h) =
      let o : end ≤ length bytes = piece_is.1 in
      let l : length now ≡ length bytes = ap length n in absurd (omega arith)
  piece_got (Some x) now n h =
      let is : x.now ≡ slice_range bytes start end = h.2 ∙ ap (λ z. slice_range z start end) n in
      let there : slice_get ts at ≡ Some x.now = piece_is.2 ∙ ap Some (sym is) in
      (sym (slice_get-map chars ts at ∙ ap (option_map chars) there), utf8_at ts at x.now laid.utf8 there)

-- Past the last text there is none.
pub no_piece : (ts : List (List ℕ)) (ends bytes : List ℕ) (at : ℕ) → AreLaid ts ends bytes → length ends ≤ at → None ≡ slice_get (map chars ts) at
no_piece ts ends bytes at laid past =
    let l : length ends ≡ length ts = length-laid ts ends bytes laid in
    let m : length (map chars ts) ≡ length ts = length-map ts chars in
    sym (slice_get_past (map chars ts) at (omega arith))

-- One more text: what its bytes and its end make of the others.
module _ (ends bytes t ends_after bytes_after : List ℕ) (old : AreLaid (pieces 0 ends bytes) ends bytes) (utf8 : IsUtf8 t) (b : bytes_after ≡ bytes ++ t) (e : ends_after ≡ ends ++ length bytes_after ∷ [])
  where
    whole : ends_after ≡ ends ++ length (bytes ++ t) ∷ []
    whole = e ∙ ap (λ z. ends ++ length z ∷ []) b

    pub laid_after : AreLaid (pieces 0 ends_after bytes_after) ends_after bytes_after
    laid_after = subst (λ z. AreLaid (pieces 0 z bytes_after) z bytes_after) (sym whole)
        (subst (λ z. AreLaid (pieces 0 (ends ++ length (bytes ++ t) ∷ []) z) (ends ++ length (bytes ++ t) ∷ []) z) (sym b) (push_laid ends bytes t old utf8))

    pub chars_after : map chars (pieces 0 ends_after bytes_after) ≡ map chars (pieces 0 ends bytes) ++ chars t ∷ []
    chars_after = ap (λ z. map chars (pieces 0 z bytes_after)) whole ∙ (ap (λ z. map chars (pieces 0 (ends ++ length (bytes ++ t) ∷ []) z)) b ∙ push_chars ends bytes t old utf8)
