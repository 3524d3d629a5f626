-- The words of a line in UTF-8, and what they say.
use Rattle.std.specs.Prelude.{◌≡◌, ℕ, ◌+◌, ◌^◌, ◌<◌, ◌==◌, nat_lt, Bool, true, false, List, [], ◌∷◌, ◌++◌, length, drop, Option, Some, None, option_and_then, option_map, if◌then◌else◌}
use Rattle.std.specs.List.{AllByRecursion, onto_first}
use Rattle.std.specs.Str.{IsUtf8, chars}
use Rattle.std.proofs.Common.{ap, append-nil, arith, get_or, length-append, refl, subst, sym, ◌∙◌}
use Rattle.std.proofs.Math.Seq.{drop-append_seam, get_or-append_seam, take-append_seam}
use Rattle.std.proofs.Math.Utf8.{encodes}
use Rattle.std.proofs.lemmas.Bool.{eqb-true}
use Rattle.std.proofs.lemmas.Bool.Decides.{nat_tests}
use Rattle.std.proofs.lemmas.List.{append_assoc}
use Rattle.std.proofs.lemmas.List.Splits.{slice_split-cons_no, slice_split-cons_yes}
use Rattle.std.proofs.lemmas.Str.{IsCharBoundary-after_ascii, IsCharBoundary-before_ascii, IsUtf8-drop, IsUtf8-take, encodes-chars}
use Rattle.jfr_base.specs.Decimal.{below, decimal_number}
use Rattle.jfr_meta.specs.Attributes.{id_of, not_empty}
use Rattle.jfr_build.specs.LeafWords.{digits_of, number_of}
use Rattle.jfr_build.specs.Lines.{at_end, name_of, with_word}
use Rattle.jfr_build.specs.Pieces.{pieces, words_of}
use Rattle.jfr_build.proofs.GoodClasses.{IsName}

-- The first piece, with what came before it, and the pieces after it are UTF-8.
abbrev AreUtf8 : List ℕ → List (List ℕ) → Type 0
AreUtf8 before [] = ⊥
AreUtf8 before (p ∷ ps) = IsUtf8 (before ++ p) × AllByRecursion IsUtf8 ps

with_byte : (before : List ℕ) (b : ℕ) (ps : List (List ℕ)) → AreUtf8 (before ++ b ∷ []) ps → AreUtf8 before (onto_first b ps)
with_byte before b [] h = absurd h
with_byte before b (p ∷ ps) h = (subst IsUtf8 (append_assoc before (b ∷ []) p) h.0, h.1)

each_utf8 : (ps : List (List ℕ)) → AreUtf8 [] ps → AllByRecursion IsUtf8 ps
each_utf8 [] h = absurd h
each_utf8 (p ∷ ps) h = h

-- Cut at an ASCII byte, both parts are UTF-8.
two_utf8 : (before : List ℕ) (b : ℕ) (bs : List ℕ) → b < 128 → IsUtf8 (before ++ b ∷ bs) → IsUtf8 before × IsUtf8 bs
two_utf8 before b bs h u =
    let all : List ℕ = before ++ b ∷ bs in
    let n : ℕ = length before in
    let l : n < length all = omega (arith, length-append before (b ∷ bs)) in
    let at : get_or all n 0 ≡ b = get_or-append_seam before b bs 0 in
    let a : get_or all n 0 < 128 = omega arith in
    let m : length (before ++ b ∷ []) ≡ n + 1 = length-append before (b ∷ []) in
    let e : drop (n + 1) all ≡ bs = ap (λ z. drop z all) (sym m) ∙ (ap (drop (length (before ++ b ∷ []))) (sym (append_assoc before (b ∷ []) bs)) ∙ drop-append_seam (before ++ b ∷ []) bs) in
    (subst IsUtf8 (take-append_seam before (b ∷ bs)) (IsUtf8-take all n u (IsCharBoundary-before_ascii all n l a)), subst IsUtf8 e (IsUtf8-drop all (n + 1) u (IsCharBoundary-after_ascii all n u l a)))

pieces_utf8 : (mark : ℕ) → mark < 128 → (before bytes : List ℕ) → IsUtf8 (before ++ bytes) → AreUtf8 before (pieces mark bytes)
pieces_utf8 mark m before [] u = (u, tt)
pieces_utf8 mark m before (b ∷ bs) u = by_test (b == mark) refl (pieces_utf8 mark m [] bs) (pieces_utf8 mark m (before ++ b ∷ []) bs)
  where
    by_test : (t : Bool) → (b == mark) ≡ t → (IsUtf8 bs → AreUtf8 [] (pieces mark bs)) → (IsUtf8 ((before ++ b ∷ []) ++ bs) → AreUtf8 (before ++ b ∷ []) (pieces mark bs))
        → AreUtf8 before (pieces mark (b ∷ bs))
    by_test true e f g =
        let q : b ≡ mark = eqb-true b mark e in
        let p = two_utf8 before b bs (omega arith) u in
        subst (AreUtf8 before) (sym (slice_split-cons_yes (λ b. b == mark) b bs e)) (subst IsUtf8 (sym (append-nil before)) p.0, each_utf8 (pieces mark bs) (f p.1))
    by_test false e f g = subst (AreUtf8 before) (sym (slice_split-cons_no (λ b. b == mark) b bs e)) (with_byte before b (pieces mark bs) (g (subst IsUtf8 (sym (append_assoc before (b ∷ []) bs)) u)))

pub words_utf8 : (bytes : List ℕ) → IsUtf8 bytes → AllByRecursion IsUtf8 (words_of bytes)
words_utf8 bytes u = each_utf8 (words_of bytes) (pieces_utf8 32 (omega arith) [] bytes u)

-- What a word says.
pub small : (word : List ℕ) (id : ℕ) → id_of word ≡ Some id → id < 2 ^ 63
unfolding id_of
small word id e = by_number (decimal_number word) e
  where
    by_test : (n : ℕ) (t : Bool) → nat_lt n (2 ^ 63) ≡ t → (if t then Some n else None) ≡ Some id → id < 2 ^ 63
    by_test n true q e =
        let v : n ≡ id = cc in
        let l : n < 9223372036854775808 = grind (arith, nat_tests) in
        omega arith
    by_test n false q e = cc

    by_number : (o : Option ℕ) → option_and_then (below (2 ^ 63)) o ≡ Some id → id < 2 ^ 63
    by_number (Some n) e = by_test n (nat_lt n (2 ^ 63)) refl e
    by_number None e = cc

pub named : (word name : List ℕ) → IsUtf8 word → name_of word ≡ Some name → IsName name
named [] name u e = cc
named (b ∷ bs) name u e =
    let q : chars (b ∷ bs) ≡ name = cc in
    subst IsName q (record { text = (b ∷ bs, u, refl); some = by_chars (chars (b ∷ bs)) refl })
  where
    by_chars : (cs : List ℕ) → chars (b ∷ bs) ≡ cs → not_empty cs ≡ Some cs
    by_chars [] e = let z : b ∷ bs ≡ [] = sym (encodes-chars (b ∷ bs) u) ∙ ap encodes e in cc
    by_chars (c ∷ cs) e = refl

-- If a line is said, its first word says something, and so do the words after it.
pub record Said {A B : Type 0} (says : List ℕ → Option A) (next : A → List (List ℕ) → Option B) (ws : List (List ℕ)) (b : B) : Type 0 where
  pub word : List ℕ
  pub rest : List (List ℕ)
  pub value : A
  pub parts : ws ≡ word ∷ rest
  pub first : says word ≡ Some value
  pub after : next value rest ≡ Some b

pub said : {A B : Type 0} (says : List ℕ → Option A) (next : A → List (List ℕ) → Option B) (ws : List (List ℕ)) (b : B) → with_word says next ws ≡ Some b → Said says next ws b
said says next [] b e = cc
said {A = A} {B = B} says next (w ∷ ws) b e = by_value (says w) refl e
  where
    by_value : (o : Option A) → says w ≡ o → option_and_then (λ a. next a ws) o ≡ Some b → Said says next (w ∷ ws) b
    by_value None q e = cc
    by_value (Some a) q e = record { word = w; rest = ws; value = a; parts = refl; first = q; after = e }

pub ended : {A : Type 0} (a b : A) (ws : List (List ℕ)) → at_end a ws ≡ Some b → a ≡ b
ended a b [] e = cc
ended a b (w ∷ ws) e = cc

-- A number is spelled as its word.
pub as_spelled : (word number : List ℕ) → number_of word ≡ Some number → word ≡ number
as_spelled word number e = by_value (decimal_number (digits_of word)) e
  where
    by_value : (o : Option ℕ) → option_map (λ (n : ℕ). word) o ≡ Some number → word ≡ number
    by_value None e = cc
    by_value (Some n) e = cc
