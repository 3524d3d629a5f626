-- The known texts of a file, line by line.
use Rattle.std.specs.Prelude.{◌≡◌, ℕ, ◌||◌, ◌&&◌, not, Bool, true, false, List, [], ◌∷◌, ◌++◌, map, String, string_bytes, IsUtf8}
use Rattle.std.specs.BTreeSet.{BTreeSet, UpdatesBy}
use Rattle.std.specs.BTreeMap.{is_at}
use Rattle.std.specs.Cmp.Lexicographic.{slice_cmp, nat_list_eq_equiv}
use Rattle.std.specs.Ordering.{is_eq, nat_cmp}
use Rattle.std.specs.List.{list_any}
use Rattle.std.specs.Borrow.{Bor}
use Rattle.std.specs.Set.{KeepsOthers}
use Rattle.std.specs.Str.{bytes_eq, chars}
use Rattle.std.specs.String.{string_cmp}
use Rattle.std.specs.declared.alloc.Global.{Global}
use Rattle.std.proofs.Common.{ap, refl, sym, ◌∙◌}
use Rattle.std.proofs.lemmas.List.Folds.{list_any-append}
use Rattle.std.proofs.lemmas.Map.Text.{is_eq-slice_cmp}
use Rattle.std.proofs.lemmas.Str.{IsUtf8-string_bytes, chars_from_encodes}
use Rattle.std.specs.Str.Lossy.{utf8_lossy}
use Rattle.bstr.specs.Utf8.{lossy_chars}
use Rattle.bstr.proofs.lemmas.LossyLemmas.{lossy_chars-utf8_lossy}
use Rattle.jfr_mask.specs.Held.{texts_of}
use Rattle.jfr_mask.specs.Pseudonyms.{has_text, is_known, is_like_pseudonym}
use Rattle.jfr_mask.proofs.MapLaws.{chars_apart}
use Rattle.jfr_mask.proofs.NumberLaws.{eq_is}

pub or_first : (r a b : Bool) → r ≡ a → r ≡ true → r ≡ (a || b)
or_first r true b e f = e
or_first r false b e f = let z : true ≡ false = sym f ∙ e in cc

pub or_second : (p r a b : Bool) → p ≡ a → p ≡ false → r ≡ b → r ≡ (a || b)
or_second p r true b e f g = let z : false ≡ true = sym f ∙ e in cc
or_second p r false b e f g = g

flip : (a b : List ℕ) → bytes_eq a b ≡ bytes_eq b a
flip = nat_list_eq_equiv.symm

-- A set has a text, by its bytes or by its characters.
pub has_by_bytes : (keys : List (String Global)) (bytes : List ℕ) → IsUtf8 bytes
    → list_any (is_at (λ k. slice_cmp nat_cmp bytes (string_bytes k))) keys ≡ has_text (map (λ k. chars (string_bytes k)) keys) (chars bytes)
has_by_bytes [] bytes u = refl
has_by_bytes (k ∷ ks) bytes u =
    let one : is_eq (slice_cmp nat_cmp bytes (string_bytes k)) ≡ bytes_eq (chars (string_bytes k)) (chars bytes) =
    is_eq-slice_cmp bytes (string_bytes k) ∙ (flip bytes (string_bytes k) ∙ sym (chars_apart (string_bytes k) bytes (IsUtf8-string_bytes k) u)) in
    ap (λ b. b || list_any (is_at (λ k. slice_cmp nat_cmp bytes (string_bytes k))) ks) one
    ∙ ap (λ b. bytes_eq (chars (string_bytes k)) (chars bytes) || b) (has_by_bytes ks bytes u)

-- Lines one after another.
pub known_append : (xs ys : List (List ℕ)) (t : List ℕ) → is_known (xs ++ ys) t ≡ (is_known xs t || is_known ys t)
known_append xs ys t = ap (λ b. b && not (is_like_pseudonym t)) (list_any-append (λ u. bytes_eq u t) xs ys) ∙ by_cases (has_text xs t) (has_text ys t) (not (is_like_pseudonym t))
  where
    by_cases : (a b c : Bool) → ((a || b) && c) ≡ ((a && c) || (b && c))
    by_cases true b true = refl
    by_cases true true false = refl
    by_cases true false false = refl
    by_cases false b c = refl

or_true : (b : Bool) → (b || true) ≡ true
or_true true = refl
or_true false = refl

pub or_false : (b : Bool) → (b || false) ≡ b
or_false true = refl
or_false false = refl

-- A set after a text is added.
pub text_updated : (old new : BTreeSet (String Global)) (key : String Global) → UpdatesBy string_cmp (string_cmp key) old new true
    → (t : List ℕ) → has_text (texts_of new) t ≡ (has_text (texts_of old) t || bytes_eq (chars (string_bytes key)) t)
unfolding KeepsOthers
text_updated old new key u t = by_eq (bytes_eq (chars (string_bytes key)) t) refl
  where
    utf8 : (k : String Global) → IsUtf8 (string_bytes k)
    utf8 k = IsUtf8-string_bytes k

    keys_apart : (x y : String Global) → bytes_eq (chars (string_bytes x)) t ≡ true → bytes_eq (chars (string_bytes y)) t ≡ is_eq (string_cmp x y)
    keys_apart x y e =
        ap (bytes_eq (chars (string_bytes y))) (sym (eq_is (chars (string_bytes x)) t e))
        ∙ (chars_apart (string_bytes y) (string_bytes x) (utf8 y) (utf8 x) ∙ (flip (string_bytes y) (string_bytes x) ∙ sym (is_eq-slice_cmp (string_bytes x) (string_bytes y))))

    other : (k : String Global) → bytes_eq (chars (string_bytes key)) t ≡ false → is_eq (string_cmp key k) ≡ true → bytes_eq (chars (string_bytes k)) t ≡ false
    other k e same = ap (λ z. bytes_eq (chars z) t) (sym (eq_is (string_bytes key) (string_bytes k) (sym (is_eq-slice_cmp (string_bytes key) (string_bytes k)) ∙ same))) ∙ e

    by_eq : (b : Bool) → bytes_eq (chars (string_bytes key)) t ≡ b → has_text (texts_of new) t ≡ (has_text (texts_of old) t || b)
    by_eq true e =
        ap (has_text (texts_of new)) (sym (eq_is (chars (string_bytes key)) t e))
        ∙ (sym (has_by_bytes new.keys (string_bytes key) (utf8 key)) ∙ (u.1 ∙ sym (or_true (has_text (texts_of old) t))))
    by_eq false e = any_map new.keys ∙ (u.3 (λ k. bytes_eq (chars (string_bytes k)) t) keys_apart (λ k. other k e) ∙ (sym (any_map old.keys) ∙ sym (or_false (has_text (texts_of old) t))))
      where
        any_map : (keys : List (String Global)) → has_text (map (λ k. chars (string_bytes k)) keys) t ≡ list_any (λ k. bytes_eq (chars (string_bytes k)) t) keys
        any_map [] = refl
        any_map (k ∷ ks) = ap (λ b. bytes_eq (chars (string_bytes k)) t || b) (any_map ks)

-- What a line adds to the known texts.
pub line_known : (line t : List ℕ) → is_like_pseudonym line ≡ false → is_known (line ∷ []) t ≡ bytes_eq line t
line_known line t h = by_eq (bytes_eq line t) refl
  where
    by_eq : (b : Bool) → bytes_eq line t ≡ b → ((b || false) && not (is_like_pseudonym t)) ≡ b
    by_eq true e = ap (λ z. not (is_like_pseudonym z)) (sym (eq_is line t e)) ∙ ap not h
    by_eq false e = refl

pub line_unknown : (line t : List ℕ) → is_like_pseudonym line ≡ true → is_known (line ∷ []) t ≡ false
line_unknown line t h = by_eq (bytes_eq line t) refl
  where
    by_eq : (b : Bool) → bytes_eq line t ≡ b → ((b || false) && not (is_like_pseudonym t)) ≡ false
    by_eq true e = ap (λ z. not (is_like_pseudonym z)) (sym (eq_is line t e)) ∙ ap not h
    by_eq false e = refl

-- The characters of a line's text.
pub lossy_text : (text line : List ℕ) → IsUtf8 text → text ≡ utf8_lossy line → chars text ≡ lossy_chars line
lossy_text text line u e = sym (chars_from_encodes (lossy_chars line) text u (lossy_chars-utf8_lossy line ∙ sym e))

pub none_known : (keys : List (String Global)) (t : List ℕ) → keys ≡ [] → has_text (map (λ k. chars (string_bytes k)) keys) t ≡ false
none_known keys t e = ap (λ z. has_text (map (λ k. chars (string_bytes k)) z) t) e

pub map_now : (lines : List (Bor (List ℕ))) → map (λ line. lossy_chars line.now) lines ≡ map lossy_chars (map (λ line. line.now) lines)
map_now [] = refl
map_now (l ∷ ls) = ap (λ z. lossy_chars l.now ∷ z) (map_now ls)
