-- Texts as keys: a map after a text is added, and which texts are the same.
use Rattle.std.specs.Prelude.{◌≡◌, ℕ, Bool, IsTrue, true, false, cond, List, Option, Some, IsUtf8}
use Rattle.std.specs.BTreeMap.{BTreeMap, UpdatesBy, is_at}
use Rattle.std.specs.Cmp.{eq_by_cmp_equiv}
use Rattle.std.specs.Cmp.Lexicographic.{slice_cmp, nat_list_cmp_total, nat_list_eq_equiv}
use Rattle.std.specs.Map.{KeepsOthers}
use Rattle.std.specs.Ordering.{is_eq, nat_cmp}
use Rattle.std.specs.Rc.{rc_str_bytes}
use Rattle.std.specs.Str.{bytes_eq, chars}
use Rattle.std.specs.declared.cmp.Ordering.{Ordering}
use Rattle.std.specs.declared.alloc.Global.{Global}
use Rattle.std.specs.declared.rc.RcStr.{RcStr}
use Rattle.std.proofs.Common.{ap, refl, sym, subst, ◌∙◌}
use Rattle.std.proofs.lemmas.Map.Text.{is_eq-slice_cmp}
use Rattle.std.proofs.lemmas.Slice.Eq.{bytes_eq-Decides}
use Rattle.std.proofs.lemmas.Str.{encodes-chars}
use lib.Utf8.{encodes}
use Rattle.jfr_mask.specs.Held.{number_under}
use Rattle.jfr_mask.proofs.NumberLaws.{eq_is, eq_self}

abbrev key_cmp : RcStr Global → RcStr Global → Ordering
key_cmp x y = slice_cmp nat_cmp (rc_str_bytes x) (rc_str_bytes y)

apart : (a b k : List ℕ) → bytes_eq a b ≡ false → is_eq (slice_cmp nat_cmp a k) ≡ true → is_eq (slice_cmp nat_cmp b k) ≡ false
apart a b k h e = is_eq-slice_cmp b k ∙ (nat_list_eq_equiv.symm b k ∙ (sym (nat_list_eq_equiv.congr a k b (sym (is_eq-slice_cmp a k) ∙ e)) ∙ h))

-- The number under each text after one text gets another number.
pub number_updated : (m n : BTreeMap (RcStr Global) ℕ) (key : RcStr Global) (v : ℕ) → UpdatesBy key_cmp (key_cmp key) m n (Some v)
    → (bytes : List ℕ) → number_under n bytes ≡ cond (bytes_eq (rc_str_bytes key) bytes) (Some v) (number_under m bytes)
unfolding KeepsOthers
number_updated m n key v u bytes = by_eq (bytes_eq (rc_str_bytes key) bytes) refl
  where
    by_eq : (b : Bool) → bytes_eq (rc_str_bytes key) bytes ≡ b → number_under n bytes ≡ cond b (Some v) (number_under m bytes)
    by_eq true e = subst (λ z. number_under n z ≡ Some v) (eq_is (rc_str_bytes key) bytes e) u.1
    by_eq false e = u.3 (is_at (λ k. slice_cmp nat_cmp bytes (rc_str_bytes k)))
        (λ x y. (eq_by_cmp_equiv nat_list_cmp_total).congr bytes (rc_str_bytes x) (rc_str_bytes y)) (λ k. apart (rc_str_bytes key) bytes (rc_str_bytes k) e)

-- Texts with the same characters have the same bytes.
pub chars_one : (a b : List ℕ) → IsUtf8 a → IsUtf8 b → chars a ≡ chars b → a ≡ b
chars_one a b u v e = sym (encodes-chars a u) ∙ (ap encodes e ∙ encodes-chars b v)

-- Texts with different bytes have different characters.
pub chars_apart : (a b : List ℕ) → IsUtf8 a → IsUtf8 b → bytes_eq (chars a) (chars b) ≡ bytes_eq a b
chars_apart a b u v = by_eq (bytes_eq (chars a) (chars b)) (bytes_eq a b) refl refl
  where
    by_eq : (p q : Bool) → bytes_eq (chars a) (chars b) ≡ p → bytes_eq a b ≡ q → p ≡ q
    by_eq true true e f = refl
    by_eq false false e f = refl
    by_eq true false e f = sym ((bytes_eq-Decides a b).1 (chars_one a b u v (eq_is (chars a) (chars b) e))) ∙ f
    by_eq false true e f = sym e ∙ (bytes_eq-Decides (chars a) (chars b)).1 (ap chars (eq_is a b f))

-- Whether a text that was got is the same as another.
pub same_chars : (got text : List ℕ) (o : Option (List ℕ)) (r : Bool) → IsUtf8 got → IsUtf8 text → Some (chars got) ≡ o → r ≡ bytes_eq got text
    → (IsTrue r → o ≡ Some (chars text)) × (o ≡ Some (chars text) → IsTrue r)
same_chars got text o r u v e is = (
  λ t. sym e ∙ ap (λ z. Some (chars z)) (eq_is got text (sym is ∙ t)),
  λ s. (let same : Some (chars got) ≡ Some (chars text) = e ∙ s in
      let equal : chars got ≡ chars text = cc in
      is ∙ (ap (λ z. bytes_eq z text) (chars_one got text u v equal) ∙ eq_self text)),
)
