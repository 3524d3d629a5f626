-- Numbers for the names of fields.
use Rattle.std.proofs.Common.{◌≡◌, ℕ, List, [], ◌∷◌, ◌++◌, Some, None, Bool, true, false, cond, sym, ◌∙◌, ap, refl}
use Rattle.std.specs.List.{AllZip}
use Rattle.std.specs.BTreeMap as tree
use Rattle.std.specs.BTreeMap.{BTreeMap, is_at}
use Rattle.std.specs.Borrow.{Bor}
use Rattle.std.specs.Cmp.{Equal-is}
use Rattle.std.specs.Cmp.Lexicographic.{slice_cmp}
use Rattle.std.specs.Map.{lookup}
use Rattle.std.specs.Ordering.{nat_cmp}
use Rattle.std.specs.Str.{chars, encode_utf8_all, IsUtf8}
use Rattle.std.proofs.lemmas.Map.Lookups.{exact_unsigned}
use Rattle.jfr_layout.specs.Classes.{Field}
use Rattle.jfr_layout.specs.Names.{AreNumbered}
use Rattle.jfr_layout.proofs.Lists.{zip_push}
use Rattle.jfr_layout.proofs.Numbered.{number_added, number_each, number_found, number_kept, zip_weaken}
use Rattle.jfr_meta.specs.declared.names.NameNumbers.{NameNumbers}
use Rattle.jfr_meta.specs.Attributes.{text_at}
use Rattle.jfr_meta.specs.Names.{AreNumbers, Grow, number_of}

-- The numbers with these by text, and with these by index.
abbrev with_texts : NameNumbers → BTreeMap (Bor (List ℕ)) ℕ → NameNumbers
with_texts m by_text = record { by_index = m.by_index; by_text = by_text }

abbrev pub with_indices : NameNumbers → BTreeMap ℕ ℕ → NameNumbers
with_indices m by_index = record { by_index = by_index; by_text = m.by_text }

module _ (texts : List (List ℕ)) where
  -- Numbers that stay.
  pub grow_same : (m : NameNumbers) → AreNumbers texts m → Grow texts m m
  grow_same m a = record { numbers = a; kept = λ name n e. e }

  pub grow_more : (m n o : NameNumbers) → Grow texts m n → Grow texts n o → Grow texts m o
  grow_more m n o g h = record { numbers = h.numbers; kept = λ name k e. h.kept name k (g.kept name k e) }

  -- No numbers.
  pub no_numbers : (m : NameNumbers) → tree.IsEmpty m.by_index → tree.IsEmpty m.by_text → AreNumbers texts m
  no_numbers m e f = record {
    text = λ name n g. (let clash : None ≡ Some n = sym (ap (lookup (is_at (λ (k : Bor (List ℕ)). slice_cmp nat_cmp (encode_utf8_all name) k.now))) f) ∙ g in cc);
    index = λ i n g. (let clash : None ≡ Some n = sym (ap (lookup (is_at (nat_cmp i))) e) ∙ g in cc);
  }

  -- A text that has a number.
  pub text_found : (m : NameNumbers) (b : List ℕ) (i n : ℕ) → IsUtf8 b → chars b ≡ text_at texts i → Some n ≡ tree.get_by (λ k. slice_cmp nat_cmp b k.now) m.by_text
      → number_of m (text_at texts i) ≡ Some n
  text_found m b i n u is e = sym (number_found m.by_text b (text_at texts i) u is (Some n) e)

  module _ (m : NameNumbers) (b : List ℕ) (i : ℕ) (later : BTreeMap (Bor (List ℕ)) ℕ) (u : IsUtf8 b) (is : chars b ≡ text_at texts i) (none : None ≡ tree.get_by (λ k. slice_cmp nat_cmp b k.now) m.by_text)
      (up : tree.UpdatesBy (λ x y. slice_cmp nat_cmp x.now y.now) (λ k. slice_cmp nat_cmp b k.now) m.by_text later (Some i)) where
    -- A text that has none gets the index of its string.
    pub text_added : number_of (with_texts m later) (text_at texts i) ≡ Some i
    text_added = sym (number_added m.by_text b (text_at texts i) u is later i none up)

    pub grow_text : AreNumbers texts m → Grow texts m (with_texts m later)
    grow_text a = record {
      numbers = record {
        text = number_each m.by_text b (text_at texts i) u is later i none up (λ name n. text_at texts n ≡ name) a.text refl;
        index = λ j n e. number_kept m.by_text b (text_at texts i) u is later i none up (text_at texts j) n (a.index j n e);
      };
      kept = number_kept m.by_text b (text_at texts i) u is later i none up;
    }

  -- The number of a string is kept by its index.
  pub grow_index : (m : NameNumbers) (later : BTreeMap ℕ ℕ) (i n : ℕ) → AreNumbers texts m → number_of m (text_at texts i) ≡ Some n → tree.Updates nat_cmp m.by_index later i (Some n)
      → Grow texts m (with_indices m later)
  grow_index m later i n a e up = record {
    numbers = record { text = a.text; index = λ j k f. by_index j k (is_at (nat_cmp i) j) refl (sym (up.0 j) ∙ f) };
    kept = λ name k f. f;
  }
    where
      by_index : (j k : ℕ) (t : Bool) → is_at (nat_cmp i) j ≡ t → cond t (Some n) (tree.get nat_cmp m.by_index j) ≡ Some k → number_of m (text_at texts j) ≡ Some k
      by_index j k true q f = ap (λ z. number_of m (text_at texts z)) (sym (exact_unsigned i j ((Equal-is (nat_cmp i j)).0 q))) ∙ (e ∙ f)
      by_index j k false q f = a.index j k f

-- The fields have these numbers.
abbrev pub HaveNumbers : NameNumbers → List Field → List ℕ → Type 0
HaveNumbers m fs ns = AllZip (λ f n. number_of m f.name ≡ Some n) fs ns

-- One field more.
pub numbers_push : (texts : List (List ℕ)) (m later : NameNumbers) (fs : List Field) (ns : List ℕ) (f : Field) (n : ℕ) → HaveNumbers m fs ns → Grow texts m later → number_of later f.name ≡ Some n
    → HaveNumbers later (fs ++ f ∷ []) (ns ++ n ∷ [])
numbers_push texts m later fs ns f n h g e =
    zip_push (λ f n. number_of later f.name ≡ Some n) fs ns f n
    (zip_weaken (λ f n. number_of m f.name ≡ Some n) (λ f n. number_of later f.name ≡ Some n) (λ f n. g.kept f.name n) fs ns h) e

-- Fields that have numbers are numbered.
pub numbered : (texts : List (List ℕ)) (m : NameNumbers) (fs : List Field) (ns : List ℕ) → AreNumbers texts m → HaveNumbers m fs ns → AreNumbered fs ns
numbered texts m fs ns a h = record { number = number_of m; one_name = λ p q n e f. sym (a.text p n e) ∙ a.text q n f; each = h }
