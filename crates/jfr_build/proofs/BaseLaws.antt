-- The bytes that a word spells are a value of its base name.
use Rattle.std.specs.Prelude.{◌≡◌, ℕ, zero, suc, ◌*◌, ◌==◌, ◌&&◌, Bool, true, false, List, [], ◌∷◌, length, Option, Some, None, option_map, if◌then◌else◌, codes}
use Rattle.std.specs.Str.{bytes_eq}
use Rattle.std.proofs.lemmas.Bool.Decides.{nat_tests}
use Rattle.std.proofs.Common.{ap, arith, refl, sym, ◌∙◌, subst}
use Rattle.jfr_base.specs.Integer.{spell, Spells}
use Rattle.jfr_base.proofs.Spelling.{spell_spells}
use Rattle.jfr_text.specs.Strings.{Content, Null, Key, IsString}
use Rattle.jfr_layout.specs.declared.kind.Kind.{Kind}
use Rattle.jfr_layout.specs.declared.kind.Kind.TheVariants as kinds
use Rattle.jfr_value.specs.declared.leaf.LeafKind.TheVariants as leaf_kinds
use Rattle.jfr_value.specs.Values.{IsBase}
use Rattle.jfr_value.specs.Leaves.{leaf_key}
use Rattle.jfr_value.proofs.LeafLaws.{string_key}
use Rattle.jfr_build.specs.LeafWords.{hex_byte, byte_before, hex_bytes, hex_of, truth_of, string_of, spelled_content, content_of, unquoted, id_after, base_of}

-- A mapped option comes from an option.
pub mapped : {A B : Type 0} (f : A → B) (o : Option A) (b : B) → option_map f o ≡ Some b → (a : A) × (o ≡ Some a) × (f a ≡ b)
mapped f None b e = cc
mapped f (Some a) b e = (a, refl, (let h : Some (f a) ≡ Some b = e in cc))

bytes_count : (n : ℕ) (cs b : List ℕ) → hex_bytes cs ≡ Some b → length cs ≡ 2 * n → length b ≡ n
bytes_count n [] b e l = let h : [] ≡ b = cc in let m : length b ≡ 0 = ap length (sym h) in omega (arith, l, m)
bytes_count n (c ∷ []) b e l = cc
bytes_count zero (c ∷ d ∷ cs) b e l = absurd (omega (arith, l))
bytes_count (suc n) (c ∷ d ∷ cs) b e l = by_byte (hex_byte c d) (hex_bytes cs) refl e (λ z q. bytes_count n cs z q (omega (arith, l)))
  where
    by_byte : (o : Option ℕ) (x : Option (List ℕ)) → hex_bytes cs ≡ x → byte_before o x ≡ Some b → ((z : List ℕ) → hex_bytes cs ≡ Some z → length z ≡ n) → length b ≡ suc n
    by_byte None x q e f = cc
    by_byte (Some a) None q e f = cc
    by_byte (Some a) (Some z) q e f = let h : a ∷ z ≡ b = cc in ap length (sym h) ∙ ap (λ y. suc y) (f z q)

hex_count : (n : ℕ) (w b : List ℕ) → hex_of n w ≡ Some b → length b ≡ n
hex_count n [] b e = cc
hex_count n (c ∷ []) b e = cc
hex_count n (c ∷ d ∷ cs) b e = by_mark ((c == 48) && (d == 120)) (length cs == 2 * n) refl e
  where
    by_mark : (t u : Bool) → (length cs == 2 * n) ≡ u → (if t && u then hex_bytes cs else None) ≡ Some b → length b ≡ n
    by_mark true true h q = let l : length cs ≡ 2 * n = grind (arith, nat_tests) in bytes_count n cs b q l
    by_mark true false h q = cc
    by_mark false u h q = cc

truth_count : (w b : List ℕ) → truth_of w ≡ Some b → length b ≡ 1
truth_count w b e = by_marks (bytes_eq w (codes "true")) (bytes_eq w (codes "false")) e
  where
    by_marks : (t u : Bool) → (if t then Some (1 ∷ []) else if u then Some (0 ∷ []) else None) ≡ Some b → length b ≡ 1
    by_marks true u q = let h : 1 ∷ [] ≡ b = cc in ap length (sym h)
    by_marks false true q = let h : 0 ∷ [] ≡ b = cc in ap length (sym h)
    by_marks false false q = cc

-- The bytes that a word spells are a string.
spelled_string : (w : List ℕ) (s : Content) → string_of w ≡ Some s → IsString (spelled_content s) s
spelled_string w s e = by_null (bytes_eq w (codes "null")) e
  where
    texts : (t : List ℕ) → IsString (spelled_content (content_of t)) (content_of t)
    texts [] = (refl, refl)
    texts (c ∷ cs) = let b : List ℕ = c ∷ cs in (refl, (spell (length b), b, refl, spell_spells (length b), refl))

    by_text : (o : Option (List ℕ)) → option_map content_of o ≡ Some s → IsString (spelled_content s) s
    by_text None q = cc
    by_text (Some t) q = let h : content_of t ≡ s = cc in subst (λ z. IsString (spelled_content z) z) h (texts t)

    by_key : (o : Option ℕ) → (e : string_of w ≡ Some s) → (bytes_eq w (codes "null") ≡ false) → id_after 35 w ≡ o → IsString (spelled_content s) s
    by_key (Some key) e n q =
        let h : string_of w ≡ Some (Key key) = rw (n, q) refl in
        let i : Key key ≡ s = (let z : Some (Key key) ≡ Some s = sym h ∙ e in cc) in
        subst (λ z. IsString (spelled_content z) z) i (refl, spell_spells key)
    by_key None e n q =
        let h : string_of w ≡ option_map content_of (unquoted w) = rw (n, q) refl in
        by_text (unquoted w) (sym h ∙ e)

    by_null : (t : Bool) → string_of w ≡ Some s → IsString (spelled_content s) s
    by_null t q = by_test (bytes_eq w (codes "null")) refl
      where
        by_test : (t : Bool) → bytes_eq w (codes "null") ≡ t → IsString (spelled_content s) s
        by_test true n =
            let h : string_of w ≡ Some Null = rw n refl in
            let i : Null ≡ s = (let z : Some Null ≡ Some s = sym h ∙ q in cc) in
            subst (λ z. IsString (spelled_content z) z) i (refl, refl)
        by_test false n = by_key (id_after 35 w) q n refl

abbrev IsNone : Option ℕ → Type 0
IsNone o = o ≡ None

spelled_int : (o : Option ℕ) (b : List ℕ) → option_map spell o ≡ Some b → (v : ℕ) × Spells b v × IsNone None
spelled_int o b e = let m = mapped spell o b e in (m.0, subst (λ z. Spells z m.0) m.2 (spell_spells m.0), refl)

-- The bytes are a value of the base name, with the key that they have.
pub base_is_spelled : (kd : Kind) (w b : List ℕ) → base_of kd w ≡ Some b → IsBase kd b (leaf_key (leaf_kinds.Base kd) b)
base_is_spelled kinds.Boolean w b e = (truth_count w b e, refl)
base_is_spelled kinds.Byte w b e = let m = mapped (λ n. n ∷ []) _ b e in (ap length (sym m.2), refl)
base_is_spelled kinds.Char w b e = spelled_int _ b e
base_is_spelled kinds.Short w b e = spelled_int _ b e
base_is_spelled kinds.Int w b e = spelled_int _ b e
base_is_spelled kinds.Long w b e = spelled_int _ b e
base_is_spelled kinds.Float w b e = (hex_count 4 w b e, refl)
base_is_spelled kinds.Double w b e = (hex_count 8 w b e, refl)
base_is_spelled kinds.Text w b e =
    let m = mapped spelled_content (string_of w) b e in
    let i : IsString b m.0 = subst (λ z. IsString z m.0) m.2 (spelled_string w m.0 m.1) in
    (m.0, i, string_key b m.0 i)
base_is_spelled kinds.Composite w b e = cc
