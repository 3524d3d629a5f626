-- The values of attributes, gathered from the last attribute to the first.
use Rattle.std.specs.Prelude.{◌≡◌, ℕ, suc, ◌+◌, ◌-◌, ◌<◌, ◌≤◌, ◌^◌, Bool, true, false, List, [], ◌∷◌, length, drop, find, Option, Some, None, option_map, slice_get, if◌then◌else◌, codes}
use Rattle.std.proofs.Common.{ap, arith, refl, sym, ◌∙◌, cond, length-append}
use Rattle.std.specs.BTreeMap as tree
use Rattle.std.specs.BTreeMap.{BTreeMap}
use Rattle.std.specs.Borrow.{Bor}
use Rattle.std.specs.Cmp.Lexicographic.{slice_cmp}
use Rattle.std.specs.Fmt.{decimal}
use Rattle.std.specs.Map.{lookup}
use Rattle.std.specs.Ordering.{nat_cmp}
use Rattle.std.specs.Str.{bytes_eq, chars, encode_utf8_all, IsUtf8}
use Rattle.std.proofs.lemmas.Map.Text.{btree_map_updates_str}
use Rattle.std.proofs.lemmas.Str.{encodes-chars, IsAscii-append}
use Rattle.std.proofs.lemmas.Str.Ascii.{encodes-IsAscii}
use Rattle.std.proofs.lemmas.Fmt.{IsAscii-decimal, length-decimal-le}
use Rattle.std.proofs.lemmas.Slice.Eq.{bytes_eq-Decides}
use Rattle.std.specs.Bool.{Decides}
use Rattle.std.proofs.lemmas.List.{drop_all}
use Rattle.std.specs.Option.{option_map_or}
use Rattle.jfr_meta.specs.Attributes.{text_at, first_value, value_key, values_from}
use Rattle.jfr_layout.specs.Names.{value_under}
use Rattle.jfr_meta.specs.Values.{CanBeAsked, HasFirst}
use Rattle.jfr_meta.proofs.Categories.{find_at, passed_at}
use Rattle.jfr_base.proofs.TextLaws.{bytes_eq-encodes, word_ascii}

-- The key is its text, spelled.
spelled : (b t : List ℕ) → IsUtf8 b → chars b ≡ t → b ≡ encode_utf8_all t
spelled b t u e = sym (encodes-chars b u) ∙ ap encode_utf8_all e

by_test : (t : Bool) (p : ℕ × ℕ) (o : Option (ℕ × ℕ)) (m : Option ℕ) → m ≡ option_map (λ p. p.1) o → cond t (Some p.1) m ≡ option_map (λ p. p.1) (if t then Some p else o)
by_test true p o m h = refl
by_test false p o m h = h

-- One more attribute, in front of those that were seen.
pub first_next : (texts : List (List ℕ)) (ps : List (ℕ × ℕ)) (i : ℕ) (p : ℕ × ℕ) (b : List ℕ) (old new : BTreeMap (Bor (List ℕ)) ℕ) → HasFirst texts (drop (i + 1) ps) old → slice_get ps i ≡ Some p
    → IsUtf8 b → chars b ≡ text_at texts p.0
    → tree.UpdatesBy (λ x y. slice_cmp nat_cmp x.now y.now) (λ k. slice_cmp nat_cmp b k.now) old new (Some p.1) → HasFirst texts (drop i ps) new
first_next texts ps i p b old new h e u c up = λ key asked.
    btree_map_updates_str b old new (Some p.1) up (encode_utf8_all key)
    ∙ (ap (λ t. cond t (Some p.1) (value_under old key)) (ap (λ z. bytes_eq z (encode_utf8_all key)) (spelled b (text_at texts p.0) u c) ∙ bytes_eq-encodes (text_at texts p.0) key)
    ∙ (by_test (bytes_eq (text_at texts p.0) key) p (find (λ p. bytes_eq (text_at texts p.0) key) (drop (i + 1) ps)) (value_under old key) (h key asked)
    ∙ sym (ap (option_map (λ p. p.1)) (find_at (λ p. bytes_eq (text_at texts p.0) key) ps i p e))))

-- A text isn't equal to a shorter one.
longer : (a b : List ℕ) → length b < length a → bytes_eq a b ≡ false
longer a b h = by_test a b (bytes_eq a b) h (bytes_eq-Decides a b)
  where
    by_test : (a b : List ℕ) (t : Bool) → length b < length a → Decides t (a ≡ b) → t ≡ false
    by_test a b false h d = refl
    by_test a b true h d = let l : length a ≡ length b = ap length (d.0 refl) in absurd (omega arith)

-- One more attribute, in front of those that were seen, whose key is longer than any that can be asked for.
pub first_skipped : (texts : List (List ℕ)) (ps : List (ℕ × ℕ)) (i : ℕ) (p : ℕ × ℕ) (b : List ℕ) (m : BTreeMap (Bor (List ℕ)) ℕ) → HasFirst texts (drop (i + 1) ps) m → slice_get ps i ≡ Some p
    → IsUtf8 b → chars b ≡ text_at texts p.0 → 26 < length b
    → HasFirst texts (drop i ps) m
first_skipped texts ps i p b m h e u c long = λ key asked.
    (let other : bytes_eq (text_at texts p.0) key ≡ false = sym (bytes_eq-encodes (text_at texts p.0) key)
    ∙ (ap (λ z. bytes_eq z (encode_utf8_all key)) (sym (spelled b (text_at texts p.0) u c)) ∙ longer b (encode_utf8_all key) (omega (arith, asked))) in
    h key asked ∙ sym (ap (option_map (λ p. p.1)) (passed_at (λ p. bytes_eq (text_at texts p.0) key) ps i p e other)))

-- Nothing is there at first.
pub first_start : (texts : List (List ℕ)) (ps : List (ℕ × ℕ)) (n : ℕ) (m : BTreeMap (Bor (List ℕ)) ℕ) → tree.IsEmpty m → length ps ≤ n → HasFirst texts (drop n ps) m
first_start texts ps n m e h = λ key asked.
    none_in m e key ∙ sym (ap (λ z. option_map (λ p. p.1) (find (λ p. bytes_eq (text_at texts p.0) key) z)) (drop_all n ps h))
  where
    none_in : (m : BTreeMap (Bor (List ℕ)) ℕ) → tree.IsEmpty m → (key : List ℕ) → value_under m key ≡ None
    none_in m e key = ap (lookup (tree.is_at (λ k. slice_cmp nat_cmp (encode_utf8_all key) k.now))) e

-- What is found under a key is the first value.
pub first_found : (texts : List (List ℕ)) (ps : List (ℕ × ℕ)) (m : BTreeMap (Bor (List ℕ)) ℕ) (key : List ℕ) (v : Option ℕ) → HasFirst texts ps m → CanBeAsked key → v ≡ value_under m key
    → option_map (text_at texts) v ≡ first_value texts key ps
first_found texts ps m key v h asked e = ap (option_map (text_at texts)) (e ∙ h key asked) ∙ by_pair (find (λ p. bytes_eq (text_at texts p.0) key) ps)
  where
    by_pair : (o : Option (ℕ × ℕ)) → option_map (text_at texts) (option_map (λ p. p.1) o) ≡ option_map (λ p. text_at texts p.1) o
    by_pair None = refl
    by_pair (Some p) = refl

-- The key of a numbered value is ASCII.
key_ascii : (n : ℕ) → n < 2 ^ 64 → encode_utf8_all (value_key n) ≡ value_key n
key_ascii n h = encodes-IsAscii (value_key n) (IsAscii-append (codes "value-") (decimal n) (word_ascii (codes "value-") refl) (IsAscii-decimal n h))

-- The key of a numbered value can be looked up.
pub key_asked : (n : ℕ) → n < 2 ^ 64 → CanBeAsked (value_key n)
key_asked n h =
    let digits : length (decimal n) ≤ 20 = length-decimal-le 20 n (omega arith) (omega arith) h in
    let whole : length (value_key n) ≡ 6 + length (decimal n) = length-append (codes "value-") (decimal n) in
    let spelled : length (encode_utf8_all (value_key n)) ≡ length (value_key n) = ap length (key_ascii n h) in
    omega arith

pub key_found : (n : ℕ) (b : List ℕ) (m : BTreeMap (Bor (List ℕ)) ℕ) (v : Option ℕ) → n < 2 ^ 64 → b ≡ value_key n → v ≡ tree.get_by (λ k. slice_cmp nat_cmp b k.now) m
    → v ≡ value_under m (value_key n)
key_found n b m v h e f = f ∙ ap (λ z. tree.get_by (λ k. slice_cmp nat_cmp z k.now) m) (e ∙ sym (key_ascii n h))

-- The values from a number on: one more, or the end.
pub values_next : (value : ℕ → Option (List ℕ)) (i n : ℕ) (v : List ℕ) → i < n → value i ≡ Some v → values_from value i (n - i) ≡ v ∷ values_from value (i + 1) (n - (i + 1))
values_next value i n v h e = let k : n - i ≡ suc (n - (i + 1)) = omega arith in ap (values_from value i) k ∙ ap (λ z. option_map_or (λ v. v ∷ values_from value (i + 1) (n - (i + 1))) z []) e

pub values_stop : (value : ℕ → Option (List ℕ)) (i n : ℕ) → i < n → value i ≡ None → values_from value i (n - i) ≡ []
values_stop value i n h e = let k : n - i ≡ suc (n - (i + 1)) = omega arith in ap (values_from value i) k ∙ ap (λ z. option_map_or (λ v. v ∷ values_from value (i + 1) (n - (i + 1))) z []) e

pub values_end : (value : ℕ → Option (List ℕ)) (i n : ℕ) → n ≤ i → values_from value i (n - i) ≡ []
values_end value i n h = let k : n - i ≡ 0 = omega arith in ap (values_from value i) k
