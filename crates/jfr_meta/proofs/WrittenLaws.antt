-- What is written, part by part.
use Rattle.std.specs.Prelude.{◌≡◌, ℕ, zero, suc, ◌+◌, ◌*◌, ◌<◌, true, false, ◌==◌, List, [], ◌∷◌, ◌++◌, length, Result, Ok, Err, OnOk, min}
use Rattle.std.specs.List.{flat_map}
use Rattle.std.specs.Str.{chars, encode_utf8_all, IsUtf8}
use Rattle.std.proofs.Common.{ap, arith, refl, sym, ◌∙◌, append_assoc, get_or, length-append}
use Rattle.std.proofs.lemmas.Str.{encodes-chars, chars-nil}
use Rattle.jfr_base.specs.Integer.{spell, spell_in}
use Rattle.jfr_meta.specs.Trees.{Tree, Node, Trees, Nil, Cons, list_of, name_of, pairs_of, children_of, count, counts, counts_of}
use Rattle.jfr_meta.specs.Body.{how_many}
use Rattle.jfr_meta.specs.Written.{text_bytes, pair_bytes, tree_bytes, trees_bytes, table_bytes, body_bytes, opening_bytes, record_bytes, capped}
use Rattle.jfr_meta.proofs.Texts.{no_length}

-- Children are fewer than the element with them.
counts_of-list_of : (ts : Trees) → counts_of (list_of ts) ≡ counts ts
counts_of-list_of Nil = refl
counts_of-list_of (Cons t ts) = ap (λ n. count t + n) (counts_of-list_of ts)

pub children_less : (t : Tree) → 2 * counts_of (children_of t) + 1 < 2 * count t
children_less (Node place name pairs children) = let e = counts_of-list_of children in omega arith

pub member_less : (ts : List Tree) (i : ℕ) (x d : Tree) → i < length ts → x ≡ get_or ts i d → 2 * count x < 2 * counts_of ts + 1
member_less [] i x d h e = absurd (omega arith)
member_less (t ∷ ts) zero x d h e = let f : count x ≡ count t = ap count e in omega arith
member_less (t ∷ ts) (suc i) x d h e = let m : i < length ts = omega arith in omega (arith, member_less ts i x d m e)

-- The children, as a list.
pub flat-list_of : (ts : Trees) → flat_map tree_bytes (list_of ts) ≡ trees_bytes ts
flat-list_of Nil = refl
flat-list_of (Cons t ts) = ap (λ z. tree_bytes t ++ z) (flat-list_of ts)

pub how_many-list_of : (ts : Trees) → length (list_of ts) ≡ how_many ts
how_many-list_of Nil = refl
how_many-list_of (Cons t ts) = ap (λ n. suc n) (how_many-list_of ts)

four_appends : (o a b c d e : List ℕ) → ((((o ++ a) ++ b) ++ c) ++ d) ++ e ≡ o ++ (a ++ (b ++ (c ++ (d ++ e))))
four_appends o a b c d e = simp append_assoc

-- An element's parts, after what was written before.
pub element_written : (t : Tree) (o : List ℕ)
    → ((((o ++ spell (name_of t)) ++ spell (length (pairs_of t))) ++ flat_map pair_bytes (pairs_of t)) ++ spell (length (children_of t))) ++ flat_map tree_bytes (children_of t) ≡ o ++ tree_bytes t
element_written (Node place name pairs children) o =
    ap (λ z. ((((o ++ spell name) ++ spell (length pairs)) ++ flat_map pair_bytes pairs) ++ spell z) ++ flat_map tree_bytes (list_of children)) (how_many-list_of children)
    ∙ (ap (λ z. ((((o ++ spell name) ++ spell (length pairs)) ++ flat_map pair_bytes pairs) ++ spell (how_many children)) ++ z) (flat-list_of children)
    ∙ four_appends o (spell name) (spell (length pairs)) (flat_map pair_bytes pairs) (spell (how_many children)) (trees_bytes children))

-- On success the same, by another name.
pub on_ok : {T E : Type 0} (r : Result T E) (a b c : List ℕ) → OnOk r (a ≡ b) → b ≡ c → OnOk r (a ≡ c)
on_ok (Ok x) a b c h e = h ∙ e
on_ok (Err x) a b c h e = tt

-- A text's bytes.
pub text_empty : (t : List ℕ) → (length t == 0) ≡ true → text_bytes (chars t) ≡ 1 ∷ []
text_empty t e = ap (λ z. text_bytes (chars z)) (no_length t e) ∙ ap text_bytes chars-nil

pub text_some : (t : List ℕ) → IsUtf8 t → (length t == 0) ≡ false → text_bytes (chars t) ≡ 3 ∷ (spell (length t) ++ t)
text_some t u e = by_chars (chars t) (encodes-chars t u)
  where
    by_chars : (cs : List ℕ) → encode_utf8_all cs ≡ t → text_bytes cs ≡ 3 ∷ (spell (length t) ++ t)
    by_chars [] f = absurd (no_other (ap (λ z. length z == 0) f ∙ e))
      where
        no_other : true ≡ false → ⊥
        no_other g = cc
    by_chars (c ∷ cs) f = ap (λ z. 3 ∷ (spell (length z) ++ z)) f

pub text_written : (o s t : List ℕ) → ((o ++ 3 ∷ []) ++ s) ++ t ≡ o ++ (3 ∷ (s ++ t))
text_written o s t = append_assoc (o ++ 3 ∷ []) s t ∙ append_assoc o (3 ∷ []) (s ++ t)

pub element_steps : (t : Tree) (o p q r s : List ℕ) (name n m : ℕ) (pairs : List (ℕ × ℕ)) (children : List Tree) → p ≡ o ++ spell name → name ≡ name_of t → q ≡ p ++ spell n → n ≡ length (pairs_of t)
    → r ≡ q ++ flat_map pair_bytes pairs → pairs ≡ pairs_of t → s ≡ r ++ spell m → m ≡ length (children_of t) → children ≡ children_of t → s ++ flat_map tree_bytes children ≡ o ++ tree_bytes t
element_steps t o p q r s name n m pairs children a b c d e f g h i = cc (element_written t o)

pub text_steps : (t o p q r b : List ℕ) → IsUtf8 t → (length t == 0) ≡ false → p ≡ o ++ 3 ∷ [] → q ≡ p ++ spell (length t) → r ≡ q ++ b → b ≡ t → r ≡ o ++ text_bytes (chars t)
text_steps t o p q r b u z e f g h =
    let k : r ≡ ((o ++ 3 ∷ []) ++ spell (length t)) ++ t = cc in
    k ∙ (text_written o (spell (length t)) t ∙ ap (λ z. o ++ z) (sym (text_some t u z)))

-- How long what is written is.
pub element_measured : (t : Tree)
    → length (tree_bytes t) ≡ length (spell (name_of t)) + length (spell (length (pairs_of t))) + length (flat_map pair_bytes (pairs_of t)) + length (spell (length (children_of t))) + length (flat_map tree_bytes (children_of t))
element_measured (Node place name pairs children) =
    let n : length (list_of children) ≡ how_many children = how_many-list_of children in
    let f : flat_map tree_bytes (list_of children) ≡ trees_bytes children = flat-list_of children in
    rw (n, f)
    (omega (
      arith,
      length-append (spell name) (spell (length pairs) ++ (flat_map pair_bytes pairs ++ (spell (how_many children) ++ trees_bytes children))),
      length-append (spell (length pairs)) (flat_map pair_bytes pairs ++ (spell (how_many children) ++ trees_bytes children)),
      length-append (flat_map pair_bytes pairs) (spell (how_many children) ++ trees_bytes children),
      length-append (spell (how_many children)) (trees_bytes children),
    ))

pub caps : (a b p q m r s e f : ℕ) → p ≡ min q m → r ≡ min (p + a) m → s ≡ min (r + e) m → e ≡ min f m → b ≡ q + a + f → s ≡ min b m
caps a b p q m r s e f g h i j k = omega arith

pub text_measured : (t : List ℕ) (r v : ℕ) → IsUtf8 t → (length t == 0) ≡ false → r ≡ min (length t + (v + 1)) 18446744073709551615 → v ≡ length (spell (length t))
    → r ≡ capped (length (text_bytes (chars t)))
text_measured t r v u z e f =
    let l : length (text_bytes (chars t)) ≡ suc (length (spell (length t) ++ t)) = ap length (text_some t u z) in
    let m : length t + (v + 1) ≡ length (text_bytes (chars t)) = omega (arith, length-append (spell (length t)) t) in
    e ∙ ap capped m

pub body_measured : (start duration id : ℕ) (strings : List (List ℕ)) (root : Tree) → length (body_bytes start duration id strings root)
    ≡ length (spell start) + length (spell duration) + length (spell id) + length (spell (length strings)) + length (table_bytes strings root)
body_measured start duration id strings root =
    let t = table_bytes strings root in
    let c = spell (length strings) in
    omega (arith, length-append (spell start) (spell duration ++ (spell id ++ (c ++ t))), length-append (spell duration) (spell id ++ (c ++ t)), length-append (spell id) (c ++ t), length-append c t)

opening_parts : (o a s d i n x : List ℕ) → (((((((o ++ a) ++ 0 ∷ []) ++ s) ++ d) ++ i) ++ n) ++ x) ≡ o ++ (a ++ (0 ∷ (s ++ (d ++ (i ++ (n ++ x))))))
opening_parts o a s d i n x = simp append_assoc

pub opening_steps : (size start duration id n : ℕ) (strings : List (List ℕ)) (o p q r s t u v : List ℕ) → p ≡ o ++ spell_in 5 size → q ≡ p ++ 0 ∷ [] → r ≡ q ++ spell start → s ≡ r ++ spell duration
    → t ≡ s ++ spell id
    → u ≡ t ++ spell n → n ≡ length strings → v ≡ u ++ flat_map text_bytes strings → v ≡ o ++ opening_bytes size start duration id strings
opening_steps size start duration id n strings o p q r s t u v e1 e2 e3 e4 e5 e6 e7 e8 =
    let k : v ≡ ((((((o ++ spell_in 5 size) ++ 0 ∷ []) ++ spell start) ++ spell duration) ++ spell id) ++ spell (length strings)) ++ flat_map text_bytes strings = cc in
    k ∙ opening_parts o (spell_in 5 size) (spell start) (spell duration) (spell id) (spell (length strings)) (flat_map text_bytes strings)

tree_after : (a s d i n x t : List ℕ) → (a ++ (0 ∷ (s ++ (d ++ (i ++ (n ++ x)))))) ++ t ≡ a ++ (0 ∷ (s ++ (d ++ (i ++ (n ++ (x ++ t))))))
tree_after a s d i n x t = simp append_assoc

-- The opening and the tree are the record.
pub record_written : (size start duration id : ℕ) (strings : List (List ℕ)) (root : Tree) (o p r tree : List ℕ) → o ≡ [] → p ≡ o ++ opening_bytes size start duration id strings → r ≡ p ++ tree
    → tree ≡ tree_bytes root
    → size ≡ 6 + length (body_bytes start duration id strings root) → r ≡ record_bytes start duration id strings root
record_written size start duration id strings root o p r tree n e f g h =
    let b = body_bytes start duration id strings root in
    let k : r ≡ opening_bytes size start duration id strings ++ tree_bytes root = f ∙ (λ i. (e ∙ ap (λ z. z ++ opening_bytes size start duration id strings) n) i ++ g i) in
    k ∙ (tree_after (spell_in 5 size) (spell start) (spell duration) (spell id) (spell (length strings)) (flat_map text_bytes strings) (tree_bytes root) ∙ ap (λ z. spell_in 5 z ++ (0 ∷ b)) h)
