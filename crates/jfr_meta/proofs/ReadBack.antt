-- What is written is read back.
use Rattle.std.specs.Prelude.{◌≡◌, ℕ, zero, suc, ◌+◌, ◌-◌, ◌<◌, ◌≤◌, true, false, List, [], ◌∷◌, ◌++◌, length, None, nat_lt}
use Rattle.std.specs.List.{flat_map, AllByRecursion}
use Rattle.std.specs.Str.{chars, encode_utf8_all}
use Rattle.std.proofs.Common.{ap, arith, refl, sym, ◌∙◌, subst, inl, append-nil}
use Rattle.std.proofs.Math.Utf8.{scalars}
use Rattle.std.proofs.lemmas.List.{take_all}
use Rattle.std.proofs.lemmas.Str.{chars-encodes}
use Rattle.bstr.proofs.lemmas.EncodeLemmas.{lossy_chars-encode}
use Rattle.jfr_base.specs.Integer.{IntAt, Spells, FitsIn, spell, spell_in}
use Rattle.jfr_base.specs.Formats.{Format, Done, ◌>>=◌, Answer, Exactly, Reads, integer, run, times}
use Rattle.jfr_base.proofs.Exact.{ReadsOrFails, run_reads_or_fails}
use Rattle.jfr_base.proofs.ExactLaws.{bind_exact}
use Rattle.jfr_base.proofs.Ranges.{range_length}
use Rattle.jfr_base.proofs.RunLaws.{Stands, Halves, stands_split, exact_run}
use Rattle.jfr_base.proofs.Spelling.{spell_spells, spell_most}
use Rattle.jfr_base.proofs.Writing.{fits_spells}
use Rattle.jfr_text.specs.Strings.{Empty, Utf8, string_format}
use Rattle.jfr_text.proofs.StringLaws.{format_of_string}
use Rattle.jfr_meta.specs.Trees.{Tree, Node, Trees, Nil, Cons, list_of, trees_of}
use Rattle.jfr_meta.specs.Body.{Body, table_string, table_text, index, index_check, pair, element_format, meta_format, how_many}
use Rattle.jfr_meta.specs.Written.{IsText, text_bytes, pair_bytes, tree_bytes, trees_bytes, table_bytes, body_bytes, record_bytes, depth, depths, HasIndices, HaveIndices, bare, bares, ReadsBack}
use Rattle.jfr_meta.proofs.Runs.{ok, bind_ok, done_ok}
use Rattle.jfr_meta.proofs.Parts.{named_ok, counted_ok, paired_ok, numbered_ok, element_ok}
use Rattle.jfr_meta.proofs.Bodies.{whole_head, whole_body}
use Rattle.jfr_meta.proofs.Bare.{described_bare}
use Rattle.jfr_meta.proofs.WrittenLaws.{body_measured}
use Rattle.jfr_frame.specs.Records.{IsRecord}

-- Integers, indices and attributes, exactly.
exact_int : (v : ℕ) → Exactly integer (spell v) v
exact_int v = (spell v, [], v, sym (append-nil (spell v)), spell_spells v, refl, (refl, refl))

exact_index : (limit v : ℕ) → v < limit → Exactly (index limit) (spell v) v
exact_index limit v h =
    let t : nat_lt v limit ≡ true = grind arith in
    let c : index_check limit v ≡ None = rw t refl in
    (spell v, [], v, sym (append-nil (spell v)), spell_spells v, c, (refl, refl))

exact_pair : (limit : ℕ) (p : ℕ × ℕ) → (p.0 < limit) × (p.1 < limit) → Exactly (pair limit) (pair_bytes p) p
exact_pair limit p g =
    bind_exact (index limit) (λ key. index limit >>= λ value. Done (key, value)) (spell p.0) (spell p.1) (pair_bytes p) p.0 p refl (exact_index limit p.0 g.0)
    (bind_exact (index limit) (λ value. Done (p.0, value)) (spell p.1) [] (spell p.1) p.1 p (sym (append-nil (spell p.1))) (exact_index limit p.1 g.1) (refl, refl))

-- So many things, one after another.
exact_times : {A : Type 0} (f : Format A) (bytes : A → List ℕ) (Good : A → Type 0) → ((x : A) → Good x → Exactly f (bytes x) x) → (xs : List A) → AllByRecursion Good xs
    → Exactly (times (length xs) f) (flat_map bytes xs) xs
exact_times f bytes Good one [] g = (refl, refl)
exact_times f bytes Good one (x ∷ xs) g =
    bind_exact f (λ a. times (length xs) f >>= λ rest. Done (a ∷ rest)) (bytes x) (flat_map bytes xs) (bytes x ++ flat_map bytes xs) x (x ∷ xs) refl (one x g.0)
    (bind_exact (times (length xs) f) (λ rest. Done (x ∷ rest)) (flat_map bytes xs) [] (flat_map bytes xs) xs (x ∷ xs) (sym (append-nil (flat_map bytes xs))) (exact_times f bytes Good one xs g.1)
    (refl, refl))

-- Texts, exactly.
text_scalars : (cs : List ℕ) → IsText cs → scalars cs ≡ true
text_scalars cs t =
    let x : List ℕ = t.1.0 in
    let e : x ≡ cs = sym (chars-encodes x t.1.1.0) ∙ (ap chars t.1.1.1 ∙ t.2) in
    subst (λ z. scalars z ≡ true) e t.1.1.0

exact_text : (cs : List ℕ) → IsText cs → Exactly table_string (text_bytes cs) cs
exact_text [] t = bind_exact (string_format false) (λ s. Done (table_text s)) (1 ∷ []) [] (1 ∷ []) Empty [] refl (format_of_string false (1 ∷ []) Empty (refl, refl) tt) (refl, refl)
exact_text (c ∷ cs) t =
    let e : List ℕ = encode_utf8_all (c ∷ cs) in
    let b : List ℕ = 3 ∷ (spell (length e) ++ e) in
    bind_exact (string_format false) (λ s. Done (table_text s)) b [] b (Utf8 e) (c ∷ cs) (sym (append-nil b))
    (format_of_string false b (Utf8 e) (refl, (spell (length e), e, refl, spell_spells (length e), refl)) tt) (sym (lossy_chars-encode (c ∷ cs) (text_scalars (c ∷ cs) t)), refl)

-- A tree with the offsets that its elements have when it is written.
abbrev mutual
  pub moved : ℕ → Tree → Tree
  moved at (Node place name pairs children) =
      Node at name pairs (moveds (at + length (spell name) + length (spell (length pairs)) + length (flat_map pair_bytes pairs) + length (spell (how_many children))) children)

  pub moveds : ℕ → Trees → Trees
  moveds at Nil = Nil
  moveds at (Cons t ts) = Cons (moved at t) (moveds (at + length (tree_bytes t)) ts)

mutual
  moved_bare : (at : ℕ) (t : Tree) → bare (moved at t) ≡ bare t
  moved_bare at (Node place name pairs children) =
      ap (λ z. Node 0 name pairs z) (moveds_bare (at + length (spell name) + length (spell (length pairs)) + length (flat_map pair_bytes pairs) + length (spell (how_many children))) children)

  moveds_bare : (at : ℕ) (ts : Trees) → bares (moveds at ts) ≡ bares ts
  moveds_bare at Nil = refl
  moveds_bare at (Cons t ts) = λ i. Cons (moved_bare at t i) (moveds_bare (at + length (tree_bytes t)) ts i)

trees_of-list_of : (ts : Trees) → trees_of (list_of ts) ≡ ts
trees_of-list_of Nil = refl
trees_of-list_of (Cons t ts) = ap (λ z. Cons t z) (trees_of-list_of ts)

-- Reading an integer at its offset.
int_run : (x : List ℕ) (end at to v : ℕ) → end ≤ length x → Stands x at to (spell v) → to ≤ end → run integer x end at ≡ ok v to
int_run x end at to v w s i = exact_run x end w integer at to (spell v) v (exact_int v) s i

nothing : (x : List ℕ) (at to : ℕ) → Stands x at to [] → at ≡ to
nothing x at to s =
    let o : at ≤ to = s.order in
    let l : to - at ≡ 0 = sym (range_length x at to s.within) ∙ ap length s.bytes in
    omega arith

-- Reading a tree at its offset.
mutual
  pub tree_run : (t : Tree) (limit levels : ℕ) (x : List ℕ) (end at to : ℕ) → end ≤ length x → HasIndices limit t → depth t ≤ levels → Stands x at to (tree_bytes t) → to ≤ end
      → run (element_format levels limit) x end at ≡ ok (moved at t) to
  tree_run (Node place name pairs children) limit zero x end at to w g d s i = absurd (omega arith)
  tree_run (Node place name pairs children) limit (suc levels) x end at to w g d s i =
      let n : ℕ = length pairs in
      let m : ℕ = how_many children in
      let flat : List ℕ = flat_map pair_bytes pairs in
      let below : List ℕ = trees_bytes children in
      let a : Halves x at to (spell name) (spell n ++ (flat ++ (spell m ++ below))) =
      stands_split x at to (tree_bytes (Node place name pairs children)) (spell name) (spell n ++ (flat ++ (spell m ++ below))) s refl in
      let p : ℕ = at + length (spell name) in
      let b : Halves x p to (spell n) (flat ++ (spell m ++ below)) = stands_split x p to (spell n ++ (flat ++ (spell m ++ below))) (spell n) (flat ++ (spell m ++ below)) a.second refl in
      let q : ℕ = p + length (spell n) in
      let c : Halves x q to flat (spell m ++ below) = stands_split x q to (flat ++ (spell m ++ below)) flat (spell m ++ below) b.second refl in
      let r : ℕ = q + length flat in
      let e : Halves x r to (spell m) below = stands_split x r to (spell m ++ below) (spell m) below c.second refl in
      let u : ℕ = r + length (spell m) in
      let ou : u ≤ to = e.second.order in
      let o4 : u ≤ end = omega arith in
      let o3 : r ≤ end = omega arith in
      let o2 : q ≤ end = omega arith in
      let o1 : p ≤ end = omega arith in
      let named = named_ok levels limit x end at name p (exact_run x end w (index limit) at p (spell name) name (exact_index limit name g.0) a.first o1) in
      let counted = counted_ok levels limit x end at name p n q named (int_run x end p q n w b.first o2) in
      let paired = paired_ok levels limit x end at name n q pairs r counted
      (exact_run x end w (times n (pair limit)) q r flat pairs (exact_times (pair limit) pair_bytes (λ z. (z.0 < limit) × (z.1 < limit)) (exact_pair limit) pairs g.1) c.first o3) in
      let numbered = numbered_ok levels limit x end at name pairs r m u paired (int_run x end r u m w e.first o4) in
      element_ok levels limit x end at name pairs m u (list_of (moveds u children)) to numbered (trees_run children limit levels x end u to w g.2 (omega arith) e.second i)
      ∙ ap (λ z. ok (Node at name pairs z) to) (trees_of-list_of (moveds u children))

  trees_run : (ts : Trees) (limit levels : ℕ) (x : List ℕ) (end at to : ℕ) → end ≤ length x → HaveIndices limit ts → depths ts ≤ levels → Stands x at to (trees_bytes ts) → to ≤ end
      → run (times (how_many ts) (element_format levels limit)) x end at ≡ ok (list_of (moveds at ts)) to
  trees_run Nil limit levels x end at to w g d s i = done_ok [] x end at ∙ ap (ok []) (nothing x at to s)
  trees_run (Cons t ts) limit levels x end at to w g d s i =
      let a : Halves x at to (tree_bytes t) (trees_bytes ts) = stands_split x at to (tree_bytes t ++ trees_bytes ts) (tree_bytes t) (trees_bytes ts) s refl in
      let q : ℕ = at + length (tree_bytes t) in
      let o : q ≤ to = a.second.order in
      let f : Format Tree = element_format levels limit in
      let k : ℕ = how_many ts in
      let rest : List Tree = list_of (moveds q ts) in
      bind_ok f (λ a. times k f >>= λ rest. Done (a ∷ rest)) x end at (moved at t) q (tree_run t limit levels x end at q w g.0 (omega arith) a.first (omega arith))
      ∙ (bind_ok (times k f) (λ rest. Done (moved at t ∷ rest)) x end q rest to (trees_run ts limit levels x end q to w g.1 (omega arith) a.second i)
      ∙ done_ok (moved at t ∷ rest) x end to)

-- Reading the parts of the body at their offsets.
module _ (start duration id : ℕ) (strings : List (List ℕ)) (root : Tree) (x : List ℕ) (good : HasIndices (length strings) root) (shallow : depth root ≤ 16) (texts : AllByRecursion IsText strings) where
  pub body_run : Stands x 6 (length x) (body_bytes start duration id strings root)
      → (t : Tree) × (bare t ≡ bare root) × (run meta_format x (length x) 6 ≡ ok (record { start = start; duration = duration; id = id; strings = strings; root = t }) (length x))
  body_run s =
      let n : ℕ = length x in
      let w : n ≤ n = omega arith in
      let count : ℕ = length strings in
      let flat : List ℕ = flat_map text_bytes strings in
      let tree : List ℕ = tree_bytes root in
      let a : Halves x 6 n (spell start) (spell duration ++ (spell id ++ (spell count ++ (flat ++ tree)))) =
      stands_split x 6 n (body_bytes start duration id strings root) (spell start) (spell duration ++ (spell id ++ (spell count ++ (flat ++ tree)))) s refl in
      let p : ℕ = 6 + length (spell start) in
      let b : Halves x p n (spell duration) (spell id ++ (spell count ++ (flat ++ tree))) =
      stands_split x p n (spell duration ++ (spell id ++ (spell count ++ (flat ++ tree)))) (spell duration) (spell id ++ (spell count ++ (flat ++ tree))) a.second refl in
      let q : ℕ = p + length (spell duration) in
      let c : Halves x q n (spell id) (spell count ++ (flat ++ tree)) = stands_split x q n (spell id ++ (spell count ++ (flat ++ tree))) (spell id) (spell count ++ (flat ++ tree)) b.second refl in
      let r : ℕ = q + length (spell id) in
      let d : Halves x r n (spell count) (flat ++ tree) = stands_split x r n (spell count ++ (flat ++ tree)) (spell count) (flat ++ tree) c.second refl in
      let u : ℕ = r + length (spell count) in
      let e : Halves x u n flat tree = stands_split x u n (flat ++ tree) flat tree d.second refl in
      let v : ℕ = u + length flat in
      let o5 : v ≤ n = e.second.order in
      let o4 : u ≤ n = d.second.order in
      let o3 : r ≤ n = c.second.order in
      let o2 : q ≤ n = b.second.order in
      let o1 : p ≤ n = a.second.order in
      let head = whole_head x n 6 start p duration q id r count u (int_run x n 6 p start w a.first o1) (int_run x n p q duration w b.first o2) (int_run x n q r id w c.first o3)
      (int_run x n r u count w d.first o4) in
      let table = exact_run x n w (times count table_string) u v flat strings (exact_times table_string text_bytes IsText exact_text strings texts) e.first o5 in
      let element = tree_run root count 16 x n v n w good shallow e.second w in
      (moved v root, moved_bare v root, whole_body x n 6 (start, duration, id, count) u strings v (moved v root) n head table element refl)

pub stands_whole : (x : List ℕ) → Stands x 0 (length x) x
stands_whole x = record { order = omega arith; within = omega arith; bytes = take_all (length x - 0) x (omega arith) }

pub five_bytes : (v : ℕ) → length (spell_in 5 v) ≡ 5
unfolding spell_in
five_bytes v = refl

abbrev pub zero_byte : List ℕ
zero_byte = 0 ∷ []

pub zero_spelled : Spells (0 ∷ []) 0
unfolding spell
zero_spelled = spell_spells 0

-- The bytes are a record by themselves, which holds these parts, but for the places in the tree.
pub record StandsAlone (x : List ℕ) (start duration id : ℕ) (strings : List (List ℕ)) (root : Tree) : Type 0 where
  pub is_record : IsRecord x (record { at = 0; size = length x; type_at = 5; type_id = 0; body = 6 })
  pub tree : Tree
  pub same : bare tree ≡ bare root
  pub body : Reads meta_format x (length x) 6 (record { start = start; duration = duration; id = id; strings = strings; root = tree }) (length x)
  pub long : 6 ≤ length x

module _ (start duration id : ℕ) (strings : List (List ℕ)) (root : Tree) (x : List ℕ) where
  pub stands_alone : HasIndices (length strings) root → depth root ≤ 16 → length (table_bytes strings root) < 536870912 → AllByRecursion IsText strings
      → x ≡ record_bytes start duration id strings root → StandsAlone x start duration id strings root
  stands_alone good shallow small texts e =
      let body : List ℕ = body_bytes start duration id strings root in
      let n : ℕ = length x in
      let size : ℕ = 6 + length body in
      let front : List ℕ = spell_in 5 size in
      let h : Halves x 0 n front (0 ∷ body) = stands_split x 0 n x front (0 ∷ body) (stands_whole x) e in
      let five : length front ≡ 5 = five_bytes size in
      let at5 : 0 + length front ≡ 5 = omega arith in
      let s1 : Stands x 0 5 front = subst (λ z. Stands x 0 z front) at5 h.first in
      let s2 : Stands x 5 n (0 ∷ body) = subst (λ z. Stands x z n (0 ∷ body)) at5 h.second in
      let k : Halves x 5 n (0 ∷ []) body = stands_split x 5 n (0 ∷ body) (0 ∷ []) body s2 refl in
      let at6 : 5 + length zero_byte ≡ 6 = omega arith in
      let s3 : Stands x 5 6 (0 ∷ []) = subst (λ z. Stands x 5 z (0 ∷ [])) at6 k.first in
      let s4 : Stands x 6 n body = subst (λ z. Stands x z n body) at6 k.second in
      let whole : n ≡ 6 + length body = (let p : n ≡ 5 + length zero_byte + length body = k.place in omega arith) in
      let fits : FitsIn size 5 = inl (omega (arith, body_measured start duration id strings root, spell_most start, spell_most duration, spell_most id, spell_most (length strings))) in
      let r = body_run start duration id strings root x good shallow texts s4 in
      let b : Body = record { start = start; duration = duration; id = id; strings = strings; root = r.0 } in
      let P : Answer Body → Type 0 = λ a. ReadsOrFails meta_format x n 6 a in
      let size_at : IntAt x 0 5 n = record {
        order = omega arith;
        within = s1.within;
        spelled = subst (λ z. Spells z n) (sym s1.bytes)
            (subst (Spells front) (sym whole) (fits_spells size 5 (omega arith) (omega arith) fits));
      } in
      let type_at : IntAt x 5 6 0 = record { order = omega arith; within = s3.within; spelled = subst (λ z. Spells z 0) (sym s3.bytes) zero_spelled } in
      let covers : 6 ≤ 0 + n = omega arith in
      let within : 0 + n ≤ n = omega arith in
      let order : 6 ≤ n = omega arith in
      let inside : n ≤ n = omega arith in
      record {
        is_record = record { size_spelled = size_at; type_spelled = type_at; covers = covers; within = within };
        tree = r.0;
        same = r.1;
        body = subst P r.2 (run_reads_or_fails meta_format x n 6 order inside);
        long = omega arith;
      }

  pub read_back : HasIndices (length strings) root → depth root ≤ 16 → length (table_bytes strings root) < 536870912 → AllByRecursion IsText strings → x ≡ record_bytes start duration id strings root
      → ReadsBack x start duration id strings root
  read_back good shallow small texts e =
      let w = stands_alone good shallow small texts e in
      record {
        frame = record { at = 0; size = length x; type_at = 5; type_id = 0; body = 6 };
        first = refl;
        whole = refl;
        type_zero = refl;
        is_record = w.is_record;
        tree = w.tree;
        same = w.same;
        body = w.body;
        classes = λ k d. described_bare start duration id strings root w.tree k (sym w.same) d;
      }
