-- A table of strings while it grows.
use Rattle.std.specs.Prelude.{◌≡◌, ℕ, zero, suc, Bool, true, false, not, ◌&&◌, ◌||◌, List, [], ◌∷◌, ◌++◌, length, map, filter, replicate, slice_get, slice_set, Option, Some, None, Vec, if◌then◌else◌}
use Rattle.std.specs.List.{flat_map}
use Rattle.std.specs.BTreeMap as tree
use Rattle.std.specs.BTreeMap.{BTreeMap, is_at}
use Rattle.std.specs.Borrow.{Bor}
use Rattle.std.specs.Cmp.Lexicographic.{slice_cmp}
use Rattle.std.specs.Map.{lookup}
use Rattle.std.specs.Ordering.{nat_cmp}
use Rattle.std.specs.declared.alloc.Global.{Global}
use Rattle.std.specs.Str.{bytes_eq, chars, encode_utf8_all, IsUtf8}
use Rattle.std.proofs.Common.{ap, refl, sym, ◌∙◌, subst, inl, inr, append_assoc, append-nil}
use Rattle.std.proofs.lemmas.List.{map-append}
use Rattle.std.proofs.lemmas.Slice.Eq.{bytes_eq-Decides}
use Rattle.jfr_layout.specs.Names.{value_under}
use Rattle.jfr_layout.proofs.Numbered.{number_added, number_each, number_found, number_kept}
use Rattle.jfr_meta.specs.declared.tabling.NewTable.{NewTable}
use Rattle.jfr_meta.specs.Attributes.{text_at}
use Rattle.jfr_meta.specs.Trees.{Tree, Node, Trees, Nil, Cons, list_of, trees_of, children_of}
use Rattle.jfr_meta.specs.Slimmed.{with_children, firsts, index_in, uses, all_uses}
use Rattle.jfr_meta.specs.NewTables.{has_text, with_text, added, number_in, IsTable, Tabled}
use Rattle.jfr_worklist.specs.Members.{In}

same_text : (x y : List ℕ) → bytes_eq x y ≡ true → x ≡ y
same_text x y = (bytes_eq-Decides x y).0

text_same : (x : List ℕ) → bytes_eq x x ≡ true
text_same x = (bytes_eq-Decides x x).1 refl

-- A table, and texts after it.
has_append : (table ys : List (List ℕ)) (x : List ℕ) → has_text (table ++ ys) x ≡ (has_text table x || has_text ys x)
has_append [] ys x = refl
has_append (t ∷ ts) ys x = by_test (bytes_eq t x) (has_append ts ys x)
  where
    by_test : (b : Bool) → has_text (ts ++ ys) x ≡ (has_text ts x || has_text ys x) → (b || has_text (ts ++ ys) x) ≡ ((b || has_text ts x) || has_text ys x)
    by_test true e = refl
    by_test false e = e

index_kept : (table ys : List (List ℕ)) (x : List ℕ) → has_text table x ≡ true → index_in (table ++ ys) x ≡ index_in table x
index_kept [] ys x e = cc
index_kept (t ∷ ts) ys x e = by_test (bytes_eq t x) e (index_kept ts ys x)
  where
    by_test : (b : Bool) → (b || has_text ts x) ≡ true → (has_text ts x ≡ true → index_in (ts ++ ys) x ≡ index_in ts x)
        → (if b then 0 else suc (index_in (ts ++ ys) x)) ≡ (if b then 0 else suc (index_in ts x))
    by_test true e f = refl
    by_test false e f = ap (λ n. suc n) (f e)

index_last : (table : List (List ℕ)) (x : List ℕ) → has_text table x ≡ false → index_in (table ++ x ∷ []) x ≡ length table
index_last [] x e = ap (λ b. if b then 0 else 1) (text_same x)
index_last (t ∷ ts) x e = by_test (bytes_eq t x) e (index_last ts x)
  where
    by_test : (b : Bool) → (b || has_text ts x) ≡ false → (has_text ts x ≡ false → index_in (ts ++ x ∷ []) x ≡ length ts) → (if b then 0 else suc (index_in (ts ++ x ∷ []) x)) ≡ suc (length ts)
    by_test true e f = cc
    by_test false e f = ap (λ n. suc n) (f e)

-- A text more.
pub with_there : (table : List (List ℕ)) (x : List ℕ) → has_text table x ≡ true → with_text table x ≡ table
with_there table x e = ap (λ b. if b then table else table ++ x ∷ []) e

pub with_new : (table : List (List ℕ)) (x : List ℕ) → has_text table x ≡ false → with_text table x ≡ table ++ x ∷ []
with_new table x e = ap (λ b. if b then table else table ++ x ∷ []) e

or_true : (b : Bool) → (b || true) ≡ true
or_true true = refl
or_true false = refl

-- A text that is there stays, at its index.
abbrev Stays : List (List ℕ) → List (List ℕ) → Type 0
Stays table later = (y : List ℕ) → has_text table y ≡ true → (index_in later y ≡ index_in table y) × (has_text later y ≡ true)

stays_behind : (table ys : List (List ℕ)) → Stays table (table ++ ys)
stays_behind table ys y e = (index_kept table ys y e, has_append table ys y ∙ ap (λ b. b || has_text ys y) e)

stays_with : (table : List (List ℕ)) (x : List ℕ) → Stays table (with_text table x)
stays_with table x = by_test (has_text table x)
  where
    by_test : (b : Bool) → Stays table (if b then table else table ++ x ∷ [])
    by_test true = λ y e. (refl, e)
    by_test false = stays_behind table (x ∷ [])

has_with : (table : List (List ℕ)) (x : List ℕ) → has_text (with_text table x) x ≡ true
has_with table x = by_test (has_text table x) refl
  where
    by_test : (b : Bool) → has_text table x ≡ b → has_text (if b then table else table ++ x ∷ []) x ≡ true
    by_test true e = e
    by_test false e = has_append table (x ∷ []) x ∙ (ap (λ b. has_text table x || (b || false)) (text_same x) ∙ or_true (has_text table x))

-- More texts.
stays_added : (table xs : List (List ℕ)) → Stays table (added table xs)
stays_added table [] y e = (refl, e)
stays_added table (x ∷ xs) y e = let a = stays_with table x y e in let b = stays_added (with_text table x) xs y a.1 in (b.0 ∙ a.0, b.1)

has_added : (table xs : List (List ℕ)) (x : List ℕ) → In xs x → has_text (added table xs) x ≡ true
has_added table [] x i = absurd i
has_added table (y ∷ xs) x (inl e) = (stays_added (with_text table y) xs x (subst (λ z. has_text (with_text table y) z ≡ true) e (has_with table y))).1
has_added table (y ∷ xs) x (inr i) = has_added (with_text table y) xs x i

added_append : (table xs ys : List (List ℕ)) → added table (xs ++ ys) ≡ added (added table xs) ys
added_append table [] ys = refl
added_append table (x ∷ xs) ys = added_append (with_text table x) xs ys

-- The texts that are added are those that aren't there yet, each at its first occurrence.
filter_through : {A : Type 0} (p q : A → Bool) → ((y : A) → p y ≡ true → q y ≡ true) → (ys : List A) → filter p (filter q ys) ≡ filter p ys
filter_through p q h [] = refl
filter_through p q h (y ∷ ys) = by_test (p y) refl (q y) refl (filter_through p q h ys)
  where
    by_test : (b : Bool) → p y ≡ b → (c : Bool) → q y ≡ c → filter p (filter q ys) ≡ filter p ys → filter p (if c then y ∷ filter q ys else filter q ys) ≡ (if b then y ∷ filter p ys else filter p ys)
    by_test true e true f r = ap (λ t. if t then y ∷ filter p (filter q ys) else filter p (filter q ys)) e ∙ ap (λ z. y ∷ z) r
    by_test true e false f r = let z : true ≡ false = sym (h y e) ∙ f in cc
    by_test false e true f r = ap (λ t. if t then y ∷ filter p (filter q ys) else filter p (filter q ys)) e ∙ r
    by_test false e false f r = r

filter_both : {A : Type 0} (p q r : A → Bool) → ((y : A) → r y ≡ (q y && p y)) → (ys : List A) → filter p (filter q ys) ≡ filter r ys
filter_both p q r h [] = refl
filter_both p q r h (y ∷ ys) = by_test (q y) refl (filter_both p q r h ys) ∙ ap (λ b. if b then y ∷ filter r ys else filter r ys) (sym (h y))
  where
    by_test : (c : Bool) → q y ≡ c → filter p (filter q ys) ≡ filter r ys → filter p (if c then y ∷ filter q ys else filter q ys) ≡ (if c && p y then y ∷ filter r ys else filter r ys)
    by_test true e f = ap (λ z. if p y then y ∷ z else z) f
    by_test false e f = f

abbrev lacks : List (List ℕ) → List ℕ → Bool
lacks table y = not (has_text table y)

added_firsts : (table xs : List (List ℕ)) → added table xs ≡ table ++ filter (lacks table) (firsts xs)
added_firsts table [] = sym (append-nil table)
added_firsts table (x ∷ xs) = by_test (has_text table x) refl (added_firsts table xs) (added_firsts (table ++ x ∷ []) xs)
  where
    others : List (List ℕ)
    others = filter (λ y. not (bytes_eq x y)) (firsts xs)

    not_x : has_text table x ≡ true → (y : List ℕ) → lacks table y ≡ true → not (bytes_eq x y) ≡ true
    not_x e y f = by_same (bytes_eq x y) refl
      where
        by_same : (b : Bool) → bytes_eq x y ≡ b → not b ≡ true
        by_same true g = let z : not true ≡ true = sym (ap not (sym (ap (has_text table) (same_text x y g)) ∙ e)) ∙ f in cc
        by_same false g = refl

    lacks_more : (y : List ℕ) → lacks (table ++ x ∷ []) y ≡ (not (bytes_eq x y) && lacks table y)
    lacks_more y = ap not (has_append table (x ∷ []) y) ∙ by_tests (has_text table y) (bytes_eq x y)
      where
        by_tests : (a b : Bool) → not (a || (b || false)) ≡ (not b && not a)
        by_tests true true = refl
        by_tests true false = refl
        by_tests false true = refl
        by_tests false false = refl

    by_test : (b : Bool) → has_text table x ≡ b → added table xs ≡ table ++ filter (lacks table) (firsts xs)
        → added (table ++ x ∷ []) xs ≡ (table ++ x ∷ []) ++ filter (lacks (table ++ x ∷ [])) (firsts xs)
        → added (if b then table else table ++ x ∷ []) xs ≡ table ++ filter (lacks table) (x ∷ others)
    by_test true e f g =
        f
        ∙ ap (λ z. table ++ z) (sym (ap (λ b. if not b then x ∷ filter (lacks table) others else filter (lacks table) others) e
        ∙ filter_through (lacks table) (λ y. not (bytes_eq x y)) (not_x e) (firsts xs)))
    by_test false e f g =
        g
        ∙ (append_assoc table (x ∷ []) (filter (lacks (table ++ x ∷ [])) (firsts xs))
        ∙ ap (λ z. table ++ z)
        (ap (λ z. x ∷ z) (sym (filter_both (lacks table) (λ y. not (bytes_eq x y)) (lacks (table ++ x ∷ [])) lacks_more (firsts xs)))
        ∙ sym (ap (λ b. if not b then x ∷ filter (lacks table) others else filter (lacks table) others) e)))

all_pass : {A : Type 0} (xs : List A) → filter (λ x. true) xs ≡ xs
all_pass [] = refl
all_pass (x ∷ xs) = ap (λ z. x ∷ z) (all_pass xs)

-- From the empty table on, these are all.
pub added_all : (xs : List (List ℕ)) → added [] xs ≡ firsts xs
added_all xs = added_firsts [] xs ∙ all_pass (firsts xs)

-- Children as a list.
pub uses_each : (ts : List Tree) → all_uses (trees_of ts) ≡ flat_map uses ts
uses_each [] = refl
uses_each (t ∷ ts) = ap (λ z. uses t ++ z) (uses_each ts)

trees_back : (ts : Trees) → trees_of (list_of ts) ≡ ts
trees_back Nil = refl
trees_back (Cons t ts) = ap (λ z. Cons t z) (trees_back ts)

pub own_children : (t : Tree) → with_children (children_of t) t ≡ t
own_children (Node place name pairs children) = ap (λ z. Node place name pairs z) (trees_back children)

-- Nothing is kept at first.
none_yet : {R : Type 0} (count i n : ℕ) → slice_get (replicate count None) i ≡ Some (Some n) → R
none_yet zero i n e = cc
none_yet (suc count) zero n e = cc
none_yet (suc count) (suc i) n e = none_yet count i n e

-- What holds of each number that is kept still does after one more is kept.
noted_each : {Q : ℕ → ℕ → Type 0} (kept : List (Option ℕ)) (i n : ℕ) → ((j k : ℕ) → slice_get kept j ≡ Some (Some k) → Q j k) → Q i n → (j k : ℕ)
    → slice_get (slice_set kept i (Some n)) j ≡ Some (Some k) → Q j k
noted_each [] i n h q j k e = h j k e
noted_each {Q = Q} (o ∷ kept) zero n h q zero k e = let same : n ≡ k = cc in subst (Q 0) same q
noted_each (o ∷ kept) zero n h q (suc j) k e = h (suc j) k e
noted_each (o ∷ kept) (suc i) n h q zero k e = h 0 k e
noted_each {Q = Q} (o ∷ kept) (suc i) n h q (suc j) k e = noted_each {Q = λ j k. Q (suc j) k} kept i n (λ j k. h (suc j) k) q j k e

-- A table that grows.
module _ (texts : List (List ℕ)) where
  in_texts : (is : List ℕ) (i : ℕ) → In is i → In (map (text_at texts) is) (text_at texts i)
  in_texts [] i j = absurd j
  in_texts (k ∷ is) i (inl e) = inl (ap (text_at texts) e)
  in_texts (k ∷ is) i (inr j) = inr (in_texts is i j)

  pub tabled_none : (a : NewTable) → IsTable texts a → Tabled texts [] a a
  tabled_none a t = record { words = refl; table = t }

  pub tabled_then : (xs ys : List ℕ) (a b c : NewTable) → Tabled texts xs a b → Tabled texts ys b c → Tabled texts (xs ++ ys) a c
  tabled_then xs ys a b c p q = record {
    words = q.words ∙ (ap (λ z. added z (map (text_at texts) ys)) p.words
        ∙ (sym (added_append a.words (map (text_at texts) xs) (map (text_at texts) ys)) ∙ ap (added a.words) (sym (map-append (text_at texts) xs ys))));
    table = q.table;
  }

  pub tabled_as : (xs ys : List ℕ) (a b : NewTable) → xs ≡ ys → Tabled texts xs a b → Tabled texts ys a b
  tabled_as xs ys a b e p = subst (λ z. Tabled texts z a b) e p

  -- What was numbered keeps its number.
  pub number_stays : (xs ys : List ℕ) (a b c : NewTable) → Tabled texts xs a b → Tabled texts ys b c → (i : ℕ) → In xs i → number_in b.words texts i ≡ number_in c.words texts i
  number_stays xs ys a b c p q i j =
      let h : has_text b.words (text_at texts i) ≡ true = ap (λ z. has_text z (text_at texts i)) p.words ∙ has_added a.words (map (text_at texts) xs) (text_at texts i) (in_texts xs i j) in
      let r = stays_added b.words (map (text_at texts) ys) (text_at texts i) h in
      sym (ap (λ z. index_in z (text_at texts i)) q.words ∙ r.0)

  -- No table yet.
  pub no_table : (t : NewTable) (count : ℕ) → t.words ≡ [] → t.numbers.items ≡ replicate count None → tree.IsEmpty t.by_text → IsTable texts t
  no_table t count w e f = record {
    text = λ x n g. (let clash : None ≡ Some n = sym (ap (lookup (is_at (λ (k : Bor (List ℕ)). slice_cmp nat_cmp (encode_utf8_all x) k.now))) f) ∙ g in cc);
    lacks = λ x g. ap (λ z. has_text z x) w;
    index = λ i n g. none_yet count i n (sym (ap (λ z. slice_get z i) e) ∙ g);
  }

  -- A text that has its index.
  pub text_numbered : (t : NewTable) (b : List ℕ) (i n : ℕ) → IsTable texts t → IsUtf8 b → chars b ≡ text_at texts i → Some n ≡ tree.get_by (λ k. slice_cmp nat_cmp b k.now) t.by_text
      → (n ≡ number_in t.words texts i) × Tabled texts (i ∷ []) t t
  text_numbered t b i n a u is e =
      let h = a.text (text_at texts i) n (sym (number_found t.by_text b (text_at texts i) u is (Some n) e)) in
      (sym h.0, record { words = sym (with_there t.words (text_at texts i) h.1); table = a })

  -- An index that has its number.
  pub index_numbered : (t : NewTable) (i n : ℕ) → IsTable texts t → slice_get t.numbers.items i ≡ Some (Some n) → (n ≡ number_in t.words texts i) × Tabled texts (i ∷ []) t t
  index_numbered t i n a e = let h = a.index i n e in (sym h.0, record { words = sym (with_there t.words (text_at texts i) h.1); table = a })

  abbrev pub with_numbers : NewTable → Vec (Option ℕ) Global → NewTable
  with_numbers t numbers = record { words = t.words; numbers = numbers; by_text = t.by_text }

  -- The number is kept at the old index.
  pub index_noted : (a t : NewTable) (later : Vec (Option ℕ) Global) (i n : ℕ) → Tabled texts (i ∷ []) a t → n ≡ number_in t.words texts i → later.items ≡ slice_set t.numbers.items i (Some n)
      → Tabled texts (i ∷ []) a (with_numbers t later)
  index_noted a t later i n p e set = record {
    words = p.words;
    table = record {
      text = p.table.text;
      lacks = p.table.lacks;
      index = λ j k f. noted_each {Q = λ j k. (number_in t.words texts j ≡ k) × (has_text t.words (text_at texts j) ≡ true)} t.numbers.items i n p.table.index (sym e, has) j k
          (sym (ap (λ z. slice_get z j) set) ∙ f);
    };
  }
    where
      has : has_text t.words (text_at texts i) ≡ true
      has = ap (λ z. has_text z (text_at texts i)) p.words ∙ has_with a.words (text_at texts i)

  module _ (t : NewTable) (b : List ℕ) (i : ℕ) (words : List (List ℕ)) (later : BTreeMap (Bor (List ℕ)) ℕ) (a : IsTable texts t) (u : IsUtf8 b) (is : chars b ≡ text_at texts i) (none : None ≡ tree.get_by (λ k. slice_cmp nat_cmp b k.now) t.by_text)
      (more : words ≡ t.words ++ text_at texts i ∷ []) (n : ℕ) (at : n ≡ length t.words)
      (up : tree.UpdatesBy (λ x y. slice_cmp nat_cmp x.now y.now) (λ k. slice_cmp nat_cmp b k.now) t.by_text later (Some n)) where
    abbrev x : List ℕ
    x = text_at texts i

    lacked : has_text t.words x ≡ false
    lacked = a.lacks x (sym (number_found t.by_text b x u is None none))

    abbrev pub next : NewTable
    next = record { words = words; numbers = t.numbers; by_text = later }

    stays : Stays t.words words
    stays = subst (Stays t.words) (sym more) (stays_behind t.words (x ∷ []))

    pub new_number : n ≡ number_in words texts i
    new_number = at ∙ sym (ap (λ z. index_in z x) more ∙ index_last t.words x lacked)

    has_new : has_text words x ≡ true
    has_new = ap (λ z. has_text z x) (more ∙ sym (with_new t.words x lacked)) ∙ has_with t.words x

    lacks_still : (y : List ℕ) → value_under later y ≡ None → has_text words y ≡ false
    lacks_still y e = ap (λ z. has_text z y) more ∙ (has_append t.words (x ∷ []) y ∙ by_old (value_under t.by_text y) refl)
      where
        other : bytes_eq x y ≡ false
        other = by_same (bytes_eq x y) refl
          where
            by_same : (c : Bool) → bytes_eq x y ≡ c → c ≡ false
            by_same true f = let clash : Some n ≡ None = number_added t.by_text b x u is later n none up ∙ (ap (value_under later) (same_text x y f) ∙ e) in cc
            by_same false f = refl

        by_old : (o : Option ℕ) → value_under t.by_text y ≡ o → (has_text t.words y || (bytes_eq x y || false)) ≡ false
        by_old None f = ap (λ c. c || (bytes_eq x y || false)) (a.lacks y f) ∙ ap (λ c. c || false) other
        by_old (Some m) f = let clash : Some m ≡ None = sym (number_kept t.by_text b x u is later n none up y m f) ∙ e in cc

    pub text_tabled : Tabled texts (i ∷ []) t next
    text_tabled = record {
      words = more ∙ sym (with_new t.words x lacked);
      table = record {
        text = number_each t.by_text b x u is later n none up (λ y n. (index_in words y ≡ n) × (has_text words y ≡ true))
            (λ y n e. (let h = a.text y n e in let s = stays y h.1 in (s.0 ∙ h.0, s.1))) (sym new_number, has_new);
        lacks = lacks_still;
        index = λ j n e. (let h = a.index j n e in let s = stays (text_at texts j) h.1 in (s.0 ∙ h.0, s.1));
      };
    }
