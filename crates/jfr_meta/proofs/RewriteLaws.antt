-- A tree while it is written with a new table of strings.
use Rattle.std.specs.Prelude.{◌≡◌, ℕ, suc, Bool, true, false, List, [], ◌∷◌, ◌++◌, length, map, Result, Ok, Err, OnOk, if◌then◌else◌}
use Rattle.std.specs.List.{flat_map}
use Rattle.std.proofs.Common.{ap, refl, sym, ◌∙◌, subst, inl, append_assoc, append-nil}
use Rattle.std.proofs.lemmas.Grind.{flat_map-append}
use Rattle.std.proofs.lemmas.List.{length-map}
use Rattle.jfr_base.specs.Integer.{spell}
use Rattle.jfr_worklist.specs.Members.{In}
use Rattle.jfr_worklist.proofs.Members.{in_left, in_right}
use Rattle.jfr_meta.specs.declared.rewriting.NewTree.{NewTree}
use Rattle.jfr_meta.specs.Trees.{Tree, Node, trees_of, name_of, pairs_of, children_of}
use Rattle.jfr_meta.specs.Body.{Body, how_many}
use Rattle.jfr_meta.specs.Written.{pair_bytes, tree_bytes, trees_bytes}
use Rattle.jfr_meta.specs.Slimmed.{all_renumbered, all_uses, first_changed, renumbered, slim_body, slim_root, uses, with_children}
use Rattle.jfr_meta.specs.NewTables.{IsTable, Tabled, number_in}
use Rattle.jfr_meta.specs.Rewritten.{Wrote, WroteHead, WrotePairs, WroteTree, WroteTrees, pair_uses, new_pair, new_tree}
use Rattle.jfr_meta.proofs.NewTableLaws.{number_stays, own_children, tabled_as, tabled_none, tabled_then, uses_each}
use Rattle.jfr_meta.proofs.WithinLaws.{slim_strings, slim_tree_is}

-- The parts of an element with new indices.
pairs_spelled : (f : ℕ → ℕ) (ps : List (ℕ × ℕ)) → flat_map pair_bytes (map (λ p. (f p.0, f p.1)) ps) ≡ flat_map (new_pair f) ps
pairs_spelled f [] = refl
pairs_spelled f (p ∷ ps) = ap (λ z. new_pair f p ++ z) (pairs_spelled f ps)

children_counted : (f : ℕ → ℕ) (ts : List Tree) → how_many (all_renumbered f (trees_of ts)) ≡ length ts
children_counted f [] = refl
children_counted f (t ∷ ts) = ap (λ n. suc n) (children_counted f ts)

children_spelled : (f : ℕ → ℕ) (ts : List Tree) → trees_bytes (all_renumbered f (trees_of ts)) ≡ flat_map (new_tree f) ts
children_spelled f [] = refl
children_spelled f (t ∷ ts) = ap (λ z. new_tree f t ++ z) (children_spelled f ts)

five_parts : (a b c d e : List ℕ) → (a ++ (b ++ (c ++ d))) ++ e ≡ a ++ (b ++ (c ++ (d ++ e)))
five_parts a b c d e = simp append_assoc

four_parts : (a b c d : List ℕ) → ((a ++ b) ++ c) ++ d ≡ a ++ (b ++ (c ++ d))
four_parts a b c d = simp append_assoc

module _ (texts : List (List ℕ)) where
  pub wrote_none : (a : NewTree) → IsTable texts a.table → Wrote texts [] (λ f. []) a a
  wrote_none a t = record { tabled = tabled_none texts a.table t; written = sym (append-nil a.bytes.items); only = λ f g h. refl }

  pub wrote_index : (a b : NewTree) (i n : ℕ) → Tabled texts (i ∷ []) a.table b.table → n ≡ number_in b.table.words texts i → b.bytes.items ≡ a.bytes.items ++ spell n
      → Wrote texts (i ∷ []) (λ f. spell (f i)) a b
  wrote_index a b i n t e w = record { tabled = t; written = w ∙ ap (λ z. a.bytes.items ++ spell z) e; only = λ f g h. ap spell (h i (inl refl)) }

  pub wrote_plain : (a b : NewTree) (n : ℕ) → IsTable texts a.table → b.table ≡ a.table → b.bytes.items ≡ a.bytes.items ++ spell n → Wrote texts [] (λ f. spell n) a b
  wrote_plain a b n t e w = record { tabled = subst (λ z. Tabled texts [] a.table z) (sym e) (tabled_none texts a.table t); written = w; only = λ f g h. refl }

  pub wrote_then : (xs ys : List ℕ) (f g : (ℕ → ℕ) → List ℕ) (a b c : NewTree) → Wrote texts xs f a b → Wrote texts ys g b c → Wrote texts (xs ++ ys) (λ n. f n ++ g n) a c
  wrote_then xs ys f g a b c p q =
      let new = number_in c.table.words texts in
      record {
        tabled = tabled_then texts xs ys a.table b.table c.table p.tabled q.tabled;
        written = q.written
            ∙ (ap (λ z. z ++ g new) (p.written ∙ ap (λ z. a.bytes.items ++ z) (p.only (number_in b.table.words texts) new (number_stays texts xs ys a.table b.table c.table p.tabled q.tabled)))
            ∙ append_assoc a.bytes.items (f new) (g new));
        only = λ m n h. (λ i. p.only m n (λ j k. h j (in_left xs ys j k)) i ++ q.only m n (λ j k. h j (in_right xs ys j k)) i);
      }

  pub wrote_as : (xs ys : List ℕ) (f g : (ℕ → ℕ) → List ℕ) (a b : NewTree) → xs ≡ ys → ((n : ℕ → ℕ) → f n ≡ g n) → Wrote texts xs f a b → Wrote texts ys g a b
  wrote_as xs ys f g a b e h p = record {
    tabled = tabled_as texts xs ys a.table b.table e p.tabled;
    written = p.written ∙ ap (λ z. a.bytes.items ++ z) (h (number_in b.table.words texts));
    only = λ m n k. sym (h m) ∙ (p.only m n (λ j i. k j (subst (λ z. In z j) e i)) ∙ h n);
  }

  -- One more.
  wrote_more : {X : Type 0} (us : X → List ℕ) (bs : (ℕ → ℕ) → X → List ℕ) (xs : List X) (x : X) (a b c : NewTree)
      → Wrote texts (flat_map us xs) (λ f. flat_map (bs f) xs) a b → Wrote texts (us x) (λ f. bs f x) b c → Wrote texts (flat_map us (xs ++ x ∷ [])) (λ f. flat_map (bs f) (xs ++ x ∷ [])) a c
  wrote_more {X = X} us bs xs x a b c p q =
      wrote_as (flat_map us xs ++ us x) (flat_map us (xs ++ x ∷ [])) (λ f. flat_map (bs f) xs ++ bs f x) (λ f. flat_map (bs f) (xs ++ x ∷ [])) a c (one_more us) (λ f. one_more (bs f))
      (wrote_then (flat_map us xs) (us x) (λ f. flat_map (bs f) xs) (λ f. bs f x) a b c p q)
    where
      one_more : (g : X → List ℕ) → flat_map g xs ++ g x ≡ flat_map g (xs ++ x ∷ [])
      one_more g = sym (flat_map-append g xs (x ∷ []) ∙ ap (λ z. flat_map g xs ++ z) (append-nil (g x)))

  pub pairs_more : (ps qs : List (ℕ × ℕ)) (p : ℕ × ℕ) (a b c d : NewTree) → ps ++ p ∷ [] ≡ qs → WrotePairs texts ps a b → Wrote texts (p.0 ∷ []) (λ f. spell (f p.0)) b c
      → Wrote texts (p.1 ∷ []) (λ f. spell (f p.1)) c d → WrotePairs texts qs a d
  pairs_more ps qs p a b c d e w k v =
      subst (λ z. WrotePairs texts z a d) e (wrote_more pair_uses new_pair ps p a b d w (wrote_then (p.0 ∷ []) (p.1 ∷ []) (λ f. spell (f p.0)) (λ f. spell (f p.1)) b c d k v))

  pub trees_more : (ts us : List Tree) (t : Tree) (a b c : NewTree) → ts ++ t ∷ [] ≡ us → WroteTrees texts ts a b → WroteTree texts t b c → WroteTrees texts us a c
  trees_more ts us t a b c e w k = subst (λ z. WroteTrees texts z a c) e (wrote_more uses new_tree ts t a b c w k)

  -- An element's parts.
  pub head_done : (t : Tree) (count : ℕ) (name n : ℕ) (ps : List (ℕ × ℕ)) (a b c d e : NewTree) → name ≡ name_of t → n ≡ length (pairs_of t) → ps ≡ pairs_of t
      → Wrote texts (name ∷ []) (λ f. spell (f name)) a b → Wrote texts [] (λ f. spell n) b c
      → WrotePairs texts ps c d → Wrote texts [] (λ f. spell count) d e → WroteHead texts t count a e
  head_done (Node place name pairs children) count _ _ _ a b c d e e1 e2 e3 p q r s =
      let p2 : Wrote texts (name ∷ []) (λ f. spell (f name)) a b = subst (λ z. Wrote texts (z ∷ []) (λ f. spell (f z)) a b) e1 p in
      let q2 : Wrote texts [] (λ f. spell (length pairs)) b c = subst (λ z. Wrote texts [] (λ f. spell z) b c) e2 q in
      let r2 : WrotePairs texts pairs c d = subst (λ z. WrotePairs texts z c d) e3 r in
      let is = flat_map pair_uses pairs in
      let all = wrote_then (((name ∷ []) ++ []) ++ is) [] (λ f. (spell (f name) ++ spell (length pairs)) ++ flat_map (new_pair f) pairs) (λ f. spell count) a d e
      (wrote_then ((name ∷ []) ++ []) is (λ f. spell (f name) ++ spell (length pairs)) (λ f. flat_map (new_pair f) pairs) a c d
      (wrote_then (name ∷ []) [] (λ f. spell (f name)) (λ f. spell (length pairs)) a b c p2 q2) r2) s in
      wrote_as ((((name ∷ []) ++ []) ++ is) ++ []) (name ∷ is) (λ f. ((spell (f name) ++ spell (length pairs)) ++ flat_map (new_pair f) pairs) ++ spell count)
      (λ f. spell (f name) ++ (spell (length pairs) ++ (flat_map (new_pair f) pairs ++ spell count))) a e
      (ap (λ z. name ∷ z) (append-nil is)) (λ f. four_parts (spell (f name)) (spell (length pairs)) (flat_map (new_pair f) pairs) (spell count)) all

  -- An element is its head and its children.
  pub tree_done : (t : Tree) (cs : List Tree) (n : ℕ) (a b c : NewTree) → n ≡ length cs → WroteHead texts t n a b → WroteTrees texts cs b c → WroteTree texts (with_children cs t) a c
  tree_done (Node place name pairs children) cs n a b c e h w =
      wrote_as ((name ∷ flat_map pair_uses pairs) ++ flat_map uses cs) (name ∷ (flat_map pair_uses pairs ++ all_uses (trees_of cs)))
      (λ f. (spell (f name) ++ (spell (length pairs) ++ (flat_map (new_pair f) pairs ++ spell n))) ++ flat_map (new_tree f) cs)
      (λ f. new_tree f (Node place name pairs (trees_of cs))) a c
      (ap (λ z. name ∷ (flat_map pair_uses pairs ++ z)) (sym (uses_each cs))) spelled
      (wrote_then (name ∷ flat_map pair_uses pairs) (flat_map uses cs) (λ f. spell (f name) ++ (spell (length pairs) ++ (flat_map (new_pair f) pairs ++ spell n)))
      (λ f. flat_map (new_tree f) cs) a b c h w)
    where
      spelled : (f : ℕ → ℕ) → (spell (f name) ++ (spell (length pairs) ++ (flat_map (new_pair f) pairs ++ spell n))) ++ flat_map (new_tree f) cs ≡ new_tree f (Node place name pairs (trees_of cs))
      spelled f =
          five_parts (spell (f name)) (spell (length pairs)) (flat_map (new_pair f) pairs) (spell n) (flat_map (new_tree f) cs)
          ∙ (λ i. spell (f name) ++ (spell (sym (length-map {B = ℕ × ℕ} pairs (λ (p : ℕ × ℕ). (f p.0, f p.1))) i)
          ++ (sym (pairs_spelled f pairs) i ++ (spell ((e ∙ sym (children_counted f cs)) i) ++ sym (children_spelled f cs) i))))

  pub element_done : (t : Tree) (cs : List Tree) (n : ℕ) (a b c : NewTree) → cs ≡ children_of t → n ≡ length (children_of t) → WroteHead texts t n a b → WroteTrees texts cs b c → WroteTree texts t a c
  element_done t cs n a b c e l h w = subst (λ z. WroteTree texts z a c) (own_children t) (tree_done t (children_of t) n a b c l h (subst (λ z. WroteTrees texts z b c) e w))

-- On success a fact that follows.
pub on_ok_so : {T E P Q : Type 0} (r : Result T E) → (P → Q) → OnOk r P → OnOk r Q
on_ok_so (Ok x) f h = f h
on_ok_so (Err x) f h = tt

pub changed_size : {A : Type 0} (p : A → Bool) (f : A → A) (xs : List A) → length (first_changed p f xs) ≡ length xs
changed_size p f [] = refl
changed_size p f (x ∷ xs) = by_test (p x) (changed_size p f xs)
  where
    by_test : (b : Bool) → length (first_changed p f xs) ≡ length xs → length (if b then f x ∷ xs else x ∷ first_changed p f xs) ≡ suc (length xs)
    by_test true e = refl
    by_test false e = ap (λ n. suc n) e

-- What is written of the slim body.
module _ (b : Body) (stays : ℕ → Bool) (a c : NewTree) (empty : a.table.words ≡ []) (nothing : a.bytes.items ≡ []) (wrote : WroteTree b.strings (slim_root b.strings stays b.root) a c) where
  pub slim_words : c.table.words ≡ (slim_body b stays).strings
  slim_words = slim_strings b stays c.table.words a.table.words empty wrote.tabled.words

  pub slim_bytes : c.bytes.items ≡ tree_bytes (slim_body b stays).root
  slim_bytes =
      let left = slim_root b.strings stays b.root in
      let new = number_in c.table.words b.strings in
      wrote.written ∙ (ap (λ z. z ++ new_tree new left) nothing ∙ ap tree_bytes (slim_tree_is b stays c.table.words (renumbered new left) slim_words refl))
