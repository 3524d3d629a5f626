-- The tree of classes, one element after another.
use Rattle.std.specs.Prelude.{◌≡◌, ℕ, zero, suc, ◌+◌, ◌^◌, ◌<◌, ◌≤◌, ◌||◌, ◌==◌, Bool, true, false, List, [], ◌∷◌, ◌++◌, length, drop, slice_get, Option, Some, None}
use Rattle.std.specs.List.{flat_map}
use Rattle.std.specs.Fmt.{decimal}
use Rattle.std.specs.Str.{chars}
use Rattle.std.proofs.Common.{ap, arith, length-append, refl, sym, ◌∙◌}
use Rattle.std.proofs.lemmas.Fmt.{IsAscii-decimal}
use Rattle.std.proofs.lemmas.List.{append_assoc}
use Rattle.std.proofs.lemmas.Str.{chars-IsAscii}
use Rattle.jfr_layout.specs.Classes.{Class, Classes, Field, has_id}
use Rattle.jfr_meta.specs.Body.{Body}
use Rattle.jfr_meta.specs.Slimmed.{slim_in}
use Rattle.jfr_meta.specs.Trees.{Tree, trees_of}
use Rattle.jfr_meta.specs.Written.{depth, depths}
use Rattle.jfr_build.specs.declared.region.Region.{Region}
use Rattle.jfr_build.specs.Described.{body_of, class_texts, class_tree, class_trees, field_texts, field_tree, field_trees, metadata_record, region_trees, texts_before}

pub decimal_chars : (n : ℕ) → n < 2 ^ 64 → chars (decimal n) ≡ decimal n
decimal_chars n h = chars-IsAscii (decimal n) (IsAscii-decimal n h)

drop_here : {X : Type 0} (xs : List X) (i : ℕ) (x : X) → slice_get xs i ≡ Some x → drop i xs ≡ x ∷ drop (i + 1) xs
drop_here [] i x e = cc
drop_here (y ∷ xs) zero x e = let h : y ≡ x = cc in ap (λ z. z ∷ xs) h
drop_here (y ∷ xs) (suc i) x e = let h : suc i + 1 ≡ suc (i + 1) = omega arith in rw h (drop_here xs i x e)

-- An element more.
pub texts_step : {X : Type 0} (f : X → List (List ℕ)) (xs : List X) (i : ℕ) (x : X) (s t : List (List ℕ)) → slice_get xs i ≡ Some x → t ≡ s ++ f x
    → s ++ flat_map f (drop i xs) ≡ t ++ flat_map f (drop (i + 1) xs)
texts_step f xs i x s t e h =
    ap (λ z. s ++ flat_map f z) (drop_here xs i x e) ∙ (sym (append_assoc s (f x) (flat_map f (drop (i + 1) xs))) ∙ ap (λ z. z ++ flat_map f (drop (i + 1) xs)) (sym h))

pub fields_step : (fs : List Field) (i : ℕ) (f : Field) (made : List Tree) (s t : List (List ℕ)) → slice_get fs i ≡ Some f → t ≡ s ++ field_texts f
    → made ++ field_trees (length s) (drop i fs) ≡ (made ++ field_tree (length s) f ∷ []) ++ field_trees (length t) (drop (i + 1) fs)
fields_step fs i f made s t e h =
    let l : length t ≡ length s + 2 = ap length h ∙ length-append s (field_texts f) in
    ap (λ z. made ++ field_trees (length s) z) (drop_here fs i f e)
    ∙ (ap (λ n. made ++ field_tree (length s) f ∷ field_trees n (drop (i + 1) fs)) (sym l)
    ∙ sym (append_assoc made (field_tree (length s) f ∷ []) (field_trees (length t) (drop (i + 1) fs))))

pub classes_step : (k : Classes) (i : ℕ) (c : Class) (made : List Tree) (s t : List (List ℕ)) → slice_get k i ≡ Some c → t ≡ s ++ class_texts c
    → made ++ class_trees (length s) (drop i k) ≡ (made ++ class_tree (length s) c ∷ []) ++ class_trees (length t) (drop (i + 1) k)
classes_step k i c made s t e h =
    let l : length t ≡ length s + length (class_texts c) = ap length h ∙ length-append s (class_texts c) in
    ap (λ z. made ++ class_trees (length s) z) (drop_here k i c e)
    ∙ (ap (λ n. made ++ class_tree (length s) c ∷ class_trees n (drop (i + 1) k)) (sym l)
    ∙ sym (append_assoc made (class_tree (length s) c ∷ []) (class_trees (length t) (drop (i + 1) k))))

-- An id more.
or_assoc : (a b c : Bool) → ((a || b) || c) ≡ (a || (b || c))
or_assoc true b c = refl
or_assoc false b c = refl

pub ids_step : (k : Classes) (i : ℕ) (c : Class) (old new : Bool) (id : ℕ) → slice_get k i ≡ Some c → new ≡ (old || (c.id == id)) → (old || has_id (drop i k) id) ≡ has_id k id
    → (new || has_id (drop (i + 1) k) id) ≡ has_id k id
ids_step k i c old new id e h q =
    ap (λ z. z || has_id (drop (i + 1) k) id) h
    ∙ (or_assoc old (c.id == id) (has_id (drop (i + 1) k) id)
    ∙ (sym (ap (λ z. old || has_id z id) (drop_here k i c e)) ∙ q))

-- The tree has at most four levels.
fields_low : (n : ℕ) (fs : List Field) → depths (trees_of (field_trees n fs)) ≤ 1
fields_low n [] = omega arith
fields_low n (f ∷ fs) = let i = fields_low (n + 2) fs in omega (arith, i)

classes_low : (n : ℕ) (k : Classes) → depths (trees_of (class_trees n k)) ≤ 2
classes_low n [] = omega arith
classes_low n (c ∷ cs) =
    let i = classes_low (n + length (class_texts c)) cs in
    let j = fields_low (n + 2) c.fields in
    omega (arith, i, j)

region_low : (n : ℕ) (region : Option Region) → depths (trees_of (region_trees n region)) ≤ 1
region_low n None = omega arith
region_low n (Some r) = omega arith

pub root_low : (k : Classes) (region : Option Region) → depth (body_of k region).root ≤ 16
root_low k region = let i = classes_low 15 k in let j = region_low (length (texts_before k)) region in omega (arith, i, j)

-- The body with this table and this tree.
abbrev with_parts : List (List ℕ) → Tree → Body
with_parts strings root = record { start = 0; duration = 0; id = 1; strings = strings; root = root }

-- The record, from any set with the ids of all classes.
pub slim_same : (k : Classes) (region : Option Region) (strings : List (List ℕ)) (root : Tree) (s : ℕ → Bool) → strings ≡ (body_of k region).strings → root ≡ (body_of k region).root
    → ((id : ℕ) → s id ≡ has_id k id)
    → slim_in (record { start = 0; duration = 0; id = 1; strings = strings; root = root }) s (2 ^ 30) ≡ metadata_record k region
unfolding metadata_record
slim_same k region strings root s e f h =
    let p : s ≡ has_id k = λ i. λ id. h id i in
    ap (λ z. slim_in (with_parts z root) s (2 ^ 30)) e
    ∙ (ap (λ z. slim_in (with_parts (body_of k region).strings z) s (2 ^ 30)) f
    ∙ ap (λ z. slim_in (body_of k region) z (2 ^ 30)) p)
