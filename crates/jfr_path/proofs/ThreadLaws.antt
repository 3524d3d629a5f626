-- The text that a reference leads to depends only on its class and its key, and so does a filter's verdict on
-- it.
use Rattle.std.specs.Prelude.{◌≡◌, ℕ, Bool, true, false, List, [], ◌∷◌, Option, Some, None, IfSome, cond, codes, option_map, option_and_then, if◌then◌else◌}
use Rattle.std.specs.BTreeMap as tree
use Rattle.std.specs.BTreeMap.{BTreeMap, is_at}
use Rattle.std.specs.Cmp.{Equal-is}
use Rattle.std.specs.Ordering.{nat_cmp}
use Rattle.std.proofs.Common.{ap, refl, sym, ◌∙◌, subst}
use Rattle.std.proofs.lemmas.Map.Lookups.{exact_pairs, exact_unsigned}
use Rattle.jfr_filter.specs.Filters.{Given, allows_thread}
use Rattle.jfr_layout.specs.Classes.{Class, find_class, field_number}
use Rattle.jfr_value.specs.declared.node.Node.{Node}
use Rattle.jfr_value.specs.declared.node.Step.TheVariants as steps
use Rattle.jfr_value.specs.Nodes.{NodeAt, IsValue, child, node_of, target}
use Rattle.jfr_value.proofs.ChildLaws.{no_field_of_constant}
use Rattle.jfr_pool.specs.Entries.{in_force, entry_node}
use Rattle.jfr_chunk.specs.Parts.{Parts, AreParts}
use Rattle.jfr_chunk.specs.Paths.{follow, follow_while, is_reference, named_field, named_text}
use Rattle.jfr_chunk.specs.Chosen.{or_else}
use Rattle.jfr_path.specs.Threads.{AreVerdicts, IsReferenceTo, allows_thread_at, pair_cmp}
use Rattle.jfr_path.proofs.FollowLaws.{followed, ends}
use Rattle.jfr_path.proofs.NameLaws.{named_next}
use Rattle.jfr_path.proofs.StepLaws.{sound, value_place}

-- The marks of a reference.
marks_of_reference : (n : NodeAt) → is_reference n ≡ true → (n.shape.array ≡ false) × (n.shape.constant ≡ true)
marks_of_reference n e = by_marks n.shape.array n.shape.constant e
  where
    by_marks : (a c : Bool) → (if a then false else c) ≡ true → (a ≡ false) × (c ≡ true)
    by_marks true c e = cc
    by_marks false c e = (refl, e)

module _ (p : Parts) (parts : AreParts p) (t : ℕ × ℕ) where
  -- A reference has no field.
  no_field : (n : NodeAt) (name : List ℕ) → IsReferenceTo p t n → named_field p name n ≡ None
  no_field n name r = by_class (find_class p.classes n.shape.class)
    where
      by_number : (o : Option ℕ) → option_and_then (λ i. child p.classes p.bytes n (steps.Field i)) o ≡ None
      by_number None = refl
      by_number (Some i) = let m = marks_of_reference n r.reference in no_field_of_constant p.classes p.bytes n r.value (sound p parts) r.node i m.0 m.1

      by_class : (o : Option Class) → option_and_then (λ c. option_and_then (λ i. child p.classes p.bytes n (steps.Field i)) (field_number c.fields name)) o ≡ None
      by_class None = refl
      by_class (Some c) = by_number (field_number c.fields name)

  module _ (n m : NodeAt) (r : IsReferenceTo p t n) (s : IsReferenceTo p t m) where
    same_field : (name : List ℕ) → named_field p name (follow_while 16 is_reference p n) ≡ named_field p name (follow_while 16 is_reference p m)
    same_field name = by_entry (option_map entry_node (in_force p.entries t)) (entry n r) (entry m s)
      where
        entry : (n : NodeAt) → IsReferenceTo p t n → follow p n ≡ option_map entry_node (in_force p.entries t)
        entry n r = ap (option_and_then (λ t. option_map entry_node (in_force p.entries t))) r.target

        by_entry : (o : Option NodeAt) → follow p n ≡ o → follow p m ≡ o → named_field p name (follow_while 16 is_reference p n) ≡ named_field p name (follow_while 16 is_reference p m)
        by_entry None e f = ap (named_field p name) (ends is_reference p 16 n e) ∙ (no_field n name r ∙ sym (ap (named_field p name) (ends is_reference p 16 m f) ∙ no_field m name s))
        by_entry (Some to) e f = ap (named_field p name) (followed is_reference p 15 n to r.reference e ∙ sym (followed is_reference p 15 m to s.reference f))

    -- Names lead to the same text from references to one class and key.
    pub same_text : (name : List ℕ) (names : List (List ℕ)) → named_text p n (name ∷ names) ≡ named_text p m (name ∷ names)
    same_text name names = named_next p name names n ∙ (ap (option_and_then (λ z. named_text p z names)) (same_field name) ∙ sym (named_next p name names m))

    same_allowed : (g : Given) → allows_thread_at g p n ≡ allows_thread_at g p m
    same_allowed g = ap (allows_thread g) (λ i. or_else (same_text (codes "javaName") [] i) (same_text (codes "osName") [] i))

-- What a reference that the code hands around refers to.
pub referred_to : (p : Parts) (n : Node) (o : Option (ℕ × ℕ)) → IsValue p.classes n → n.bytes.now ≡ p.bytes → is_reference (node_of n) ≡ true → o ≡ target p.classes p.bytes (node_of n)
    → IfSome o (λ t. IsReferenceTo p t (node_of n))
referred_to p n None v b r e = tt
referred_to p n (Some t) v b r e = let w = value_place p n b v in record { value = w.0; node = w.1; reference = r; target = sym e }

-- A verdict that was kept.
pub verdict_kept : (g : Given) (p : Parts) (verdicts : BTreeMap (ℕ × ℕ) Bool) (t : ℕ × ℕ) (n : NodeAt) (allowed : Bool) → AreVerdicts g p verdicts → IsReferenceTo p t n
    → Some allowed ≡ tree.get pair_cmp verdicts t → allowed ≡ allows_thread_at g p n
verdict_kept g p verdicts t n allowed a r e = subst (λ z. IfSome z (λ allowed. allowed ≡ allows_thread_at g p n)) (sym e) (a.each t n r)

-- A verdict more.
pub verdicts_next : (g : Given) (p : Parts) (old new : BTreeMap (ℕ × ℕ) Bool) (t : ℕ × ℕ) (n : NodeAt) (allowed : Bool) → AreParts p → AreVerdicts g p old → IsReferenceTo p t n
    → allowed ≡ allows_thread_at g p n → tree.Updates pair_cmp old new t (Some allowed) → AreVerdicts g p new
verdicts_next g p old new t n allowed parts a r e up =
    record { each = λ u m s. subst (λ z. IfSome z (λ allowed. allowed ≡ allows_thread_at g p m)) (sym (up.0 u)) (by_key u m s (is_at (pair_cmp t) u) refl) }
  where
    by_key : (u : ℕ × ℕ) (m : NodeAt) → IsReferenceTo p u m → (b : Bool) → is_at (pair_cmp t) u ≡ b
        → IfSome (cond b (Some allowed) (tree.get pair_cmp old u)) (λ allowed. allowed ≡ allows_thread_at g p m)
    by_key u m s true q =
        let same : t ≡ u = exact_pairs nat_cmp nat_cmp exact_unsigned exact_unsigned t u ((Equal-is (pair_cmp t u)).0 q) in
        e ∙ same_allowed p parts t n m r (subst (λ z. IsReferenceTo p z m) (sym same) s) g
    by_key u m s false q = a.each u m s
