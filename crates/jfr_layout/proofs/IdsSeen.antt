-- The ids of a list's classes, seen one by one.
use Rattle.std.proofs.Common.{◌≡◌, ℕ, ◌+◌, ◌<◌, ◌≤◌, List, [], ◌++◌, length, take, Option, Some, None, Bool, true, false, cond, sym, ◌∙◌, ap, refl, subst, eqb, arith}
use Rattle.std.specs.Prelude.{is_some}
use Rattle.std.specs.Option.{option_or}
use Rattle.std.specs.List.{slice_get}
use Rattle.std.proofs.lemmas.List.{length-take-le, take_all}
use Rattle.std.proofs.lemmas.Bool.{eqb-true}
use Rattle.jfr_base.specs.declared.reason.Reason.TheVariants.{ClassTwice}
use Rattle.jfr_layout.specs.declared.fault.ClassFault.{ClassFault}
use Rattle.jfr_layout.specs.declared.fault.ClassFault.TheVariants.{Flawed}
use Rattle.jfr_layout.specs.Classes.{Class, Classes, ClassFlaw, IsFirstFlaw, repeats, name_repeats, flaw_if, has_id, class_index}
use Rattle.jfr_layout.specs.declared.index.Index.{Index}
use Rattle.jfr_layout.specs.Resolved.{IsIndex, index_in}
use Rattle.jfr_layout.proofs.Lists.{take_next, absent}
use Rattle.jfr_layout.proofs.Indices.{position_push, is_some-position}
use Rattle.jfr_layout.proofs.Stages.{rest, stage_next, stage_tells, stage_none}

-- What is found at a class.
abbrev pub found_repeats : Classes → ℕ → Class → List ClassFlaw
found_repeats k i c = flaw_if (has_id (take i k) c.id) i None ClassTwice ++ name_repeats i c.fields

-- The ids of the classes before an index lead to them, and nothing repeats an earlier id or name.
pub record IdsSeen (k : Classes) (n : ℕ) (index : Index) : Type 0 where
  pub left : repeats k ≡ rest (found_repeats k) k n
  pub seen : (id : ℕ) → index_in index id ≡ class_index (take n k) id

index_next : (k : Classes) (n : ℕ) (c : Class) (id : ℕ) → slice_get k n ≡ Some c → n ≤ length k
    → class_index (take (n + 1) k) id ≡ option_or (class_index (take n k) id) (cond (eqb c.id id) (Some n) None)
index_next k n c id e l = ap (λ (m : Classes). class_index m id) (take_next k n c e)
    ∙ (position_push (λ (d : Class). eqb d.id id) (take n k) c ∙ ap (λ m. option_or (class_index (take n k) id) (cond (eqb c.id id) (Some m) None)) (length-take-le n k l))

-- An id that was not seen leads to its class, and every other id to what it led to before.
led : (old : Option ℕ) (t : Bool) (n : ℕ) → (t ≡ true → old ≡ None) → cond t (Some n) old ≡ option_or old (cond t (Some n) None)
led None true n h = refl
led None false n h = refl
led (Some m) true n h = let e : Some m ≡ None = h refl in cc
led (Some m) false n h = refl

is_used : (k : Classes) (n : ℕ) (index : Index) (id : ℕ) → IdsSeen k n index → has_id (take n k) id ≡ is_some (index_in index id)
is_used k n index id s = sym (is_some-position (λ (d : Class). eqb d.id id) (take n k)) ∙ ap is_some (sym (s.seen id))

-- The class at an index has a new id, and no field's name repeats in it.
pub ids_next : (k : Classes) (n : ℕ) (index later : Index) (c : Class) → IdsSeen k n index → slice_get k n ≡ Some c → n < length k
    → is_some (index_in index c.id) ≡ false
    → ((id : ℕ) → index_in later id ≡ cond (eqb c.id id) (Some n) (index_in index id))
    → name_repeats n c.fields ≡ []
    → IdsSeen k (n + 1) later
ids_next k n index later c s e l none up names = record {
  left = stage_next (found_repeats k) k n c (repeats k) s.left e (ap (λ t. flaw_if t n None ClassTwice ++ name_repeats n c.fields) (is_used k n index c.id s ∙ none) ∙ names);
  seen = λ id. up id
      ∙ (led (index_in index id) (eqb c.id id) n (λ t. ap (index_in index) (sym (eqb-true c.id id t)) ∙ absent (index_in index c.id) none)
      ∙ (ap (λ o. option_or o (cond (eqb c.id id) (Some n) None)) (s.seen id) ∙ sym (index_next k n c id e (let m : n ≤ length k = omega arith in m))));
}

-- The class at an index has an id that was seen.
pub ids_tell : (k : Classes) (n : ℕ) (index : Index) (c : Class) → IdsSeen k n index → slice_get k n ≡ Some c
    → is_some (index_in index c.id) ≡ true
    → IsFirstFlaw (repeats k) (Flawed n None ClassTwice)
ids_tell k n index c s e some = stage_tells (found_repeats k) k n c (repeats k) (Flawed n None ClassTwice) s.left e
    (ap (λ t. slice_get (flaw_if t n None ClassTwice ++ name_repeats n c.fields) 0) (is_used k n index c.id s ∙ some))

-- The class at an index has a new id, and repeats a name.
pub ids_names_tell : (k : Classes) (n : ℕ) (index : Index) (c : Class) (fault : ClassFault) → IdsSeen k n index → slice_get k n ≡ Some c
    → is_some (index_in index c.id) ≡ false
    → IsFirstFlaw (name_repeats n c.fields) fault
    → IsFirstFlaw (repeats k) fault
ids_names_tell k n index c fault s e none t = stage_tells (found_repeats k) k n c (repeats k) fault s.left e
    (subst (λ (b : Bool). IsFirstFlaw (flaw_if b n None ClassTwice ++ name_repeats n c.fields) fault) (sym (is_used k n index c.id s ∙ none)) t)

-- All were seen.
pub ids_end : (k : Classes) (n : ℕ) (index : Index) → IdsSeen k n index → length k ≤ n → repeats k ≡ []
ids_end k n index s l = stage_none (found_repeats k) k n (repeats k) s.left l

pub ids_index : (k : Classes) (n : ℕ) (index : Index) → IdsSeen k n index → length k ≤ n → IsIndex k index
ids_index k n index s l = record { at = λ id. s.seen id ∙ ap (λ (m : Classes). class_index m id) (take_all n k l) }
