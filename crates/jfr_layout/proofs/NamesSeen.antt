-- The names of a class's fields, seen one by one as numbers.
use Rattle.std.proofs.Common.{◌≡◌, ℕ, zero, suc, ◌+◌, ◌<◌, ◌≤◌, get_or, subst, List, [], ◌∷◌, length, take, Option, Some, Bool, true, false, not, ◌||◌, sym, ◌∙◌, ap, refl, arith}
use Rattle.std.specs.Prelude.{◌==◌, Vec}
use Rattle.std.specs.declared.alloc.Global.{Global}
use Rattle.std.specs.List.{AllZip, list_any, slice_get}
use Rattle.std.specs.BTreeSet as tree
use Rattle.std.specs.BTreeSet.{BTreeSet, contains}
use Rattle.std.specs.BTreeMap.{is_at}
use Rattle.std.specs.Cmp.{Equal-is}
use Rattle.std.specs.Ordering.{nat_cmp}
use Rattle.std.specs.Str.{bytes_eq}
use Rattle.std.proofs.lemmas.Bool.{eq-eqb, eqb-true}
use Rattle.std.proofs.lemmas.List.Folds.{list_any_more}
use Rattle.std.proofs.lemmas.Map.Lookups.{exact_unsigned}
use Rattle.std.proofs.lemmas.Option.{slice_get_within, get_or_from_slice_get, same_Some, slice_get-get_or}
use Rattle.std.proofs.lemmas.Slice.Eq.{bytes_eq-Decides}
use Rattle.jfr_base.specs.declared.reason.Reason.TheVariants.{FieldTwice}
use Rattle.jfr_layout.specs.declared.fault.ClassFault.TheVariants.{Flawed}
use Rattle.jfr_layout.specs.Classes.{Class, Classes, Field, ClassFlaw, IsFirstFlaw, name_repeats, flaw_if, has_name}
use Rattle.jfr_layout.specs.Names.{AreAllNumbered, AreNumbered}
use Rattle.jfr_layout.proofs.Lists.{present, zip_at}
use Rattle.jfr_layout.proofs.Stages.{rest, stage_next, stage_tells, stage_none}

-- What is found at a field.
abbrev pub found_name : ℕ → List Field → ℕ → Field → List ClassFlaw
found_name i fs j f = flaw_if (has_name (take j fs) f.name) i (Some j) FieldTwice

-- Some of these numbers is this one.
abbrev has_number : List ℕ → ℕ → Bool
has_number ns n = list_any (λ m. m == n) ns

-- The numbers of the fields before this one were seen, and no name repeats an earlier one.
pub record NamesSeen (i : ℕ) (fs : List Field) (numbers : List ℕ) (n : ℕ) (seen : BTreeSet ℕ) : Type 0 where
  pub left : name_repeats i fs ≡ rest (found_name i fs) fs n
  pub has : (m : ℕ) → contains nat_cmp seen m ≡ has_number (take n numbers) m

-- Two names are the same exactly if their numbers are.
same_name : (number : List ℕ → Option ℕ) → ((p q : List ℕ) (n : ℕ) → number p ≡ Some n → number q ≡ Some n → p ≡ q)
    → (p q : List ℕ) (m n : ℕ) → number p ≡ Some m → number q ≡ Some n → bytes_eq p q ≡ (m == n)
same_name number one p q m n e f = by_tests (bytes_eq p q) (m == n) refl refl
  where
    by_tests : (b d : Bool) → bytes_eq p q ≡ b → (m == n) ≡ d → b ≡ d
    by_tests true true g h = refl
    by_tests false false g h = refl
    by_tests true false g h =
        let same : m ≡ n = same_Some m n (sym e ∙ (ap number ((bytes_eq-Decides p q).0 g) ∙ f)) in
        let clash : true ≡ false = sym (eq-eqb m n same) ∙ h in
        cc
    by_tests false true g h =
        let same : p ≡ q = one p q n (e ∙ ap Some (eqb-true m n h)) f in
        let clash : false ≡ true = sym g ∙ (bytes_eq-Decides p q).1 same in
        cc

-- A name is among those of the first fields exactly if its number is among theirs.
same_names : (number : List ℕ → Option ℕ) → ((p q : List ℕ) (n : ℕ) → number p ≡ Some n → number q ≡ Some n → p ≡ q)
    → (name : List ℕ) (n : ℕ) → number name ≡ Some n → (fs : List Field) (ns : List ℕ) (i : ℕ) → AllZip (λ f n. number f.name ≡ Some n) fs ns → has_name (take i fs) name ≡ has_number (take i ns) n
same_names number one name n e fs ns zero a = refl
same_names number one name n e [] [] (suc i) a = refl
same_names number one name n e [] (m ∷ ns) (suc i) a = absurd a
same_names number one name n e (f ∷ fs) [] (suc i) a = absurd a
same_names number one name n e (f ∷ fs) (m ∷ ns) (suc i) a =
    ap (λ b. b || has_name (take i fs) name) (same_name number one f.name name m n a.0 e)
    ∙ ap (λ b. (m == n) || b) (same_names number one name n e fs ns i a.1)

-- The set with a number more.
set_next : (old new : BTreeSet ℕ) (m : ℕ) → tree.Updates nat_cmp old new m true → (q : ℕ) → contains nat_cmp new q ≡ (contains nat_cmp old q || (m == q))
set_next old new m up q = by_number (m == q) refl
  where
    or_true : (b : Bool) → true ≡ (b || true)
    or_true true = refl
    or_true false = refl

    or_false : (b : Bool) → b ≡ (b || false)
    or_false true = refl
    or_false false = refl

    other : (t : Bool) → is_at (nat_cmp m) q ≡ t → (m == q) ≡ false → contains nat_cmp new q ≡ contains nat_cmp old q
    other true e f = let clash : true ≡ false = sym (eq-eqb m q (exact_unsigned m q ((Equal-is (nat_cmp m q)).0 e))) ∙ f in cc
    other false e f = up.2 q e

    by_number : (t : Bool) → (m == q) ≡ t → contains nat_cmp new q ≡ (contains nat_cmp old q || t)
    by_number true e = ap (contains nat_cmp new) (sym (eqb-true m q e)) ∙ (up.1 ∙ or_true (contains nat_cmp old q))
    by_number false e = other (is_at (nat_cmp m) q) refl e ∙ or_false (contains nat_cmp old q)

module _ (i : ℕ) (fs : List Field) (numbers : List ℕ) (all : AreNumbered fs numbers) (n : ℕ) (f : Field) (m : ℕ) (there : slice_get fs n ≡ Some f) (numbered : slice_get numbers n ≡ Some m) where
  own_number : all.number f.name ≡ Some m
  own_number =
      let z = zip_at (λ f n. all.number f.name ≡ Some n) fs numbers n f all.each there in
      z.2 ∙ ap Some (same_Some z.0 m (sym z.1 ∙ numbered))

  -- Whether an earlier field has the name.
  was_seen : (seen : BTreeSet ℕ) → NamesSeen i fs numbers n seen → has_name (take n fs) f.name ≡ contains nat_cmp seen m
  was_seen seen s = same_names all.number all.one_name f.name m own_number fs numbers n all.each ∙ sym (s.has m)

  more : (q : ℕ) → has_number (take (n + 1) numbers) q ≡ (has_number (take n numbers) q || (m == q))
  more q = list_any_more (λ k. k == q) numbers n m (slice_get_within numbers n m numbered) ∙ ap (λ k. has_number (take n numbers) q || (k == q)) (get_or_from_slice_get numbers n m m numbered)

  -- A name that was not seen.
  names_next : (seen later : BTreeSet ℕ) → NamesSeen i fs numbers n seen → contains nat_cmp seen m ≡ false → tree.Updates nat_cmp seen later m true → NamesSeen i fs numbers (n + 1) later
  names_next seen later s none up = record {
    left = stage_next (found_name i fs) fs n f (name_repeats i fs) s.left there (ap (λ t. flaw_if t i (Some n) FieldTwice) (was_seen seen s ∙ none));
    has = λ q. set_next seen later m up q ∙ (ap (λ b. b || (m == q)) (s.has q) ∙ sym (more q));
  }

  -- A name that was seen.
  names_tell : (seen : BTreeSet ℕ) → NamesSeen i fs numbers n seen → contains nat_cmp seen m ≡ true → IsFirstFlaw (name_repeats i fs) (Flawed i (Some n) FieldTwice)
  names_tell seen s some = stage_tells (found_name i fs) fs n f (name_repeats i fs) (Flawed i (Some n) FieldTwice) s.left there
      (ap (λ t. slice_get (flaw_if t i (Some n) FieldTwice) 0) (was_seen seen s ∙ some))

-- There is a number for each field.
pub numbers_count : (fs : List Field) (numbers : List ℕ) → AreNumbered fs numbers → length fs ≡ length numbers
numbers_count fs numbers a = each_has fs numbers a.each
  where
    each_has : (fs : List Field) (ns : List ℕ) → AllZip (λ f n. a.number f.name ≡ Some n) fs ns → length fs ≡ length ns
    each_has [] [] z = refl
    each_has [] (n ∷ ns) z = absurd z
    each_has (f ∷ fs) [] z = absurd z
    each_has (f ∷ fs) (n ∷ ns) z = ap suc (each_has fs ns z.1)

-- A field has a number.
pub has_its_number : (fs : List Field) (numbers : List ℕ) (n : ℕ) → AreNumbered fs numbers → n < length fs → n < length numbers
has_its_number fs numbers n a l = let c : length fs ≡ length numbers = numbers_count fs numbers a in omega arith

-- The set says whether a number was in it.
was_new : (is_new had : Bool) → is_new ≡ not had → is_new ≡ true → had ≡ false
was_new is_new true e f = let clash : false ≡ true = sym e ∙ f in cc
was_new is_new false e f = refl

was_there : (is_new had : Bool) → is_new ≡ not had → is_new ≡ false → had ≡ true
was_there is_new true e f = refl
was_there is_new false e f = let clash : true ≡ false = sym e ∙ f in cc

module _ (i : ℕ) (fs : List Field) (numbers : List ℕ) (n : ℕ) (seen : BTreeSet ℕ) (is_new : Bool) (all : AreNumbered fs numbers) (s : NamesSeen i fs numbers n seen) (within : n < length fs) (is : is_new ≡ not (contains nat_cmp seen (get_or numbers n 0))) where
  abbrev m : ℕ
  m = get_or numbers n 0

  numbered : slice_get numbers n ≡ Some m
  numbered = slice_get-get_or numbers n 0 (has_its_number fs numbers n all within)

  -- A number that was not in the set.
  pub new_name : (later : BTreeSet ℕ) → is_new ≡ true → tree.Updates nat_cmp seen later m true → NamesSeen i fs numbers (n + 1) later
  new_name later e up = let f = present fs n within in names_next i fs numbers all n f.0 m f.1 numbered seen later s (was_new is_new (contains nat_cmp seen m) is e) up

  -- A number that was.
  pub old_name : is_new ≡ false → IsFirstFlaw (name_repeats i fs) (Flawed i (Some n) FieldTwice)
  old_name e = let f = present fs n within in names_tell i fs numbers all n f.0 m f.1 numbered seen s (was_there is_new (contains nat_cmp seen m) is e)

-- All were seen.
pub names_end : (i : ℕ) (fs : List Field) (numbers : List ℕ) (n : ℕ) (seen : BTreeSet ℕ) → NamesSeen i fs numbers n seen → length fs ≤ n → name_repeats i fs ≡ []
names_end i fs numbers n seen s l = stage_none (found_name i fs) fs n (name_repeats i fs) s.left l

-- The numbers of the class at an index.
pub numbers_at : (k : Classes) (all : List (Vec ℕ Global)) (i : ℕ) (c : Class) → AreAllNumbered k all → slice_get k i ≡ Some c
    → (numbers : Vec ℕ Global) × (slice_get all i ≡ Some numbers) × AreNumbered c.fields numbers.items
numbers_at k all i c a e = zip_at (λ c numbers. AreNumbered c.fields numbers.items) k all i c a e

-- There are numbers for each class.
pub numbers_within : (k : Classes) (all : List (Vec ℕ Global)) (i : ℕ) (c : Class) → AreAllNumbered k all → slice_get k i ≡ Some c → i < length all
numbers_within k all i c a e = let n = numbers_at k all i c a e in slice_get_within all i n.0 n.1

-- The numbers that an index gives are those of its class.
pub are_numbers_of : (k : Classes) (all : List (Vec ℕ Global)) (i : ℕ) (c : Class) (numbers none : Vec ℕ Global) → AreAllNumbered k all → slice_get k i ≡ Some c → numbers ≡ get_or all i none
    → AreNumbered c.fields numbers.items
are_numbers_of k all i c numbers none a e is =
    let n = numbers_at k all i c a e in
    let same : numbers ≡ n.0 = is ∙ get_or_from_slice_get all i n.0 none n.1 in
    subst (λ (z : Vec ℕ Global). AreNumbered c.fields z.items) (sym same) n.2
