-- The classes of a closed set of ids are sound, and agree with the list.
use Rattle.std.specs.Prelude.{◌≡◌, ℕ, zero, suc, ◌+◌, Bool, true, false, not, ◌&&◌, ◌||◌, ◌==◌, nat_lt, List, [], ◌∷◌, ◌++◌, length, take, filter, find, Option, Some, None, is_some, option_and_then, slice_get, if◌then◌else◌}
use Rattle.std.specs.List.{AllByRecursion, list_any, flat_map, enumerate_from}
use Rattle.std.specs.Option.{option_map_or}
use Rattle.std.proofs.Common.{ap, refl, sym, ◌∙◌, arith, subst}
use Rattle.std.proofs.lemmas.Bool.{eqb-true, or_parts}
use Rattle.jfr_base.specs.declared.reason.Reason.TheVariants.{ClassTwice, FieldTwice, UnknownType, EmptyInline, InlineDeep}
use Rattle.jfr_base.specs.declared.reason.Reason.{Reason}
use Rattle.jfr_layout.specs.Classes.{Class, Classes, Field, Sound, AgreeWithin, class_faults, repeats, name_repeats, flaw_if, flaws_in, has_id, has_name, unknown, is_unknown, empty_inline, is_empty_inline, deep, find_class, step_class, begins_chain, is_composite, kind_of, is_event_class, extends_event}
use Rattle.jfr_layout.proofs.Lists.{nil_parts, none_at, value_in, all_at}
use Rattle.jfr_layout.proofs.SoundLaws.{are_known}
use Rattle.jfr_layout.specs.Staying.{staying, IsClosed, IsSoundSubset}

-- Where nothing is found at any member, nothing is found at all.
none_all_from : {X Y : Type 0} (found : ℕ → X → List Y) (n : ℕ) (xs : List X) → ((i j : ℕ) (x : X) → slice_get xs i ≡ Some x → n + i ≡ j → found j x ≡ [])
    → flat_map (λ y. found y.0 y.1) (enumerate_from n xs) ≡ []
none_all_from found n [] h = refl
none_all_from found n (x ∷ xs) h =
    ap (λ z. z ++ flat_map (λ y. found y.0 y.1) (enumerate_from (n + 1) xs)) (h 0 n x refl (omega arith)) ∙ none_all_from found (n + 1) xs (λ i j y e q. h (suc i) j y e (omega arith))

none_all : {X Y : Type 0} (found : ℕ → X → List Y) (xs : List X) → ((i : ℕ) (x : X) → slice_get xs i ≡ Some x → found i x ≡ []) → flat_map (λ y. found y.0 y.1) (enumerate_from 0 xs) ≡ []
none_all found xs h = none_all_from found 0 xs (λ i j x e q. let m : i ≡ j = omega arith in subst (λ z. found z x ≡ []) m (h i x e))

-- A member that passes a test, and the members before it.
record Placed {X : Type 0} (p : X → Bool) (xs passed : List X) (i : ℕ) (x : X) : Type 0 where
  at : ℕ
  there : slice_get xs at ≡ Some x
  before : take i passed ≡ filter p (take at xs)
  passes : p x ≡ true

filter_place : {X : Type 0} (p : X → Bool) (xs : List X) (i : ℕ) (x : X) → slice_get (filter p xs) i ≡ Some x → Placed p xs (filter p xs) i x
filter_place p [] i x e = cc
filter_place {X = X} p (y ∷ xs) i x e = by_test (p y) refl i e (λ i. filter_place p xs i x)
  where
    by_test : (t : Bool) → p y ≡ t → (i : ℕ) → slice_get (if t then y ∷ filter p xs else filter p xs) i ≡ Some x → ((i : ℕ) → slice_get (filter p xs) i ≡ Some x → Placed p xs (filter p xs) i x)
        → Placed p (y ∷ xs) (if t then y ∷ filter p xs else filter p xs) i x
    by_test true q zero e f = let h : y ≡ x = cc in record { at = 0; there = e; before = refl; passes = subst (λ z. p z ≡ true) h q }
    by_test true q (suc i) e f =
        let r = f i e in
        record { at = suc r.at; there = r.there; before = ap (λ z. y ∷ z) r.before ∙ ap (λ t. if t then y ∷ filter p (take r.at xs) else filter p (take r.at xs)) (sym q); passes = r.passes }
    by_test false q i e f =
        let r = f i e in
        record { at = suc r.at; there = r.there; before = r.before ∙ ap (λ t. if t then y ∷ filter p (take r.at xs) else filter p (take r.at xs)) (sym q); passes = r.passes }

-- What no member is, none of those that pass is.
none_passes : {X : Type 0} (q p : X → Bool) (xs : List X) → list_any q xs ≡ false → list_any q (filter p xs) ≡ false
none_passes q p [] e = refl
none_passes q p (x ∷ xs) e = let r = or_parts (q x) (list_any q xs) e in by_test (p x) r.0 (none_passes q p xs r.1)
  where
    by_test : (t : Bool) → q x ≡ false → list_any q (filter p xs) ≡ false → list_any q (if t then x ∷ filter p xs else filter p xs) ≡ false
    by_test true e f = ap (λ b. b || list_any q (filter p xs)) e ∙ f
    by_test false e f = f

-- A flaw of a test that fails.
flaw_none : (t : Bool) (i : ℕ) (j : Option ℕ) (why : Reason) → t ≡ false → flaw_if t i j why ≡ []
flaw_none t i j why e = ap (λ b. flaw_if b i j why) e

no_flaw : (t : Bool) (i : ℕ) (j : Option ℕ) (why : Reason) → flaw_if t i j why ≡ [] → t ≡ false
no_flaw true i j why e = cc
no_flaw false i j why e = refl

-- What is found in a list.
found_get : {X : Type 0} (t : X → Bool) (xs : List X) (x : X) → find t xs ≡ Some x → (i : ℕ) × (slice_get xs i ≡ Some x) × (t x ≡ true)
found_get t [] x e = cc
found_get {X = X} t (y ∷ ys) x e = by_test (t y) refl e (found_get t ys x)
  where
    by_test : (b : Bool) → t y ≡ b → (if b then Some y else find t ys) ≡ Some x → (find t ys ≡ Some x → (i : ℕ) × (slice_get ys i ≡ Some x) × (t x ≡ true))
        → (i : ℕ) × (slice_get (y ∷ ys) i ≡ Some x) × (t x ≡ true)
    by_test true q e f = let h : y ≡ x = cc in (0, e, subst (λ z. t z ≡ true) h q)
    by_test false q e f = let r = f e in (suc r.0, r.1, r.2)

all_of : {X : Type 0} (P : X → Type 0) (xs : List X) → ((i : ℕ) (x : X) → slice_get xs i ≡ Some x → P x) → AllByRecursion P xs
all_of P [] f = tt
all_of P (x ∷ xs) f = (f 0 x refl, all_of P xs (λ i y e. f (suc i) y e))

same_any : {X : Type 0} (f g : X → Bool) (xs : List X) → ((i : ℕ) (x : X) → slice_get xs i ≡ Some x → f x ≡ g x) → list_any f xs ≡ list_any g xs
same_any f g [] h = refl
same_any f g (x ∷ xs) h = ap (λ b. b || list_any f xs) (h 0 x refl) ∙ ap (λ b. g x || b) (same_any f g xs (λ i y e. h (suc i) y e))

module _ (k : Classes) (stays : ℕ → Bool) where
  -- A class is found among those that stay where it stays.
  pub found_staying : (id : ℕ) → find_class (staying stays k) id ≡ (if stays id then find_class k id else None)
  found_staying id = search_in k
    where
      search_in : (m : Classes) → find_class (staying stays m) id ≡ (if stays id then find_class m id else None)
      search_in [] = none (stays id)
        where
          none : (t : Bool) → find_class [] id ≡ (if t then find_class [] id else None)
          none true = refl
          none false = refl
      search_in (c ∷ m) = by_tests (stays c.id) refl (c.id == id) refl (search_in m)
        where
          by_tests : (s : Bool) → stays c.id ≡ s → (t : Bool) → (c.id == id) ≡ t → find_class (staying stays m) id ≡ (if stays id then find_class m id else None)
              → find_class (if s then c ∷ staying stays m else staying stays m) id ≡ (if stays id then (if t then Some c else find_class m id) else None)
          by_tests true e true f h =
              let g : stays id ≡ true = ap stays (sym (eqb-true c.id id f)) ∙ e in
              ap (λ t. if t then Some c else find_class (staying stays m) id) f ∙ ap (λ s. if s then Some c else None) (sym g)
          by_tests true e false f h = ap (λ t. if t then Some c else find_class (staying stays m) id) f ∙ h
          by_tests false e true f h =
              let g : stays id ≡ false = ap stays (sym (eqb-true c.id id f)) ∙ e in
              h ∙ (ap (λ s. if s then find_class m id else None) g ∙ ap (λ s. if s then Some c else None) (sym g))
          by_tests false e false f h = h

  pub found_as_before : (id : ℕ) → stays id ≡ true → find_class (staying stays k) id ≡ find_class k id
  found_as_before id e = found_staying id ∙ ap (λ s. if s then find_class k id else None) e

  pub events_staying : (id : ℕ) → is_event_class (staying stays k) id ≡ (stays id && is_event_class k id)
  unfolding is_event_class
  events_staying id = ap (λ o. nat_lt 1 id && option_map_or extends_event o false) (found_staying id) ∙ by_test (stays id)
    where
      never : (t : Bool) → (t && false) ≡ false
      never true = refl
      never false = refl

      by_test : (s : Bool) → (nat_lt 1 id && option_map_or extends_event (if s then find_class k id else None) false) ≡ (s && (nat_lt 1 id && option_map_or extends_event (find_class k id) false))
      by_test true = refl
      by_test false = never (nat_lt 1 id)

  module _ (sound : Sound k) (closed : IsClosed k stays) where
    faults : class_faults k ≡ repeats k ++ (unknown k ++ (empty_inline k ++ deep k))
    unfolding class_faults
    faults = refl

    no_repeats : repeats k ≡ []
    no_repeats = (nil_parts (repeats k) (unknown k ++ (empty_inline k ++ deep k)) (sym faults ∙ sound.none)).0

    no_rest : unknown k ++ (empty_inline k ++ deep k) ≡ []
    no_rest = (nil_parts (repeats k) (unknown k ++ (empty_inline k ++ deep k)) (sym faults ∙ sound.none)).1

    no_empty : empty_inline k ≡ []
    no_empty = (nil_parts (empty_inline k) (deep k) (nil_parts (unknown k) (empty_inline k ++ deep k) no_rest).1).0

    no_deep : deep k ≡ []
    no_deep = (nil_parts (empty_inline k) (deep k) (nil_parts (unknown k) (empty_inline k ++ deep k) no_rest).1).1

    abbrev m : Classes
    m = staying stays k

    place : (i : ℕ) (c : Class) → slice_get m i ≡ Some c → Placed (λ (c : Class). stays c.id) k m i c
    place i c e = filter_place (λ (c : Class). stays c.id) k i c e

    -- The class of a field of a class that stays, stays.
    field_stays : (i : ℕ) (c : Class) → slice_get k i ≡ Some c → stays c.id ≡ true → (j : ℕ) (f : Field) → slice_get c.fields j ≡ Some f → stays f.shape.class ≡ true
    field_stays i c e s j f g = all_at (λ (f : Field). stays f.shape.class ≡ true) c.fields j f (closed.fields i c e s) g

    field_known : (i : ℕ) (c : Class) → slice_get k i ≡ Some c → (j : ℕ) (f : Field) → slice_get c.fields j ≡ Some f → is_some (find_class k f.shape.class) ≡ true
    field_known i c e j f g = (are_known k sound).class i j f (ap (option_and_then (λ (d : Class). slice_get d.fields j)) e ∙ g)

    step_as_before : (f : Field) → stays f.shape.class ≡ true → step_class m f ≡ step_class k f
    step_as_before f s = ap (λ o. if f.shape.constant then None else option_and_then (λ (d : Class). if is_composite (kind_of d.name) then Some d else None) o) (found_as_before f.shape.class s)

    -- Whether names repeat in a class doesn't depend on its index.
    names_anywhere : (i j : ℕ) (fs : List Field) → name_repeats i fs ≡ [] → name_repeats j fs ≡ []
    names_anywhere i j fs e =
        none_all (λ n (f : Field). flaw_if (has_name (take n fs) f.name) j (Some n) FieldTwice) fs
        (λ n f g. flaw_none (has_name (take n fs) f.name) j (Some n) FieldTwice
        (no_flaw (has_name (take n fs) f.name) i (Some n) FieldTwice (none_at (λ n (f : Field). flaw_if (has_name (take n fs) f.name) i (Some n) FieldTwice) fs n f e g)))

    repeats_none : repeats m ≡ []
    repeats_none =
        none_all (λ i (c : Class). flaw_if (has_id (take i m) c.id) i None ClassTwice ++ name_repeats i c.fields) m
        (λ i c e.
        (let r = place i c e in
        let both = nil_parts (flaw_if (has_id (take r.at k) c.id) r.at None ClassTwice) (name_repeats r.at c.fields)
        (none_at (λ i (c : Class). flaw_if (has_id (take i k) c.id) i None ClassTwice ++ name_repeats i c.fields) k r.at c no_repeats r.there) in
        let once : has_id (take i m) c.id ≡ false =
        ap (λ z. has_id z c.id) r.before ∙ none_passes (λ (d : Class). d.id == c.id) (λ (d : Class). stays d.id) (take r.at k) (no_flaw (has_id (take r.at k) c.id) r.at None ClassTwice both.0) in
        ap (λ z. z ++ name_repeats i c.fields) (flaw_none (has_id (take i m) c.id) i None ClassTwice once) ∙ names_anywhere r.at i c.fields both.1))

    -- A test of fields that no field of a class that stays fails.
    fields_pass : (why : Reason) (bad : Field → Bool) → ((i : ℕ) (c : Class) → slice_get k i ≡ Some c → stays c.id ≡ true → (j : ℕ) (f : Field) → slice_get c.fields j ≡ Some f → bad f ≡ false)
        → flat_map (λ x. flaws_in why bad x.0 x.1.fields) (enumerate_from 0 m) ≡ []
    fields_pass why bad h =
        none_all (λ i (c : Class). flaws_in why bad i c.fields) m
        (λ i c e.
        (let r = place i c e in
        none_all (λ j f. flaw_if (bad f) i (Some j) why) c.fields (λ j f g. flaw_none (bad f) i (Some j) why (h r.at c r.there r.passes j f g))))

    unknown_none : unknown m ≡ []
    unknown_none =
        fields_pass UnknownType (is_unknown m)
        (λ i c e s j f g. ap (λ o. not (is_some o)) (found_as_before f.shape.class (field_stays i c e s j f g)) ∙ ap not (field_known i c e j f g))

    empty_none : empty_inline m ≡ []
    empty_none =
        fields_pass EmptyInline (is_empty_inline m)
        (λ i c e s j f g. ap (λ o. option_map_or (λ (d : Class). length d.fields == 0) o false) (step_as_before f (field_stays i c e s j f g))
        ∙ no_flaw (is_empty_inline k f) i (Some j) EmptyInline
        (none_at (λ j (f : Field). flaw_if (is_empty_inline k f) i (Some j) EmptyInline) c.fields j f
        (none_at (λ i (c : Class). flaws_in EmptyInline (is_empty_inline k) i c.fields) k i c no_empty e) g))

    -- The class to which an inline step goes is in the list, and stays.
    step_there : (f : Field) (d : Class) → stays f.shape.class ≡ true → step_class k f ≡ Some d → (i : ℕ) × (slice_get k i ≡ Some d) × (stays d.id ≡ true)
    step_there f d s e = by_mark f.shape.constant e
      where
        by_found : (o : Option Class) → find_class k f.shape.class ≡ o → option_and_then (λ (d : Class). if is_composite (kind_of d.name) then Some d else None) o ≡ Some d
            → (i : ℕ) × (slice_get k i ≡ Some d) × (stays d.id ≡ true)
        by_found None q e = cc
        by_found (Some c) q e = by_kind (is_composite (kind_of c.name)) e
          where
            by_kind : (t : Bool) → (if t then Some c else None) ≡ Some d → (i : ℕ) × (slice_get k i ≡ Some d) × (stays d.id ≡ true)
            by_kind true e =
                let h : c ≡ d = cc in
                let r = found_get (λ (c : Class). c.id == f.shape.class) k c q in
                (r.0, r.1 ∙ ap (λ z. Some z) h, ap (λ (z : Class). stays z.id) (sym h) ∙ (ap stays (eqb-true c.id f.shape.class r.2) ∙ s))
            by_kind false e = cc

        by_mark : (t : Bool) → (if t then None else option_and_then (λ (d : Class). if is_composite (kind_of d.name) then Some d else None) (find_class k f.shape.class)) ≡ Some d
            → (i : ℕ) × (slice_get k i ≡ Some d) × (stays d.id ≡ true)
        by_mark true e = cc
        by_mark false e = by_found (find_class k f.shape.class) refl e

    -- Inline steps are as before.
    inline_as_before : (n i : ℕ) (c : Class) → slice_get k i ≡ Some c → stays c.id ≡ true → begins_chain n m c ≡ begins_chain n k c
    inline_as_before zero i c e s = refl
    inline_as_before (suc n) i c e s =
        by_kind (λ i d e s. inline_as_before n i d e s) (is_composite (kind_of c.name))
      where
        Rest : Type 0
        Rest = (i : ℕ) (c : Class) → slice_get k i ≡ Some c → stays c.id ≡ true → begins_chain n m c ≡ begins_chain n k c

        one : Rest → (j : ℕ) (f : Field) → slice_get c.fields j ≡ Some f
            → option_map_or (λ d. begins_chain n m d) (step_class m f) false ≡ option_map_or (λ d. begins_chain n k d) (step_class k f) false
        one rest j f g =
            ap (λ o. option_map_or (λ d. begins_chain n m d) o false) (step_as_before f (field_stays i c e s j f g)) ∙ by_step (step_class k f) refl
          where
            by_step : (o : Option Class) → step_class k f ≡ o → option_map_or (λ d. begins_chain n m d) o false ≡ option_map_or (λ d. begins_chain n k d) o false
            by_step None q = refl
            by_step (Some d) q = let r = step_there f d (field_stays i c e s j f g) q in rest r.0 d r.1 r.2

        by_kind : Rest → (t : Bool)
            → list_any (λ f. option_map_or (λ d. begins_chain n m d) (step_class m f) false) (if t then c.fields else []) ≡ list_any (λ f. option_map_or (λ d. begins_chain n k d) (step_class k f) false) (if t then c.fields else [])
        by_kind rest true = same_any (λ f. option_map_or (λ d. begins_chain n m d) (step_class m f) false) (λ f. option_map_or (λ d. begins_chain n k d) (step_class k f) false) c.fields (one rest)
        by_kind rest false = refl

    deep_none : deep m ≡ []
    deep_none =
        none_all (λ i (c : Class). flaw_if (begins_chain 33 m c) i None InlineDeep) m
        (λ i c e.
        (let r = place i c e in
        flaw_none (begins_chain 33 m c) i None InlineDeep
        (inline_as_before 33 r.at c r.there r.passes ∙ no_flaw (begins_chain 33 k c) r.at None InlineDeep
        (none_at (λ i (c : Class). flaw_if (begins_chain 33 k c) i None InlineDeep) k r.at c no_deep r.there))))

    pub staying_sound : Sound m
    unfolding class_faults
    staying_sound = record {
      none = ap (λ z. z ++ (unknown m ++ (empty_inline m ++ deep m))) repeats_none
          ∙ (ap (λ z. z ++ (empty_inline m ++ deep m)) unknown_none ∙ (ap (λ z. z ++ deep m) empty_none ∙ deep_none));
    }

    -- The lists agree on each class that stays.
    agree_within : (n id : ℕ) (c : Class) → find_class k id ≡ Some c → stays id ≡ true → AgreeWithin n k m id
    agree_within zero id c e s = tt
    agree_within (suc n) id c e s = (
      c,
      c,
      e,
      found_as_before id s ∙ e,
      refl,
      refl,
      refl,
      all_of (λ f. AgreeWithin n k m f.shape.class) c.fields (λ j f g.
          (let d = value_in (find_class k f.shape.class) (field_known r.0 c r.1 j f g) in agree_within n f.shape.class d.0 d.1 (field_stays r.0 c r.1 here j f g))),
    )
      where
        r : (i : ℕ) × (slice_get k i ≡ Some c) × ((c.id == id) ≡ true)
        r = found_get (λ (c : Class). c.id == id) k c e

        here : stays c.id ≡ true
        here = ap stays (eqb-true c.id id r.2) ∙ s

    pub stay_well : IsSoundSubset k stays
    stay_well = record { sound = staying_sound; found = found_staying; events = events_staying; agree = λ id c e s n. agree_within n id c e s }
