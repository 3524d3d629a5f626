-- A text that isn't found in the slots for its tag, nor in the map, isn't there.
use Rattle.std.specs.Prelude.{◌≡◌, ◌≢◌, ◌⊎◌, ℕ, ◌+◌, ◌-◌, ◌<◌, ◌≤◌, ◌==◌, nat_lt, Bool, true, false, cond, List, [], ◌∷◌, ◌++◌, Option, Some, None, IfSome, Result, Ok, Err, IfOk, OnOk, IsUtf8, length, slice_get, if◌then◌else◌}
use Rattle.std.specs.BTreeMap.{BTreeMap}
use Rattle.std.specs.declared.rc.RcStr.{RcStr}
use Rattle.std.specs.declared.alloc.Global.{Global}
use Rattle.std.specs.Str.{bytes_eq, chars}
use Rattle.std.proofs.Common.{ap, arith, inl, inr, refl, sym, subst, ◌∙◌}
use Rattle.std.proofs.lemmas.Bool.{eqb-false, eqb-true, ltb-false, ltb-true}
use Rattle.std.proofs.lemmas.Option.{slice_get_within}
use Rattle.jfr_mask.specs.Held.{HasNumber, IsComplete, IsNumber, LacksOther, LacksSlot, number_under, text_tag}
use Rattle.jfr_mask.specs.Pseudonyms.{IsDictionary, has_text, number_of}
use Rattle.jfr_mask.specs.Slotted.{AreKept, HasSlot, window}
use Rattle.jfr_mask.specs.declared.slots.Slot.{Slot}
use Rattle.jfr_mask.proofs.MapLaws.{chars_one}
use Rattle.jfr_mask.proofs.NumberLaws.{at_added, at_number, distinct_added, eq_is, eq_self, has_at, number_last}

-- None of the first slots is empty or has the number of the text.
abbrev pub LacksTo : List (List ℕ) → List ℕ → List Slot → ℕ → ℕ → Type 0
LacksTo texts text shown tag n = (k : ℕ) (x : Slot) → k < n → slice_get shown k ≡ Some x → (x.number ≢ 0) × (x.tag ≡ tag → ¬ (IsNumber texts text x.number))

one : {X : Type 0} (o : Option X) (x y : X) → o ≡ Some x → o ≡ Some y → x ≡ y
one o x y e f = let s : Some x ≡ Some y = sym e ∙ f in cc

pub lacks_next : (texts : List (List ℕ)) (text : List ℕ) (shown : List Slot) (tag i : ℕ) (x : Slot) → LacksTo texts text shown tag i → slice_get shown i ≡ Some x
    → x.number ≢ 0 → (x.tag ≡ tag → ¬ (IsNumber texts text x.number)) → LacksTo texts text shown tag (i + 1)
lacks_next texts text shown tag i x before at some other k y h e = by_index (k == i) refl
  where
    by_index : (b : Bool) → (k == i) ≡ b → (y.number ≢ 0) × (y.tag ≡ tag → ¬ (IsNumber texts text y.number))
    by_index true t =
        let same : x ≡ y = one (slice_get shown i) x y at (ap (slice_get shown) (sym (eqb-true k i t)) ∙ e) in
        subst (λ (s : Slot). (s.number ≢ 0) × (s.tag ≡ tag → ¬ (IsNumber texts text s.number))) same (some, other)
    by_index false t = let apart : k ≢ i = eqb-false k i t in before k y (omega arith) e

-- At the end of the window.
pub lacks_all : (texts : List (List ℕ)) (text : List ℕ) (slots shown : List Slot) (tag n : ℕ) → shown ≡ window slots tag → length shown ≤ n → LacksTo texts text shown tag n → LacksSlot texts slots text tag
lacks_all texts text slots shown tag n w past h number is has =
    let there : slice_get shown has.step ≡ Some has.slot = ap (λ z. slice_get z has.step) w ∙ has.there in
    let inside : has.step < length shown = slice_get_within shown has.step has.slot there in
    (h has.step has.slot (omega arith) there).1 has.tagged (subst (IsNumber texts text) (sym has.numbered) is)

-- At an empty slot.
pub lacks_empty : (texts : List (List ℕ)) (text : List ℕ) (slots shown : List Slot) (tag i : ℕ) (x : Slot) → shown ≡ window slots tag → slice_get shown i ≡ Some x → x.number ≡ 0
    → LacksTo texts text shown tag i → LacksSlot texts slots text tag
lacks_empty texts text slots shown tag i x w at empty h number is has = by_index (has.step == i) refl
  where
    there : slice_get shown has.step ≡ Some has.slot
    there = ap (λ z. slice_get z has.step) w ∙ has.there

    by_index : (b : Bool) → (has.step == i) ≡ b → ⊥
    by_index true t =
        let same : x ≡ has.slot = one (slice_get shown i) x has.slot at (ap (slice_get shown) (sym (eqb-true has.step i t)) ∙ there) in
        let zero_number : number ≡ 0 = sym has.numbered ∙ (ap (λ (s : Slot). s.number) (sym same) ∙ empty) in
        let most : 1 ≤ number = is.0 in
        omega arith
    by_index false t =
        let apart : has.step ≢ i = eqb-false has.step i t in
        by_order (nat_lt has.step i) refl apart
      where
        by_order : (b : Bool) → nat_lt has.step i ≡ b → has.step ≢ i → ⊥
        by_order true l apart = (h has.step has.slot (ltb-true has.step i l) there).1 has.tagged (subst (IsNumber texts text) (sym has.numbered) is)
        by_order false l apart =
            let past : i ≤ has.step = ltb-false has.step i l in
            has.before i x (omega arith) (ap (λ z. slice_get z i) (sym w) ∙ at) empty

-- A number that is found is the text's number.
pub number_there : (d : List (List ℕ)) (t : List ℕ) (n : ℕ) → IsNumber d t n → has_text d t ≡ true
number_there d t n is = has_at d (n - 1) t is.1

pub number_is : (d : List (List ℕ)) (t : List ℕ) (n : ℕ) → IsDictionary d → IsNumber d t n → n ≡ number_of d t
number_is d t n h is =
    let most : 1 ≤ n = is.0 in
    let e : number_of d t ≡ n - 1 + 1 = h.each (n - 1) t is.1 in omega arith

pub found_is : (d : List (List ℕ)) (t : List ℕ) (n : ℕ) → IsDictionary d → IsNumber d t n → Some n ≡ (if has_text d t then Some (number_of d t) else None)
found_is d t n h is = ap Some (number_is d t n h is) ∙ sym (ap (λ b. if b then Some (number_of d t) else None) (number_there d t n is))

at_one : (d : List (List ℕ)) (t : List ℕ) → has_text d t ≡ true → IsNumber d t (number_of d t)
at_one d t h = (omega arith, at_number d t h)

pub absent_is : (d : List (List ℕ)) (slots : List Slot) (others : BTreeMap (RcStr Global) ℕ) (text : List ℕ) (tag : ℕ) → IsUtf8 text → tag ≡ text_tag text → IsComplete d slots others
    → LacksSlot d slots (chars text) tag → LacksOther d others text → None ≡ (if has_text d (chars text) then Some (number_of d (chars text)) else None)
absent_is d slots others text tag u g all no_slot no_other = by_there (has_text d (chars text)) refl
  where
    by_there : (b : Bool) → has_text d (chars text) ≡ b → None ≡ (if b then Some (number_of d (chars text)) else None)
    by_there false h = refl
    by_there true h = by_place (all.each text (number_of d (chars text)) u (at_one d (chars text) h))
      where
        by_place : (HasSlot slots (text_tag text) (number_of d (chars text)) ⊎ (number_under others text ≡ Some (number_of d (chars text)))) → None ≡ Some (number_of d (chars text))
        by_place (inl s) = absurd (no_slot (number_of d (chars text)) (at_one d (chars text) h) (subst (λ z. HasSlot slots z (number_of d (chars text))) (sym g) s))
        by_place (inr o) = absurd (no_other (number_of d (chars text)) (at_one d (chars text) h) o)

-- What is kept in other slots.
pub complete_slots : (d : List (List ℕ)) (slots after : List Slot) (others : BTreeMap (RcStr Global) ℕ) → IsComplete d slots others → AreKept slots after → IsComplete d after others
complete_slots d slots after others all keep = record { distinct = all.distinct; each = λ bytes n u is. by_place bytes n is (all.each bytes n u is) }
  where
    by_place : (bytes : List ℕ) (n : ℕ) → IsNumber d (chars bytes) n → (HasSlot slots (text_tag bytes) n ⊎ (number_under others bytes ≡ Some n))
        → HasSlot after (text_tag bytes) n ⊎ (number_under others bytes ≡ Some n)
    by_place bytes n is (inl s) = let most : 1 ≤ n = is.0 in inl (keep (text_tag bytes) n (λ e. absurd (omega arith)) s)
    by_place bytes n is (inr o) = inr o

-- What is kept in another map.
complete_others : (d : List (List ℕ)) (slots : List Slot) (others after : BTreeMap (RcStr Global) ℕ) → IsComplete d slots others
    → ((bytes : List ℕ) (n : ℕ) → IsNumber d (chars bytes) n → number_under after bytes ≡ number_under others bytes) → IsComplete d slots after
complete_others d slots others after all keep = record { distinct = all.distinct; each = λ bytes n u is. by_place bytes n is (all.each bytes n u is) }
  where
    by_place : (bytes : List ℕ) (n : ℕ) → IsNumber d (chars bytes) n → (HasSlot slots (text_tag bytes) n ⊎ (number_under others bytes ≡ Some n))
        → HasSlot slots (text_tag bytes) n ⊎ (number_under after bytes ≡ Some n)
    by_place bytes n is (inl s) = inl s
    by_place bytes n is (inr o) = inr (keep bytes n is ∙ o)

pub complete_same : (d : List (List ℕ)) (slots : List Slot) (others after : BTreeMap (RcStr Global) ℕ) → IsComplete d slots others
    → ((bytes : List ℕ) → number_under after bytes ≡ number_under others bytes) → IsComplete d slots after
complete_same d slots others after all keep = complete_others d slots others after all (λ bytes n is. keep bytes)

pub complete_put : (d : List (List ℕ)) (slots : List Slot) (others after : BTreeMap (RcStr Global) ℕ) (text : List ℕ) (v : ℕ) → IsComplete d slots others → has_text d (chars text) ≡ false
    → HasNumber others after text v → IsComplete d slots after
complete_put d slots others after text v all absent put = complete_others d slots others after all (λ bytes n is. put bytes ∙ by_eq bytes n is (bytes_eq text bytes) refl)
  where
    by_eq : (bytes : List ℕ) (n : ℕ) → IsNumber d (chars bytes) n → (b : Bool) → bytes_eq text bytes ≡ b → cond b (Some v) (number_under others bytes) ≡ number_under others bytes
    by_eq bytes n is false e = refl
    by_eq bytes n is true e =
        let same : text ≡ bytes = eq_is text bytes e in
        let clash : false ≡ true = sym absent ∙ (ap (λ z. has_text d (chars z)) same ∙ number_there d (chars bytes) n is) in cc

-- The text is added at the end, and its number is in a slot or in the map.
pub complete_added : (d : List (List ℕ)) (slots : List Slot) (others : BTreeMap (RcStr Global) ℕ) (text : List ℕ) (v : ℕ) → IsComplete d slots others → has_text d (chars text) ≡ false → IsUtf8 text
    → v ≡ length d + 1 → (HasSlot slots (text_tag text) v ⊎ (number_under others text ≡ Some v)) → IsComplete (d ++ chars text ∷ []) slots others
complete_added d slots others text v all absent utf8 next here = record {
  distinct = distinct_added d (chars text) all.distinct absent;
  each = λ bytes n u is. by_part bytes n u is (at_added d (chars text) (chars bytes) (n - 1) is.1);
}
  where
    by_part : (bytes : List ℕ) (n : ℕ) → IsUtf8 bytes → IsNumber (d ++ chars text ∷ []) (chars bytes) n
        → ((slice_get d (n - 1) ≡ Some (chars bytes)) ⊎ ((n - 1 ≡ length d) × (chars text ≡ chars bytes))) → HasSlot slots (text_tag bytes) n ⊎ (number_under others bytes ≡ Some n)
    by_part bytes n u is (inl old) = all.each bytes n u (is.0, old)
    by_part bytes n u is (inr new) =
        let same : text ≡ bytes = chars_one text bytes utf8 u new.1 in
        let most : 1 ≤ n = is.0 in
        let at_end : n - 1 ≡ length d = new.0 in
        let number : v ≡ n = omega arith in
        subst (λ m. HasSlot slots (text_tag bytes) m ⊎ (number_under others bytes ≡ Some m)) number
        (subst (λ z. HasSlot slots (text_tag z) v ⊎ (number_under others z ≡ Some v)) same here)

-- The number under the text that was put.
pub put_is : (old new : BTreeMap (RcStr Global) ℕ) (text : List ℕ) (v : ℕ) → HasNumber old new text v → number_under new text ≡ Some v
put_is old new text v put = put text ∙ ap (λ b. cond b (Some v) (number_under old text)) (eq_self text)

-- After both look-ups.
pub found_or_absent : (d : List (List ℕ)) (slots : List Slot) (others : BTreeMap (RcStr Global) ℕ) (text : List ℕ) (tag : ℕ) (o : Option ℕ) → IsUtf8 text → tag ≡ text_tag text → IsComplete d slots others
    → LacksSlot d slots (chars text) tag → IfSome o (λ n. IsNumber d (chars text) n) → (o ≡ None → LacksOther d others text) → o ≡ (if has_text d (chars text) then Some (number_of d (chars text)) else None)
found_or_absent d slots others text tag (Some n) u g all no_slot found absent = found_is d (chars text) n all.distinct found
found_or_absent d slots others text tag None u g all no_slot found absent = absent_is d slots others text tag u g all no_slot (absent refl)

-- The number of a text that isn't there yet, in a slot or in the map.
abbrev pub IsPlaced : List (List ℕ) → List Slot → BTreeMap (RcStr Global) ℕ → List ℕ → ℕ → Type 0
IsPlaced d slots others text v = IsComplete d slots others × (HasSlot slots (text_tag text) v ⊎ (number_under others text ≡ Some v))

pub placed_in_slot : (d : List (List ℕ)) (slots after : List Slot) (others : BTreeMap (RcStr Global) ℕ) (text : List ℕ) (tag v : ℕ) → IsComplete d slots others → AreKept slots after → tag ≡ text_tag text
    → HasSlot after tag v → IsPlaced d after others text v
placed_in_slot d slots after others text tag v all keep g here = (complete_slots d slots after others all keep, inl (subst (λ z. HasSlot after z v) g here))

pub placed_in_map : (d : List (List ℕ)) (slots after : List Slot) (others others_after : BTreeMap (RcStr Global) ℕ) (text : List ℕ) (v : ℕ) → IsComplete d slots others → AreKept slots after
    → has_text d (chars text) ≡ false → HasNumber others others_after text v → IsPlaced d after others_after text v
placed_in_map d slots after others others_after text v all keep absent put =
    (complete_put d after others others_after text v (complete_slots d slots after others all keep) absent put, inr (put_is others others_after text v put))

-- A text that is added has the last number.
pub added_last : {E : Type 0} (r : Result ℕ E) (d new : List (List ℕ)) (t : List ℕ) → has_text d t ≡ false → OnOk r (new ≡ d ++ t ∷ []) → IfOk r (λ n. n ≡ length d + 1)
    → IfOk r (λ n. n ≡ number_of new t)
added_last (Ok n) d new t h e m = m ∙ (sym (number_last d t h) ∙ ap (λ z. number_of z t) (sym e))
added_last (Err x) d new t h e m = tt
