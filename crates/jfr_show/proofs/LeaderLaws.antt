-- The leaders of classes, and where an event is counted.
use Rattle.std.specs.Prelude.{◌≡◌, ℕ, zero, suc, ◌+◌, ◌<◌, ◌≤◌, Bool, true, false, cond, List, [], ◌∷◌, ◌++◌, length, take, Option, None, Some, IfSome, option_and_then, option_map, slice_get}
use Rattle.std.specs.List.{AllZip}
use Rattle.std.specs.BTreeMap as tree
use Rattle.std.specs.BTreeMap.{BTreeMap}
use Rattle.std.specs.Cmp.{Equal-is}
use Rattle.std.specs.Ordering.{nat_cmp}
use Rattle.std.proofs.Common.{ap, arith, get_or, refl, sym, subst, ◌∙◌}
use Rattle.std.proofs.lemmas.List.{take_all}
use Rattle.std.proofs.lemmas.Map.Lookups.{exact_unsigned}
use Rattle.std.proofs.lemmas.Option.{same_Some, slice_get-get_or, slice_get_within}
use Rattle.jfr_layout.specs.Classes.{Class, Classes, IsEventLayout, class_index, is_event_class}
use Rattle.jfr_layout.specs.Events.{event_index}
use Rattle.jfr_layout.specs.declared.field_layout.FieldLayout.{FieldLayout}
use Rattle.jfr_layout.proofs.Lists.{chained, present, zip_at, zip_push}
use Rattle.jfr_meta.specs.declared.named.ClassNames.{ClassNames}
use Rattle.jfr_meta.specs.Attributes.{text_at}
use Rattle.jfr_meta.specs.Described.{IsNamedBy}
use Rattle.jfr_show.specs.Counting.{AreLeaders, AreNamed, HasName, IsLed, leader_of}
use Rattle.jfr_show.specs.Names.{class_name}
use Rattle.jfr_show.proofs.ListingLaws.{take_next}
use Rattle.jfr_show.proofs.PlaceLaws.{event_has_place, name_at}

-- What a member of the second of two lists is related to.
zip_back : {X Y : Type 0} (R : X → Y → Type 0) (xs : List X) (ys : List Y) (i : ℕ) (y : Y) → AllZip R xs ys → slice_get ys i ≡ Some y → (x : X) × (slice_get xs i ≡ Some x) × R x y
zip_back R xs [] i y a e = cc
zip_back R [] (v ∷ ys) i y a e = absurd a
zip_back R (x ∷ xs) (v ∷ ys) zero y a e = (x, refl, subst (R x) (same_Some v y e) a.0)
zip_back R (x ∷ xs) (v ∷ ys) (suc i) y a e = zip_back R xs ys i y a.1 e

length_zip : {X Y : Type 0} (R : X → Y → Type 0) (xs : List X) (ys : List Y) → AllZip R xs ys → length ys ≡ length xs
length_zip R [] [] a = refl
length_zip R [] (y ∷ ys) a = absurd a
length_zip R (x ∷ xs) [] a = absurd a
length_zip R (x ∷ xs) (y ∷ ys) a = ap suc (length_zip R xs ys a.1)

-- A class that has a name is there.
name_within : (k : Classes) (name : List ℕ) (index : ℕ) → HasName k name index → index < length k
name_within k name index e = by_class (slice_get k index) refl e
  where
    by_class : (o : Option Class) → slice_get k index ≡ o → option_map (λ c. c.name) o ≡ Some name → index < length k
    by_class None f e = cc
    by_class (Some c) f e = slice_get_within k index c f

module _ (k : Classes) (leaders : List ℕ) (led : AreLeaders k leaders) where
  -- The leader of an event's class.
  pub record HasLeader (id : ℕ) : Type 0 where
    pub leader : ℕ
    pub is : leader_of k leaders id ≡ Some leader
    pub within : leader < length k

  pub event_has_leader : (id : ℕ) → is_event_class k id ≡ true → HasLeader id
  event_has_leader id e =
      let h = event_has_place k id e in
      let c = present k h.place h.within in
      let l = zip_at (IsLed k) k leaders h.place c.0 led c.1 in
      record {
        leader = l.0;
        is = ap (λ b. option_and_then (slice_get leaders) (cond b (class_index k id) None)) e ∙ (ap (option_and_then (slice_get leaders)) h.is ∙ l.1);
        within = name_within k c.0.name l.0 l.2;
      }

  -- The name of an event's class is that of its leader.
  pub leader_name : (id index : ℕ) (c : Class) → leader_of k leaders id ≡ Some index → slice_get k index ≡ Some c → class_name k id ≡ c.name
  leader_name id index c is there =
      let n = chained (slice_get leaders) (event_index k id) index is in
      let own = zip_back (IsLed k) k leaders n.0 index led n.2 in
      name_at k id n.0 own.0 n.1 own.1 ∙ same_Some own.0.name c.name (sym own.2 ∙ ap (option_map (λ (c : Class). c.name)) there)

  -- The index in an event's layout is that of its class.
  layout_index : (id : ℕ) (s : FieldLayout) → IsEventLayout k id s → class_index k id ≡ Some s.class_index
  layout_index id s e = ap (λ z. class_index k z.class) (sym e.shape) ∙ e.layout.class_index

  pub layout_within : (id : ℕ) (s : FieldLayout) → IsEventLayout k id s → s.class_index < length leaders
  layout_within id s e =
      let h = event_has_place k id e.event in
      let same : h.place ≡ s.class_index = same_Some h.place s.class_index (sym h.is ∙ layout_index id s e) in
      subst (λ n. s.class_index < n) (sym (length_zip (IsLed k) k leaders led)) (subst (λ n. n < length k) same h.within)

  -- The leader at that index.
  pub layout_leader : (id : ℕ) (s : FieldLayout) → IsEventLayout k id s → Some (get_or leaders s.class_index 0) ≡ leader_of k leaders id
  layout_leader id s e =
      sym (ap (λ b. option_and_then (slice_get leaders) (cond b (class_index k id) None)) e.event
      ∙ (ap (option_and_then (slice_get leaders)) (layout_index id s e) ∙ slice_get-get_or leaders s.class_index 0 (layout_within id s e)))

  pub layout_leads : (id : ℕ) (s : FieldLayout) → IsEventLayout k id s → get_or leaders s.class_index 0 < length k
  layout_leads id s e =
      let own = zip_back (IsLed k) k leaders s.class_index (get_or leaders s.class_index 0) led (slice_get-get_or leaders s.class_index 0 (layout_within id s e)) in
      name_within k own.0.name (get_or leaders s.class_index 0) own.2

module _ (k : Classes) (texts : List (List ℕ)) where
  -- The class that is kept of a string has the string as its name.
  pub name_kept : (named : BTreeMap ℕ ℕ) (string first : ℕ) → AreNamed k texts named → Some first ≡ tree.get nat_cmp named string → HasName k (text_at texts string) first
  name_kept named string first a e = subst (λ z. IfSome z (HasName k (text_at texts string))) (sym e) (a string)

  -- A string more is kept.
  pub named_next : (old new : BTreeMap ℕ ℕ) (string index : ℕ) → AreNamed k texts old → HasName k (text_at texts string) index → tree.Updates nat_cmp old new string (Some index) → AreNamed k texts new
  named_next old new string index a e up = λ other. subst (λ z. IfSome z (HasName k (text_at texts other))) (sym (up.0 other)) (by_string other (tree.is_at (nat_cmp string) other) refl)
    where
      by_string : (other : ℕ) (b : Bool) → tree.is_at (nat_cmp string) other ≡ b → IfSome (cond b (Some index) (tree.get nat_cmp old other)) (HasName k (text_at texts other))
      by_string other true q = subst (λ z. HasName k (text_at texts z) index) (exact_unsigned string other ((Equal-is (nat_cmp string other)).0 q)) e
      by_string other false q = a other

  -- A class of this index, with the strings that name it.
  pub own_name : (names : List ClassNames) (index : ℕ) (n : ClassNames) → AllZip (IsNamedBy texts) k names → slice_get names index ≡ Some n → HasName k (text_at texts n.name) index
  own_name names index n z e =
      let own = zip_back (IsNamedBy texts) k names index n z e in
      ap (option_map (λ (c : Class). c.name)) own.1 ∙ ap Some (sym own.2.name)

  -- The leaders so far, and that of one class more.
  pub leaders_next : (names : List ClassNames) (index leader : ℕ) (n : ClassNames) (leaders : List ℕ) → AllZip (IsNamedBy texts) k names → slice_get names index ≡ Some n
      → HasName k (text_at texts n.name) leader
      → AllZip (IsLed k) (take index k) leaders → AllZip (IsLed k) (take (index + 1) k) (leaders ++ leader ∷ [])
  leaders_next names index leader n leaders z e is a =
      let own = zip_back (IsNamedBy texts) k names index n z e in
      subst (λ cs. AllZip (IsLed k) cs (leaders ++ leader ∷ [])) (sym (take_next k index own.0 own.1))
      (zip_push (IsLed k) (take index k) leaders own.0 leader a (is ∙ ap Some own.2.name))

  -- The leaders of all classes.
  pub leaders_all : (names : List ClassNames) (index : ℕ) (leaders : List ℕ) → AllZip (IsNamedBy texts) k names → length names ≤ index → AllZip (IsLed k) (take index k) leaders → AreLeaders k leaders
  leaders_all names index leaders z l a = subst (λ cs. AllZip (IsLed k) cs leaders) (take_all index k (omega (arith, l, length_zip (IsNamedBy texts) k names z))) a
