-- Event classes, and the indices of them.
use Rattle.std.proofs.Common.{◌≡◌, ℕ, ◌<◌, ◌≤◌, List, [], ◌∷◌, ◌++◌, length, get_or, cond, None, Some, Bool, true, false, ◌&&◌, sym, ◌∙◌, ap, refl, subst, arith}
use Rattle.std.specs.Prelude.{MatchOption, Option, is_some, nat_lt, option_map}
use Rattle.std.specs.List.{slice_get}
use Rattle.std.specs.Option.{option_map_or, IfSome}
use Rattle.std.proofs.lemmas.Bool.{le-ltb, lt-ltb}
use Rattle.std.proofs.lemmas.Option.{slice_get-get_or, same_Some}
use Rattle.jfr_layout.specs.declared.kind.Kind.{Kind}
use Rattle.jfr_layout.specs.declared.kind.Kind.TheVariants.{Boolean, Byte, Char, Short, Int, Long, Float, Double, Text, Composite}
use Rattle.jfr_layout.specs.declared.field_layout.FieldLayout.{FieldLayout}
use Rattle.jfr_layout.specs.Classes.{Class, Classes, IsEventLayout, class_index, find_class, extends_event, is_composite, is_event_class, kind_of, layout_with}
use Rattle.jfr_layout.specs.Events.{AreEventIndices, event_index}
use Rattle.jfr_layout.proofs.FieldIndices.{indexed_class}
use Rattle.jfr_layout.proofs.Lists.{present, filled_push}

no_event : (t : Bool) → false ≡ (t && false)
no_event true = refl
no_event false = refl

pub event_low : (k : Classes) (id : ℕ) → id ≤ 1 → false ≡ is_event_class k id
unfolding is_event_class
event_low k id l = sym (ap (λ t. t && option_map_or extends_event (find_class k id) false) (le-ltb 1 id l))

pub event_none : (k : Classes) (id : ℕ) → None ≡ find_class k id → false ≡ is_event_class k id
unfolding is_event_class
event_none k id e = no_event (nat_lt 1 id) ∙ ap (λ o. nat_lt 1 id && option_map_or extends_event o false) e

pub event_at : (k : Classes) (id p : ℕ) (t : Bool) → 1 < id → slice_get k p ≡ find_class k id → p < length k → IfSome (slice_get k p) (λ c. t ≡ extends_event c) → t ≡ is_event_class k id
unfolding is_event_class
event_at k id p t l e w h =
    let c = present k p w in
    let r : t ≡ extends_event c.0 = rw c.1 at h in
    r ∙ (ap (λ o. option_map_or extends_event o false) (sym c.1 ∙ e) ∙ sym (ap (λ b. b && option_map_or extends_event (find_class k id) false) (lt-ltb 1 id l)))

-- The index of the class if records of the type are events, otherwise none.
pub no_event_index : (k : Classes) (id : ℕ) → false ≡ is_event_class k id → None ≡ event_index k id
no_event_index k id e = ap (λ t. cond t (class_index k id) None) e

pub event_indexed : (k : Classes) (id p : ℕ) → Some p ≡ class_index k id → true ≡ is_event_class k id → Some p ≡ event_index k id
event_indexed k id p o e = o ∙ ap (λ t. cond t (class_index k id) None) e

-- And back.
not_indexed : (k : Classes) (id : ℕ) (t : Bool) → t ≡ is_event_class k id → None ≡ cond t (class_index k id) None → t ≡ false
not_indexed k id false q e = refl
not_indexed k id true q e = let n = event_none k id (indexed_class k id None e) in cc

pub not_event : (k : Classes) (id : ℕ) → None ≡ event_index k id → is_event_class k id ≡ false
not_event k id e = not_indexed k id (is_event_class k id) refl e

is_indexed : (t : Bool) (o : Option ℕ) (p : ℕ) → Some p ≡ cond t o None → (t ≡ true) × (o ≡ Some p)
is_indexed false o p e = cc
is_indexed true o p e = (refl, sym e)

composite : (kind : Kind) (t : Bool) → (is_composite kind && t) ≡ true → kind ≡ Composite
composite Boolean t e = cc
composite Byte t e = cc
composite Char t e = cc
composite Short t e = cc
composite Int t e = cc
composite Long t e = cc
composite Float t e = cc
composite Double t e = cc
composite Text t e = cc
composite Composite t e = refl

event_kind : (low : Bool) (o : Option Class) → (low && option_map_or extends_event o false) ≡ true → option_map (λ c. kind_of c.name) o ≡ Some Composite
event_kind false o e = cc
event_kind true None e = cc
event_kind true (Some c) e = ap Some (composite (kind_of c.name) _ e)

composite_event : (k : Classes) (id : ℕ) → is_event_class k id ≡ true → option_map (λ c. kind_of c.name) (find_class k id) ≡ Some Composite
unfolding is_event_class
composite_event k id e = event_kind (nat_lt 1 id) (find_class k id) e

-- The layout of the fields of an event.
pub event_layout : (k : Classes) (id p : ℕ) (s : FieldLayout) → Some p ≡ event_index k id → s ≡ layout_with (record { class = id; constant = false; array = false }) p Composite → IsEventLayout k id s
event_layout k id p s o q =
    let e = is_indexed (is_event_class k id) (class_index k id) p o in
    subst (IsEventLayout k id) (sym q) (record {
      event = e.0;
      shape = refl;
      layout = record { class_index = e.1; kind = composite_event k id e.0; form = refl };
    })

-- It is found if there is one.
pub event_found : (k : Classes) (id : ℕ) (o : Option FieldLayout) → MatchOption o (is_event_class k id ≡ false) (IsEventLayout k id) → is_some o ≡ is_event_class k id
event_found k id None h = sym h
event_found k id (Some s) h = sym h.event

-- A table of no ids, and of one more.
pub indices_none : (k : Classes) → AreEventIndices k []
indices_none k = record { at = λ id l. absurd (omega arith) }

pub indices_push : (k : Classes) (id : ℕ) (indices : List (Option ℕ)) (index : Option ℕ) → AreEventIndices k indices → length indices ≡ id → index ≡ event_index k id
    → AreEventIndices k (indices ++ index ∷ [])
indices_push k id indices index a n e = record { at = filled_push (event_index k) indices index a.at (e ∙ ap (event_index k) (sym n)) }

-- What a table has.
pub indices_at : (k : Classes) (indices : List (Option ℕ)) (id : ℕ) (index : Option ℕ) → AreEventIndices k indices → id < length indices → index ≡ get_or indices id index → index ≡ event_index k id
indices_at k indices id index a l e = e ∙ same_Some (get_or indices id index) (event_index k id) (sym (slice_get-get_or indices id index l) ∙ a.at id l)
