-- What the formats of values read, and what is taken of it on the way.
use Rattle.std.specs.Prelude.{◌≡◌, ◌≢◌, ℕ, zero, suc, ◌+◌, ◌-◌, ◌<◌, ◌≤◌, ◌↔◌, Bool, true, false, List, [], ◌∷◌, ◌++◌, drop, length, slice_get, slice_index, slice_range, Option, Some, None, Result, Ok, Err, IfOk, IfSome, IsTrue, nat_lt, nat_le, if◌then◌else◌}
use Rattle.std.proofs.Common.{ap, arith, refl, sym, ◌∙◌, subst}
use Rattle.jfr_base.specs.declared.flaw.Flaw.{Flaw}
use Rattle.jfr_base.specs.declared.integer.Var.{Var}
use Rattle.jfr_base.specs.declared.reason.Reason.{Reason}
use Rattle.jfr_base.specs.declared.reason.Reason.TheVariants.{Short, Trailing}
use Rattle.jfr_base.specs.Formats.{Answer, Format, Got, Done, Stop, Int, Byte, Run, Here, Refuse, ◌>>=◌, on, checked, refused, int_at, for_each, unchecked, after_int, run, end_or_flaw, times, with_bytes}
use Rattle.jfr_base.proofs.Exact.{ReadsOrFails, int_found, run_reads_or_fails}
use Rattle.jfr_base.proofs.FormatLaws.{run-bind}
use Rattle.jfr_base.proofs.Ranges.{range_length}
use Rattle.jfr_layout.specs.Classes.{AreFieldLayouts, Class, Classes, IsFieldLayout, Sound, find_class, kind_of, item_of}
use Rattle.jfr_layout.specs.declared.kind.Kind.{Kind}
use Rattle.jfr_layout.specs.declared.kind.Kind.TheVariants as kinds
use Rattle.jfr_layout.specs.declared.shape.Shape.{Shape}
use Rattle.jfr_layout.specs.declared.field_layout.FieldLayout.{FieldLayout}
use Rattle.jfr_text.specs.Strings.{string_format}
use Rattle.jfr_value.specs.declared.leaf.KeyAt.{KeyAt}
use Rattle.jfr_value.specs.declared.leaf.LeafKind.TheVariants as leaf_kinds
use Rattle.jfr_value.specs.Values.{Value, Single, Group, values_of, key_of, bytes_of, IsHollowArray}
use Rattle.jfr_value.specs.Leaves.{key_between, keys_at, keys_from, keys_in}
use Rattle.jfr_value.specs.Reading.{base_format, item_format, array_format, shape_format, class_format, value_format}
use Rattle.jfr_value.specs.Nodes.{node_at}
use Rattle.jfr_value.specs.Visits.{TakesAll, TakesRead, TakesReadAll}
use Rattle.jfr_value.proofs.EndLaws.{array_short, class_of_base, class_of_fields, fields_by, hollow_is, hollow_item}
use Rattle.jfr_value.proofs.NodeLaws.{read_node}
use Rattle.jfr_value.proofs.LayoutLaws.{layout_class}
use Rattle.jfr_value.proofs.KeyPlaces.{keys_in_are}
use Rattle.jfr_value.proofs.PlacedLaws.{IsPlaced, ReadsPlaced, class_placed, item_placed}
use Rattle.jfr_value.proofs.VisitLaws.{takes_append}

-- Of an answer that is a flaw nothing is said.
pub no_value : {A : Type 0} (r : Answer A) (e : Flaw) (P : Got A → Type 0) → Err e ≡ end_or_flaw r → IfOk r P
no_value (Ok g) e P h = cc
no_value (Err f) e P h = tt

-- What is made of what was read.
if_made : {A B : Type 0} (f : Format A) (h : A → B) (P : A → ℕ → Type 0) (Q : B → ℕ → Type 0) (x : List ℕ) (end at : ℕ) → ((a : A) (p : ℕ) → P a p → Q (h a) p)
    → IfOk (run f x end at) (λ got. P got.value got.place) → IfOk (run (f >>= λ a. Done (h a)) x end at) (λ got. Q got.value got.place)
unfolding run
if_made {A = A} {B = B} f h P Q x end at q p = subst (λ (r : Answer B). IfOk r (λ got. Q got.value got.place)) (sym (run-bind f (λ a. Done (h a)) x end at)) (by_answer (run f x end at) p)
  where
    by_answer : (r : Answer A) → IfOk r (λ got. P got.value got.place) → IfOk (on r (λ a p. run (Done (h a)) x end p)) (λ got. Q got.value got.place)
    by_answer (Ok g) p = q g.value g.place p
    by_answer (Err e) p = tt

checked_made : {A B : Type 0} (P : A → ℕ → Type 0) (Q : B → ℕ → Type 0) (at : ℕ) (o : Option Reason) (r : Answer A) (s : Answer B)
    → (IfOk r (λ got. P got.value got.place) → IfOk s (λ got. Q got.value got.place))
    → IfOk (checked at o r) (λ got. P got.value got.place) → IfOk (checked at o s) (λ got. Q got.value got.place)
checked_made P Q at None r s h p = h p
checked_made P Q at (Some why) r s h p = tt

-- And of that and its bytes.
if_with : {A B : Type 0} (b : List ℕ) (f : Format A) (h : A → List ℕ → B) (P : A → ℕ → Type 0) (Q : B → ℕ → Type 0) (x : List ℕ) (end at : ℕ) → ((a : A) (s : List ℕ) (p : ℕ) → P a p → Q (h a s) p)
    → IfOk (run f x end at) (λ got. P got.value got.place) → IfOk (run (with_bytes b f (λ a s. Done (h a s))) x end at) (λ got. Q got.value got.place)
unfolding run
if_with b (Done a) h P Q x end at q p = q a b at p
if_with b (Stop next) h P Q x end at q p = by_test (nat_lt at end) (if_with b next h P Q x end at q) p
  where
    by_test : (t : Bool) → (IfOk (run next x end at) (λ got. P got.value got.place) → IfOk (run (with_bytes b next (λ a s. Done (h a s))) x end at) (λ got. Q got.value got.place))
        → IfOk (if t then refused at Trailing else run next x end at) (λ got. P got.value got.place)
        → IfOk (if t then refused at Trailing else run (with_bytes b next (λ a s. Done (h a s))) x end at) (λ got. Q got.value got.place)
    by_test true i p = tt
    by_test false i p = i p
if_with b (Int check next) h P Q x end at q p = by_int (int_at x at end) (λ v s to. if_with (b ++ s) (next v s) h P Q x end to q) p
  where
    by_int : (o : Option Var)
        → ((v : ℕ) (s : List ℕ) (to : ℕ) → IfOk (run (next v s) x end to) (λ got. P got.value got.place)
        → IfOk (run (with_bytes (b ++ s) (next v s) (λ a s. Done (h a s))) x end to) (λ got. Q got.value got.place))
        → IfOk (after_int x at check (λ v s p. run (next v s) x end p) o) (λ got. P got.value got.place)
        → IfOk (after_int x at check (λ v s p. run (with_bytes (b ++ s) (next v s) (λ a s. Done (h a s))) x end p) o) (λ got. Q got.value got.place)
    by_int None i p = tt
    by_int (Some v) i p = checked_made P Q at (check v.value) (run (next v.value (slice_range x at v.end)) x end v.end)
        (run (with_bytes (b ++ slice_range x at v.end) (next v.value (slice_range x at v.end)) (λ a s. Done (h a s))) x end v.end) (i v.value (slice_range x at v.end) v.end) p
if_with b (Byte check next) h P Q x end at q p = by_test (nat_lt at end) (if_with (b ++ (slice_index x at ∷ [])) (next (slice_index x at)) h P Q x end (at + 1) q) p
  where
    by_test : (t : Bool) → (IfOk (run (next (slice_index x at)) x end (at + 1)) (λ got. P got.value got.place)
        → IfOk (run (with_bytes (b ++ (slice_index x at ∷ [])) (next (slice_index x at)) (λ a s. Done (h a s))) x end (at + 1)) (λ got. Q got.value got.place))
        → IfOk (if t then checked at (check (slice_index x at)) (run (next (slice_index x at)) x end (at + 1)) else refused at Short) (λ got. P got.value got.place)
        → IfOk (if t then checked at (check (slice_index x at)) (run (with_bytes (b ++ (slice_index x at ∷ [])) (next (slice_index x at)) (λ a s. Done (h a s))) x end (at + 1)) else refused at Short) (λ got. Q got.value got.place)
    by_test true i p = checked_made P Q at (check (slice_index x at)) (run (next (slice_index x at)) x end (at + 1))
        (run (with_bytes (b ++ (slice_index x at ∷ [])) (next (slice_index x at)) (λ a s. Done (h a s))) x end (at + 1)) i p
    by_test false i p = tt
if_with b (Run n next) h P Q x end at q p = by_test (nat_le (at + n) end) (if_with (b ++ slice_range x at (at + n)) (next (slice_range x at (at + n))) h P Q x end (at + n) q) p
  where
    by_test : (t : Bool) → (IfOk (run (next (slice_range x at (at + n))) x end (at + n)) (λ got. P got.value got.place)
        → IfOk (run (with_bytes (b ++ slice_range x at (at + n)) (next (slice_range x at (at + n))) (λ a s. Done (h a s))) x end (at + n)) (λ got. Q got.value got.place))
        → IfOk (if t then run (next (slice_range x at (at + n))) x end (at + n) else refused at Short) (λ got. P got.value got.place)
        → IfOk (if t then run (with_bytes (b ++ slice_range x at (at + n)) (next (slice_range x at (at + n))) (λ a s. Done (h a s))) x end (at + n) else refused at Short) (λ got. Q got.value got.place)
    by_test true i p = i p
    by_test false i p = tt
if_with b (Here next) h P Q x end at q p = if_with b (next at) h P Q x end at q p
if_with b (Refuse why) h P Q x end at q p = tt

-- A base name but the string's gives no key.
abbrev GivesNoKey : Answer (Option ℕ) → Type 0
GivesNoKey r = IfOk r (λ got. got.value ≡ None)

plain_read : (kind : Kind) (x : List ℕ) (end at : ℕ) → kind ≢ kinds.Text → GivesNoKey (run (base_format kind) x end at)
unfolding run
plain_read kind x end at n = by_kind kind n
  where
    no_run : (count : ℕ) → GivesNoKey (run (Run count (λ bytes. Done None)) x end at)
    no_run count = by_test (nat_le (at + count) end)
      where
        by_test : (t : Bool) → GivesNoKey (if t then run (Done None) x end (at + count) else refused at Short)
        by_test true = refl
        by_test false = tt

    no_int : GivesNoKey (run (Int unchecked (λ v spelled. Done None)) x end at)
    no_int = by_int (int_at x at end)
      where
        by_int : (o : Option Var) → GivesNoKey (after_int x at unchecked (λ v s p. run (Done None) x end p) o)
        by_int None = tt
        by_int (Some v) = refl

    by_kind : (kind : Kind) → kind ≢ kinds.Text → GivesNoKey (run (base_format kind) x end at)
    by_kind kinds.Boolean n = no_run 1
    by_kind kinds.Byte n = no_run 1
    by_kind kinds.Char n = no_int
    by_kind kinds.Short n = no_int
    by_kind kinds.Int n = no_int
    by_kind kinds.Long n = no_int
    by_kind kinds.Float n = no_run 4
    by_kind kinds.Double n = no_run 8
    by_kind kinds.Text n = absurd (n refl)
    by_kind kinds.Composite n = refl

-- The keys of a value by where it ends.
told : {A : Type 0} (takes : KeyAt → A → A → Type 0) (end at : ℕ) (old new : A) (r : Answer Value) → IsPlaced end at r
    → IfOk r (λ got. got.place ≡ at + length (bytes_of got.value) → TakesAll takes (keys_at at got.value) old new) → TakesRead takes at r old new
told takes end at old new (Ok g) p h = h p.0
told takes end at old new (Err w) p h = tt

module _ {A : Type 0} (takes : KeyAt → A → A → Type 0) (x : List ℕ) (end at : ℕ) (order : at ≤ end) (within : end ≤ length x) where
  -- A string by its content.
  text_taken : (class : ℕ) (old new : A) → IfOk (run (string_format true) x end at) (λ got. TakesAll takes (key_between class (at + 1) got.place (key_of got.value)) old new)
      → IfOk (run (base_format kinds.Text) x end at) (λ got. TakesAll takes (key_between class (at + 1) got.place got.value) old new)
  text_taken class old new h =
      if_made (string_format true) key_of (λ content p. TakesAll takes (key_between class (at + 1) p (key_of content)) old new)
      (λ key p. TakesAll takes (key_between class (at + 1) p key) old new) x end at (λ content p q. q) h

  -- An inline value of a base name by its key, if it has one.
  pub base_taken : (depth : ℕ) (k : Classes) (s : FieldLayout) (old new : A) → 0 < depth → IsFieldLayout k s → s.kind ≢ kinds.Composite
      → IfOk (run (base_format s.kind) x end at) (λ got. TakesAll takes (key_between s.shape.class (at + 1) got.place got.value) old new)
      → TakesRead takes at (run (class_format depth k (item_of s.shape)) x end at) old new
  base_taken depth k s old new z i n h =
      let c = layout_class k s i in
      told takes end at old new (run (class_format depth k (item_of s.shape)) x end at) (class_placed x end within depth k (item_of s.shape) at order)
      (subst (λ (f : Format Value). IfOk (run f x end at) (λ got. got.place ≡ at + length (bytes_of got.value) → TakesAll takes (keys_at at got.value) old new))
      (sym (class_of_base depth k (item_of s.shape) c.class s.kind z c.found c.kind n))
      (if_with [] (base_format s.kind) (λ key b. Single (item_of s.shape) (leaf_kinds.Base s.kind) b key) (λ key p. TakesAll takes (key_between s.shape.class (at + 1) p key) old new)
      (λ v p. p ≡ at + length (bytes_of v) → TakesAll takes (keys_at at v) old new) x end at
      (λ key b p t e. subst (λ q. TakesAll takes (key_between s.shape.class (at + 1) q key) old new) e t) h))

  pub string_taken : (depth : ℕ) (k : Classes) (s : FieldLayout) (old new : A) → 0 < depth → IsFieldLayout k s → s.kind ≡ kinds.Text
      → IfOk (run (string_format true) x end at) (λ got. TakesAll takes (key_between s.shape.class (at + 1) got.place (key_of got.value)) old new)
      → TakesRead takes at (run (class_format depth k (item_of s.shape)) x end at) old new
  string_taken depth k s old new z i e h =
      base_taken depth k s old new z i (λ c. (let y : kinds.Text ≡ kinds.Composite = sym e ∙ c in cc))
      (subst (λ kind. IfOk (run (base_format kind) x end at) (λ got. TakesAll takes (key_between s.shape.class (at + 1) got.place got.value) old new)) (sym e) (text_taken s.shape.class old new h))

  -- One that is no string has no key.
  pub plain_taken : (depth : ℕ) (k : Classes) (s : FieldLayout) (old : A) → 0 < depth → IsFieldLayout k s → s.kind ≢ kinds.Composite → s.kind ≢ kinds.Text
      → TakesRead takes at (run (class_format depth k (item_of s.shape)) x end at) old old
  plain_taken depth k s old z i n m = base_taken depth k s old old z i n (by_answer (run (base_format s.kind) x end at) (plain_read s.kind x end at m))
    where
      by_answer : (r : Answer (Option ℕ)) → IfOk r (λ got. got.value ≡ None) → IfOk r (λ got. TakesAll takes (key_between s.shape.class (at + 1) got.place got.value) old old)
      by_answer (Ok g) e = subst (λ key. TakesAll takes (key_between s.shape.class (at + 1) g.place key) old old) (sym e) refl
      by_answer (Err e) h = tt

  -- A composite value by its fields.
  pub fields_taken : (depth : ℕ) (k : Classes) (s : FieldLayout) (ss : List FieldLayout) (old new : A) → 0 < depth → IsFieldLayout k s → s.kind ≡ kinds.Composite
      → IfSome (slice_get k s.class_index) (λ c. AreFieldLayouts k c.fields ss)
      → TakesReadAll takes at (run (for_each ss (λ z. shape_format (class_format (depth - 1) k) z.shape)) x end at) old new
      → TakesRead takes at (run (class_format depth k (item_of s.shape)) x end at) old new
  fields_taken depth k s ss old new z i q a h =
      let c = layout_class k s i in
      let b = fields_by k (class_format (depth - 1) k) c.class.fields ss (subst (λ o. IfSome o (λ c. AreFieldLayouts k c.fields ss)) c.there a) in
      let zero : at ≡ at + 0 = omega arith in
      subst (λ (f : Format Value). TakesRead takes at (run f x end at) old new) (sym (class_of_fields depth k (item_of s.shape) c.class z c.found (sym c.kind ∙ q)))
      (subst (λ (f : Format (List Value)). TakesRead takes at (run (f >>= λ vs. Done (Group (item_of s.shape) [] (values_of vs))) x end at) old new) (sym b)
      (if_made (for_each ss (λ z. shape_format (class_format (depth - 1) k) z.shape)) (λ vs. Group (item_of s.shape) [] (values_of vs))
      (λ vs p. TakesAll takes (keys_from at (values_of vs)) old new) (λ v p. TakesAll takes (keys_at at v) old new) x end at
      (λ vs p t. subst (λ n. TakesAll takes (keys_from n (values_of vs)) old new) zero t) h))

  -- One that is no array as an item.
  pub item_taken : (inline : Shape → Format Value) (s : Shape) (old new : A) → s.array ≡ false → TakesRead takes at (run (item_format inline (item_of s)) x end at) old new
      → TakesRead takes at (run (shape_format inline s) x end at) old new
  item_taken inline s old new a h =
      let flat : Bool → Shape = λ b. record { class = s.class; constant = s.constant; array = b } in
      subst (λ b. TakesRead takes at (run (if b then array_format (item_format inline (item_of s)) s else item_format inline (flat s.array)) x end at) old new) (sym a)
      (subst (λ b. TakesRead takes at (run (item_format inline (flat b)) x end at) old new) (sym a) h)

  -- An array by its items.
  pub items_taken : (inline : Shape → Format Value) (s : Shape) (v : Var) (old new : A) → s.array ≡ true → int_at x at end ≡ Some v
      → TakesReadAll takes v.end (run (times v.value (item_format inline (item_of s))) x end v.end) old new → TakesRead takes at (run (shape_format inline s) x end at) old new
  unfolding run
  items_taken inline s v old new a e h =
      let found = int_found x at end v order within e in
      let l : length (slice_range x at v.end) ≡ v.end - at = range_length x at v.end (omega (arith, found.1)) in
      let o : at ≤ v.end = found.0.order in
      let start : v.end ≡ at + length (slice_range x at v.end) = omega arith in
      subst (λ b. TakesRead takes at (run (if b then array_format (item_format inline (item_of s)) s else item_format inline s) x end at) old new) (sym a)
      (subst (λ o. TakesRead takes at (after_int x at unchecked (λ n b p. run (times n (item_format inline (item_of s)) >>= λ vs. Done (Group s b (values_of vs))) x end p) o) old new) (sym e)
      (if_made (times v.value (item_format inline (item_of s))) (λ vs. Group s (slice_range x at v.end) (values_of vs)) (λ vs p. TakesAll takes (keys_from v.end (values_of vs)) old new)
      (λ w p. TakesAll takes (keys_at at w) old new) x end v.end (λ vs p t. subst (λ n. TakesAll takes (keys_from n (values_of vs)) old new) start t) h))

  -- A value and those after it.
  pub cons_taken : (f : Format Value) (g : Format (List Value)) (to : ℕ) (old now new : A) → ReadsPlaced x end f → end_or_flaw (run f x end at) ≡ Ok to
      → TakesRead takes at (run f x end at) old now → TakesReadAll takes to (run g x end to) now new
      → TakesReadAll takes at (run (f >>= λ v. g >>= λ vs. Done (v ∷ vs)) x end at) old new
  cons_taken f g to old now new placed e h t =
      subst (λ (r : Answer (List Value)). TakesReadAll takes at r old new) (sym (run-bind f (λ v. g >>= λ vs. Done (v ∷ vs)) x end at)) (by_answer (run f x end at) (placed at order) e h)
    where
      by_answer : (r : Answer Value) → IsPlaced end at r → end_or_flaw r ≡ Ok to → TakesRead takes at r old now
          → TakesReadAll takes at (on r (λ v p. run (g >>= λ vs. Done (v ∷ vs)) x end p)) old new
      by_answer (Ok got) q e h =
          let p : got.place ≡ to = cc in
          if_made g (λ vs. got.value ∷ vs) (λ vs p. TakesAll takes (keys_from got.place (values_of vs)) now new) (λ vs p. TakesAll takes (keys_from at (values_of vs)) old new) x end got.place
          (λ vs p u. takes_append takes (keys_at at got.value) (keys_from (at + length (bytes_of got.value)) (values_of vs)) old now new h
          (subst (λ n. TakesAll takes (keys_from n (values_of vs)) now new) q.0 u))
          (subst (λ z. TakesReadAll takes z (run g x end z) now new) (sym p) t)
      by_answer (Err f) q e h = tt

-- The keys in the values that are left, after those that were taken, are all keys. The values start at one offset, and
-- those that are left at the other.
pub record TakesRemaining {A : Type 0} (takes : KeyAt → A → A → Type 0) (at : ℕ) (all : Answer (List Value)) (to : ℕ) (remaining : Answer (List Value)) (old now : A) : Type 0 where
  pub then_all : (new : A) → TakesReadAll takes to remaining now new → TakesReadAll takes at all old new

module _ {A : Type 0} (takes : KeyAt → A → A → Type 0) (start : ℕ) (all : Answer (List Value)) (x : List ℕ) (end : ℕ) (within : end ≤ length x) (old : A) where
  left_goes : (f : Format Value) (g : Format (List Value)) (at to : ℕ) (now new : A) → at ≤ end → ReadsPlaced x end f
      → TakesRemaining takes start all at (run (f >>= λ v. g >>= λ vs. Done (v ∷ vs)) x end at) old now
      → end_or_flaw (run f x end at) ≡ Ok to → TakesRead takes at (run f x end at) now new
      → TakesRemaining takes start all to (run g x end to) old new
  left_goes f g at to now new o p l e h = record { then_all = λ last t. l.then_all last (cons_taken takes x end at o within f g to now new last p e h t) }

  pub items_go : (n i : ℕ) (f : Format Value) (at to : ℕ) (now new : A) → i < n → at ≤ end → ReadsPlaced x end f → TakesRemaining takes start all at (run (times (n - i) f) x end at) old now
      → end_or_flaw (run f x end at) ≡ Ok to → TakesRead takes at (run f x end at) now new
      → TakesRemaining takes start all to (run (times (n - (i + 1)) f) x end to) old new
  items_go n i f at to now new h o p l e t =
      let d : n - i ≡ suc (n - (i + 1)) = omega arith in
      left_goes f (times (n - (i + 1)) f) at to now new o p (subst (λ m. TakesRemaining takes start all at (run (times m f) x end at) old now) d l) e t

  pub items_end : (n i : ℕ) (f : Format Value) (at : ℕ) (now : A) → n ≤ i → TakesRemaining takes start all at (run (times (n - i) f) x end at) old now → TakesReadAll takes start all old now
  unfolding run
  items_end n i f at now h l = let d : n - i ≡ 0 = omega arith in l.then_all now (subst (λ m. TakesReadAll takes at (run (times m f) x end at) now now) (sym d) refl)

  pub each_goes : {X : Type 0} (f : X → Format Value) (xs : List X) (i : ℕ) (y : X) (at to : ℕ) (now new : A) → slice_get xs i ≡ Some y → at ≤ end → ((y : X) → ReadsPlaced x end (f y))
      → TakesRemaining takes start all at (run (for_each (drop i xs) f) x end at) old now
      → end_or_flaw (run (f y) x end at) ≡ Ok to → TakesRead takes at (run (f y) x end at) now new → TakesRemaining takes start all to (run (for_each (drop (i + 1) xs) f) x end to) old new
  each_goes f [] i y at to now new q o p l e h = cc
  each_goes f (z ∷ xs) zero y at to now new q o p l e h =
      let r : z ≡ y = cc in
      left_goes (f y) (for_each xs f) at to now new o (p y) (subst (λ w. TakesRemaining takes start all at (run (for_each (w ∷ xs) f) x end at) old now) r l) e h
  each_goes f (z ∷ xs) (suc i) y at to now new q o p l e h = let r : suc i + 1 ≡ suc (i + 1) = omega arith in rw r (each_goes f xs i y at to now new q o p l e h)

-- There is no key in an array of items without bytes.
module _ {A : Type 0} (takes : KeyAt → A → A → Type 0) (k : Classes) (x : List ℕ) (end at : ℕ) (order : at ≤ end) (within : end ≤ length x) (a : A) where
  hollow_items_taken : (s : Shape) (c : Class) → find_class k s.class ≡ Some c → kind_of c.name ≡ kinds.Composite → c.fields ≡ [] → s.constant ≡ false → (n to : ℕ) → to ≤ end
      → TakesReadAll takes to (run (times n (item_format (class_format 34 k) (item_of s))) x end to) a a
  unfolding run
  hollow_items_taken s c q e z o zero to h = refl
  hollow_items_taken s c q e z o (suc n) to h =
      let i = hollow_item k s c q e z o x end to in
      cons_taken takes x end to h within (item_format (class_format 34 k) (item_of s)) (times n (item_format (class_format 34 k) (item_of s))) to a a a
      (item_placed x end within 34 k (item_of s)) (ap end_or_flaw i)
      (subst (λ (r : Answer Value). TakesRead takes to r a a) (sym i) refl) (hollow_items_taken s c q e z o n to h)

  pub hollow_taken : (s : FieldLayout) (b : Bool) → IsFieldLayout k s → IfSome (slice_get k s.class_index) (λ c. IsTrue b ↔ IsHollowArray s.shape c) → b ≡ true
      → TakesRead takes at (run (value_format k s.shape) x end at) a a
  unfolding value_format
  hollow_taken s b i h t = by_int (int_at x at end) refl
    where
      by_int : (o : Option Var) → int_at x at end ≡ o → TakesRead takes at (run (shape_format (class_format 34 k) s.shape) x end at) a a
      by_int None e = let c = layout_class k s i in let w = hollow_is k s.shape s.class_index b c.class c.there h t in
          no_value (run (shape_format (class_format 34 k) s.shape) x end at) (record { offset = at; reason = Short }) (λ got. TakesAll takes (keys_at at got.value) a a)
          (sym (array_short k s.shape x end at w.0 e))
      by_int (Some v) e = let c = layout_class k s i in let w = hollow_is k s.shape s.class_index b c.class c.there h t in
          items_taken takes x end at order within (class_format 34 k) s.shape v a a w.0 e
          (hollow_items_taken s.shape c.class c.found w.2.0 w.2.1 w.1 v.value v.end (int_found x at end v order within e).1)

-- If a value was read, the keys in it are those in the node.
pub node_taken : {A : Type 0} (takes : KeyAt → A → A → Type 0) (k : Classes) (s : Shape) (x : List ℕ) (end at : ℕ) (old new : A) → Sound k → at ≤ end → end ≤ length x → (r : Result ℕ Flaw)
    → r ≡ end_or_flaw (run (value_format k s) x end at)
    → TakesRead takes at (run (value_format k s) x end at) old new → IfOk r (λ to. TakesAll takes (keys_in k x (node_at s at to)) old new)
node_taken takes k s x end at old new sound o h r e t =
    subst (λ z. IfOk z (λ to. TakesAll takes (keys_in k x (node_at s at to)) old new)) (sym e) (by_answer (run (value_format k s) x end at) (run_reads_or_fails (value_format k s) x end at o h) t)
  where
    by_answer : (a : Answer Value) → ReadsOrFails (value_format k s) x end at a → TakesRead takes at a old new → IfOk (end_or_flaw a) (λ to. TakesAll takes (keys_in k x (node_at s at to)) old new)
    by_answer (Ok g) q t =
        let n = read_node k s x end at g.place g.value h o q in
        subst (λ keys. TakesAll takes keys old new) (sym (keys_in_are k x (node_at s at g.place) g.value sound n.0)) t
    by_answer (Err f) q t = tt
