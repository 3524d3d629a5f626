-- One step of a walk over values one after another.
use Rattle.std.specs.Prelude.{◌≡◌, ◌≢◌, ℕ, zero, suc, ◌+◌, ◌<◌, ◌≤◌, ⊤, Bool, true, false, List, [], ◌∷◌, ◌++◌, ◌⊎◌, length, map, replicate, slice_get, slice_range, Option, Some, None, IsSome, IfSome, Ok, if◌then◌else◌}
use Rattle.std.proofs.Common.{ap, arith, refl, sym, ◌∙◌, subst, inl, inr}
use Rattle.std.proofs.lemmas.List.{append_assoc, append-nil, length-append}
use Rattle.jfr_base.specs.declared.integer.Var.{Var}
use Rattle.jfr_base.specs.Integer.{IntAt, Spells, worth_within}
use Rattle.jfr_base.specs.Formats.{int_at, run, end_or_flaw}
use Rattle.jfr_base.proofs.OneAnswer.{int_computed}
use Rattle.jfr_base.proofs.RunLaws.{Stands, stands_split, exact_run}
use Rattle.jfr_layout.specs.Classes.{Class, Classes, find_class, kind_of, item_of}
use Rattle.jfr_layout.specs.declared.kind.Kind.{Kind}
use Rattle.jfr_layout.specs.declared.kind.Kind.TheVariants as kinds
use Rattle.jfr_layout.specs.declared.shape.Shape.{Shape}
use Rattle.jfr_value.specs.declared.leaf.Holder.{Holder}
use Rattle.jfr_value.specs.declared.leaf.LeafKind.{LeafKind}
use Rattle.jfr_value.specs.declared.leaf.LeafKind.TheVariants as leaf_kinds
use Rattle.jfr_value.specs.Values.{Value, Values, Single, Group, Nil, Cons, list_of, shape_of, shapes_of, bytes_of, bytes_of_all, IsBase, IsSingle, IsHead, Fits, AllFit, IsHollow}
use Rattle.jfr_value.specs.Reading.{base_format}
use Rattle.jfr_value.specs.Nodes.{AreValues}
use Rattle.jfr_value.specs.Leaves.{LeafAt, leaves_at, leaves_from}
use Rattle.jfr_base.specs.Formats.{Done, for_each, Exactly, ◌>>=◌}
use Rattle.jfr_base.proofs.ExactLaws.{bind_exact}
use Rattle.jfr_layout.specs.Classes.{Sound}
use Rattle.jfr_value.specs.declared.cursor.Cursor.{Cursor}
use Rattle.jfr_value.specs.Reading.{value_format}
use Rattle.jfr_value.proofs.DepthLaws.{fits_good, values_again}
use Rattle.std.specs.Option.{option_map_or}
use Rattle.jfr_value.specs.declared.stack.Frame.{Frame}
use Rattle.jfr_value.specs.declared.stack.Frame.TheVariants.{Items}
use Rattle.jfr_value.specs.Nodes.{NodeAt, IsNode}
use Rattle.jfr_value.specs.Leaves.{leaves}
use Rattle.jfr_value.proofs.DepthLaws.{sound_inline}
use Rattle.jfr_value.proofs.NodeLaws.{value_is}
use Rattle.jfr_value.proofs.StackLaws.{either_height}
use Rattle.jfr_value.specs.Walks.{AreFrames, IsWalk, remaining_leaves, AreRemaining, fields_from, got_values, leaves_held, remaining_holders, remaining_shapes, remaining_values, size_of_all, IsClassIndexIfKnown}
use Rattle.jfr_base.proofs.Ranges.{range_split}
use Rattle.jfr_value.proofs.ChildLaws.{inline_known}
use Rattle.jfr_value.proofs.LeafLaws.{all_within}
use Rattle.jfr_value.proofs.PlaceLaws.{get_within, placed_class, placed_some, placed_within}
use Rattle.jfr_value.proofs.FitLaws.{is_base}
use Rattle.jfr_value.proofs.RowLaws.{row_stands, hollow_bytes}

-- What can't be missing is there.
pub some_there : {X : Type 0} (o : Option X) → (o ≡ None → ⊥) → IsSome o
some_there None h = absurd (h refl)
some_there (Some x) h = refl

-- Values followed by others.
abbrev pub behind : Values → Values → Values
behind Nil us = us
behind (Cons v vs) us = Cons v (behind vs us)

bytes_behind : (vs us : Values) → bytes_of_all (behind vs us) ≡ bytes_of_all vs ++ bytes_of_all us
bytes_behind Nil us = refl
bytes_behind (Cons v vs) us = ap (λ z. bytes_of v ++ z) (bytes_behind vs us) ∙ sym (append_assoc (bytes_of v) (bytes_of_all vs) (bytes_of_all us))

shapes_behind : (vs us : Values) → shapes_of (behind vs us) ≡ shapes_of vs ++ shapes_of us
shapes_behind Nil us = refl
shapes_behind (Cons v vs) us = ap (λ z. shape_of v ∷ z) (shapes_behind vs us)

fit_behind : (k : Classes) (vs us : Values) → AllFit k vs → AllFit k us → AllFit k (behind vs us)
fit_behind k Nil us f g = g
fit_behind k (Cons v vs) us f g = (f.0, fit_behind k vs us f.1 g)

size_behind : (vs us : Values) → size_of_all (behind vs us) ≡ size_of_all vs + size_of_all us
size_behind Nil us = omega arith
size_behind (Cons v vs) us = let i = size_behind vs us in omega arith

-- The list begins with the holders of these values, which the function gives by their numbers.
abbrev AreHolders : (ℕ → Option Holder) → List (Option Holder) → Values → Type 0
AreHolders f [] Nil = ⊤
AreHolders f (g ∷ gs) (Cons v vs) = (f zero ≡ g) × AreHolders (λ n. f (suc n)) gs vs
AreHolders f [] (Cons v vs) = ⊥
AreHolders f (g ∷ gs) Nil = ⊥

same_holders : (g : Option Holder) (n : ℕ) (s : Shape) (vs : Values) → shapes_of vs ≡ replicate n s → AreHolders (λ i. g) (replicate n g) vs
same_holders g zero s Nil e = tt
same_holders g zero s (Cons v vs) e = cc
same_holders g (suc n) s Nil e = cc
same_holders g (suc n) s (Cons v vs) e = (refl, same_holders g n s vs (let x : shape_of v ∷ shapes_of vs ≡ s ∷ replicate n s = e in cc))

fields_hold : (class number : ℕ) (f : ℕ → Option Holder) (ss : List Shape) (vs : Values) → ((i : ℕ) → f i ≡ Some (record { class = class; field = number + i })) → shapes_of vs ≡ ss
    → AreHolders f (fields_from class number ss) vs
fields_hold class number f [] Nil h e = tt
fields_hold class number f [] (Cons v vs) h e = cc
fields_hold class number f (s ∷ ss) Nil h e = cc
fields_hold class number f (s ∷ ss) (Cons v vs) h e =
    let holder : ℕ → Option Holder = λ n. Some (record { class = class; field = n }) in
    let q : shapes_of vs ≡ ss = (let x : shape_of v ∷ shapes_of vs ≡ s ∷ ss = e in cc) in (
      h zero ∙ (let z : number + 0 ≡ number = omega arith in ap holder z),
      fields_hold class (number + 1) (λ n. f (suc n)) ss vs (λ i. h (suc i) ∙ (let z : number + suc i ≡ (number + 1) + i = omega arith in ap holder z)) q,
    )

leaves_behind : (f : ℕ → Option Holder) (gs hs : List (Option Holder)) (at : ℕ) (vs us : Values) → AreHolders f gs vs
    → leaves_held (gs ++ hs) at (behind vs us) ≡ leaves_from f at vs ++ leaves_held hs (at + length (bytes_of_all vs)) us
leaves_behind f [] hs at Nil us a = let z : at ≡ at + 0 = omega arith in ap (λ y. leaves_held hs y us) z
leaves_behind f (g ∷ gs) hs at Nil us a = absurd a
leaves_behind f [] hs at (Cons v vs) us a = absurd a
leaves_behind f (g ∷ gs) hs at (Cons v vs) us a =
    let z : (at + length (bytes_of v)) + length (bytes_of_all vs) ≡ at + length (bytes_of v ++ bytes_of_all vs) = (let l = length-append (bytes_of v) (bytes_of_all vs) in omega arith) in
    let rest : List LeafAt = leaves_from (λ n. f (suc n)) (at + length (bytes_of v)) vs in
    ap (λ y. leaves_at g at v ++ y) (leaves_behind (λ n. f (suc n)) gs hs (at + length (bytes_of v)) vs us a.1)
    ∙ (ap (λ y. leaves_at y at v ++ (rest ++ leaves_held hs ((at + length (bytes_of v)) + length (bytes_of_all vs)) us)) (sym a.0)
    ∙ (ap (λ y. leaves_at (f zero) at v ++ (rest ++ leaves_held hs y us)) z ∙ sym (append_assoc (leaves_at (f zero) at v) rest (leaves_held hs (at + length (bytes_of v ++ bytes_of_all vs)) us))))

-- The first value of a row, and the rest after it.
pub record First (k : Classes) (c : List ℕ) (at end : ℕ) (s : Shape) (ss : List Shape) (vs : Values) : Type 0 where
  pub value : Value
  pub others : Values
  pub are : vs ≡ Cons value others
  pub shape : shape_of value ≡ s
  pub fits : Fits k value
  pub holds : Stands c at (at + length (bytes_of value)) (bytes_of value)
  pub row : AreValues k c (at + length (bytes_of value)) end ss others

pub first_of : (k : Classes) (c : List ℕ) (at end : ℕ) (s : Shape) (ss : List Shape) (vs : Values) → AreValues k c at end (s ∷ ss) vs → First k c at end s ss vs
first_of k c at end s ss Nil r = let h = r.of_shapes in cc
first_of k c at end s ss (Cons v vs) r =
    let h = stands_split c at end (bytes_of v ++ bytes_of_all vs) (bytes_of v) (bytes_of_all vs) (row_stands k c at end (s ∷ ss) (Cons v vs) r) refl in
    record {
      value = v;
      others = vs;
      are = refl;
      shape = (let x : shape_of v ∷ shapes_of vs ≡ s ∷ ss = r.of_shapes in cc);
      fits = r.fit.0;
      holds = h.first;
      row = record { order = h.second.order; within = h.second.within; bytes = h.second.bytes; fit = r.fit.1; of_shapes = (let x : shape_of v ∷ shapes_of vs ≡ s ∷ ss = r.of_shapes in cc) };
    }

-- The first leaf is returned, and these values are left, with the holders gs.
pub record Taken (k : Classes) (c : List ℕ) (at end to : ℕ) (kind : LeafKind) (class : ℕ) (ss : List Shape) (vs : Values) (g : Option Holder) (hs gs : List (Option Holder)) : Type 0 where
  pub others : Values
  pub row : AreValues k c to end ss others
  pub leaves : leaves_held (g ∷ hs) at vs ≡ record { kind = kind; class = class; holder = g; at = at; spelled = slice_range c at to } ∷ leaves_held gs to others

int_there : (c : List ℕ) (at end n : ℕ) (b : List ℕ) (w : Var) → Stands c at (at + length b) b → Spells b n → at + length b ≤ end → end ≤ length c → int_at c at end ≡ Some w
    → (n ≡ w.value) × (at + length b ≡ w.end)
int_there c at end n b w s p l h e =
    let i : IntAt c at (at + length b) n = record { order = s.order; within = s.within; spelled = subst (λ z. Spells z n) (sym s.bytes) p } in
    let o : at ≤ end = (let z = s.order in omega arith) in
    let q : int_at c at end ≡ Some (record { value = n; end = at + length b }) = int_computed c at end (at + length b) n o h i l in
    let x : record { value = n; end = at + length b } ≡ w = cc in
    (ap (λ (z : Var). z.value) x, ap (λ (z : Var). z.end) x)

int_not_none : (c : List ℕ) (at end n : ℕ) (b : List ℕ) → Stands c at (at + length b) b → Spells b n → at + length b ≤ end → end ≤ length c → int_at c at end ≡ None → ⊥
int_not_none c at end n b s p l h e =
    let i : IntAt c at (at + length b) n = record { order = s.order; within = s.within; spelled = subst (λ z. Spells z n) (sym s.bytes) p } in
    let o : at ≤ end = (let z = s.order in omega arith) in
    let q : int_at c at end ≡ Some (record { value = n; end = at + length b }) = int_computed c at end (at + length b) n o h i l in
    cc

-- A single value, up to the place where it ends.
single_taken : (k : Classes) (c : List ℕ) (at end to : ℕ) (s t : Shape) (kind other : LeafKind) (b : List ℕ) (key : Option ℕ) (ss : List Shape) (vs us : Values) (g : Option Holder) (hs : List (Option Holder)) → vs ≡ Cons (Single t kind b key) us → t ≡ s → kind ≡ other → at + length b ≡ to
    → Stands c at (at + length b) b → AreValues k c (at + length b) end ss us → Taken k c at end to other s.class ss vs g hs hs
single_taken k c at end to s t kind other b key ss vs us g hs e q h z p r =
    let leaf : LeafKind → ℕ → List ℕ → LeafAt = λ kind class b. record { kind = kind; class = class; holder = g; at = at; spelled = b } in
    let x : slice_range c at to ≡ b = ap (slice_range c at) (sym z) ∙ p.bytes in
    record {
      others = us;
      row = subst (λ y. AreValues k c y end ss us) z r;
      leaves = ap (leaves_held (g ∷ hs) at) e
          ∙ (ap (λ y. leaf kind t.class b ∷ leaves_held hs y us) z
          ∙ (ap (λ y. leaf y t.class b ∷ leaves_held hs to us) h
          ∙ (ap (λ (y : Shape). leaf other y.class b ∷ leaves_held hs to us) q
          ∙ ap (λ y. leaf other s.class y ∷ leaves_held hs to us) (sym x))));
    }

array_is : (t s : Shape) (b : Bool) → t ≡ s → s.array ≡ b → t.array ≡ b
array_is t s b q a = ap (λ (z : Shape). z.array) q ∙ a

constant_is : (t s : Shape) (b : Bool) → t ≡ s → s.constant ≡ b → t.constant ≡ b
constant_is t s b q a = ap (λ (z : Shape). z.constant) q ∙ a

found_is : (k : Classes) (t s : Shape) (d e : Class) → t ≡ s → find_class k t.class ≡ Some d → find_class k s.class ≡ Some e → d ≡ e
found_is k t s d e q f g = let x : find_class k t.class ≡ Some e = ap (λ (z : Shape). find_class k z.class) q ∙ g in cc

no_base : (k : Classes) (d : Class) (e : Class) (b : List ℕ) (key : Option ℕ) → d ≡ e → kind_of e.name ≡ kinds.Composite → IsBase (kind_of d.name) b key → ⊥
no_base k d e b key q m i = subst (λ z. IsBase z b key) (ap (λ (z : Class). kind_of z.name) q ∙ m) i

module _ (k : Classes) (c : List ℕ) (at end : ℕ) (s : Shape) (ss : List Shape) (g : Option Holder) (hs : List (Option Holder)) where
  -- A reference.
  pub key_taken : (vs : Values) (w : Var) → AreValues k c at end (s ∷ ss) vs → s.array ≡ false → s.constant ≡ true → int_at c at end ≡ Some w
      → Taken k c at end w.end (leaf_kinds.Key w.value) s.class ss vs g hs hs
  unfolding first_of
  key_taken Nil w r a o e = let h = r.of_shapes in cc
  key_taken (Cons (Single t kind b key) us) w r a o e = by_case f.fits
    where
      f : First k c at end s ss (Cons (Single t kind b key) us)
      f = first_of k c at end s ss (Cons (Single t kind b key) us) r

      by_case : IsSingle k t kind b key → Taken k c at end w.end (leaf_kinds.Key w.value) s.class ss (Cons (Single t kind b key) us) g hs hs
      by_case (inl p) =
          let x = int_there c at end p.2 b w f.holds p.3 f.row.order r.within e in
          single_taken k c at end w.end s t kind (leaf_kinds.Key w.value) b key ss (Cons (Single t kind b key) us) us g hs refl f.shape (p.4 ∙ ap (λ z. leaf_kinds.Key z) x.0) x.1 f.holds f.row
      by_case (inr p) = let z : t.constant ≡ true = constant_is t s true f.shape o in let y = p.1 in cc
  key_taken (Cons (Group t h ps) us) w r a o e = by_case f.fits.0
    where
      f : First k c at end s ss (Cons (Group t h ps) us)
      f = first_of k c at end s ss (Cons (Group t h ps) us) r

      by_case : IsHead k t h (shapes_of ps) → Taken k c at end w.end (leaf_kinds.Key w.value) s.class ss (Cons (Group t h ps) us) g hs hs
      by_case (inl p) = let z : t.array ≡ false = array_is t s false f.shape a in let y = p.0 in cc
      by_case (inr p) = let z : t.constant ≡ true = constant_is t s true f.shape o in let y = p.1 in cc

  pub key_there : (vs : Values) → AreValues k c at end (s ∷ ss) vs → s.array ≡ false → s.constant ≡ true → int_at c at end ≡ None → ⊥
  unfolding first_of
  key_there Nil r a o e = let h = r.of_shapes in cc
  key_there (Cons (Single t kind b key) us) r a o e = by_case f.fits
    where
      f : First k c at end s ss (Cons (Single t kind b key) us)
      f = first_of k c at end s ss (Cons (Single t kind b key) us) r

      by_case : IsSingle k t kind b key → ⊥
      by_case (inl p) = int_not_none c at end p.2 b f.holds p.3 f.row.order r.within e
      by_case (inr p) = let z : t.constant ≡ true = constant_is t s true f.shape o in let y = p.1 in cc
  key_there (Cons (Group t h ps) us) r a o e = by_case f.fits.0
    where
      f : First k c at end s ss (Cons (Group t h ps) us)
      f = first_of k c at end s ss (Cons (Group t h ps) us) r

      by_case : IsHead k t h (shapes_of ps) → ⊥
      by_case (inl p) = let z : t.array ≡ false = array_is t s false f.shape a in let y = p.0 in cc
      by_case (inr p) = let z : t.constant ≡ true = constant_is t s true f.shape o in let y = p.1 in cc

  -- A value of a base name.
  pub base_ends : (vs : Values) (d : Class) → AreValues k c at end (s ∷ ss) vs → s.array ≡ false → s.constant ≡ false → find_class k s.class ≡ Some d → kind_of d.name ≢ kinds.Composite
      → (to : ℕ) × (end_or_flaw (run (base_format (kind_of d.name)) c end at) ≡ Ok to) × Taken k c at end to (leaf_kinds.Base (kind_of d.name)) s.class ss vs g hs hs
  unfolding first_of
  base_ends Nil d r a o q m = let h = r.of_shapes in cc
  base_ends (Cons (Single t kind b key) us) d r a o q m = by_case f.fits
    where
      f : First k c at end s ss (Cons (Single t kind b key) us)
      f = first_of k c at end s ss (Cons (Single t kind b key) us) r

      by_case : IsSingle k t kind b key
          → (to : ℕ) × (end_or_flaw (run (base_format (kind_of d.name)) c end at) ≡ Ok to) × Taken k c at end to (leaf_kinds.Base (kind_of d.name)) s.class ss (Cons (Single t kind b key) us) g hs hs
      by_case (inl p) = let z : t.constant ≡ false = constant_is t s false f.shape o in let y = p.1 in cc
      by_case (inr p) =
          let e : p.2 ≡ d = found_is k t s p.2 d f.shape p.3 q in
          let i : IsBase (kind_of d.name) b key = subst (λ (z : Class). IsBase (kind_of z.name) b key) e p.5 in
          let x = exact_run c end r.within (base_format (kind_of d.name)) at (at + length b) b key (is_base (kind_of d.name) b key i) f.holds f.row.order in (
            at + length b,
            ap end_or_flaw x,
            single_taken k c at end (at + length b) s t kind (leaf_kinds.Base (kind_of d.name)) b key ss (Cons (Single t kind b key) us) us g hs refl f.shape
                (p.4 ∙ ap (λ (z : Class). leaf_kinds.Base (kind_of z.name)) e) refl f.holds f.row,
          )
  base_ends (Cons (Group t h ps) us) d r a o q m = by_case f.fits.0
    where
      f : First k c at end s ss (Cons (Group t h ps) us)
      f = first_of k c at end s ss (Cons (Group t h ps) us) r

      by_case : IsHead k t h (shapes_of ps)
          → (to : ℕ) × (end_or_flaw (run (base_format (kind_of d.name)) c end at) ≡ Ok to) × Taken k c at end to (leaf_kinds.Base (kind_of d.name)) s.class ss (Cons (Group t h ps) us) g hs hs
      by_case (inl p) = let z : t.array ≡ false = array_is t s false f.shape a in let y = p.0 in cc
      by_case (inr p) = let e : p.2 ≡ d = found_is k t s p.2 d f.shape p.3 q in absurd (m (ap (λ (z : Class). kind_of z.name) (sym e) ∙ p.4))

  -- A composite value: its fields are what comes next.
  pub fields_next : (vs : Values) (d : Class) → AreValues k c at end (s ∷ ss) vs → s.array ≡ false → s.constant ≡ false → find_class k s.class ≡ Some d → kind_of d.name ≡ kinds.Composite
      → (ws : Values) × AreValues k c at end (map (λ f. f.shape) d.fields ++ ss) ws × (leaves_held (g ∷ hs) at vs ≡ leaves_held (fields_from s.class 0 (map (λ f. f.shape) d.fields) ++ hs) at ws) × (size_of_all vs ≡ 2 + size_of_all ws)
  unfolding first_of
  fields_next Nil d r a o q m = let h = r.of_shapes in cc
  fields_next (Cons (Single t kind b key) us) d r a o q m = by_case f.fits
    where
      f : First k c at end s ss (Cons (Single t kind b key) us)
      f = first_of k c at end s ss (Cons (Single t kind b key) us) r

      by_case : IsSingle k t kind b key
          → (ws : Values) × AreValues k c at end (map (λ f. f.shape) d.fields ++ ss) ws × (leaves_held (g ∷ hs) at (Cons (Single t kind b key) us) ≡ leaves_held (fields_from s.class 0 (map (λ f. f.shape) d.fields) ++ hs) at ws) × (size_of_all (Cons (Single t kind b key) us) ≡ 2 + size_of_all ws)
      by_case (inl p) = let z : t.constant ≡ false = constant_is t s false f.shape o in let y = p.1 in cc
      by_case (inr p) = absurd (no_base k p.2 d b key (found_is k t s p.2 d f.shape p.3 q) m p.5)
  fields_next (Cons (Group t h ps) us) d r a o q m = by_case f.fits
    where
      f : First k c at end s ss (Cons (Group t h ps) us)
      f = first_of k c at end s ss (Cons (Group t h ps) us) r

      by_case : IsHead k t h (shapes_of ps) × AllFit k ps
          → (ws : Values) × AreValues k c at end (map (λ f. f.shape) d.fields ++ ss) ws × (leaves_held (g ∷ hs) at (Cons (Group t h ps) us) ≡ leaves_held (fields_from s.class 0 (map (λ f. f.shape) d.fields) ++ hs) at ws) × (size_of_all (Cons (Group t h ps) us) ≡ 2 + size_of_all ws)
      by_case (inl p, i) = let z : t.array ≡ false = array_is t s false f.shape a in let y = p.0 in cc
      by_case (inr p, i) =
          let e : p.2 ≡ d = found_is k t s p.2 d f.shape p.3 q in
          let n : shapes_of ps ≡ map (λ f. f.shape) d.fields = p.6 ∙ ap (λ (z : Class). map (λ f. f.shape) z.fields) e in
          let z : at + length h ≡ at = (let l : length h ≡ 0 = ap length p.5 in omega arith) in
          let y : at + length (h ++ bytes_of_all ps) ≡ at + length (bytes_of_all ps) = ap (λ x. at + length (x ++ bytes_of_all ps)) p.5 in
          let count : LeafAt = record { kind = leaf_kinds.Count (worth_within 8 h); class = t.class; holder = g; at = at; spelled = h } in
          let field : ℕ → ℕ → Option Holder = λ class n. Some (record { class = class; field = n }) in (
            behind ps us,
            record {
              order = r.order;
              within = r.within;
              bytes = r.bytes ∙ (ap (λ x. (x ++ bytes_of_all ps) ++ bytes_of_all us) p.5 ∙ sym (bytes_behind ps us));
              fit = fit_behind k ps us i r.fit.1;
              of_shapes = shapes_behind ps us ∙ (ap (λ x. x ++ shapes_of us) n ∙ ap (λ x. map (λ f. f.shape) d.fields ++ x) f.row.of_shapes);
            },
            ap (λ x. ((if x then count ∷ [] else []) ++ leaves_from (if x then (λ n. g) else field t.class) (at + length h) ps) ++ leaves_held hs (at + length (h ++ bytes_of_all ps)) us) p.0
                ∙ (ap (λ x. leaves_from (field t.class) x ps ++ leaves_held hs (at + length (h ++ bytes_of_all ps)) us) z
                ∙ (ap (λ x. leaves_from (field t.class) at ps ++ leaves_held hs x us) y
                ∙ (ap (λ (x : Shape). leaves_from (field x.class) at ps ++ leaves_held hs (at + length (bytes_of_all ps)) us) f.shape
                ∙ sym (leaves_behind (field s.class) (fields_from s.class 0 (map (λ f. f.shape) d.fields)) hs at ps us
                (fields_hold s.class 0 (field s.class) (map (λ f. f.shape) d.fields) ps (λ j. (let w : j ≡ 0 + j = omega arith in ap (field s.class) w)) n))))),
            (let i = size_behind ps us in omega arith),
          )

  -- An array: its count is returned, and its items come next.
  record Counted (vs : Values) (w : Var) : Type 0 where
    items : Values
    others : Values
    shapes : shapes_of items ≡ replicate w.value (item_of s)
    fit : AllFit k items
    row : AreValues k c w.end end (replicate w.value (item_of s) ++ ss) (behind items others)
    rest : AreValues k c (w.end + length (bytes_of_all items)) end ss others
    leaves : leaves_held (g ∷ hs) at vs ≡ record { kind = leaf_kinds.Count w.value; class = s.class; holder = g; at = at; spelled = slice_range c at w.end } ∷ (leaves_from (λ n. g) w.end items ++ leaves_held hs (w.end + length (bytes_of_all items)) others)

  counted : (vs : Values) (w : Var) → AreValues k c at end (s ∷ ss) vs → s.array ≡ true → int_at c at end ≡ Some w → Counted vs w
  unfolding first_of
  counted Nil w r a e = let h = r.of_shapes in cc
  counted (Cons (Single t kind b key) us) w r a e = by_case f.fits
    where
      f : First k c at end s ss (Cons (Single t kind b key) us)
      f = first_of k c at end s ss (Cons (Single t kind b key) us) r

      by_case : IsSingle k t kind b key → Counted (Cons (Single t kind b key) us) w
      by_case (inl p) = let z : t.array ≡ true = array_is t s true f.shape a in let y = p.0 in cc
      by_case (inr p) = let z : t.array ≡ true = array_is t s true f.shape a in let y = p.0 in cc
  counted (Cons (Group t h ps) us) w r a e = by_case f.fits
    where
      f : First k c at end s ss (Cons (Group t h ps) us)
      f = first_of k c at end s ss (Cons (Group t h ps) us) r

      held : Stands c at (at + length h) h × Stands c (at + length h) (at + length (h ++ bytes_of_all ps)) (bytes_of_all ps)
      held = let y = stands_split c at (at + length (h ++ bytes_of_all ps)) (h ++ bytes_of_all ps) h (bytes_of_all ps) f.holds refl in (y.first, y.second)

      by_case : IsHead k t h (shapes_of ps) × AllFit k ps → Counted (Cons (Group t h ps) us) w
      by_case (inr p, i) = let z : t.array ≡ true = array_is t s true f.shape a in let y = p.0 in cc
      by_case (inl p, i) =
          let l = length-append h (bytes_of_all ps) in
          let m : at + length h ≤ end = (let o = f.row.order in omega arith) in
          let x = int_there c at end p.1 h w held.0 p.2 m r.within e in
          let n : shapes_of ps ≡ replicate w.value (item_of s) = p.3 ∙ (ap (λ z. replicate z (item_of t)) x.0 ∙ ap (λ z. replicate w.value (item_of z)) f.shape) in
          let q : at + length (h ++ bytes_of_all ps) ≡ w.end + length (bytes_of_all ps) = omega (arith, x.1) in
          let b : slice_range c w.end end ≡ bytes_of_all (behind ps us) = (
          range_split c w.end (at + length (h ++ bytes_of_all ps)) end (omega arith) f.row.order
          ∙ (ap (λ z. slice_range c z (at + length (h ++ bytes_of_all ps)) ++ slice_range c (at + length (h ++ bytes_of_all ps)) end) (sym x.1)
          ∙ (ap (λ z. z ++ slice_range c (at + length (h ++ bytes_of_all ps)) end) held.1.bytes
          ∙ (ap (λ z. bytes_of_all ps ++ z) f.row.bytes ∙ sym (bytes_behind ps us))))) in
          let leaf : ℕ → ℕ → List ℕ → LeafAt = λ n class b. record { kind = leaf_kinds.Count n; class = class; holder = g; at = at; spelled = b } in
          let field : ℕ → Option Holder = λ n. Some (record { class = t.class; field = n }) in
          let items : ℕ → List LeafAt = λ z. leaves_from (λ n. g) z ps in
          let after : ℕ → List LeafAt = λ z. leaves_held hs z us in
          let worth : worth_within 8 h ≡ w.value = sym p.2.worth ∙ x.0 in
          let spelled : h ≡ slice_range c at w.end = sym held.0.bytes ∙ ap (slice_range c at) x.1 in
          record {
            items = ps;
            others = us;
            shapes = n;
            fit = i;
            row = record {
              order = omega arith;
              within = r.within;
              bytes = b;
              fit = fit_behind k ps us i r.fit.1;
              of_shapes = shapes_behind ps us
                  ∙ (ap (λ z. z ++ shapes_of us) n ∙ ap (λ z. replicate w.value (item_of s) ++ z) f.row.of_shapes);
            };
            rest = subst (λ z. AreValues k c z end ss us) q f.row;
            leaves =
                ap (λ z. ((if z then leaf (worth_within 8 h) t.class h ∷ [] else []) ++ leaves_from (if z then (λ n. g) else field) (at + length h) ps) ++ after (at + length (h ++ bytes_of_all ps)))
                p.0
                ∙ (ap (λ z. (leaf z t.class h ∷ items (at + length h)) ++ after (at + length (h ++ bytes_of_all ps))) worth
                ∙ (ap (λ (z : Shape). (leaf w.value z.class h ∷ items (at + length h)) ++ after (at + length (h ++ bytes_of_all ps))) f.shape
                ∙ (ap (λ z. (leaf w.value s.class z ∷ items (at + length h)) ++ after (at + length (h ++ bytes_of_all ps))) spelled
                ∙ (ap (λ z. leaf w.value s.class (slice_range c at w.end) ∷ (items z ++ after (at + length (h ++ bytes_of_all ps)))) x.1
                ∙ ap (λ z. leaf w.value s.class (slice_range c at w.end) ∷ (items w.end ++ after z)) q))));
          }

  pub array_taken : (vs : Values) (w : Var) → AreValues k c at end (s ∷ ss) vs → s.array ≡ true → int_at c at end ≡ Some w
      → Taken k c at end w.end (leaf_kinds.Count w.value) s.class (replicate w.value (item_of s) ++ ss) vs g hs (replicate w.value g ++ hs)
  array_taken vs w r a e =
      let x = counted vs w r a e in
      record {
        others = behind x.items x.others;
        row = x.row;
        leaves = x.leaves
            ∙ ap (λ z. record { kind = leaf_kinds.Count w.value; class = s.class; holder = g; at = at; spelled = slice_range c at w.end } ∷ z)
            (sym (leaves_behind (λ n. g) (replicate w.value g) hs w.end x.items x.others (same_holders g w.value (item_of s) x.items x.shapes)));
      }

  pub array_there : (vs : Values) → AreValues k c at end (s ∷ ss) vs → s.array ≡ true → int_at c at end ≡ None → ⊥
  unfolding first_of
  array_there Nil r a e = let h = r.of_shapes in cc
  array_there (Cons (Single t kind b key) us) r a e = by_case f.fits
    where
      f : First k c at end s ss (Cons (Single t kind b key) us)
      f = first_of k c at end s ss (Cons (Single t kind b key) us) r

      by_case : IsSingle k t kind b key → ⊥
      by_case (inl p) = let z : t.array ≡ true = array_is t s true f.shape a in let y = p.0 in cc
      by_case (inr p) = let z : t.array ≡ true = array_is t s true f.shape a in let y = p.0 in cc
  array_there (Cons (Group t h ps) us) r a e = by_case f.fits.0
    where
      f : First k c at end s ss (Cons (Group t h ps) us)
      f = first_of k c at end s ss (Cons (Group t h ps) us) r

      by_case : IsHead k t h (shapes_of ps) → ⊥
      by_case (inr p) = let z : t.array ≡ true = array_is t s true f.shape a in let y = p.0 in cc
      by_case (inl p) =
          let y = stands_split c at (at + length (h ++ bytes_of_all ps)) (h ++ bytes_of_all ps) h (bytes_of_all ps) f.holds refl in
          let l = length-append h (bytes_of_all ps) in
          let m : at + length h ≤ end = (let o = f.row.order in omega arith) in
          int_not_none c at end p.1 h y.first p.2 m r.within e

  -- Items without bytes have no leaves either.
  hollow_all : (d : Class) → s.constant ≡ false → find_class k s.class ≡ Some d → IsHollow d → (n : ℕ) (ps : Values) → shapes_of ps ≡ replicate n (item_of s) → AllFit k ps → bytes_of_all ps ≡ []
  hollow_all d o q h n Nil e f = refl
  hollow_all d o q h zero (Cons v ps) e f = cc
  hollow_all d o q h (suc n) (Cons v ps) e f =
      let p : shape_of v ≡ item_of s = (let x : shape_of v ∷ shapes_of ps ≡ item_of s ∷ replicate n (item_of s) = e in cc) in
      let r : shapes_of ps ≡ replicate n (item_of s) = (let x : shape_of v ∷ shapes_of ps ≡ item_of s ∷ replicate n (item_of s) = e in cc) in
      let b : bytes_of v ≡ [] = hollow_bytes k v d (ap (λ (z : Shape). z.array) p) (ap (λ (z : Shape). z.constant) p ∙ o) (ap (λ (z : Shape). find_class k z.class) p ∙ q) h f.0 in
      ap (λ z. z ++ bytes_of_all ps) b ∙ hollow_all d o q h n ps r f.1

  no_bytes : (place n : ℕ) (ps : Values) → IsClassIndexIfKnown k s place → s.constant ≡ false → place < length k → IfSome (slice_get k place) IsHollow → shapes_of ps ≡ replicate n (item_of s)
      → AllFit k ps → bytes_of_all ps ≡ []
  no_bytes place n Nil p o l h e f = refl
  no_bytes place zero (Cons v ps) p o l h e f = cc
  no_bytes place (suc n) (Cons v ps) p o l h e f =
      let q : shape_of v ≡ item_of s = (let x : shape_of v ∷ shapes_of ps ≡ item_of s ∷ replicate n (item_of s) = e in cc) in
      let known : IsSome (find_class k s.class) =
      subst (λ (z : Shape). IsSome (find_class k z.class)) q (inline_known k v (ap (λ (z : Shape). z.array) q) (ap (λ (z : Shape). z.constant) q ∙ o) f.0) in
      let d = get_within k place l in
      hollow_all d.0 o (placed_class k s.class place (p o known) ∙ d.1) (subst (λ z. IfSome z IsHollow) d.1 h) (suc n) (Cons v ps) e f

  pub hollow_taken : (vs : Values) (w : Var) (place : ℕ) → AreValues k c at end (s ∷ ss) vs → s.array ≡ true → int_at c at end ≡ Some w → IsClassIndexIfKnown k s place → s.constant ≡ false
      → place < length k → IfSome (slice_get k place) IsHollow
      → Taken k c at end w.end (leaf_kinds.Count w.value) s.class ss vs g hs hs
  hollow_taken vs w place r a e p o l h =
      let x = counted vs w r a e in
      let b : bytes_of_all x.items ≡ [] = no_bytes place w.value x.items p o l h x.shapes x.fit in
      let z : w.end + length (bytes_of_all x.items) ≡ w.end = (let y : length (bytes_of_all x.items) ≡ 0 = ap length b in omega arith) in
      let n : leaves_from (λ n. g) w.end x.items ≡ [] = (
      let y : length (leaves_from (λ n. g) w.end x.items) ≤ length (bytes_of_all x.items) = all_within k (λ n. g) w.end x.items x.fit in
      let u : length (bytes_of_all x.items) ≡ 0 = ap length b in
      none_of (leaves_from (λ n. g) w.end x.items) (omega arith)) in
      let leaf : LeafAt = record { kind = leaf_kinds.Count w.value; class = s.class; holder = g; at = at; spelled = slice_range c at w.end } in
      record {
        others = x.others;
        row = subst (λ y. AreValues k c y end ss x.others) z x.rest;
        leaves = x.leaves ∙ (ap (λ y. leaf ∷ (y ++ leaves_held hs (w.end + length (bytes_of_all x.items)) x.others)) n ∙ ap (λ y. leaf ∷ leaves_held hs y x.others) z);
      }
    where
      none_of : (xs : List LeafAt) → length xs ≤ 0 → xs ≡ []
      none_of [] h = refl
      none_of (x ∷ xs) h = absurd (omega arith)

-- An inline value of a row is of the class at its place.
pub record Placed (k : Classes) (s : Shape) (place : ℕ) : Type 0 where
  pub class : Class
  pub found : find_class k s.class ≡ Some class
  pub there : slice_get k place ≡ Some class
  pub within : place < length k

pub inline_placed : (k : Classes) (c : List ℕ) (at end : ℕ) (s : Shape) (ss : List Shape) (vs : Values) (place : ℕ) → AreValues k c at end (s ∷ ss) vs → s.array ≡ false → s.constant ≡ false
    → IsClassIndexIfKnown k s place → Placed k s place
inline_placed k c at end s ss vs place r a o p =
    let f = first_of k c at end s ss vs r in
    let known : IsSome (find_class k s.class) = subst (λ (z : Shape). IsSome (find_class k z.class)) f.shape
    (inline_known k f.value (array_is (shape_of f.value) s false f.shape a) (constant_is (shape_of f.value) s false f.shape o) f.fits) in
    let q = p o known in
    let d = placed_some k s.class place q in
    record { class = d.0; found = placed_class k s.class place q ∙ d.1; there = d.1; within = placed_within k s.class place q }

pub base_found : (k : Classes) (c : List ℕ) (at end : ℕ) (s : Shape) (ss : List Shape) (g : Option Holder) (hs : List (Option Holder)) (vs : Values) (d : Class) (kind : Kind)
    → AreValues k c at end (s ∷ ss) vs → s.array ≡ false → s.constant ≡ false → find_class k s.class ≡ Some d → kind ≡ kind_of d.name → kind ≢ kinds.Composite
    → (to : ℕ) × (end_or_flaw (run (base_format kind) c end at) ≡ Ok to) × Taken k c at end to (leaf_kinds.Base kind) s.class ss vs g hs hs
base_found k c at end s ss g hs vs d kind r a o q e m =
    subst (λ z. (to : ℕ) × (end_or_flaw (run (base_format z) c end at) ≡ Ok to) × Taken k c at end to (leaf_kinds.Base z) s.class ss vs g hs hs) (sym e)
    (base_ends k c at end s ss g hs vs d r a o q (λ z. m (e ∙ z)))

-- An array whose items are walked over, or have no bytes.
pub array_found : (k : Classes) (c : List ℕ) (at end : ℕ) (s : Shape) (ss : List Shape) (g : Option Holder) (hs : List (Option Holder)) (vs : Values) (w : Var) (place remaining : ℕ)
    → AreValues k c at end (s ∷ ss) vs → s.array ≡ true → int_at c at end ≡ Some w → IsClassIndexIfKnown k s place
    → (remaining ≡ w.value) ⊎ ((remaining ≡ 0) × (s.constant ≡ false) × (place < length k) × IfSome (slice_get k place) IsHollow)
    → Taken k c at end w.end (leaf_kinds.Count w.value) s.class (replicate remaining (item_of s) ++ ss) vs g hs (replicate remaining g ++ hs)
array_found k c at end s ss g hs vs w place remaining r a e p (inl q) =
    subst (λ z. Taken k c at end w.end (leaf_kinds.Count w.value) s.class (replicate z (item_of s) ++ ss) vs g hs (replicate z g ++ hs)) (sym q) (array_taken k c at end s ss g hs vs w r a e)
array_found k c at end s ss g hs vs w place remaining r a e p (inr q) = subst
    (λ z. Taken k c at end w.end (leaf_kinds.Count w.value) s.class (replicate z (item_of s) ++ ss) vs g hs (replicate z g ++ hs)) (sym q.0)
    (hollow_taken k c at end s ss g hs vs w place r a e p q.1 q.2 q.3)

-- If no shapes are left, no leaves are.
pub no_leaves : (k : Classes) (c : List ℕ) (at end : ℕ) (hs : List (Option Holder)) (vs : Values) → AreValues k c at end [] vs → leaves_held hs at vs ≡ []
no_leaves k c at end hs Nil r = refl
no_leaves k c at end hs (Cons v vs) r = let h = r.of_shapes in cc

-- Computing gives the values that are left.
rows_exact : (k : Classes) (ss : List Shape) (vs : Values) → Sound k → AllFit k vs → shapes_of vs ≡ ss → Exactly (for_each ss (value_format k)) (bytes_of_all vs) (list_of vs)
rows_exact k [] Nil s f e = (refl, refl)
rows_exact k [] (Cons v vs) s f e = cc
rows_exact k (t ∷ ss) Nil s f e = cc
rows_exact k (t ∷ ss) (Cons v vs) s f e =
    let q : shape_of v ≡ t = (let x : shape_of v ∷ shapes_of vs ≡ t ∷ ss = e in cc) in
    let r : shapes_of vs ≡ ss = (let x : shape_of v ∷ shapes_of vs ≡ t ∷ ss = e in cc) in
    bind_exact (value_format k t) (λ a. for_each ss (value_format k) >>= λ rest. Done (a ∷ rest)) (bytes_of v) (bytes_of_all vs) (bytes_of v ++ bytes_of_all vs) v (v ∷ list_of vs) refl
    (subst (λ z. Exactly (value_format k z) (bytes_of v) v) q (fits_good k v s f.0))
    (bind_exact (for_each ss (value_format k)) (λ rest. Done (v ∷ rest)) (bytes_of_all vs) [] (bytes_of_all vs) (list_of vs) (v ∷ list_of vs) (sym (append-nil (bytes_of_all vs)))
    (rows_exact k ss vs s f.1 r) (refl, refl))

pub remaining_is : (k : Classes) (c : List ℕ) (end : ℕ) (cursor : Cursor) (vs : Values) → Sound k → AreRemaining k c end cursor vs → remaining_values k c end cursor ≡ vs
unfolding remaining_values
remaining_is k c end cursor vs s r =
    ap got_values (exact_run c end r.within (for_each (remaining_shapes k cursor.stack) (value_format k)) cursor.at end (bytes_of_all vs) (list_of vs)
    (rows_exact k (remaining_shapes k cursor.stack) vs s r.fit r.of_shapes) (record { order = r.order; within = r.within; bytes = r.bytes }) (omega arith))
    ∙ values_again vs

-- A walk that goes on.
pub walk_on : (k : Classes) (c : List ℕ) (end : ℕ) (cursor : Cursor) (ws : Values) → Sound k → AreFrames k 0 cursor.stack → AreRemaining k c end cursor ws → IsWalk k c end cursor
walk_on k c end cursor ws s f l = record { sound = s; frames = f; remaining = subst (AreRemaining k c end cursor) (sym (remaining_is k c end cursor ws s l)) l }

pub leaves_are_remaining : (k : Classes) (c : List ℕ) (end : ℕ) (cursor : Cursor) (ws : Values) → Sound k → AreRemaining k c end cursor ws
    → remaining_leaves k c end cursor ≡ leaves_held (remaining_holders k cursor.stack) cursor.at ws
leaves_are_remaining k c end cursor ws s l = ap (leaves_held (remaining_holders k cursor.stack) cursor.at) (remaining_is k c end cursor ws s l)

-- A walk that begins at a node.
abbrev pub whole : Shape → ℕ → Frame
whole s place = Items (record { shape = s; place = place; levels = 33; holder = None }) 1

pub walk_begins : (k : Classes) (c : List ℕ) (n : NodeAt) (v : Value) (place : ℕ) (cursor : Cursor) → Sound k → IsNode k c n v → IsClassIndexIfKnown k n.shape place → cursor.at ≡ n.at
    → cursor.stack ≡ whole n.shape place ∷ []
    → AreFrames k 0 cursor.stack × AreRemaining k c n.end cursor (Cons v Nil)
walk_begins k c n v place cursor s i p a e =
    let r : AreValues k c n.at n.end (n.shape ∷ []) (Cons v Nil) =
    record { order = i.order; within = i.within; bytes = i.bytes ∙ sym (append-nil (bytes_of v)); fit = (i.fits, tt); of_shapes = ap (λ z. z ∷ []) (sym i.shape) } in (
      subst (λ (z : List Frame). AreFrames k 0 z) (sym e) ((either_height n.shape.array 67 (omega arith), p, λ o d q m. sound_inline k n.shape.class d s q), tt),
      subst (λ (z : List Frame). AreValues k c cursor.at n.end (remaining_shapes k z) (Cons v Nil)) (sym e) (subst (λ z. AreValues k c z n.end (n.shape ∷ []) (Cons v Nil)) (sym a) r),
    )

pub first_leaves : (k : Classes) (c : List ℕ) (n : NodeAt) (v : Value) (place : ℕ) (cursor : Cursor) → Sound k → IsNode k c n v → cursor.at ≡ n.at → cursor.stack ≡ whole n.shape place ∷ []
    → leaves_held (remaining_holders k cursor.stack) cursor.at (Cons v Nil) ≡ leaves k c n
first_leaves k c n v place cursor s i a e =
    ap (λ (z : List Frame). leaves_held (remaining_holders k z) cursor.at (Cons v Nil)) e
    ∙ (ap (λ z. leaves_held (None ∷ []) z (Cons v Nil)) a
    ∙ (append-nil (leaves_at None n.at v) ∙ sym (ap (λ o. option_map_or (leaves_at None n.at) o []) (value_is k c n v s i))))
