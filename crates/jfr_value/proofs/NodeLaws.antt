-- Nodes and their values.
use Rattle.std.specs.Prelude.{◌≡◌, ℕ, zero, suc, ◌+◌, ◌≤◌, List, [], ◌∷◌, ◌++◌, length, slice_range, Option, Some, None, Ok, Bool, true, false, if◌then◌else◌, slice_get}
use Rattle.std.specs.Option.{option_map_or, option_and_then}
use Rattle.std.proofs.Common.{ap, arith, refl, sym, subst}
use Rattle.jfr_base.specs.Formats.{Reads, Exactly, run}
use Rattle.jfr_base.proofs.RunLaws.{Stands, stands_split, exact_run}
use Rattle.jfr_base.proofs.FreeLaws.{PlaceFree, reads_exact, bind_free, with_free, times_free, each_free, if_free}
use Rattle.jfr_base.specs.Formats.{Format, Int, Done, times, unchecked, with_bytes}
use Rattle.jfr_layout.specs.Classes.{Class, Classes, find_class, kind_of, item_of, Sound}
use Rattle.jfr_layout.specs.declared.kind.Kind.{Kind}
use Rattle.jfr_layout.specs.declared.kind.Kind.TheVariants as kinds
use Rattle.jfr_layout.specs.declared.shape.Shape.{Shape}
use Rattle.jfr_text.specs.Strings.{string_format}
use Rattle.jfr_value.specs.declared.leaf.LeafKind.TheVariants as leaf_kinds
use Rattle.jfr_value.specs.declared.node.Step.{Step}
use Rattle.jfr_value.specs.declared.node.Step.TheVariants as steps
use Rattle.jfr_value.specs.Values.{Value, Values, Single, Group, Nil, Cons, values_of, list_of, shape_of, parts_of, bytes_of, bytes_of_all, own_target, key_of, Fits, AllFit}
use Rattle.jfr_value.specs.Reading.{base_format, item_format, array_format, shape_format, fields_format, kind_format, inline_format, class_format, value_format}
use Rattle.jfr_value.specs.Nodes.{NodeAt, IsNode, got_value, value_of, laid, laid_in, children, picked, child, target, Both}
use Rattle.jfr_value.proofs.TreeLaws.{value_whole}
use Rattle.jfr_value.proofs.FitLaws.{good_fits}
use Rattle.jfr_value.proofs.DepthLaws.{fits_good}
use Rattle.jfr_value.proofs.StringLaws.{string_free}

-- The value's format asks for no place.
base_free : (kd : Kind) → PlaceFree (base_format kd)
base_free kinds.Boolean = λ s. tt
base_free kinds.Byte = λ s. tt
base_free kinds.Char = λ v s. tt
base_free kinds.Short = λ v s. tt
base_free kinds.Int = λ v s. tt
base_free kinds.Long = λ v s. tt
base_free kinds.Float = λ s. tt
base_free kinds.Double = λ s. tt
base_free kinds.Text = bind_free (string_format true) (λ s. Done (key_of s)) (string_free true) (λ s. tt)
base_free kinds.Composite = tt

single_free : (kd : Kind) (s : Shape) → PlaceFree (with_bytes [] (base_format kd) (λ key b. Done (Single s (leaf_kinds.Base kd) b key)))
single_free kd s = with_free [] (base_format kd) (λ key b. Done (Single s (leaf_kinds.Base kd) b key)) (base_free kd) (λ a b. tt)

pub item_free : (f : Shape → Format Value) → ((s : Shape) → PlaceFree (f s)) → (s : Shape) → PlaceFree (item_format f s)
item_free f p s = if_free s.constant (Int unchecked (λ key b. Done (Single s (leaf_kinds.Key key) b (Some key)))) (f s) (λ v b. tt) (p s)

pub shape_free : (f : Shape → Format Value) → ((s : Shape) → PlaceFree (f s)) → (s : Shape) → PlaceFree (shape_format f s)
shape_free f p s =
    if_free s.array (array_format (item_format f (item_of s)) s) (item_format f s)
    (λ n b. bind_free (times n (item_format f (item_of s))) (λ vs. Done (Group s b (values_of vs))) (times_free n (item_format f (item_of s)) (item_free f p (item_of s))) (λ vs. tt)) (item_free f p s)

kind_free : (kd : Kind) (s : Shape) (x : Format (List Value)) → PlaceFree x → PlaceFree (kind_format kd s x)
kind_free kinds.Composite s x p = bind_free x (λ vs. Done (Group s [] (values_of vs))) p (λ vs. tt)
kind_free kinds.Boolean s x p = single_free kinds.Boolean s
kind_free kinds.Byte s x p = single_free kinds.Byte s
kind_free kinds.Char s x p = single_free kinds.Char s
kind_free kinds.Short s x p = single_free kinds.Short s
kind_free kinds.Int s x p = single_free kinds.Int s
kind_free kinds.Long s x p = single_free kinds.Long s
kind_free kinds.Float s x p = single_free kinds.Float s
kind_free kinds.Double s x p = single_free kinds.Double s
kind_free kinds.Text s x p = single_free kinds.Text s

pub class_free : (n : ℕ) (k : Classes) (s : Shape) → PlaceFree (class_format n k s)
unfolding class_format
class_free zero k s = tt
class_free (suc n) k s = by_class (find_class k s.class) (class_free n k)
  where
    by_class : (o : Option Class) → ((s : Shape) → PlaceFree (class_format n k s)) → PlaceFree (inline_format (class_format n k) s o)
    by_class None p = tt
    by_class (Some c) p = kind_free (kind_of c.name) s (fields_format (class_format n k) c.fields)
        (each_free c.fields (λ f. shape_format (class_format n k) f.shape) (λ f. shape_free (class_format n k) p f.shape))

pub value_free : (k : Classes) (s : Shape) → PlaceFree (value_format k s)
unfolding value_format
value_free k s = shape_free (class_format 34 k) (class_free 34 k) s

-- What is read as a value is a node.
pub read_node : (k : Classes) (s : Shape) (c : List ℕ) (end at to : ℕ) (v : Value) → end ≤ length c → at ≤ end → Reads (value_format k s) c end at v to
    → IsNode k c (record { shape = s; at = at; end = to }) v × (to ≤ end)
read_node k s c end at to v h i r =
    let e = reads_exact (value_format k s) c end at v to h i (value_free k s) r in
    let w = value_whole k s (slice_range c at to) v e.exact in
    let o : to ≤ end = e.within in
    (record { shape = sym w.0; order = e.order; within = omega arith; bytes = sym w.1; fits = good_fits k v w.2 }, o)

pub node_stands : (k : Classes) (c : List ℕ) (n : NodeAt) (v : Value) → IsNode k c n v → Stands c n.at n.end (bytes_of v)
node_stands k c n v i = record { order = i.order; within = i.within; bytes = i.bytes }

pub stands_node : (k : Classes) (c : List ℕ) (at end : ℕ) (v : Value) → Stands c at end (bytes_of v) → Fits k v → IsNode k c (record { shape = shape_of v; at = at; end = end }) v
stands_node k c at end v s f = record { shape = refl; order = s.order; within = s.within; bytes = s.bytes; fits = f }

-- A node is read, whatever comes after it.
pub node_read : (k : Classes) (c : List ℕ) (n : NodeAt) (v : Value) (end : ℕ) → Sound k → IsNode k c n v → n.end ≤ end → end ≤ length c
    → run (value_format k n.shape) c end n.at ≡ Ok (record { value = v; place = n.end })
node_read k c n v end s i l h =
    let e : Exactly (value_format k n.shape) (bytes_of v) v = subst (λ z. Exactly (value_format k z) (bytes_of v) v) (sym i.shape) (fits_good k v s i.fits) in
    exact_run c end h (value_format k n.shape) n.at n.end (bytes_of v) v e (node_stands k c n v i) l

pub value_is : (k : Classes) (c : List ℕ) (n : NodeAt) (v : Value) → Sound k → IsNode k c n v → value_of k c n ≡ Some v
unfolding value_of
value_is k c n v s i = ap got_value (node_read k c n v n.end s i (omega arith) i.within)

-- The members that lie one after another.
laid_is : (k : Classes) (c : List ℕ) (at to : ℕ) (vs : Values) → Stands c at to (bytes_of_all vs) → AllFit k vs → (i : ℕ)
    → Both (IsNode k c) (slice_get (laid at (list_of vs)) i) (slice_get (list_of vs) i)
laid_is k c at to Nil s g i = tt
laid_is k c at to (Cons v vs) s g i =
    let h = stands_split c at to (bytes_of v ++ bytes_of_all vs) (bytes_of v) (bytes_of_all vs) s refl in
    by_place i (stands_node k c at (at + length (bytes_of v)) v h.first g.0) (laid_is k c (at + length (bytes_of v)) to vs h.second g.1)
  where
    by_place : (i : ℕ) → IsNode k c (record { shape = shape_of v; at = at; end = at + length (bytes_of v) }) v
        → ((i : ℕ) → Both (IsNode k c) (slice_get (laid (at + length (bytes_of v)) (list_of vs)) i) (slice_get (list_of vs) i))
        → Both (IsNode k c) (slice_get (laid at (v ∷ list_of vs)) i) (slice_get (v ∷ list_of vs) i)
    by_place zero n m = n
    by_place (suc i) n m = m i

pub inner_is : (k : Classes) (c : List ℕ) (at to : ℕ) (v : Value) → Stands c at to (bytes_of v) → Fits k v → (i : ℕ) → Both (IsNode k c) (slice_get (laid_in at v) i) (slice_get (parts_of v) i)
inner_is k c at to (Single s kind b key) x g i = tt
inner_is k c at to (Group s h vs) x g i =
    let y = stands_split c at to (h ++ bytes_of_all vs) h (bytes_of_all vs) x refl in
    laid_is k c (at + length h) to vs y.second g.1 i

picked_both : {A B : Type 0} (R : A → B → Type 0) (s : Shape) (xs : List A) (ys : List B) → ((i : ℕ) → Both R (slice_get xs i) (slice_get ys i)) → (step : Step)
    → Both R (picked s xs step) (picked s ys step)
picked_both R s xs ys f (steps.Field i) = by_mark s.array (f i)
  where
    by_mark : (t : Bool) → Both R (slice_get xs i) (slice_get ys i) → Both R (if t then None else slice_get xs i) (if t then None else slice_get ys i)
    by_mark true r = tt
    by_mark false r = r
picked_both R s xs ys f (steps.Item i) = by_mark s.array (f i)
  where
    by_mark : (t : Bool) → Both R (slice_get xs i) (slice_get ys i) → Both R (if t then slice_get xs i else None) (if t then slice_get ys i else None)
    by_mark true r = r
    by_mark false r = tt
picked_both R s xs ys f steps.Follow = tt

-- The part of a value that a step names.
abbrev pub part : Value → Step → Option Value
part v step = picked (shape_of v) (parts_of v) step

pub children_are : (k : Classes) (c : List ℕ) (n : NodeAt) (v : Value) → Sound k → IsNode k c n v → children k c n ≡ laid_in n.at v
children_are k c n v s i = ap (λ o. option_map_or (laid_in n.at) o []) (value_is k c n v s i)

-- A step within a value.
pub child_is : (k : Classes) (c : List ℕ) (n : NodeAt) (v : Value) → Sound k → IsNode k c n v → (step : Step) → Both (IsNode k c) (child k c n step) (part v step)
child_is k c n v s i step =
    let b = picked_both (IsNode k c) (shape_of v) (laid_in n.at v) (parts_of v) (inner_is k c n.at n.end v (node_stands k c n v i) i.fits) step in
    subst (λ z. Both (IsNode k c) (picked n.shape z step) (part v step)) (sym (children_are k c n v s i))
    (subst (λ z. Both (IsNode k c) (picked z (laid_in n.at v) step) (part v step)) (sym i.shape) b)

pub target_is : (k : Classes) (c : List ℕ) (n : NodeAt) (v : Value) → Sound k → IsNode k c n v → target k c n ≡ own_target v
target_is k c n v s i = ap (option_and_then own_target) (value_is k c n v s i)
