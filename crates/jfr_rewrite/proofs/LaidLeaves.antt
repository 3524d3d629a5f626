-- The leaves of a value lie one after another in the chunk.
use Rattle.std.specs.Prelude.{◌≡◌, ℕ, zero, suc, ◌+◌, ◌≤◌, Bool, true, false, List, [], ◌∷◌, ◌++◌, length, Option, None, slice_range, ⊤, if◌then◌else◌}
use Rattle.std.specs.List.{AllByRecursion}
use Rattle.std.proofs.Common.{ap, append-nil, arith, refl, sym, ◌∙◌, subst, inl, inr}
use Rattle.jfr_base.specs.Integer.{Spells, worth_within}
use Rattle.jfr_base.proofs.RunLaws.{Halves, Stands, stands_split}
use Rattle.jfr_layout.specs.Classes.{Classes, Sound, kind_of}
use Rattle.jfr_layout.specs.declared.kind.Kind.TheVariants as kinds
use Rattle.jfr_layout.specs.declared.shape.Shape.{Shape}
use Rattle.jfr_value.specs.declared.leaf.Holder.{Holder}
use Rattle.jfr_value.specs.declared.leaf.LeafKind.{LeafKind}
use Rattle.jfr_value.specs.declared.leaf.LeafKind.TheVariants as leaf_kinds
use Rattle.jfr_value.specs.Leaves.{KeyIsSpelled, LeafAt, leaf_key, leaves, leaves_at, leaves_from, part_holder}
use Rattle.jfr_value.specs.Nodes.{IsNode, NodeAt}
use Rattle.jfr_value.specs.Values.{AllFit, Fits, IsBase, IsHead, IsSingle, Group, Single, Value, Values, Nil, Cons, bytes_of, bytes_of_all, shapes_of}
use Rattle.jfr_value.proofs.LeafKeys.{keys_spelled}
use Rattle.jfr_value.proofs.LeafLaws.{base_key}
use Rattle.jfr_value.proofs.NodeLaws.{node_stands}
use Rattle.jfr_value.proofs.TargetLaws.{leaves_are}
use Rattle.jfr_chunk.specs.Parts.{Parts}
use Rattle.jfr_rewrite.specs.Changed.{is_key, leaf_shape}
use Rattle.jfr_rewrite.specs.Copying.{LiesIn}

-- A leaf as a value without parts.
abbrev pub leaf_value : LeafAt → Value
leaf_value l = Single (leaf_shape l) l.kind l.spelled (leaf_key l.kind l.spelled)

-- A leaf that isn't a count fits as such a value.
abbrev pub LeafFits : Classes → LeafAt → LeafKind → Type 0
LeafFits k l (leaf_kinds.Count n) = ⊤
LeafFits k l (leaf_kinds.Key key) = Fits k (leaf_value l)
LeafFits k l (leaf_kinds.Base kind) = Fits k (leaf_value l)

-- These leaves lie one after another, from one offset up to another.
abbrev pub AreLaid : Classes → List ℕ → ℕ → ℕ → List LeafAt → Type 0
AreLaid k c at end [] = at ≡ end
AreLaid k c at end (l ∷ ls) = (l.at ≡ at) × (slice_range c at (at + length l.spelled) ≡ l.spelled) × LeafFits k l l.kind × AreLaid k c (at + length l.spelled) end ls

pub laid_order : (k : Classes) (c : List ℕ) (at end : ℕ) (ls : List LeafAt) → AreLaid k c at end ls → at ≤ end
laid_order k c at end [] h = omega (arith, h)
laid_order k c at end (l ∷ ls) h = let o = laid_order k c (at + length l.spelled) end ls h.3 in omega arith

laid_append : (k : Classes) (c : List ℕ) (at middle end : ℕ) (ls ms : List LeafAt) → AreLaid k c at middle ls → AreLaid k c middle end ms → AreLaid k c at end (ls ++ ms)
laid_append k c at middle end [] ms h i = subst (λ z. AreLaid k c z end ms) (sym h) i
laid_append k c at middle end (l ∷ ls) ms h i = (h.0, h.1, h.2, laid_append k c (at + length l.spelled) middle end ls ms h.3 i)

-- The key of a value without parts is that of its leaf.
pub single_key : (k : Classes) (s : Shape) (kind : LeafKind) (b : List ℕ) (key : Option ℕ) → IsSingle k s kind b key → leaf_key kind b ≡ key
single_key k s kind b key (inl i) = ap (λ z. leaf_key z b) i.4 ∙ sym i.5
single_key k s kind b key (inr i) = ap (λ z. leaf_key z b) i.4 ∙ base_key (kind_of i.2.name) b key i.5

single_fits : (k : Classes) (holder : Option Holder) (at : ℕ) (s : Shape) (kind : LeafKind) (b : List ℕ) (key : Option ℕ) → IsSingle k s kind b key
    → LeafFits k (record { kind = kind; class = s.class; holder = holder; at = at; spelled = b }) kind
single_fits k holder at s (leaf_kinds.Count n) b key i = tt
single_fits k holder at s (leaf_kinds.Key n) b key (inl i) = inl (refl, refl, i.2, i.3, i.4, single_key k s (leaf_kinds.Key n) b key (inl i) ∙ i.5)
single_fits k holder at s (leaf_kinds.Key n) b key (inr i) = let e = i.4 in cc
single_fits k holder at s (leaf_kinds.Base kind) b key (inl i) = let e = i.4 in cc
single_fits k holder at s (leaf_kinds.Base kind) b key (inr i) =
    inr (refl, refl, i.2, i.3, i.4, subst (IsBase (kind_of i.2.name) b) (sym (single_key k s (leaf_kinds.Base kind) b key (inr i))) i.5)

-- The leaf of an array's count, or none.
abbrev pub marked_leaves : Bool → Option Holder → ℕ → Shape → List ℕ → List LeafAt
marked_leaves mark holder at s h = if mark then record { kind = leaf_kinds.Count (worth_within 8 h); class = s.class; holder = holder; at = at; spelled = h } ∷ [] else []

head_laid : (k : Classes) (c : List ℕ) (holder : Option Holder) (at : ℕ) (s : Shape) (h : List ℕ) (ss : List Shape) → IsHead k s h ss → slice_range c at (at + length h) ≡ h
    → AreLaid k c at (at + length h) (marked_leaves s.array holder at s h)
head_laid k c holder at s h ss (inl i) e = by_mark s.array i.0
  where
    by_mark : (mark : Bool) → mark ≡ true → AreLaid k c at (at + length h) (marked_leaves mark holder at s h)
    by_mark true t = (refl, e, tt, refl)
    by_mark false t = cc
head_laid k c holder at s h ss (inr i) e = by_mark s.array i.0
  where
    by_mark : (mark : Bool) → mark ≡ false → AreLaid k c at (at + length h) (marked_leaves mark holder at s h)
    by_mark true t = cc
    by_mark false t = let n : length h ≡ 0 = ap length i.5 in omega arith

mutual
  pub value_laid : (k : Classes) (c : List ℕ) (holder : Option Holder) (at end : ℕ) (v : Value) → Stands c at end (bytes_of v) → Fits k v → AreLaid k c at end (leaves_at holder at v)
  value_laid k c holder at end (Single s kind b key) st f =
      let halves : Halves c at end b [] = stands_split c at end b b [] st (sym (append-nil b)) in
      (refl, halves.first.bytes, single_fits k holder at s kind b key f, (let e = halves.place in omega (arith, e)))
  value_laid k c holder at end (Group s h vs) st f =
      let halves : Halves c at end h (bytes_of_all vs) = stands_split c at end (h ++ bytes_of_all vs) h (bytes_of_all vs) st refl in
      laid_append k c at (at + length h) end (marked_leaves s.array holder at s h) (leaves_from (part_holder s holder) (at + length h) vs)
      (head_laid k c holder at s h (shapes_of vs) f.0 halves.first.bytes)
      (values_laid k c (part_holder s holder) (at + length h) end vs halves.second f.1)

  pub values_laid : (k : Classes) (c : List ℕ) (holders : ℕ → Option Holder) (at end : ℕ) (vs : Values) → Stands c at end (bytes_of_all vs) → AllFit k vs
      → AreLaid k c at end (leaves_from holders at vs)
  values_laid k c holders at end Nil st f =
      let halves : Halves c at end [] [] = stands_split c at end [] [] [] st refl in
      let e = halves.place in
      omega (arith, e)
  values_laid k c holders at end (Cons v vs) st f =
      let halves : Halves c at end (bytes_of v) (bytes_of_all vs) = stands_split c at end (bytes_of v ++ bytes_of_all vs) (bytes_of v) (bytes_of_all vs) st refl in
      let others : ℕ → Option Holder = λ n. holders (suc n) in
      laid_append k c at (at + length (bytes_of v)) end (leaves_at (holders zero) at v) (leaves_from others (at + length (bytes_of v)) vs)
      (value_laid k c (holders zero) at (at + length (bytes_of v)) v halves.first f.0)
      (values_laid k c others (at + length (bytes_of v)) end vs halves.second f.1)

pub node_laid : (k : Classes) → Sound k → (c : List ℕ) (n : NodeAt) (v : Value) → IsNode k c n v → AreLaid k c n.at n.end (leaves k c n)
node_laid k sound c n v i = subst (AreLaid k c n.at n.end) (sym (leaves_are k sound c n v i)) (value_laid k c None n.at n.end v (node_stands k c n v i) i.fits)

-- What a leaf's kind says of it.
reference_spells : (k : Classes) (l : LeafAt) (kind : LeafKind) (n : ℕ) → l.kind ≡ kind → LeafFits k l kind → kind ≡ leaf_kinds.Key n → Spells l.spelled n
reference_spells k l (leaf_kinds.Count m) n e f q = cc
reference_spells k l (leaf_kinds.Base kind) n e f q = cc
reference_spells k l (leaf_kinds.Key m) n e (inl f) q =
    let x : leaf_kinds.Key n ≡ leaf_kinds.Key f.2 = sym q ∙ (sym e ∙ f.4) in
    let y : f.2 ≡ n = cc in
    subst (Spells l.spelled) y f.3
reference_spells k l (leaf_kinds.Key m) n e (inr f) q = let x = sym e ∙ f.4 in cc

string_fits : (k : Classes) (l : LeafAt) (kind : LeafKind) → l.kind ≡ kind → LeafFits k l kind → kind ≡ leaf_kinds.Base kinds.Text → Fits k (leaf_value l)
string_fits k l (leaf_kinds.Count m) e f q = cc
string_fits k l (leaf_kinds.Base kind) e f q = f
string_fits k l (leaf_kinds.Key m) e f q = cc

leaf_lies : (p : Parts) (at end : ℕ) (l : LeafAt) (ls : List LeafAt) → AreLaid p.classes p.bytes at end (l ∷ ls) → end ≤ length p.bytes → KeyIsSpelled l → LiesIn p l
leaf_lies p at end l ls h w key =
    let o : at + length l.spelled ≤ end = laid_order p.classes p.bytes (at + length l.spelled) end ls h.3 in
    let e : l.at ≡ at = h.0 in
    let value : LeafKind → Value = λ z. Single (record { class = l.class; constant = is_key z; array = false }) z l.spelled (leaf_key z l.spelled) in
    let bytes : slice_range p.bytes l.at (l.at + length l.spelled) ≡ l.spelled = ap (λ z. slice_range p.bytes z (z + length l.spelled)) h.0 ∙ h.1 in
    record {
      within = omega (arith, e, o, w);
      bytes = bytes;
      key = key;
      reference = λ n q. reference_spells p.classes l l.kind n refl h.2 q;
      string = λ q. record {
        shape = refl;
        order = omega arith;
        within = omega (arith, e, o, w);
        bytes = bytes;
        fits = subst (λ z. Fits p.classes (value z)) q
            (string_fits p.classes l l.kind refl h.2 q);
      };
    }

all_lie : (p : Parts) (at end : ℕ) (ls : List LeafAt) → AreLaid p.classes p.bytes at end ls → end ≤ length p.bytes → AllByRecursion KeyIsSpelled ls → AllByRecursion (LiesIn p) ls
all_lie p at end [] h w k = tt
all_lie p at end (l ∷ ls) h w k = (leaf_lies p at end l ls h w k.0, all_lie p (at + length l.spelled) end ls h.3 w k.1)

-- The leaves of a node that is given by equal classes and bytes.
pub leaves_here : (p : Parts) (k : Classes) (b : List ℕ) (n : NodeAt) → k ≡ p.classes → b ≡ p.bytes → leaves k b n ≡ leaves p.classes p.bytes n
leaves_here p k b n e f = ap (λ z. leaves z b n) e ∙ ap (λ z. leaves p.classes z n) f

pub node_lies : (p : Parts) → Sound p.classes → (k : Classes) (b : List ℕ) (n : NodeAt) (v : Value) → k ≡ p.classes → b ≡ p.bytes → IsNode p.classes b n v → AllByRecursion (LiesIn p) (leaves k b n)
node_lies p sound k b n v e f i =
    let j : IsNode p.classes p.bytes n v = subst (λ z. IsNode p.classes z n v) f i in
    subst (AllByRecursion (LiesIn p)) (sym (leaves_here p k b n e f))
    (all_lie p n.at n.end (leaves p.classes p.bytes n) (node_laid p.classes sound p.bytes n v j) j.within (keys_spelled p.classes p.bytes n v sound j))
