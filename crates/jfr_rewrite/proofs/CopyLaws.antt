-- A changed value is what its leaves become, one after another.
use Rattle.std.specs.Prelude.{◌≡◌, ℕ, zero, suc, ◌+◌, ◌≤◌, Bool, true, false, List, [], ◌∷◌, ◌++◌, length, Option, None, slice_range}
use Rattle.std.specs.List.{flat_map}
use Rattle.std.specs.Option.{option_map_or}
use Rattle.std.proofs.Common.{ap, append-nil, append_assoc, arith, refl, sym, ◌∙◌, inl, inr}
use Rattle.std.proofs.lemmas.Grind.{flat_map-append}
use Rattle.jfr_base.proofs.Ranges.{range_split}
use Rattle.jfr_layout.specs.Classes.{Classes, Sound}
use Rattle.jfr_layout.specs.declared.shape.Shape.{Shape}
use Rattle.jfr_value.specs.declared.leaf.Holder.{Holder}
use Rattle.jfr_value.specs.Leaves.{LeafAt, leaves, leaves_at, leaves_from, part_holder}
use Rattle.jfr_value.specs.Nodes.{IsNode, NodeAt}
use Rattle.jfr_value.specs.Values.{AllFit, Fits, IsHead, Group, Single, Value, Values, Nil, Cons, bytes_of, bytes_of_all, shapes_of}
use Rattle.jfr_value.specs.Visits.{TakesAll}
use Rattle.jfr_value.proofs.NodeLaws.{value_is}
use Rattle.jfr_value.proofs.TargetLaws.{leaves_are}
use Rattle.jfr_chunk.specs.Parts.{Parts}
use Rattle.jfr_rewrite.specs.declared.copying.ValueCopy.{ValueCopy}
use Rattle.jfr_rewrite.specs.Changed.{Change, Content, changed, changed_all}
use Rattle.jfr_rewrite.specs.Copying.{CopiesLeaf, leaf_becomes}
use Rattle.jfr_rewrite.specs.Rewrite.{changed_bytes}
use Rattle.jfr_rewrite.specs.Writing.{changed_within}
use Rattle.jfr_rewrite.proofs.ChangeLaws.{changed_leaves}
use Rattle.jfr_rewrite.proofs.LaidLeaves.{AreLaid, marked_leaves}

module _ (ch : Change) (k : Classes) where
  head_becomes : (holder : Option Holder) (at : ℕ) (s : Shape) (h : List ℕ) (ss : List Shape) → IsHead k s h ss → flat_map (leaf_becomes ch) (marked_leaves s.array holder at s h) ≡ h
  head_becomes holder at s h ss (inl i) = by_mark s.array i.0
    where
      by_mark : (mark : Bool) → mark ≡ true → flat_map (leaf_becomes ch) (marked_leaves mark holder at s h) ≡ h
      by_mark true e = append-nil h
      by_mark false e = cc
  head_becomes holder at s h ss (inr i) = by_mark s.array i.0
    where
      by_mark : (mark : Bool) → mark ≡ false → flat_map (leaf_becomes ch) (marked_leaves mark holder at s h) ≡ h
      by_mark true e = cc
      by_mark false e = sym i.5

  mutual
    pub becomes : (holder : Option Holder) (at : ℕ) (v : Value) → Fits k v → bytes_of (changed ch holder v) ≡ flat_map (leaf_becomes ch) (leaves_at holder at v)
    becomes holder at (Single s kind b key) f =
        let l : LeafAt = record { kind = kind; class = s.class; holder = holder; at = at; spelled = b } in
        let first : List Content → List ℕ = λ z. flat_map (λ (c : Content). c.spelled) z in
        sym (append-nil (bytes_of (changed ch holder (Single s kind b key)))) ∙ ap first (changed_leaves ch k holder (Single s kind b key) at at f)
    becomes holder at (Group s h vs) f =
        let inner : List LeafAt = leaves_from (part_holder s holder) (at + length h) vs in
        ap (λ z. h ++ z) (all_become (part_holder s holder) (at + length h) vs f.1)
        ∙ sym (flat_map-append (leaf_becomes ch) (marked_leaves s.array holder at s h) inner
        ∙ ap (λ z. z ++ flat_map (leaf_becomes ch) inner) (head_becomes holder at s h (shapes_of vs) f.0))

    all_become : (holders : ℕ → Option Holder) (at : ℕ) (vs : Values) → AllFit k vs → bytes_of_all (changed_all ch holders vs) ≡ flat_map (leaf_becomes ch) (leaves_from holders at vs)
    all_become holders at Nil f = refl
    all_become holders at (Cons v vs) f =
        let others : ℕ → Option Holder = λ n. holders (suc n) in
        let rest : List LeafAt = leaves_from others (at + length (bytes_of v)) vs in
        ap (λ z. z ++ bytes_of_all (changed_all ch others vs)) (becomes (holders zero) at v f.0)
        ∙ (ap (λ z. flat_map (leaf_becomes ch) (leaves_at (holders zero) at v) ++ z) (all_become others (at + length (bytes_of v)) vs f.1)
        ∙ sym (flat_map-append (leaf_becomes ch) (leaves_at (holders zero) at v) rest))

pub node_becomes : (ch : Change) (k : Classes) → Sound k → (c : List ℕ) (n : NodeAt) (v : Value) → IsNode k c n v → changed_bytes ch k c n ≡ flat_map (leaf_becomes ch) (leaves k c n)
node_becomes ch k sound c n v i =
    ap (λ o. option_map_or (λ w. bytes_of (changed ch None w)) o []) (value_is k c n v sound i)
    ∙ (becomes ch k None n.at v i.fits ∙ ap (flat_map (leaf_becomes ch)) (sym (leaves_are k sound c n v i)))

-- The copy of leaves that lie one after another.
pub copies_all : (ch : Change) (p : Parts) (at end : ℕ) (ls : List LeafAt) (old new : ValueCopy) → AreLaid p.classes p.bytes at end ls → TakesAll (CopiesLeaf ch p) ls old new → new.failed ≡ false
    → (old.failed ≡ false) × (new.out.now.items ++ slice_range p.bytes new.copied end ≡ (old.out.now.items ++ slice_range p.bytes old.copied at) ++ flat_map (leaf_becomes ch) ls)
copies_all ch p at end [] old new h e f = (
  ap (λ (z : ValueCopy). z.failed) e ∙ f,
  ap (λ (z : ValueCopy). z.out.now.items ++ slice_range p.bytes z.copied end) (sym e)
      ∙ (ap (λ z. old.out.now.items ++ slice_range p.bytes old.copied z) (sym h) ∙ sym (append-nil (old.out.now.items ++ slice_range p.bytes old.copied at))),
)
copies_all ch p at end (l ∷ ls) old new h t f =
    let rest = flat_map (leaf_becomes ch) ls in
    let r = copies_all ch p (at + length l.spelled) end ls t.0 new h.3 t.2 f in
    let q = t.1.1 r.0 in (
      q.0,
      r.1
          ∙ (ap (λ z. (t.0.out.now.items ++ slice_range p.bytes t.0.copied (z + length l.spelled)) ++ rest) (sym h.0)
          ∙ (ap (λ z. z ++ rest) q.1
          ∙ (append_assoc (old.out.now.items ++ slice_range p.bytes old.copied l.at) (leaf_becomes ch l) rest
          ∙ ap (λ z. (old.out.now.items ++ slice_range p.bytes old.copied z) ++ (leaf_becomes ch l ++ rest)) h.0))),
    )

-- The vector stays the same one.
pub same_vector : (ch : Change) (p : Parts) (ls : List LeafAt) (old new : ValueCopy) → TakesAll (CopiesLeaf ch p) ls old new → new.out.ghost_name ≡ old.out.ghost_name
same_vector ch p [] old new e = ap (λ (z : ValueCopy). z.out.ghost_name) (sym e)
same_vector ch p (l ∷ ls) old new t = same_vector ch p ls t.0 new t.2 ∙ t.1.0

-- A value that is copied, with the bytes around it.
pub copied_within : (ch : Change) (p : Parts) (n : NodeAt) (from to copied : ℕ) (before after out : List ℕ) → copied ≤ n.end → n.end ≤ to
    → after ++ slice_range p.bytes copied n.end ≡ (before ++ slice_range p.bytes from n.at) ++ changed_bytes ch p.classes p.bytes n
    → out ≡ after ++ slice_range p.bytes copied to → out ≡ before ++ changed_within ch p n from to
copied_within ch p n from to copied before after out o l e f =
    let changes = changed_bytes ch p.classes p.bytes n in
    f
    ∙ (ap (λ z. after ++ z) (range_split p.bytes copied n.end to o l)
    ∙ (sym (append_assoc after (slice_range p.bytes copied n.end) (slice_range p.bytes n.end to))
    ∙ (ap (λ z. z ++ slice_range p.bytes n.end to) e
    ∙ (append_assoc (before ++ slice_range p.bytes from n.at) changes (slice_range p.bytes n.end to)
    ∙ append_assoc before (slice_range p.bytes from n.at) (changes ++ slice_range p.bytes n.end to)))))

-- A value that stays.
pub stays_within : (ch : Change) (p : Parts) (n : NodeAt) (from to : ℕ) → from ≤ n.at → n.at ≤ n.end → n.end ≤ to → changed_bytes ch p.classes p.bytes n ≡ slice_range p.bytes n.at n.end
    → slice_range p.bytes from to ≡ changed_within ch p n from to
stays_within ch p n from to u o l e =
    range_split p.bytes from n.at to u (omega arith)
    ∙ ap (λ z. slice_range p.bytes from n.at ++ z) (range_split p.bytes n.at n.end to o l ∙ ap (λ z. z ++ slice_range p.bytes n.end to) (sym e))

-- A leaf that stays waits with the bytes before it.
pub leaf_waits : (ch : Change) (p : Parts) (l : LeafAt) (copied : ℕ) (out : List ℕ) → copied ≤ l.at → slice_range p.bytes l.at (l.at + length l.spelled) ≡ l.spelled → leaf_becomes ch l ≡ l.spelled
    → out ++ slice_range p.bytes copied (l.at + length l.spelled) ≡ (out ++ slice_range p.bytes copied l.at) ++ leaf_becomes ch l
leaf_waits ch p l copied out o b e =
    ap (λ z. out ++ z) (range_split p.bytes copied l.at (l.at + length l.spelled) o (omega arith))
    ∙ (sym (append_assoc out (slice_range p.bytes copied l.at) (slice_range p.bytes l.at (l.at + length l.spelled)))
    ∙ ap (λ z. (out ++ slice_range p.bytes copied l.at) ++ z) (b ∙ sym e))
