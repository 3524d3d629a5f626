-- What a value refers to, except by its masked strings, by its leaves.
use Rattle.std.specs.Prelude.{◌≡◌, ◌&&◌, ℕ, zero, suc, ◌+◌, Bool, true, false, List, [], ◌∷◌, ◌++◌, length, Option, None, Some, option_to_list, if◌then◌else◌}
use Rattle.std.specs.List.{cons_option, filter_map}
use Rattle.std.specs.Option.{option_map_or}
use Rattle.std.proofs.Common.{ap, refl, sym, ◌∙◌}
use Rattle.std.proofs.lemmas.List.Elements.{filter_map-append}
use Rattle.jfr_base.specs.Integer.{worth_within}
use Rattle.jfr_worklist.specs.Marks.{those}
use Rattle.jfr_worklist.proofs.Members.{those_append}
use Rattle.jfr_layout.specs.Classes.{Classes, Sound}
use Rattle.jfr_layout.specs.declared.shape.Shape.{Shape}
use Rattle.jfr_value.specs.declared.leaf.Holder.{Holder}
use Rattle.jfr_value.specs.declared.leaf.LeafKind.{LeafKind}
use Rattle.jfr_value.specs.declared.leaf.LeafKind.TheVariants as leaf_kinds
use Rattle.jfr_value.specs.Values.{Value, Values, Single, Group, Nil, Cons, bytes_of, targets_of, targets_of_all, Fits, AllFit}
use Rattle.jfr_value.specs.Nodes.{NodeAt, IsNode}
use Rattle.jfr_value.specs.Leaves.{LeafAt, leaf_target, leaves, leaves_at, leaves_from, part_holder}
use Rattle.jfr_value.proofs.LeafLaws.{leaf_targets}
use Rattle.jfr_value.proofs.NodeLaws.{value_is}
use Rattle.jfr_value.proofs.TargetLaws.{leaves_are}
use Rattle.jfr_chunk.specs.Parts.{Parts}
use Rattle.jfr_rewrite.specs.Changed.{changed_all, plain, single_of}
use Rattle.jfr_mask.specs.Masked.{is_masked_string, is_string_leaf}
use Rattle.jfr_mask.specs.ReachBut.{node_targets_but, targets_but, unkeyed}
use Rattle.jfr_mask.specs.Reaching.{target_left}

abbrev head_leaves : Option Holder → ℕ → Shape → List ℕ → List LeafAt
head_leaves h at s head = if s.array then record { kind = leaf_kinds.Count (worth_within 8 head); class = s.class; holder = h; at = at; spelled = head } ∷ [] else []

module _ (k : Classes) (masked : Option Holder → Bool) where
  -- A count refers to nothing.
  head_none : (h : Option Holder) (at : ℕ) (s : Shape) (head : List ℕ) → filter_map (target_left masked) (head_leaves h at s head) ≡ []
  head_none h at s head = by_mark s.array
    where
      nothing : Option (ℕ × ℕ)
      nothing = None

      uncounted : (m : Bool) → (if m && false then nothing else nothing) ≡ nothing
      uncounted true = refl
      uncounted false = refl

      by_mark : (b : Bool) → filter_map (target_left masked) (if b then record { kind = leaf_kinds.Count (worth_within 8 head); class = s.class; holder = h; at = at; spelled = head } ∷ [] else []) ≡ []
      by_mark true = ap (λ o. cons_option o []) (uncounted (masked h))
      by_mark false = refl

  single_left : (h : Option Holder) (at : ℕ) (s : Shape) (kind : LeafKind) (b : List ℕ) (key : Option ℕ) → Fits k (Single s kind b key)
      → filter_map (target_left masked) (leaves_at h at (Single s kind b key)) ≡ targets_but (is_masked_string masked) h (Single s kind b key)
  single_left h at s kind b key f = by_mark (masked h && is_string_leaf kind)
    where
      by_mark : (t : Bool) → cons_option (if t then None else leaf_target (record { kind = kind; class = s.class; holder = h; at = at; spelled = b })) []
          ≡ targets_of (single_of s (if t then plain kind b None else plain kind b key))
      by_mark true = refl
      by_mark false = leaf_targets k h at (Single s kind b key) f

  mutual
    pub value_left : (h : Option Holder) (at : ℕ) (v : Value) → Fits k v → filter_map (target_left masked) (leaves_at h at v) ≡ targets_but (is_masked_string masked) h v
    value_left h at (Single s kind b key) f = single_left h at s kind b key f
    value_left h at (Group s head vs) f =
        filter_map-append (target_left masked) (head_leaves h at s head) (leaves_from (part_holder s h) (at + length head) vs)
        ∙ (ap (λ z. z ++ filter_map (target_left masked) (leaves_from (part_holder s h) (at + length head) vs)) (head_none h at s head)
        ∙ values_left (part_holder s h) (at + length head) vs f.1)

    values_left : (g : ℕ → Option Holder) (at : ℕ) (vs : Values) → AllFit k vs
        → filter_map (target_left masked) (leaves_from g at vs) ≡ targets_of_all (changed_all (unkeyed (is_masked_string masked)) g vs)
    values_left g at Nil f = refl
    values_left g at (Cons v vs) f =
        filter_map-append (target_left masked) (leaves_at (g zero) at v) (leaves_from (λ n. g (suc n)) (at + length (bytes_of v)) vs)
        ∙ (ap (λ z. z ++ filter_map (target_left masked) (leaves_from (λ n. g (suc n)) (at + length (bytes_of v)) vs)) (value_left (g zero) at v f.0)
        ∙ ap (λ z. targets_but (is_masked_string masked) (g zero) v ++ z) (values_left (λ n. g (suc n)) (at + length (bytes_of v)) vs f.1))

-- What the first leaf refers to comes before what the others do.
pub first_left : (masked : Option Holder → Bool) (f : ℕ × ℕ → Option ℕ) (l : LeafAt) (ls : List LeafAt)
    → those f (filter_map (target_left masked) (l ∷ ls)) ≡ those f (option_to_list (target_left masked l)) ++ those f (filter_map (target_left masked) ls)
first_left masked f l ls = ap (those f) (by_target (target_left masked l)) ∙ those_append f (option_to_list (target_left masked l)) (filter_map (target_left masked) ls)
  where
    by_target : (o : Option (ℕ × ℕ)) → cons_option o (filter_map (target_left masked) ls) ≡ option_to_list o ++ filter_map (target_left masked) ls
    by_target None = refl
    by_target (Some t) = refl

-- For the node of a value.
module _ (p : Parts) (sound : Sound p.classes) (n : NodeAt) (v : Value) (i : IsNode p.classes p.bytes n v) where
  pub node_left : (masked : Option Holder → Bool) → filter_map (target_left masked) (leaves p.classes p.bytes n) ≡ node_targets_but (is_masked_string masked) p n
  node_left masked =
      ap (filter_map (target_left masked)) (leaves_are p.classes sound p.bytes n v i)
      ∙ (value_left p.classes masked None n.at v i.fits ∙ sym (ap (λ o. option_map_or (targets_but (is_masked_string masked) None) o []) (value_is p.classes p.bytes n v sound i)))
