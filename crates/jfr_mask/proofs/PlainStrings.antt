-- The values of plain classes have no masked string to list.
use Rattle.std.specs.Prelude.{◌≡◌, ◌&&◌, ℕ, zero, suc, ◌+◌, Bool, true, false, List, [], ◌++◌, length, Option, None, Some, option_to_list, if◌then◌else◌}
use Rattle.std.specs.List.{cons_option, filter_map, flat_map}
use Rattle.std.proofs.Common.{ap, append-nil, refl, subst, sym, ◌∙◌}
use Rattle.std.proofs.lemmas.List.Elements.{filter_map-append}
use Rattle.jfr_base.specs.Integer.{worth_within}
use Rattle.jfr_layout.specs.Classes.{Classes, Sound, class_index}
use Rattle.jfr_layout.specs.declared.shape.Shape.{Shape}
use Rattle.jfr_value.specs.declared.leaf.Holder.{Holder}
use Rattle.jfr_value.specs.declared.leaf.LeafKind.TheVariants as leaf_kinds
use Rattle.jfr_value.specs.Leaves.{LeafAt, leaves_at, leaves_from, part_holder}
use Rattle.jfr_value.specs.Nodes.{IsNode, targets}
use Rattle.jfr_value.specs.Values.{Value, Values, Single, Group, Nil, Cons, bytes_of}
use Rattle.jfr_value.proofs.TargetLaws.{leaves_are}
use Rattle.jfr_worklist.specs.Marks.{those}
use Rattle.jfr_pool.specs.Entries.{number_in_force}
use Rattle.jfr_chunk.specs.Parts.{EventAt, Parts}
use Rattle.jfr_rewrite.proofs.LaidLeaves.{marked_leaves}
use Rattle.jfr_mask.specs.declared.event_strings.StringAt.{StringAt}
use Rattle.jfr_mask.specs.EventStrings.{long_at, masked_at, strings_in}
use Rattle.jfr_mask.specs.Fields.{Masks}
use Rattle.jfr_mask.specs.Masked.{is_held_masked, is_masked_string}
use Rattle.jfr_mask.specs.Plain.{ArePlain, HasNoMasked, HaveNoMasked, IsPlain}
use Rattle.jfr_mask.specs.ReachBut.{roots_but}
use Rattle.jfr_mask.proofs.PlainLaws.{class_plain, known_plain}

module _ (masked : Option Holder → Bool) where
  nothing : Option StringAt
  nothing = None

  not_both : (b : Bool) → (b && false) ≡ false
  not_both true = refl
  not_both false = refl

  -- A count is no string.
  head_none : (h : Option Holder) (at : ℕ) (s : Shape) (head : List ℕ) (mark : Bool) → filter_map (masked_at masked) (marked_leaves mark h at s head) ≡ []
  head_none h at s head true =
      let l : LeafAt = record { kind = leaf_kinds.Count (worth_within 8 head); class = s.class; holder = h; at = at; spelled = head } in
      ap (λ b. cons_option (if b then long_at l else None) []) (not_both (masked h))
  head_none h at s head false = refl

  mutual
    value_none : (h : Option Holder) (at : ℕ) (v : Value) → HasNoMasked masked h v → filter_map (masked_at masked) (leaves_at h at v) ≡ []
    value_none h at (Single s kind b key) q =
        let l : LeafAt = record { kind = kind; class = s.class; holder = h; at = at; spelled = b } in
        ap (λ t. cons_option (if t then long_at l else None) []) q
    value_none h at (Group s head vs) q =
        filter_map-append (masked_at masked) (marked_leaves s.array h at s head) (leaves_from (part_holder s h) (at + length head) vs)
        ∙ (ap (λ z. z ++ filter_map (masked_at masked) (leaves_from (part_holder s h) (at + length head) vs)) (head_none h at s head s.array)
        ∙ values_none (part_holder s h) (at + length head) vs q)

    values_none : (f : ℕ → Option Holder) (at : ℕ) (vs : Values) → HaveNoMasked masked f vs → filter_map (masked_at masked) (leaves_from f at vs) ≡ []
    values_none f at Nil q = refl
    values_none f at (Cons v vs) q =
        let rest : List LeafAt = leaves_from (λ n. f (suc n)) (at + length (bytes_of v)) vs in
        filter_map-append (masked_at masked) (leaves_at (f zero) at v) rest
        ∙ (ap (λ z. z ++ filter_map (masked_at masked) rest) (value_none (f zero) at v q.0) ∙ values_none (λ n. f (suc n)) (at + length (bytes_of v)) vs q.1)

-- For an event of a plain class, given what the code knows of its node.
module _ (p : Parts) (masks : Masks) (flags : List Bool) (k : Classes) (b : List ℕ) (sound : Sound p.classes) (right : ArePlain masks p.classes flags) (e : k ≡ p.classes) (q : b ≡ p.bytes) (event : EventAt)
    (v : (v : Value) × IsNode p.classes b event.node v) (x : (m : ℕ) × (class_index k event.node.shape.class ≡ Some m) × IsPlain flags m) where
  abbrev masked : Option Holder → Bool
  masked = is_held_masked masks p.classes

  node_none : strings_in masked p event.node ≡ []
  node_none =
      let i : IsNode p.classes p.bytes event.node v.0 = subst (λ z. IsNode p.classes z event.node v.0) q v.1 in
      ap (filter_map (masked_at masked)) (leaves_are p.classes sound p.bytes event.node v.0 i)
      ∙ value_none masked None event.node.at v.0
      (class_plain masks p.classes flags right event.node.shape x.0 v.0 i.fits i.shape (sym (ap (λ z. class_index z event.node.shape.class) e) ∙ x.1) x.2)

  pub event_no_strings : (o : Option EventAt) → Some event ≡ o → flat_map (λ (z : EventAt). strings_in masked p z.node) (option_to_list o) ≡ []
  event_no_strings o there = ap (λ z. flat_map (λ (z : EventAt). strings_in masked p z.node) (option_to_list z)) (sym there) ∙ (append-nil (strings_in masked p event.node) ∙ node_none)

  -- It refers to all that it refers to when masked strings don't count.
  pub event_all : (o : Option EventAt) → Some event ≡ o
      → those (number_in_force p.entries) (flat_map (λ (z : EventAt). targets p.classes p.bytes z.node) (option_to_list o)) ≡ roots_but (is_masked_string masked) p (option_to_list o)
  event_all o there =
      let all = sym (ap (λ z. targets z b event.node) e ∙ ap (λ z. targets p.classes z event.node) q) ∙ known_plain p masks flags k b event.node sound right e q v x in
      ap (λ z. those (number_in_force p.entries) (flat_map (λ (z : EventAt). targets p.classes p.bytes z.node) (option_to_list z))) (sym there)
      ∙ (ap (λ z. those (number_in_force p.entries) (z ++ [])) all ∙ ap (λ z. roots_but (is_masked_string masked) p (option_to_list z)) there)
