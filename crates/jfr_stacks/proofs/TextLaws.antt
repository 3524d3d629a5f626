-- The text of an event's stack is that of its trace, and that of the entry to which the trace refers.
use Rattle.std.specs.Prelude.{◌≡◌, ℕ, zero, suc, ◌+◌, ◌<◌, Bool, false, true, List, [], ◌∷◌, ◌++◌, codes, flat_map, length, map, reverse, Option, None, Some, option_and_then, slice_get, if◌then◌else◌}
use Rattle.std.specs.Option.{option_map}
use Rattle.std.specs.List.{AllByRecursion}
use Rattle.std.proofs.Common.{ap, arith, refl, subst, sym, ◌∙◌}
use Rattle.std.proofs.lemmas.List.{append_assoc, map-append, reverse-append}
use Rattle.std.proofs.lemmas.List.Concat.{flat_map-cons}
use Rattle.std.proofs.lemmas.Option.{slice_get-map}
use Rattle.jfr_layout.specs.declared.class.ClassInfo.{ClassInfo}
use Rattle.jfr_layout.specs.declared.shape.Shape.{Shape}
use Rattle.jfr_layout.specs.Classes.{Sound, field_number, find_class}
use Rattle.jfr_value.specs.declared.node.Node.{Node}
use Rattle.jfr_value.specs.declared.node.Step.TheVariants as steps
use Rattle.jfr_value.specs.Values.{Value, head_of}
use Rattle.jfr_value.specs.Nodes.{IsNode, NodeAt, child, children, laid, node_of, target}
use Rattle.jfr_value.proofs.ChildLaws.{constant_alone}
use Rattle.jfr_value.proofs.NodeLaws.{children_are}
use Rattle.jfr_pool.specs.declared.entry.EntryAt.{EntryAt}
use Rattle.jfr_pool.specs.Entries.{entry_node, in_force, number_in_force}
use Rattle.jfr_pool.proofs.ForceLaws.{force_within}
use Rattle.jfr_chunk.specs.Parts.{EventAt, Parts}
use Rattle.jfr_chunk.specs.Paths.{follow, is_reference, named_field, named_node}
use Rattle.jfr_path.proofs.FollowLaws.{ends, followed}
use Rattle.jfr_stacks.specs.Frames.{IsChunkValue, after_references, entry_number, field_numbers, frames_in, frames_of, items_of, trace_of}
use Rattle.jfr_stacks.specs.Texts.{entry_text, frame_text, joined, stack_of, stack_text, trace_text}
use Rattle.jfr_stacks.specs.Trace.{LeadsNowhere, LeadsTo}

-- The text of an event's stack is that of its trace.
pub traced : (p : Parts) (e : EventAt) → stack_of p e ≡ option_and_then (λ t. trace_text p (after_references 16 p t)) (trace_of p e.node)
unfolding stack_of frames_of trace_text
traced p e = by_trace (trace_of p e.node)
  where
    by_frames : (o : Option NodeAt)
        → option_map (stack_text p) (option_and_then (items_of p) (option_map (after_references 16 p) (option_and_then (λ m. Some m) o))) ≡ option_map (stack_text p) (option_and_then (items_of p) (option_map (after_references 16 p) o))
    by_frames None = refl
    by_frames (Some m) = refl

    by_trace : (o : Option NodeAt)
        → option_map (stack_text p) (option_and_then (items_of p) (option_map (after_references 16 p) (option_and_then (λ m. named_node p m (codes "frames" ∷ [])) o))) ≡ option_and_then (λ t. trace_text p (after_references 16 p t)) o
    by_trace None = refl
    by_trace (Some t) = by_frames (named_field p (codes "frames") (after_references 16 p t))

-- The text of the stack of an event, if there is one.
pub traced_all : (p : Parts) (o : Option EventAt) → option_and_then (stack_of p) o ≡ option_and_then (λ t. trace_text p (after_references 16 p t)) (option_and_then (λ e. trace_of p e.node) o)
traced_all p None = refl
traced_all p (Some e) = traced p e

module _ (p : Parts) (n : NodeAt) (name : List ℕ) where
  -- The field of a class.
  abbrev field_in : Option ClassInfo → Option NodeAt
  field_in o = option_and_then (λ (c : ClassInfo). option_and_then (λ i. child p.classes p.bytes n (steps.Field i)) (field_number c.fields name)) o

  -- The field with the number that is listed for its class, and with none.
  pub field_found : (index number : ℕ) → option_and_then (slice_get p.classes) (Some index) ≡ find_class p.classes n.shape.class
      → option_and_then (λ x. x) (slice_get (field_numbers name p.classes) index) ≡ Some number → named_field p name n ≡ child p.classes p.bytes n (steps.Field number)
  field_found index number c e = ap field_in (sym c) ∙ by_class (slice_get p.classes index)
      (ap (option_and_then (λ x. x)) (sym (slice_get-map (λ (c : ClassInfo). field_number c.fields name) p.classes index)) ∙ e)
    where
      by_class : (o : Option ClassInfo) → option_and_then (λ x. x) (option_map (λ (c : ClassInfo). field_number c.fields name) o) ≡ Some number
          → field_in o ≡ child p.classes p.bytes n (steps.Field number)
      by_class None e = cc
      by_class (Some c) e = ap (option_and_then (λ i. child p.classes p.bytes n (steps.Field i))) e

  pub field_missing : (index : ℕ) → option_and_then (slice_get p.classes) (Some index) ≡ find_class p.classes n.shape.class
      → option_and_then (λ x. x) (slice_get (field_numbers name p.classes) index) ≡ None → named_field p name n ≡ None
  field_missing index c e = ap field_in (sym c) ∙ by_class (slice_get p.classes index)
      (ap (option_and_then (λ x. x)) (sym (slice_get-map (λ (c : ClassInfo). field_number c.fields name) p.classes index)) ∙ e)
    where
      by_class : (o : Option ClassInfo) → option_and_then (λ x. x) (option_map (λ (c : ClassInfo). field_number c.fields name) o) ≡ None → field_in o ≡ None
      by_class None e = refl
      by_class (Some c) e = ap (option_and_then (λ i. child p.classes p.bytes n (steps.Field i))) e

pub there : {X : Type 0} (xs : List X) (i : ℕ) → i < length xs → (x : X) × (slice_get xs i ≡ Some x)
there [] i h = absurd (omega arith)
there (x ∷ xs) zero h = (x, refl)
there (x ∷ xs) (suc i) h = there xs i (omega arith)

-- The entry to which a value refers is the one that is followed to.
pub entry_followed : (p : Parts) (n : NodeAt) (number : ℕ) (x : EntryAt) → entry_number p n ≡ Some number → slice_get p.entries number ≡ Some x → follow p n ≡ Some (entry_node x)
entry_followed p n number x e g = by_target (target p.classes p.bytes n) e
  where
    by_target : (o : Option (ℕ × ℕ)) → option_and_then (number_in_force p.entries) o ≡ Some number
        → option_and_then (λ t. option_map entry_node (option_and_then (λ n. slice_get p.entries n) (number_in_force p.entries t))) o ≡ Some (entry_node x)
    by_target None e = cc
    by_target (Some t) e = ap (λ z. option_map entry_node (option_and_then (λ n. slice_get p.entries n) z)) e ∙ ap (option_map entry_node) g

-- A reference to an entry has the stack of the entry.
pub leads_to : (p : Parts) (n : NodeAt) (number : ℕ) → is_reference n ≡ true → entry_number p n ≡ Some number → LeadsTo p n number
unfolding entry_text
leads_to p n number r e =
    let l = within_entries p (target p.classes p.bytes n) number e in
    let g = there p.entries number l in
    record {
      reference = r;
      entry = e;
      within = l;
      same = ap (trace_text p) (followed is_reference p 15 n (entry_node g.0) r (entry_followed p n number g.0 e g.1))
          ∙ sym (ap (option_and_then (λ e. trace_text p (after_references 15 p (entry_node e)))) g.1);
    }
  where
    within_entries : (p : Parts) (o : Option (ℕ × ℕ)) (number : ℕ) → option_and_then (number_in_force p.entries) o ≡ Some number → number < length p.entries
    within_entries p None number e = cc
    within_entries p (Some t) number e = force_within p.entries t number e

-- A reference has no fields.
no_field : (p : Parts) (n : NodeAt) (v : Value) (name : List ℕ) → Sound p.classes → IsNode p.classes p.bytes n v → n.shape.array ≡ false → n.shape.constant ≡ true → named_field p name n ≡ None
no_field p n v name s i a o = by_class (find_class p.classes n.shape.class)
  where
    none : children p.classes p.bytes n ≡ []
    none =
        children_are p.classes p.bytes n v s i
        ∙ ap (laid (n.at + length (head_of v))) (constant_alone p.classes v (ap (λ (z : Shape). z.array) (sym i.shape) ∙ a) (ap (λ (z : Shape). z.constant) (sym i.shape) ∙ o) i.fits)

    no_child : (x : ℕ) → child p.classes p.bytes n (steps.Field x) ≡ None
    no_child x = ap (λ z. if z then None else slice_get (children p.classes p.bytes n) x) a ∙ ap (λ z. slice_get z x) none

    by_number : (o : Option ℕ) → option_and_then (λ x. child p.classes p.bytes n (steps.Field x)) o ≡ None
    by_number None = refl
    by_number (Some x) = no_child x

    by_class : (o : Option ClassInfo) → option_and_then (λ (c : ClassInfo). option_and_then (λ x. child p.classes p.bytes n (steps.Field x)) (field_number c.fields name)) o ≡ None
    by_class None = refl
    by_class (Some c) = by_number (field_number c.fields name)

-- A reference without an entry is followed nowhere, and has no frames.
no_trace : (p : Parts) (n : NodeAt) (v : Value) → Sound p.classes → IsNode p.classes p.bytes n v → is_reference n ≡ true → entry_number p n ≡ None → trace_text p (after_references 16 p n) ≡ None
unfolding trace_text
no_trace p n v s i r e =
    let k = shape_of_reference n.shape.array n.shape.constant r in
    ap (trace_text p) (ends is_reference p 16 n (not_followed (target p.classes p.bytes n) e))
    ∙ ap (λ o. option_map (stack_text p) (option_and_then (items_of p) (option_map (after_references 16 p) o))) (no_field p n v (codes "frames") s i k.0 k.1)
  where
    shape_of_reference : (a o : Bool) → (if a then false else o) ≡ true → (a ≡ false) × (o ≡ true)
    shape_of_reference true o e = cc
    shape_of_reference false o e = (refl, e)

    not_followed : (o : Option (ℕ × ℕ)) → option_and_then (number_in_force p.entries) o ≡ None → option_and_then (λ t. option_map entry_node (in_force p.entries t)) o ≡ None
    not_followed None e = refl
    not_followed (Some t) e = ap (λ z. option_map entry_node (option_and_then (λ n. slice_get p.entries n) z)) e

pub leads_nowhere : (p : Parts) (n : NodeAt) (v : Value) → Sound p.classes → IsNode p.classes p.bytes n v → is_reference n ≡ true → entry_number p n ≡ None → LeadsNowhere p n
leads_nowhere p n v s i r e = record { reference = r; missing = e; none = no_trace p n v s i r e }

-- The frames that are left, from the last to the first, each after a semicolon.
abbrev pub rest_text : Parts → List Node → List ℕ
rest_text p items = flat_map (λ t. codes ";" ++ t) (reverse (map (frame_text p) (map node_of items)))

module _ (p : Parts) where
  last_first : (items : List Node) (x : Node) → reverse (map (frame_text p) (map node_of (items ++ x ∷ []))) ≡ frame_text p (node_of x) ∷ reverse (map (frame_text p) (map node_of items))
  last_first items x = ap (λ z. reverse (map (frame_text p) z)) (map-append node_of items (x ∷ []))
      ∙ (ap reverse (map-append (frame_text p) (map node_of items) (node_of x ∷ [])) ∙ reverse-append (map (frame_text p) (map node_of items)) (frame_text p (node_of x) ∷ []))

  -- The stack begins with the last frame.
  pub stack_first : (all items : List Node) (x : Node) → all ≡ items ++ x ∷ [] → stack_text p (map node_of all) ≡ frame_text p (node_of x) ++ rest_text p items
  stack_first all items x e = ap (λ z. stack_text p (map node_of z)) e ∙ ap joined (last_first items x)

  -- The next of the frames that are left.
  pub rest_first : (all items : List Node) (x : Node) → all ≡ items ++ x ∷ [] → rest_text p all ≡ (codes ";" ++ frame_text p (node_of x)) ++ rest_text p items
  rest_first all items x e =
      ap (rest_text p) e
      ∙ (ap (flat_map (λ t. codes ";" ++ t)) (last_first items x) ∙ flat_map-cons (λ t. codes ";" ++ t) (frame_text p (node_of x)) (reverse (map (frame_text p) (map node_of items))))

  pub stack_none : (all : List Node) → all ≡ [] → stack_text p (map node_of all) ≡ codes "(empty)"
  stack_none all e = ap (λ z. stack_text p (map node_of z)) e

  -- A frame is written, after a semicolon.
  pub rest_next : (all items : List Node) (x : Node) (whole before comma now : List ℕ) → all ≡ items ++ x ∷ [] → comma ≡ before ++ codes ";" → now ≡ comma ++ frame_text p (node_of x)
      → before ++ rest_text p all ≡ whole → now ++ rest_text p items ≡ whole
  rest_next all items x whole before comma now e c n h =
      let f : List ℕ = frame_text p (node_of x) in
      let g : (before ++ codes ";") ++ (f ++ rest_text p items) ≡ before ++ ((codes ";" ++ f) ++ rest_text p items) = simp append_assoc in
      ap (λ z. z ++ rest_text p items) (n ∙ ap (λ z. z ++ f) c) ∙ (append_assoc (before ++ codes ";") f (rest_text p items) ∙ (g ∙ (ap (λ z. before ++ z) (sym (rest_first all items x e)) ∙ h)))

-- The last of the nodes, and those before it.
pub all_last : (p : Parts) (all items : List Node) (x : Node) → all ≡ items ++ x ∷ [] → AllByRecursion (IsChunkValue p) all → AllByRecursion (IsChunkValue p) items × IsChunkValue p x
all_last p all items x e a = split items (subst (AllByRecursion (IsChunkValue p)) e a)
  where
    split : (items : List Node) → AllByRecursion (IsChunkValue p) (items ++ x ∷ []) → AllByRecursion (IsChunkValue p) items × IsChunkValue p x
    split [] a = (tt, a.0)
    split (y ∷ items) a = let h = split items a.1 in ((a.0, h.0), h.1)

-- The frames are the items of the value to which the field leads.
pub frames_found : (p : Parts) (n field array : NodeAt) → Some field ≡ named_field p (codes "frames") n → array ≡ after_references 16 p field → frames_in p n ≡ items_of p array
frames_found p n field array e h = sym (ap (λ o. option_and_then (items_of p) (option_map (after_references 16 p) o)) e) ∙ ap (items_of p) (sym h)

pub no_frames : (p : Parts) (n : NodeAt) → None ≡ named_field p (codes "frames") n → None ≡ frames_in p n
no_frames p n e = ap (λ o. option_and_then (items_of p) (option_map (after_references 16 p) o)) e

pub items_none : (p : Parts) (array : NodeAt) → array.shape.array ≡ false → items_of p array ≡ None
items_none p array e = ap (λ b. if b then Some (children p.classes p.bytes array) else None) e

pub items_some : (p : Parts) (array : NodeAt) → array.shape.array ≡ true → items_of p array ≡ Some (children p.classes p.bytes array)
items_some p array e = ap (λ b. if b then Some (children p.classes p.bytes array) else None) e
