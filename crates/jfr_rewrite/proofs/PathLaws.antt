-- The law of paths for changed values, which goes no further where Follow stops.
use Rattle.std.specs.Prelude.{◌≡◌, ℕ, Bool, true, false, List, [], ◌∷◌, Option, Some, None, map, option_and_then, if◌then◌else◌}
use Rattle.std.specs.Option.{option_map, option_map_or}
use Rattle.std.proofs.Common.{ap, refl, sym, ◌∙◌, subst}
use Rattle.jfr_layout.specs.Classes.{Sound}
use Rattle.jfr_value.specs.declared.leaf.Holder.{Holder}
use Rattle.jfr_value.specs.declared.node.Step.{Step}
use Rattle.jfr_value.specs.declared.node.Step.TheVariants as steps
use Rattle.jfr_value.specs.Values.{Value, bytes_of, own_target}
use Rattle.jfr_value.specs.Nodes.{NodeAt, IsNode, child, target, Both}
use Rattle.jfr_value.proofs.NodeLaws.{part, child_is, target_is, value_is}
use Rattle.jfr_value.proofs.TargetLaws.{leaves_in_are}
use Rattle.jfr_pool.specs.declared.entry.EntryAt.{EntryAt}
use Rattle.jfr_pool.specs.Entries.{in_force, entry_node}
use Rattle.jfr_chunk.specs.Parts.{Parts}
use Rattle.jfr_chunk.specs.Paths.{follow, step, leads}
use Rattle.jfr_rewrite.specs.Changed.{Change, changed, changed_leaf, content}
use Rattle.jfr_rewrite.specs.Paths.{Held, Stops, IsChangedNode, Retargets, held_after, leads_but, node_after, root, target_but, with_key}
use Rattle.jfr_rewrite.proofs.ChangeLaws.{stepped, changed_part, changed_shape, changed_leaves}

module _ (p q : Parts) (ch : Change) where
  -- Both are nodes of values, the second of the changed one.
  pub record Paired (n : Held) (o : NodeAt) : Type 0 where
    pub value : Value
    pub before : IsNode p.classes p.bytes n.node value
    pub now : IsNode q.classes q.bytes o (changed ch n.holder value)

  abbrev pub PairedEntries : (ℕ × ℕ → ℕ) → ℕ × ℕ → Type 0
  PairedEntries key t = Both (λ e f. Paired (root (entry_node e)) (entry_node f)) (in_force p.entries t) (in_force q.entries (with_key key t))

  module _ (sound : Sound p.classes) (also : Sound q.classes) (stops : Stops) (key : ℕ × ℕ → ℕ) (targets : Retargets p.classes ch stops key) where
    -- The entries in force are paired for all that a path from the node meets.
    abbrev pub MeetsPaired : Held → Type 0
    MeetsPaired n = (path : List Step) (m : Held) (t : ℕ × ℕ) → leads_but stops p n path ≡ Some m → target_but stops p m ≡ Some t → PairedEntries key t

    -- The nodes after a step.
    abbrev StepPaired : Held → Step → NodeAt → NodeAt → Type 0
    StepPaired n st m k = Paired (held_after n st m) k

    child_by : (h : Option Holder) (a b : Option NodeAt) (v w : Option Value) → Both (IsNode p.classes p.bytes) a v → Both (IsNode q.classes q.bytes) b w → w ≡ option_map (changed ch h) v
        → Both (λ m k. Paired (record { holder = h; node = m }) k) a b
    child_by h None None None None i j e = tt
    child_by h (Some n) (Some o) (Some v) (Some w) i j e =
        let z : w ≡ changed ch h v = (let f : Some w ≡ Some (changed ch h v) = e in cc) in
        record { value = v; before = i; now = subst (IsNode q.classes q.bytes o) z j }
    child_by h None b (Some v) w i j e = absurd i
    child_by h (Some n) b None w i j e = absurd i
    child_by h a None v (Some w) i j e = absurd j
    child_by h a (Some o) v None i j e = absurd j
    child_by h None (Some o) None (Some w) i j e = cc
    child_by h (Some n) None (Some v) None i j e = cc

    child_paired : (n : Held) (o : NodeAt) (st : Step) → Paired n o
        → Both (λ m k. Paired (record { holder = stepped ch n.holder n.node.shape st; node = m }) k) (child p.classes p.bytes n.node st) (child q.classes q.bytes o st)
    child_paired n o st r =
        child_by (stepped ch n.holder n.node.shape st) (child p.classes p.bytes n.node st) (child q.classes q.bytes o st) (part r.value st) (part (changed ch n.holder r.value) st)
        (child_is p.classes p.bytes n.node r.value sound r.before st) (child_is q.classes q.bytes o (changed ch n.holder r.value) also r.now st)
        (changed_part ch n.holder r.value st ∙ ap (λ s. option_map (changed ch (stepped ch n.holder s st)) (part r.value st)) (sym r.before.shape))

    -- What the second refers to is what the first does, by the new key, unless Follow stops there.
    pub target_paired : (n : Held) (o : NodeAt) → Paired n o → target q.classes q.bytes o ≡ option_map (with_key key) (target_but stops p n)
    target_paired n o r =
        target_is q.classes q.bytes o (changed ch n.holder r.value) also r.now ∙ (targets n.holder r.value r.before.fits ∙ (by_stop (stops n.holder r.value) ∙ sym there))
      where
        but : Option Value → Option (ℕ × ℕ)
        but v = if option_map_or (stops n.holder) v false then None else target p.classes p.bytes n.node

        there : option_map (with_key key) (target_but stops p n) ≡ option_map (with_key key) (if stops n.holder r.value then None else own_target r.value)
        there = ap (λ v. option_map (with_key key) (but v)) (value_is p.classes p.bytes n.node r.value sound r.before)
            ∙ ap (λ t. option_map (with_key key) (if stops n.holder r.value then None else t)) (target_is p.classes p.bytes n.node r.value sound r.before)

        by_stop : (s : Bool) → (if s then None else option_map (with_key key) (own_target r.value)) ≡ option_map (with_key key) (if s then None else own_target r.value)
        by_stop true = refl
        by_stop false = refl

    entry_paired : (a b : Option EntryAt) → Both (λ e f. Paired (root (entry_node e)) (entry_node f)) a b → Both (λ m k. Paired (root m) k) (option_map entry_node a) (option_map entry_node b)
    entry_paired None None r = tt
    entry_paired (Some e) (Some f) r = r
    entry_paired None (Some f) r = absurd r
    entry_paired (Some e) None r = absurd r

    follow_paired : (n : Held) (o : NodeAt) → Paired n o → ((t : ℕ × ℕ) → target_but stops p n ≡ Some t → PairedEntries key t)
        → Both (λ m k. Paired (root m) k) (node_after stops p n steps.Follow) (follow q o)
    follow_paired n o r h =
        subst (λ z. Both R (node_after stops p n steps.Follow) (option_and_then (λ t. option_map entry_node (in_force q.entries t)) z)) (sym (target_paired n o r)) (by_target (target_but stops p n) h)
      where
        R : NodeAt → NodeAt → Type 0
        R m k = Paired (root m) k

        by_target : (y : Option (ℕ × ℕ)) → ((t : ℕ × ℕ) → y ≡ Some t → PairedEntries key t)
            → Both (λ m k. Paired (root m) k) (option_and_then (λ t. option_map entry_node (in_force p.entries t)) y) (option_and_then (λ t. option_map entry_node (in_force q.entries t)) (option_map (with_key key) y))
        by_target None h = tt
        by_target (Some t) h = entry_paired (in_force p.entries t) (in_force q.entries (with_key key t)) (h t refl)

    step_paired : (n : Held) (o : NodeAt) (st : Step) → Paired n o → MeetsPaired n → Both (StepPaired n st) (node_after stops p n st) (step q o st)
    step_paired n o (steps.Field i) r h = child_paired n o (steps.Field i) r
    step_paired n o (steps.Item i) r h = child_paired n o (steps.Item i) r
    step_paired n o steps.Follow r h = follow_paired n o r (λ t e. h [] n t refl e)

    pub paths_paired : (path : List Step) (n : Held) (o : NodeAt) → Paired n o → MeetsPaired n → Both Paired (leads_but stops p n path) (leads q o path)
    paths_paired [] n o r h = r
    paths_paired (st ∷ path) n o r h = by_step (node_after stops p n st) (step q o st) refl (step_paired n o st r h) (λ m k. paths_paired path m k)
      where
        by_step : (a b : Option NodeAt) → node_after stops p n st ≡ a → Both (StepPaired n st) a b
            → ((m : Held) (k : NodeAt) → Paired m k → MeetsPaired m → Both Paired (leads_but stops p m path) (leads q k path))
            → Both Paired (option_and_then (λ m. leads_but stops p (held_after n st m) path) a) (option_and_then (λ m. leads q m path) b)
        by_step None None e y f = tt
        by_step None (Some k) e y f = absurd y
        by_step (Some m) None e y f = absurd y
        by_step (Some m) (Some k) e y f =
            f (held_after n st m) k y (λ pre u t l d. h (st ∷ pre) u t (ap (option_and_then (λ m. leads_but stops p (held_after n st m) pre)) e ∙ l) d)

    -- Paired nodes have the same shape, and the leaves of the second are the changed ones.
    pub paired_leaves : (n : Held) (o : NodeAt) → Paired n o → IsChangedNode ch p q n o
    paired_leaves n o r =
        let h : Option Holder = n.holder in
        record {
          shape = r.before.shape ∙ (sym (changed_shape ch h r.value) ∙ sym r.now.shape);
          bytes = ap (λ z. option_map_or (λ v. bytes_of (changed ch h v)) z []) (value_is p.classes p.bytes n.node r.value sound r.before) ∙ sym r.now.bytes;
          leaves =
              ap (map content) (leaves_in_are q.classes also q.bytes o (changed ch h r.value) r.now h) ∙ (changed_leaves ch p.classes h r.value n.node.at o.at r.before.fits
              ∙ ap (map (changed_leaf ch)) (sym (leaves_in_are p.classes sound p.bytes n.node r.value r.before h)));
        }
