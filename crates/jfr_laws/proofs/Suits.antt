-- Classes that suit what is kept of a chunk: the kept events are events there too, and on each event class of
-- theirs they agree with the chunk's. Then they agree on all that paths from the kept events lead to.
use Rattle.std.specs.Prelude.{◌≡◌, ℕ, suc, Bool, true, false, ◌&&◌, ◌==◌, List, [], ◌∷◌, filter, slice_get, slice_range, Option, Some, None, is_some, option_and_then, if◌then◌else◌}
use Rattle.std.specs.Option.{option_map}
use Rattle.std.specs.List.{AllByRecursion}
use Rattle.std.proofs.Common.{ap, refl, sym, ◌∙◌, subst}
use Rattle.jfr_base.specs.Formats.{Exactly, Format}
use Rattle.jfr_base.specs.declared.reason.Reason.TheVariants.{PoolType}
use Rattle.jfr_layout.specs.Classes.{Classes, Sound, Agree, is_event_class}
use Rattle.jfr_layout.specs.declared.shape.Shape.{Shape}
use Rattle.jfr_value.specs.declared.node.Step.{Step}
use Rattle.jfr_value.specs.declared.node.Step.TheVariants as steps
use Rattle.jfr_value.specs.Values.{Value, shape_of}
use Rattle.jfr_value.specs.Nodes.{NodeAt, IsNode, child, target, Both}
use Rattle.jfr_value.proofs.AgreeLaws.{value_agree}
use Rattle.jfr_value.proofs.NodeLaws.{part, child_is, target_is}
use Rattle.jfr_pool.specs.declared.entry.EntryAt.{EntryAt}
use Rattle.jfr_pool.specs.Entries.{in_force, inline, entry_node, pool_check}
use Rattle.jfr_chunk.specs.Parts.{Parts, EventAt}
use Rattle.jfr_chunk.specs.Paths.{step, leads}
use Rattle.jfr_chunk.specs.Reach.{Reached, marked}
use Rattle.jfr_worklist.specs.Marks.{IsMarked}
use Rattle.jfr_chunk.specs.Written as written_specs
use Rattle.jfr_chunk.specs.Written.{by_pool, add_entry}
use Rattle.jfr_chunk.specs.Scrub.{OutputRecord, Whole, Chained, Rebuilt}
use Rattle.jfr_pool.proofs.ForceLaws.{forced, numbered}
use Rattle.jfr_worklist.specs.Members.{In}
use Rattle.jfr_worklist.proofs.Members.{contains_in}
use Rattle.jfr_chunk.proofs.PathLaws.{HasNodes, part_agree, own_class}
use Rattle.jfr_chunk.proofs.HasNodesLaws.{IsEvent}
use Rattle.jfr_laws.specs.InChunk.{IsEntryIn, IsGroupIn}
use Rattle.jfr_laws.proofs.OutputRecords.{IsOutputRecordIn}
use Rattle.jfr_laws.proofs.Regrouped.{NotEmpty, some_each}

pub record Suits (p : Parts) (kept : List EventAt) (m : Classes) : Type 0 where
  pub sound : Sound m
  pub agree : (id : ℕ) → is_event_class m id ≡ true → Agree p.classes m id
  pub before : (id : ℕ) → is_event_class m id ≡ true → is_event_class p.classes id ≡ true
  pub event : (e : EventAt) → In kept e → is_event_class m e.record_of.type_id ≡ true

beside : {A B : Type 0} (R : A → B → Type 0) (x : Option A) (y : Option B) (a : A) → Both R x y → x ≡ Some a → (b : B) × (y ≡ Some b) × R a b
beside R None None a r e = cc
beside R (Some c) (Some b) a r e = let h : c ≡ a = cc in (b, refl, subst (λ z. R z b) h r)
beside R None (Some c) a r e = absurd r
beside R (Some c) None a r e = absurd r

module _ (p : Parts) (m : Classes) (s : HasNodes p) where
  -- A node of whose class the lists agree, and its value.
  pub record Agreed (n : NodeAt) : Type 0 where
    pub value : Value
    pub node : IsNode p.classes p.bytes n value
    pub agree : Agree p.classes m (shape_of value).class

  pub agreed_class : (n : NodeAt) → Agreed n → Agree p.classes m n.shape.class
  agreed_class n a = subst (λ (z : Shape). Agree p.classes m z.class) (sym a.node.shape) a.agree

  child_agreed : (n u : NodeAt) (st : Step) → Agreed n → child p.classes p.bytes n st ≡ Some u → Agreed u
  child_agreed n u st a e =
      let w = beside (IsNode p.classes p.bytes) (child p.classes p.bytes n st) (part a.value st) u (child_is p.classes p.bytes n a.value s.sound a.node st) e in
      record { value = w.0; node = w.2; agree = part_agree p.classes m a.value w.0 st a.node.fits a.agree w.1 }

  -- What a node refers to is of its class.
  target_class : (n : NodeAt) (t : ℕ × ℕ) → Agreed n → target p.classes p.bytes n ≡ Some t → Agree p.classes m t.0
  target_class n t a e = subst (Agree p.classes m) (own_class a.value t (sym (target_is p.classes p.bytes n a.value s.sound a.node) ∙ e)) a.agree

  entry_agreed : (t : ℕ × ℕ) (e : EntryAt) → Agree p.classes m t.0 → in_force p.entries t ≡ Some e → Agreed (entry_node e)
  entry_agreed t e g f =
      let v = s.entries t e f in
      let c : e.class ≡ t.0 = (numbered p.entries t e f).class in
      record { value = v.0; node = v.1; agree = subst (Agree p.classes m) (sym c ∙ ap (λ (y : Shape). y.class) v.1.shape) g }

  pub path_agreed : (path : List Step) (n u : NodeAt) → Agreed n → leads p n path ≡ Some u → Agreed u
  path_agreed [] n u a e = let h : n ≡ u = cc in subst Agreed h a
  path_agreed (st ∷ path) n u a e = by_step st (step p n st) refl e (λ w b l. path_agreed path w u b l)
    where
      Rest : Type 0
      Rest = (w : NodeAt) → Agreed w → leads p w path ≡ Some u → Agreed u

      by_entry : (t : ℕ × ℕ) (o : Option EntryAt) (w : NodeAt) → Agree p.classes m t.0 → in_force p.entries t ≡ o → option_map entry_node o ≡ Some w → leads p w path ≡ Some u → Rest → Agreed u
      by_entry t None w g q e l f = cc
      by_entry t (Some x) w g q e l f = let h : entry_node x ≡ w = cc in f w (subst Agreed h (entry_agreed t x g q)) l

      by_target : (o : Option (ℕ × ℕ)) (w : NodeAt) → target p.classes p.bytes n ≡ o → option_and_then (λ t. option_map entry_node (in_force p.entries t)) o ≡ Some w → leads p w path ≡ Some u → Rest
          → Agreed u
      by_target None w q e l f = cc
      by_target (Some t) w q e l f = by_entry t (in_force p.entries t) w (target_class n t a q) refl e l f

      by_step : (st : Step) (x : Option NodeAt) → step p n st ≡ x → option_and_then (λ w. leads p w path) x ≡ Some u → Rest → Agreed u
      by_step st None q l f = cc
      by_step (steps.Field j) (Some w) q l f = f w (child_agreed n w (steps.Field j) a q) l
      by_step (steps.Item j) (Some w) q l f = f w (child_agreed n w (steps.Item j) a q) l
      by_step steps.Follow (Some w) q l f = by_target (target p.classes p.bytes n) w refl q l f

  module _ (kept : List EventAt) (suits : Suits p kept m) (events : (e : EventAt) → In kept e → IsEvent p e) where
    pub event_agreed : (e : EventAt) → In kept e → Agreed e.node
    event_agreed e i =
        let v = events e i in
        let g : Agree p.classes m e.record_of.type_id = suits.agree e.record_of.type_id (suits.event e i) in
        record { value = v.value; node = v.node; agree = subst (Agree p.classes m) (ap (λ (y : Shape). y.class) (sym v.shape) ∙ ap (λ (y : Shape). y.class) v.node.shape) g }

    -- What is reached is of a class on which the lists agree.
    reached_agrees : (number : ℕ) (e : EntryAt) → Reached p kept number → slice_get p.entries number ≡ Some e → Agree p.classes m e.class
    reached_agrees number e r q =
        let a = path_agreed r.path r.event.node r.node (event_agreed r.event (contains_in kept r.event r.is_kept)) r.leads_there in
        let g = target_class r.node r.key a r.refers in
        let f = forced p.entries r.key number r.in_force in
        let h : f.entry ≡ e = (let z : Some f.entry ≡ Some e = sym f.there ∙ q in cc) in
        subst (Agree p.classes m) (sym f.class ∙ ap (λ (z : EntryAt). z.class) h) g

    each_marked : (marks : List Bool) (xs : List EntryAt) → ((n : ℕ) (x : EntryAt) → IsMarked marks n → slice_get xs n ≡ Some x → Agree p.classes m x.class)
        → AllByRecursion (λ x. Agree p.classes m x.class) (marked marks xs)
    each_marked [] xs f = tt
    each_marked (b ∷ ms) [] f = tt
    each_marked (true ∷ ms) (x ∷ xs) f = (f 0 x refl refl, each_marked ms xs (λ n y i e. f (suc n) y i e))
    each_marked (false ∷ ms) (x ∷ xs) f = each_marked ms xs (λ n y i e. f (suc n) y i e)

    pub left_agree : (marks : List Bool) → ((n : ℕ) → IsMarked marks n → Reached p kept n) → AllByRecursion (λ x. Agree p.classes m x.class) (marked marks p.entries)
    left_agree marks r = each_marked marks p.entries (λ n x i e. reached_agrees n x (r n i) e)

-- What can be written with entries of such classes can be written under either list.
module _ (c : List ℕ) (k m : Classes) where
  known_too : (id : ℕ) → Agree k m id → pool_check m id ≡ None
  known_too id g = let a = g 1 in ap (λ o. if is_some o then None else Some PoolType) a.3

  entry_too : (e : EntryAt) → Agree k m e.class → IsEntryIn c k e → IsEntryIn c m e
  entry_too e g s = record {
    value = s.value;
    known = known_too e.class g;
    key = s.key;
    order = s.order;
    within = s.within;
    exact = subst (λ (f : Format Value). Exactly f (slice_range c e.value_at e.end) s.value) (value_agree k m (inline e.class) g) s.exact;
  }

  abbrev AgreeEach : List EntryAt → Type 0
  AgreeEach es = AllByRecursion (λ e. Agree k m e.class) es

  entries_too : (class : ℕ) (es : List EntryAt) → AgreeEach es → AllByRecursion (λ e. IsEntryIn c k e × (e.class ≡ class)) es → AllByRecursion (λ e. IsEntryIn c m e × (e.class ≡ class)) es
  entries_too class [] g s = tt
  entries_too class (e ∷ es) g s = ((entry_too e g.0 s.0.0, s.0.1), entries_too class es g.1 s.1)

  group_too : (g : written_specs.Group) → NotEmpty g.entries → AgreeEach g.entries → IsGroupIn c k g → IsGroupIn c m g
  group_too g n a s = (by_first g.entries n a s.1, entries_too g.class g.entries a s.1)
    where
      by_first : (es : List EntryAt) → NotEmpty es → AgreeEach es → AllByRecursion (λ e. IsEntryIn c k e × (e.class ≡ g.class)) es → pool_check m g.class ≡ None
      by_first [] n a s = absurd n
      by_first (e ∷ es) n a s = subst (λ z. pool_check m z ≡ None) s.0.1 (known_too e.class a.0)

  groups_agree : (es : List EntryAt) → AgreeEach es → AllByRecursion (λ g. AgreeEach g.entries) (by_pool es)
  groups_agree [] a = tt
  groups_agree (e ∷ es) a = added (by_pool es) (groups_agree es a.1)
    where
      by_test : (g : written_specs.Group) (gs : List written_specs.Group) (t : Bool) → AgreeEach g.entries → AllByRecursion (λ g. AgreeEach g.entries) gs
          → AllByRecursion (λ g. AgreeEach g.entries) (if t then record { class = g.class; pool = g.pool; entries = e ∷ g.entries } ∷ gs else record { class = e.class; pool = e.pool; entries = e ∷ [] } ∷ (g ∷ gs))
      by_test g gs true b d = ((a.0, b), d)
      by_test g gs false b d = ((a.0, tt), (b, d))

      added : (gs : List written_specs.Group) → AllByRecursion (λ g. AgreeEach g.entries) gs → AllByRecursion (λ g. AgreeEach g.entries) (add_entry e gs)
      added [] b = ((a.0, tt), tt)
      added (g ∷ gs) b = by_test g gs ((e.pool == g.pool) && (e.class == g.class)) b.0 b.1

  groups_too : (gs : List written_specs.Group) → AllByRecursion (λ g. NotEmpty g.entries) gs → AllByRecursion (λ g. AgreeEach g.entries) gs → AllByRecursion (IsGroupIn c k) gs
      → AllByRecursion (IsGroupIn c m) gs
  groups_too [] n a s = tt
  groups_too (g ∷ gs) n a s = (group_too g n.0 a.0 s.0, groups_too gs n.1 a.1 s.1)

  filter_agree : (test : EntryAt → Bool) (es : List EntryAt) → AgreeEach es → AgreeEach (filter test es)
  filter_agree test [] a = tt
  filter_agree test (e ∷ es) a = by_test (test e) (filter_agree test es a.1)
    where
      by_test : (t : Bool) → AgreeEach (filter test es) → AgreeEach (if t then e ∷ filter test es else filter test es)
      by_test true i = (a.0, i)
      by_test false i = i

  pub records_too : (remaining : List EntryAt) → AgreeEach remaining → (ss : List OutputRecord) → AllByRecursion (IsOutputRecordIn c remaining k) ss
      → AllByRecursion (IsOutputRecordIn c remaining m) ss
  records_too remaining a [] s = tt
  records_too remaining a (Whole r ∷ ss) s = (s.0, records_too remaining a ss s.1)
  records_too remaining a (Rebuilt r x ∷ ss) s = (s.0, records_too remaining a ss s.1)
  records_too remaining a (Chained i l ∷ ss) s =
      let these : List EntryAt = filter (λ e. e.checkpoint == i) remaining in
      ((s.0.0, groups_too (by_pool these) (some_each these) (groups_agree these (filter_agree (λ e. e.checkpoint == i) remaining a)) s.0.1, s.0.2), records_too remaining a ss s.1)
