-- The visit of the event prelude: two integers, which are passed at once, and two references.
use Rattle.std.specs.Prelude.{◌≡◌, ℕ, ◌+◌, ◌≤◌, List, [], ◌∷◌, ◌++◌, length, get_or, Some, Option, Ok, true, false}
use Rattle.std.specs.List.{AllByRecursion}
use Rattle.std.proofs.Common.{ap, arith, refl, subst, sym, ◌∙◌}
use Rattle.jfr_base.specs.Formats.{end_or_flaw, integer, run, times}
use Rattle.jfr_layout.specs.Classes.{Classes, IsFieldLayout}
use Rattle.jfr_layout.specs.Fused.{IsEventPrelude}
use Rattle.jfr_layout.specs.declared.field_layout.FieldLayout.{FieldLayout}
use Rattle.jfr_layout.specs.declared.form.Form.TheVariants as forms
use Rattle.jfr_layout.specs.declared.shape.Shape.{Shape}
use Rattle.jfr_value.specs.declared.leaf.Holder.{Holder}
use Rattle.jfr_value.specs.Leaves.{LeafAt}
use Rattle.jfr_value.specs.Visits.{AreToVisit, IsNumber, Visits, shapes_of_layouts}
use Rattle.jfr_value.specs.Walks.{fields_from}
use Rattle.jfr_value.proofs.FormLaws.{key_there}
use Rattle.jfr_value.proofs.FusedLaws.{all_integers, integers_seen}
use Rattle.jfr_value.proofs.LayoutLaws.{no_layout}
use Rattle.jfr_value.proofs.LeafVisitLaws.{front_to_visit, next_to_visit, visits_front, visits_next}
use Rattle.jfr_value.proofs.NumberLaws.{numbers_visited}

module _ (k : Classes) (layouts : List FieldLayout) (thread trace : ℕ) (p : IsEventPrelude thread trace layouts) where
  pub prelude_count : length layouts ≡ 4
  prelude_count = ap length p.all

  pub thread_layout : get_or layouts 2 no_layout ≡ p.threads
  thread_layout = ap (λ ss. get_or ss 2 no_layout) p.all

  pub trace_layout : get_or layouts 3 no_layout ≡ p.traces
  trace_layout = ap (λ ss. get_or ss 3 no_layout) p.all

  -- Both references are keys.
  module _ (each : AllByRecursion (IsFieldLayout k) layouts) where
    all_four : AllByRecursion (IsFieldLayout k) (p.start ∷ p.duration ∷ p.threads ∷ p.traces ∷ [])
    all_four = subst (AllByRecursion (IsFieldLayout k)) p.all each

    pub thread_is_key : (p.threads.shape.array ≡ false) × (p.threads.shape.constant ≡ true)
    thread_is_key = key_there p.threads all_four.1.1.0.form p.thread_is.0

    pub trace_is_key : (p.traces.shape.array ≡ false) × (p.traces.shape.constant ≡ true)
    trace_is_key = key_there p.traces all_four.1.1.1.0.form p.trace_is.0

  module _ {A : Type 0} (takes : LeafAt → A → A → Type 0) (admits : LeafAt → Type 0) (c : List ℕ) (end class number at before : ℕ) (old : A) where
    abbrev pub holder : ℕ → Option Holder
    holder field = Some (record { class = class; field = number + field })

    abbrev pub holders : List (Option Holder)
    holders = fields_from class number (shapes_of_layouts layouts)

    abbrev pub shapes : List Shape
    shapes = shapes_of_layouts layouts

    all_shapes : shapes ≡ p.start.shape ∷ p.duration.shape ∷ p.threads.shape ∷ p.traces.shape ∷ []
    all_shapes = ap shapes_of_layouts p.all

    all_holders : holders ≡ fields_from class number (p.start.shape ∷ p.duration.shape ∷ []) ++ holder 2 ∷ holder 3 ∷ []
    all_holders =
        let e : number + 1 + 1 ≡ number + 2 = omega arith in
        let f : number + 1 + 1 + 1 ≡ number + 3 = omega arith in
        ap (fields_from class number) all_shapes
        ∙ (ap (λ n. Some (record { class = class; field = number }) ∷ Some (record { class = class; field = number + 1 }) ∷ Some (record { class = class; field = n }) ∷ Some
        (record { class = class; field = number + 1 + 1 + 1 }) ∷ []) e
        ∙ ap (λ n. Some (record { class = class; field = number }) ∷ Some (record { class = class; field = number + 1 }) ∷ holder 2 ∷ Some (record { class = class; field = n }) ∷ []) f)

    -- The integers end at `times`, and leave the visitor as it is.
    module _ (ready : A → ℕ → Type 0)
        (same : (leaf : LeafAt) (visitor : A) → IsNumber leaf → admits leaf → ready visitor leaf.at → takes leaf visitor visitor)
        (later : (visitor : A) (at to : ℕ) → ready visitor at → at ≤ to → ready visitor to)
        (is_ready : ready old at) (all_to_visit : AreToVisit admits k c end holders shapes at) (each : AllByRecursion (IsFieldLayout k) layouts)
        (to : ℕ) (ends : Ok to ≡ end_or_flaw (run (times 2 integer) c end at)) where
      times_visited : Visits takes k c end holders shapes at old before (holder 2 ∷ holder 3 ∷ []) (p.threads.shape ∷ p.traces.shape ∷ []) to old (before + 2)
      times_visited =
          let all = all_four each in
          let two : List FieldLayout = p.start ∷ p.duration ∷ [] in
          let both : AllByRecursion (IsFieldLayout k) two = (all.0, (all.1.0, tt)) in
          let integers : AllByRecursion (λ s. s.form ≡ forms.Integer) two = (p.start_is, (p.duration_is, tt)) in
          let gs = fields_from class number (shapes_of_layouts two) in
          let hs = holder 2 ∷ holder 3 ∷ [] in
          let ts = p.threads.shape ∷ p.traces.shape ∷ [] in
          let there : AreToVisit admits k c end (gs ++ hs) (shapes_of_layouts two ++ ts) at =
          subst (λ z. AreToVisit admits k c end z (shapes_of_layouts two ++ ts) at) all_holders (subst (λ z. AreToVisit admits k c end holders z at) all_shapes all_to_visit) in
          subst (λ z. Visits takes k c end z shapes at old before hs ts to old (before + 2)) (sym all_holders)
          (subst (λ z. Visits takes k c end (gs ++ hs) z at old before hs ts to old (before + 2)) (sym all_shapes)
          (visits_front takes k c end gs hs (shapes_of_layouts two) ts at to before (before + 2) old old
          (numbers_visited takes admits ready k 0 c end same later two class number at to before old both (all_integers two integers) (ends ∙ integers_seen k 0 c end 2 two at both (refl, integers))
          (front_to_visit admits k c end gs hs (shapes_of_layouts two) ts at there) is_ready)))

      pub thread_to_visit : AreToVisit admits k c end (holder 2 ∷ []) ((get_or layouts 2 no_layout).shape ∷ []) to
      thread_to_visit =
          subst (λ (s : FieldLayout). AreToVisit admits k c end (holder 2 ∷ []) (s.shape ∷ []) to) (sym thread_layout)
          (next_to_visit takes k c end admits holders (holder 2 ∷ holder 3 ∷ []) (holder 3 ∷ []) shapes (p.threads.shape ∷ p.traces.shape ∷ []) (p.traces.shape ∷ [])
          (holder 2) p.threads.shape at to before (before + 2) old old refl refl times_visited all_to_visit)

      module _ (threads after : ℕ) (new : A) (w : Visits takes k c end (holder 2 ∷ []) ((get_or layouts 2 no_layout).shape ∷ []) to old (before + 2) [] [] threads new after) where
        thread_visited : Visits takes k c end holders shapes at old before (holder 3 ∷ []) (p.traces.shape ∷ []) threads new after
        thread_visited =
            visits_next takes k c end holders (holder 2 ∷ holder 3 ∷ []) (holder 3 ∷ []) shapes (p.threads.shape ∷ p.traces.shape ∷ []) (p.traces.shape ∷ [])
            (holder 2) p.threads.shape at to threads before (before + 2) after old old new refl refl times_visited
            (subst (λ (s : FieldLayout). Visits takes k c end (holder 2 ∷ []) (s.shape ∷ []) to old (before + 2) [] [] threads new after) thread_layout w)

        pub trace_to_visit : AreToVisit admits k c end (holder 3 ∷ []) ((get_or layouts 3 no_layout).shape ∷ []) threads
        trace_to_visit =
            subst (λ (s : FieldLayout). AreToVisit admits k c end (holder 3 ∷ []) (s.shape ∷ []) threads) (sym trace_layout)
            (next_to_visit takes k c end admits holders (holder 3 ∷ []) [] shapes (p.traces.shape ∷ []) []
            (holder 3) p.traces.shape at threads before after old new refl refl thread_visited all_to_visit)

        pub prelude_visited : (traces last : ℕ) (newest : A) → Visits takes k c end (holder 3 ∷ []) ((get_or layouts 3 no_layout).shape ∷ []) threads new after [] [] traces newest last
            → Visits takes k c end holders shapes at old before [] [] traces newest last
        prelude_visited traces last newest v =
            visits_next takes k c end holders (holder 3 ∷ []) [] shapes (p.traces.shape ∷ []) [] (holder 3) p.traces.shape at threads traces before after last old new newest refl refl thread_visited
            (subst (λ (s : FieldLayout). Visits takes k c end (holder 3 ∷ []) (s.shape ∷ []) threads new after [] [] traces newest last) trace_layout v)
