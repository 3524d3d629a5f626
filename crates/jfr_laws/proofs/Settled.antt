-- A filter keeps all events of what it leaves.
use Rattle.std.specs.Prelude.{◌≡◌, ◌&&◌, ◌||◌, ℕ, ℤ, pos, not, Option, Some, None, option_and_then, if◌then◌else◌, codes, true, false, List, [], ◌∷◌, length, map, replicate}
use Rattle.std.specs.List.{AllByRecursion}
use Rattle.std.specs.Option.{option_map_or}
use Rattle.std.proofs.Common.{ap, refl, sym, ◌∙◌, subst, inl, inr}
use Rattle.jfr_header.specs.Fronts.{Whole}
use Rattle.jfr_filter.specs.Filters.{Given, describes, has_window, is_always, keeps}
use Rattle.jfr_layout.specs.Classes.{Class, Agree, find_class, kind_of}
use Rattle.jfr_layout.specs.declared.shape.Shape.{Shape}
use Rattle.jfr_value.specs.Values.{shape_of}
use Rattle.jfr_chunk.specs.Laws.{SameRecord, SameRecords}
use Rattle.jfr_laws.proofs.Anews.{left_found}
use Rattle.jfr_chunk.specs.Parts.{Parts, EventAt, events_of, AreParts}
use Rattle.jfr_chunk.specs.Reach.{marked}
use Rattle.jfr_chunk.specs.Chosen.{java_names, system_names, or_else, thread_text, is_chosen, chosen, kept_of}
use Rattle.jfr_chunk.specs.Scrub.{scrub_of}
use Rattle.jfr_chunk.specs.Meaning.{SameEvent, SameMeaning}
use Rattle.jfr_worklist.specs.Members.{In}
use Rattle.jfr_chunk.proofs.HasNodesLaws.{IsEvent, has_nodes, event_is}
use Rattle.jfr_laws.specs.Laws.{IsKept, IsSettled}
use Rattle.jfr_laws.proofs.Marks.{all_of_them, marked_pass}
use Rattle.jfr_laws.proofs.Same.{chosen_events, event_of_chunk}
use Rattle.jfr_laws.proofs.SameTexts.{Twins, field_same, classed, texts_same}
use Rattle.jfr_chunk.specs.Windows.{clock_of, long_by, long_of, number_of, or_zero, is_in}
use Rattle.jfr_laws.proofs.Clocks.{clock_kept}
use Rattle.jfr_value.specs.Nodes.{NodeAt, Both, node_bytes}
use Rattle.jfr_value.specs.Laws.{SameNode}
use Rattle.jfr_chunk.specs.Paths.{named_field}
use Rattle.jfr_laws.proofs.Scrubbed.{scrubbed_kept}

module _ (p q : Parts) (a : AreParts p) (b : AreParts q) where
  abbrev T : NodeAt → NodeAt → Type 0
  T = Twins p q (has_nodes p a) (has_nodes q b)

  abbrev by_class : Shape → List ℕ → Option Class → Option ℤ
  by_class z bytes o = if z.array then None else if z.constant then None else option_and_then (λ c. long_by (kind_of c.name) bytes) o

  by_name : (z : Shape) (bytes : List ℕ) (c d : Class) → c.name ≡ d.name → by_class z bytes (Some c) ≡ by_class z bytes (Some d)
  by_name z bytes c d e = λ i. if z.array then None else if z.constant then None else long_by (kind_of (e i)) bytes

  -- Equal nodes have equal numbers.
  long_same : (n m : NodeAt) → T n m → long_of p n ≡ long_of q m
  long_same n m x =
      let h : SameNode p.bytes q.bytes n m = x.paths [] in
      let c = classed p q (has_nodes p a) (has_nodes q b) n m x in
      (λ i. by_class n.shape (h.bytes i) (c.found i))
      ∙ ((λ i. by_class (h.shape i) (node_bytes q.bytes m) (Some c.class))
      ∙ (by_name m.shape (node_bytes q.bytes m) c.class c.other_class c.name
      ∙ (λ i. by_class m.shape (node_bytes q.bytes m) (sym c.found_too i))))

  number_same : (name : List ℕ) (e f : EventAt) → T e.node f.node → number_of p name e ≡ number_of q name f
  number_same name e f x = by_nodes (named_field p name e.node) (named_field q name f.node) (field_same p q (has_nodes p a) (has_nodes q b) name e.node f.node x)
    where
      by_nodes : (n m : Option NodeAt) → Both T n m → option_and_then (long_of p) n ≡ option_and_then (long_of q) m
      by_nodes None None y = refl
      by_nodes None (Some m) y = absurd y
      by_nodes (Some n) None y = absurd y
      by_nodes (Some n) (Some m) y = long_same n m y

module _ (g : Given) (p q : Parts) (a : AreParts p) (b : AreParts q) (clock : clock_of p.bytes ≡ clock_of q.bytes) (kept : List EventAt) (found : (e : EventAt) → In kept e → find_class q.classes e.record_of.type_id ≡ find_class p.classes e.record_of.type_id) where
  -- Events that mean the same have the same answer.
  same_answer : (e f : EventAt) → In kept e → IsEvent p e → IsEvent q f → SameRecord p q e f → SameEvent p q e f → is_chosen g p e ≡ is_chosen g q f
  same_answer e f k i j r h =
      let agree : Agree p.classes q.classes (shape_of i.value).class = subst (Agree p.classes q.classes) (ap (λ (y : Shape). y.class) (sym i.shape ∙ i.node.shape)) r.agree in
      let twins : Twins p q (has_nodes p a) (has_nodes q b) e.node f.node = record { value = i.value; left = i.node; other = j.value; right = j.node; paths = h.paths; agree = agree } in
      let text : thread_text p e ≡ thread_text q f =
      λ z. or_else (texts_same p q (has_nodes p a) (has_nodes q b) java_names e.node f.node twins z) (texts_same p q (has_nodes p a) (has_nodes q b) system_names e.node f.node twins z) in
      let class : find_class p.classes e.record_of.type_id ≡ find_class q.classes f.record_of.type_id = sym (found e k) ∙ ap (find_class q.classes) h.class in
      let number = λ (name : List ℕ). number_same p q a b name e f twins in
      λ z. option_map_or (λ c. keeps g c.name c.categories (text z)) (class z) false
      && (not (has_window g) || (option_map_or (λ c. is_always g c.name) (class z) false || option_map_or (λ t. is_in g (clock z) t (option_map_or or_zero (number (codes "duration") z) (pos 0)))
      (number (codes "startTime") z) false))

  -- Where the first ones are kept, so are the others.
  all_kept : (es fs : List EventAt) → ((e : EventAt) → In es e → In kept e) → ((e : EventAt) → In es e → IsEvent p e) → ((f : EventAt) → In fs f → IsEvent q f) → SameRecords p q es fs
      → SameMeaning p q es fs → AllByRecursion (λ e. is_chosen g p e ≡ true) es
      → map (is_chosen g q) fs ≡ replicate (length fs) true
  all_kept [] [] k i j r m c = refl
  all_kept [] (f ∷ fs) k i j r m c = absurd m
  all_kept (e ∷ es) [] k i j r m c = absurd m
  all_kept (e ∷ es) (f ∷ fs) k i j r m c =
      let here : is_chosen g q f ≡ true = sym (same_answer e f (k e (inl refl)) (i e (inl refl)) (j f (inl refl)) r.0 m.0) ∙ c.0 in
      ap (λ t. t ∷ map (is_chosen g q) fs) here ∙ ap (λ z. true ∷ z) (all_kept es fs (λ e l. k e (inr l)) (λ e l. i e (inr l)) (λ f l. j f (inr l)) r.1 m.1 c.1)

  all_chosen : kept ≡ kept_of g p → SameRecords p q (kept_of g p) (events_of q) → SameMeaning p q (kept_of g p) (events_of q) → chosen g q ≡ replicate (length (events_of q)) true
  all_chosen e r m =
      all_kept (kept_of g p) (events_of q) (λ x i. subst (λ z. In z x) (sym e) i) (event_of_chunk p a (kept_of g p) (chosen_events p (chosen g p))) (event_is q b) r m
      (marked_pass (is_chosen g p) (events_of p))

-- Where a filter keeps all events, these are what it keeps.
pub keeps_all : (g : Given) (p : Parts) → chosen g p ≡ replicate (length (events_of p)) true → kept_of g p ≡ events_of p
keeps_all g p e = ap (λ flags. marked flags (events_of p)) e ∙ all_of_them (events_of p)

-- Where a chunk stays as it is with all its events, so it does with a filter that keeps all of them.
pub again_same : (g : Given) (p : Parts) → chosen g p ≡ replicate (length (events_of p)) true → scrub_of (describes g) p (events_of p) ≡ p.bytes → scrub_of (describes g) p (kept_of g p) ≡ p.bytes
again_same g p all e = ap (scrub_of (describes g) p) (keeps_all g p all) ∙ e

pub settled : (g : Given) (p : Parts) → Whole p.bytes → AreParts p → IsSettled g p
settled g p whole a =
    let k : IsKept (describes g) p (kept_of g p) = scrubbed_kept (describes g) p a (chosen g p) whole in
    let found = λ (e : EventAt) (i : In (kept_of g p) e). ap (λ m. find_class m e.record_of.type_id) k.classes ∙ left_found (describes g) p a (kept_of g p) (chosen_events p (chosen g p)) e i in
    let clock : clock_of p.bytes ≡ clock_of k.parts.bytes = sym (ap clock_of k.bytes ∙ clock_kept (describes g) p (kept_of g p)) in
    let all : chosen g k.parts ≡ replicate (length (events_of k.parts)) true = all_chosen g p k.parts a k.valid clock (kept_of g p) found refl k.events k.meaning in
    record { kept = k; all = all; again = again_same g k.parts all k.again }
