-- Events with changed fields mean the same, but for the changes, on paths that go no further where Follow stops.
use Rattle.std.specs.Prelude.{◌≡◌, ℕ, List, [], ◌++◌, Option, Some, None}
use Rattle.std.specs.Option.{option_map_or}
use Rattle.std.proofs.Common.{ap, refl, sym, ◌∙◌, subst}
use Rattle.jfr_base.specs.Formats.{Exactly, Format}
use Rattle.jfr_base.proofs.OnceLaws.{exact_once}
use Rattle.jfr_layout.specs.Classes.{Sound, Agree}
use Rattle.jfr_layout.specs.declared.shape.Shape.{Shape}
use Rattle.jfr_value.specs.declared.node.Step.{Step}
use Rattle.jfr_value.specs.Values.{Value, shape_of, bytes_of}
use Rattle.jfr_value.specs.Reading.{value_format}
use Rattle.jfr_value.specs.Nodes.{NodeAt, IsNode, Both, node_bytes}
use Rattle.jfr_value.proofs.AgreeLaws.{value_agree}
use Rattle.jfr_value.proofs.DepthLaws.{fits_good}
use Rattle.jfr_value.proofs.NodeLaws.{value_is}
use Rattle.jfr_pool.specs.declared.entry.EntryAt.{EntryAt}
use Rattle.jfr_pool.specs.Entries.{in_force, entry_node, inline}
use Rattle.jfr_worklist.specs.Members.{In}
use Rattle.jfr_worklist.proofs.Members.{in_contains}
use Rattle.jfr_chunk.specs.Laws.{AreEvents}
use Rattle.jfr_chunk.specs.Parts.{Parts, EventAt, AreParts}
use Rattle.jfr_chunk.specs.Paths.{leads}
use Rattle.jfr_chunk.proofs.HasNodesLaws.{has_nodes}
use Rattle.jfr_laws.proofs.Same.{event_of_chunk}
use Rattle.jfr_rewrite.specs.Changed.{Change, KeepsFit, changed}
use Rattle.jfr_rewrite.specs.Rewrite.{changed_bytes}
use Rattle.jfr_rewrite.specs.Rewritten.{OneToOne, HasChangedValue, IsChangedEvent}
use Rattle.jfr_rewrite.specs.Paths.{MeansChanged, MeetsChanged, Retargets, Stops, leads_but, root}
use Rattle.jfr_rewrite.proofs.ChangeLaws.{changed_fits, changed_shape}
use Rattle.jfr_rewrite.proofs.OneToOneLaws.{each_to}
use Rattle.jfr_rewrite.proofs.PathLaws.{Paired, PairedEntries, paths_paired, paired_leaves}

-- Two values that are read exactly from equal bytes are equal.
read_once : (f : Format Value) (v w : Value) → Exactly f (bytes_of v) v → Exactly f (bytes_of w) w → bytes_of v ≡ bytes_of w → v ≡ w
read_once f v w d e b = (exact_once f (bytes_of v) (bytes_of w) [] [] v w d e (ap (λ z. z ++ []) b)).value

both_to : {A B : Type 0} {R S : A → B → Type 0} → ((a : A) (b : B) → R a b → S a b) → (x : Option A) (y : Option B) → Both R x y → Both S x y
both_to f None None r = tt
both_to f (Some a) (Some b) r = f a b r
both_to f None (Some b) r = absurd r
both_to f (Some a) None r = absurd r

module _ (ch : Change) (key : ℕ × ℕ → ℕ) (stops : Stops) (p q : Parts) (kept others : List EventAt) (a : AreParts p) (b : AreParts q) (are : AreEvents p kept) (are_too : AreEvents q others) (keeps : KeepsFit p.classes ch)
    (targets : Retargets p.classes ch stops key) (met : MeetsChanged ch key stops p q kept) where
  sound : Sound p.classes
  sound = (has_nodes p a).sound

  also : Sound q.classes
  also = (has_nodes q b).sound

  -- A node whose bytes are the changed ones is paired.
  changed_paired : (n o : NodeAt) (v x : Value) → Agree p.classes q.classes n.shape.class → IsNode p.classes p.bytes n v → IsNode q.classes q.bytes o x → n.shape ≡ o.shape
      → changed_bytes ch p.classes p.bytes n ≡ node_bytes q.bytes o
      → Paired p q ch (root n) o
  changed_paired n o v x g i j s e =
      let y : Value = changed ch None v in
      let c : changed_bytes ch p.classes p.bytes n ≡ bytes_of y = ap (λ z. option_map_or (λ v. bytes_of (changed ch None v)) z []) (value_is p.classes p.bytes n v sound i) in
      let shaped : n.shape ≡ shape_of y = i.shape ∙ sym (changed_shape ch None v) in
      let same : shape_of x ≡ shape_of y = sym j.shape ∙ (sym s ∙ shaped) in
      let first : Exactly (value_format p.classes (shape_of y)) (bytes_of y) y = fits_good p.classes y sound (changed_fits ch p.classes keeps None v i.fits) in
      let agreed : Agree p.classes q.classes (shape_of y).class = subst (λ (z : Shape). Agree p.classes q.classes z.class) shaped g in
      let second : Exactly (value_format q.classes (shape_of y)) (bytes_of y) y = subst (λ (f : Format Value). Exactly f (bytes_of y) y) (value_agree p.classes q.classes (shape_of y) agreed) first in
      let there : Exactly (value_format q.classes (shape_of y)) (bytes_of x) x = subst (λ z. Exactly (value_format q.classes z) (bytes_of x) x) same (fits_good q.classes x also j.fits) in
      let z : x ≡ y = read_once (value_format q.classes (shape_of y)) x y there second (sym j.bytes ∙ (sym e ∙ c)) in
      record { value = v; before = i; now = subst (IsNode q.classes q.bytes o) z j }

  -- The entries in force of all that is met are paired.
  entries_paired : (t : ℕ × ℕ) → Both (HasChangedValue ch p q) (in_force p.entries t) (in_force q.entries (t.0, key t)) → PairedEntries p q ch key t
  entries_paired t c = by_entries (in_force p.entries t) refl (in_force q.entries (t.0, key t)) refl c
    where
      R : EntryAt → EntryAt → Type 0
      R e f = Paired p q ch (root (entry_node e)) (entry_node f)

      by_entries : (x : Option EntryAt) → in_force p.entries t ≡ x → (y : Option EntryAt) → in_force q.entries (t.0, key t) ≡ y → Both (HasChangedValue ch p q) x y → Both R x y
      by_entries None e None f c = tt
      by_entries None e (Some d) f c = absurd c
      by_entries (Some d) e None f c = absurd c
      by_entries (Some d) e (Some g) f c =
          let v = (has_nodes p a).entries t d e in
          let x = (has_nodes q b).entries (t.0, key t) g f in
          changed_paired (entry_node d) (entry_node g) v.0 x.0 c.agree v.1 x.1 (ap inline c.class) c.value

  event_paired : (e f : EventAt) → In kept e → In others f → IsChangedEvent ch p q e f → Paired p q ch (root e.node) f.node
  event_paired e f i j c =
      let v = event_of_chunk p a kept are e i in
      let x = event_of_chunk q b others are_too f j in
      let u : Agree p.classes q.classes e.node.shape.class = subst (λ (z : Shape). Agree p.classes q.classes z.class) (sym v.shape) c.agree in
      changed_paired e.node f.node v.value x.value u v.node x.node (v.shape ∙ (ap inline c.class ∙ sym x.shape)) c.fields

  pub event_leads : (e f : EventAt) → In kept e → In others f → IsChangedEvent ch p q e f → (path : List Step) → Both (Paired p q ch) (leads_but stops p (root e.node) path) (leads q f.node path)
  event_leads e f i j c path =
      paths_paired p q ch sound also stops key targets path (root e.node) f.node (event_paired e f i j c)
      (λ way m t l r. entries_paired t (met t (record { event = e; is_kept = in_contains kept e i; path = way; node = m; leads_there = l; refers = r })))

  one_means : (e f : EventAt) → In kept e → In others f → IsChangedEvent ch p q e f → MeansChanged ch stops p q e f
  one_means e f i j c = record {
    class = c.class;
    rest = c.rest;
    paths = λ path. both_to (λ m k r. paired_leaves p q ch sound also stops key targets m k r) (leads_but stops p (root e.node) path) (leads q f.node path) (event_leads e f i j c path);
  }

  pub means_changed : OneToOne (IsChangedEvent ch p q) kept others → OneToOne (MeansChanged ch stops p q) kept others
  means_changed c = each_to kept others one_means c
