-- A receipt shows that each entry of the output is reached, so its entries are copies of those that remain.
use Rattle.std.specs.Prelude.{◌≡◌, ℕ, ◌<◌, Bool, List, [], ◌∷◌, length, map, slice_get, Some, Contains}
use Rattle.std.specs.Option.{option_map_or}
use Rattle.std.proofs.Common.{ap, arith, refl, sym, ◌∙◌, subst, inl, inr}
use Rattle.std.proofs.lemmas.Option.{slice_get_within}
use Rattle.std.proofs.lemmas.List.Elements.{All-contains, All-contains_itself}
use Rattle.jfr_layout.specs.Classes.{Agree}
use Rattle.jfr_value.specs.Values.{Value}
use Rattle.jfr_value.specs.Nodes.{NodeAt, IsNode, targets}
use Rattle.jfr_value.specs.Laws.{SameNode}
use Rattle.jfr_value.proofs.ByteLaws.{node_agree}
use Rattle.jfr_value.proofs.TargetLaws.{targets_are}
use Rattle.jfr_pool.specs.declared.entry.EntryAt.{EntryAt}
use Rattle.jfr_pool.specs.Entries.{number_in_force, inline, entry_node, IsInForce}
use Rattle.jfr_chunk.specs.Parts.{Parts, EventAt, events_of, AreParts}
use Rattle.jfr_worklist.specs.Marks.{IsMarked}
use Rattle.jfr_chunk.specs.Reach.{Reached, reached_marks, marked, kept_by, remain, roots, next_entries, all_targets, nodes_of}
use Rattle.jfr_chunk.specs.Meaning.{SameMeaning}
use Rattle.jfr_chunk.specs.Laws.{SameRecords, SameOnPaths}
use Rattle.jfr_worklist.specs.Members.{In}
use Rattle.jfr_worklist.proofs.Members.{contains_in, in_contains, in_left, in_right, get_in, those_in}
use Rattle.jfr_chunk.proofs.PathLaws.{HasNodes}
use Rattle.jfr_chunk.proofs.HasNodesLaws.{has_nodes, event_is}
use Rattle.jfr_pool.proofs.ForceLaws.{Forced, forced}
use Rattle.jfr_chunk.proofs.MeaningLaws.{same_meaning}
use Rattle.jfr_chunk.proofs.ReachedLaws.{path_reach, reach_path, reached_marked}
use Rattle.jfr_worklist.proofs.SweepLaws.{Reach, root, more}
use Rattle.jfr_laws.specs.Laws.{AreCopied, IsCopied}
use Rattle.jfr_laws.proofs.Marks.{rank, rank_get, Ranked, ranked}
use Rattle.jfr_laws.proofs.Entries.{copied_get, copied_force, marked_force, in_force_same}
use Rattle.jfr_laws.proofs.Same.{chosen_events, event_of_chunk}
use Rattle.jfr_verify.specs.declared.line.Parent.{Parent}
use Rattle.jfr_verify.specs.declared.line.Line.{Line}
use Rattle.jfr_verify.specs.declared.line.Parent.TheVariants.{OfEvent, OfEntry}
use Rattle.jfr_verify.specs.Receipts.{IsParent, IsValidLine, AreValidLines}
use Rattle.jfr_verify.specs.Laws.{Passes, IsVerified}
use Rattle.jfr_verify.proofs.CopyLaws.{beside_right, copied_length}
use Rattle.jfr_verify.proofs.AgreeLaws.{agree_on_node}
use Rattle.jfr_verify.proofs.RecordLaws.{contents_same, event_before}
use Rattle.jfr_verify.proofs.RankLaws.{rank_once, rank_within, marked_same}

-- What one of the events refers to, the events refer to.
event_in : (p : Parts) (es : List EventAt) (e : EventAt) (t : ℕ × ℕ) → In es e → In (targets p.classes p.bytes e.node) t → In (all_targets p (nodes_of es)) t
event_in p [] e t i j = absurd i
event_in p (f ∷ es) e t (inl q) j = in_left (targets p.classes p.bytes f.node) (all_targets p (nodes_of es)) t (subst (λ (z : EventAt). In (targets p.classes p.bytes z.node) t) (sym q) j)
event_in p (f ∷ es) e t (inr i) j = in_right (targets p.classes p.bytes f.node) (all_targets p (nodes_of es)) t (event_in p es e t i j)

module _ (p q : Parts) (a : AreParts p) (b : AreParts q) (flags : List Bool) (receipt : List ℕ) (h : Passes p q (kept_by p flags) receipt) where
  abbrev kept : List EventAt
  kept = kept_by p flags

  abbrev s : HasNodes p
  s = has_nodes p a

  abbrev r : HasNodes q
  r = has_nodes q b

  abbrev marks : List Bool
  marks = h.marks

  pub kept_node : (e : EventAt) → In kept e → (v : Value) × IsNode p.classes p.bytes e.node v
  kept_node e i = let v = event_of_chunk p a kept (chosen_events p flags) e i in (v.value, v.node)

  -- What is reached is marked.
  closed_marks : {i : ℕ} → Reach (next_entries p) (roots p kept) i → IsMarked marks i
  closed_marks {i} (root k) = All-contains (IsMarked marks) (roots p kept) i h.closed.events (in_contains (roots p kept) i k)
  closed_marks {i} (more {j = j} k l) = All-contains (IsMarked marks) (next_entries p j) i (h.closed.entries j (closed_marks k)) (in_contains (next_entries p j) i l)

  reached_is_marked : (i : ℕ) → Reached p kept i → IsMarked marks i
  reached_is_marked i k = closed_marks (path_reach p s kept kept_node i k)

  -- So what paths meet is the same in both chunks.
  same_on_paths : SameOnPaths p q kept
  same_on_paths e path n key i l t = in_force_same p q marks key h.among.copied
      (λ number f. reached_is_marked number (record { event = e; is_kept = i; path = path; node = n; leads_there = l; key = key; refers = t; in_force = f }))

  pub output_event : (f : EventAt) → In (events_of q) f → Agree p.classes q.classes f.record_of.type_id
  output_event f i = let v = event_is q b f i in agree_on_node p.classes q.classes s.sound r.sound h.classes q.bytes f.record_of.type_id f.node v.value v.shape v.node

  records : SameRecords p q kept (events_of q)
  records = contents_same p q kept (events_of q) output_event h.events

  pub meaning : SameMeaning p q kept (events_of q)
  meaning = same_meaning p q a b kept (events_of q) (chosen_events p flags) (All-contains_itself (events_of q)) records same_on_paths

  -- Nodes of equal shape and bytes refer to the same.
  pub targets_same : (n o : NodeAt) (v w : Value) → IsNode p.classes p.bytes n v → IsNode q.classes q.bytes o w → SameNode p.bytes q.bytes n o → Agree p.classes q.classes n.shape.class
      → targets p.classes p.bytes n ≡ targets q.classes q.bytes o
  targets_same n o v w i j e g =
      let k : IsNode q.classes q.bytes o v = node_agree p.classes q.classes p.bytes q.bytes n o v i e.shape e.bytes j.order j.within g in
      targets_are p.classes s.sound p.bytes n v i ∙ sym (targets_are q.classes r.sound q.bytes o v k)

  -- A marked entry of the input, and its copy.
  pub record Copy (number : ℕ) (f : EntryAt) : Type 0 where
    pub place : ℕ
    pub entry : EntryAt
    pub holds : slice_get p.entries place ≡ Some entry
    pub is_marked : IsMarked marks place
    pub number_is : rank marks place ≡ number
    pub copied : IsCopied p q entry f
    pub force : number_in_force p.entries (entry.class, entry.key) ≡ Some place
    pub copy_force : number_in_force q.entries (entry.class, entry.key) ≡ Some number

  pub copy_of : (number : ℕ) (f : EntryAt) → slice_get q.entries number ≡ Some f → Copy number f
  copy_of number f e =
      let c = beside_right (IsCopied p q) (slice_get (marked marks p.entries) number) (slice_get q.entries number) f (copied_get p q (marked marks p.entries) q.entries number h.among.copied) e in
      let k : Ranked marks p.entries number = ranked marks p.entries number (slice_get_within (marked marks p.entries) number c.0 c.1) in
      let g : slice_get p.entries k.place ≡ Some c.0 = sym (rank_get marks p.entries k.place k.is_marked) ∙ (ap (slice_get (marked marks p.entries)) k.number_is ∙ c.1) in
      let i : IsInForce p.entries k.place = h.among.in_force k.place k.is_marked in
      let w : i.entry ≡ c.0 = (let x : slice_get p.entries k.place ≡ Some i.entry = i.holds in cc) in
      let l : number_in_force p.entries (c.0.class, c.0.key) ≡ Some k.place = subst (λ (z : EntryAt). number_in_force p.entries (z.class, z.key) ≡ Some k.place) w i.last in
      record {
        place = k.place;
        entry = c.0;
        holds = g;
        is_marked = k.is_marked;
        number_is = k.number_is;
        copied = c.2;
        force = l;
        copy_force = sym (copied_force p q (marked marks p.entries) q.entries (c.0.class, c.0.key) h.among.copied)
            ∙ (marked_force marks p.entries (c.0.class, c.0.key) k.place l k.is_marked ∙ ap (λ z. Some z) k.number_is);
      }

  -- A copy refers to the same.
  pub copy_targets : (number : ℕ) (f : EntryAt) → slice_get q.entries number ≡ Some f → (c : Copy number f) → targets p.classes p.bytes (entry_node c.entry) ≡ targets q.classes q.bytes (entry_node f)
  copy_targets number f e c =
      let t : ℕ × ℕ = (c.entry.class, c.entry.key) in
      let i : Forced p.entries t c.place = forced p.entries t c.place c.force in
      let j : Forced q.entries t number = forced q.entries t number c.copy_force in
      let x : i.entry ≡ c.entry = (let z : slice_get p.entries c.place ≡ Some i.entry = i.there in let y = c.holds in cc) in
      let y : j.entry ≡ f = (let z : slice_get q.entries number ≡ Some j.entry = j.there in cc) in
      let v = s.entries t i.entry i.is in
      let w = r.entries t j.entry j.is in
      let v' : IsNode p.classes p.bytes (entry_node c.entry) v.0 = subst (λ z. IsNode p.classes p.bytes (entry_node z) v.0) x v.1 in
      let w' : IsNode q.classes q.bytes (entry_node f) w.0 = subst (λ z. IsNode q.classes q.bytes (entry_node z) w.0) y w.1 in
      let g : Agree p.classes q.classes f.class = agree_on_node p.classes q.classes s.sound r.sound h.classes q.bytes f.class (entry_node f) w.0 refl w' in
      targets_same (entry_node c.entry) (entry_node f) v.0 w.0 v' w' (record { shape = ap inline c.copied.class; bytes = c.copied.value }) (subst (Agree p.classes q.classes) (sym c.copied.class) g)

  -- What is known of an entry with a valid line.
  record Good (number : ℕ) : Type 0 where
    place : ℕ
    is_marked : IsMarked marks place
    number_is : rank marks place ≡ number
    reached : Reach (next_entries p) (roots p kept) place

  -- In the input, too, the parent refers to the entry.
  reached_by : (before : List ℕ) → ((m : ℕ) → In before m → Good m) → (parent : Parent) (n : NodeAt) (t : ℕ × ℕ) (place : ℕ) → IsParent q before parent n → Contains (targets q.classes q.bytes n) t
      → number_in_force p.entries t ≡ Some place → Reach (next_entries p) (roots p kept) place
  reached_by before g (OfEvent i) n t place x c f =
      let e = event_before p q kept (events_of q) i x.0 meaning x.1 in
      let v = kept_node e.0 e.1 in
      let w = event_is q b x.0 (get_in (events_of q) i x.0 x.1) in
      let shape : x.0.node.shape ≡ inline x.0.record_of.type_id = w.shape in
      let agree : Agree p.classes q.classes e.0.node.shape.class =
      subst (Agree p.classes q.classes) (sym (ap (λ z. z.class) ((e.2.paths []).shape ∙ shape))) (output_event x.0 (get_in (events_of q) i x.0 x.1)) in
      let same = targets_same e.0.node x.0.node v.0 w.value v.1 w.node (e.2.paths []) agree in
      let d : Contains (targets p.classes p.bytes e.0.node) t = subst (λ z. Contains z t) (sym same) (subst (λ z. Contains (targets q.classes q.bytes z) t) (sym x.2) c) in
      root (those_in (number_in_force p.entries) (all_targets p (nodes_of kept)) t place (event_in p kept e.0 t e.1 (contains_in (targets p.classes p.bytes e.0.node) t d)) f)
  reached_by before g (OfEntry i) n t place x c f =
      let l : Good i = g i (contains_in before i x.1) in
      let k : Copy i x.0 = copy_of i x.0 x.2 in
      let same = copy_targets i x.0 x.2 k in
      let d : Contains (targets p.classes p.bytes (entry_node k.entry)) t = subst (λ z. Contains z t) (sym same) (subst (λ z. Contains (targets q.classes q.bytes z) t) (sym x.3) c) in
      let w : l.place ≡ k.place = rank_once marks l.place k.place l.is_marked k.is_marked (l.number_is ∙ sym k.number_is) in
      let e : slice_get p.entries l.place ≡ Some k.entry = ap (slice_get p.entries) w ∙ k.holds in
      let m : In (option_map_or (λ e. targets p.classes p.bytes (entry_node e)) (slice_get p.entries l.place) []) t =
      subst (λ o. In (option_map_or (λ e. targets p.classes p.bytes (entry_node e)) o []) t) (sym e) (contains_in (targets p.classes p.bytes (entry_node k.entry)) t d) in
      more l.reached (those_in (number_in_force p.entries) (option_map_or (λ e. targets p.classes p.bytes (entry_node e)) (slice_get p.entries l.place) []) t place m f)

  line_good : (before : List ℕ) → ((m : ℕ) → In before m → Good m) → (l : Line) → IsValidLine q before l → Good l.entry
  line_good before g l x =
      let c : Copy l.entry x.entry = copy_of l.entry x.entry x.there in
      let k : number_in_force p.entries (x.entry.class, x.entry.key) ≡ Some c.place =
      subst (λ z. number_in_force p.entries (z, x.entry.key) ≡ Some c.place) c.copied.class (subst (λ z. number_in_force p.entries (c.entry.class, z) ≡ Some c.place) c.copied.key c.force) in
      record { place = c.place; is_marked = c.is_marked; number_is = c.number_is; reached = reached_by before g l.parent x.node (x.entry.class, x.entry.key) c.place x.parent x.refers k }

  lines_good : (before : List ℕ) (ls : List Line) → ((m : ℕ) → In before m → Good m) → AreValidLines q before ls → (m : ℕ) → In (map (λ l. l.entry) ls) m → Good m
  lines_good before [] g x m i = absurd i
  lines_good before (l ∷ ls) g x m (inl e) = subst Good e (line_good before g l x.0)
  lines_good before (l ∷ ls) g x m (inr i) = lines_good (l.entry ∷ before) ls (λ n j. by_case n j) x.1 m i
    where
      by_case : (n : ℕ) → In (l.entry ∷ before) n → Good n
      by_case n (inl e) = subst Good e (line_good before g l x.0)
      by_case n (inr j) = g n j

  -- What is marked is reached.
  marked_is_reached : (i : ℕ) → i < length p.entries → IsMarked marks i → Reached p kept i
  marked_is_reached i l m =
      let f : IsInForce p.entries i = h.among.in_force i m in
      let w : rank marks i < length (marked marks p.entries) = rank_within marks p.entries i f.entry m f.holds in
      let n : length (marked marks p.entries) ≡ length q.entries = copied_length p q (marked marks p.entries) q.entries h.among.copied in
      let c : Contains (map (λ l. l.entry) h.shown.lines) (rank marks i) = h.shown.each (rank marks i) (omega arith) in
      let g : Good (rank marks i) = lines_good [] h.shown.lines (λ m j. absurd j) h.shown.valid (rank marks i) (contains_in (map (λ l. l.entry) h.shown.lines) (rank marks i) c) in
      let e : g.place ≡ i = rank_once marks g.place i g.is_marked m g.number_is in
      reach_path p s kept kept_node (subst (λ z. Reach (next_entries p) (roots p kept) z) e g.reached)

  remaining : marked marks p.entries ≡ remain p kept
  unfolding remain
  remaining = marked_same marks (reached_marks p kept) p.entries (λ i l. (let k = reached_marked p s kept kept_node i in ((λ m. k.0 (marked_is_reached i l m)), (λ m. reached_is_marked i (k.1 m)))))

  pub verified : IsVerified p q kept
  verified = record { classes = h.classes; meaning = meaning; entries = subst (λ z. AreCopied p q z q.entries) remaining h.among.copied }
