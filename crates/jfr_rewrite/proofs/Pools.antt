-- The pools that are written with changed entries: they are read as these.
use Rattle.std.specs.Prelude.{◌≡◌, ℕ, ◌+◌, ◌≤◌, List, [], ◌∷◌, ◌++◌, length, map, slice_range, None}
use Rattle.std.specs.Option.{option_map_or}
use Rattle.std.specs.List.{flat_map, AllByRecursion}
use Rattle.std.proofs.Common.{ap, arith, refl, sym, ◌∙◌, subst, length-append}
use Rattle.std.proofs.lemmas.List.{length-map}
use Rattle.jfr_base.specs.Integer.{spell}
use Rattle.jfr_base.specs.Formats.{Exactly, Format, Reads}
use Rattle.jfr_base.proofs.Spelling.{spell_spells}
use Rattle.jfr_base.proofs.AlikeLaws.{Each}
use Rattle.jfr_base.proofs.HoldLaws.{Holds, holds_parts, placed_each}
use Rattle.jfr_layout.specs.Classes.{Agree, Classes, Sound}
use Rattle.jfr_value.specs.Values.{Value, shape_of, bytes_of, Fits}
use Rattle.jfr_value.specs.Reading.{value_format}
use Rattle.jfr_value.specs.Nodes.{IsNode, node_bytes}
use Rattle.jfr_value.proofs.AgreeLaws.{value_agree}
use Rattle.jfr_value.proofs.DepthLaws.{fits_good}
use Rattle.jfr_value.proofs.NodeLaws.{read_node, value_is}
use Rattle.jfr_pool.specs.declared.link.Link.{Link}
use Rattle.jfr_pool.specs.declared.entry.EntryAt.{EntryAt}
use Rattle.jfr_pool.specs.Entries.{inline, entry_of, entries_from, entry_node}
use Rattle.jfr_chunk.specs.Parts.{Parts}
use Rattle.jfr_chunk.specs.Written.{Group}
use Rattle.jfr_laws.proofs.Values.{exact_reads, value_in, value_there}
use Rattle.jfr_laws.specs.InChunk.{IsEntryIn, IsGroupIn}
use Rattle.jfr_laws.proofs.Entries.{each_append}
use Rattle.jfr_rewrite.specs.Changed.{KeepsFit, changed}
use Rattle.jfr_rewrite.specs.Rewrite.{Rewrite, pair_of, changed_bytes, entry_bytes, group_bytes, checkpoint_tail}
use Rattle.jfr_rewrite.proofs.ChangeLaws.{changed_fits, changed_shape}
use Rattle.jfr_rewrite.proofs.SpelledBack.{Spelled, IsSpelled, SpelledPool, IsSpelledPool, bytes_of_entry, bytes_of_pool, constant_at, pool_at}
use Rattle.jfr_rewrite.proofs.RecordBack.{tail_of}
use Rattle.jfr_rewrite.proofs.CheckpointBack.{body_of}

pub all_parts : {X : Type 0} (P : X → Type 0) (xs ys : List X) → AllByRecursion P (xs ++ ys) → AllByRecursion P xs × AllByRecursion P ys
all_parts P [] ys a = (tt, a)
all_parts P (x ∷ xs) ys a = let i = all_parts P xs ys a.1 in ((a.0, i.0), i.1)

module _ (w : Rewrite) (p : Parts) (sound : Sound p.classes) (keeps : KeepsFit p.classes w.change) where
  abbrev pub new_value : EntryAt → Value
  new_value e = changed w.change None (value_in p.bytes p.classes e)

  abbrev pub spelled : EntryAt → Spelled
  spelled e = record { class = e.class; key = w.key (pair_of e); key_bytes = spell (w.key (pair_of e)); value = new_value e }

  abbrev pub spelled_pool : Group → SpelledPool
  spelled_pool g = record { class = g.class; entries = map spelled g.entries }

  -- An entry is a node.
  pub entry_is : (e : EntryAt) → (s : IsEntryIn p.bytes p.classes e) → IsNode p.classes p.bytes (entry_node e) s.value
  entry_is e s =
      let o : e.value_at ≤ e.end = s.order in
      let h : e.end ≤ length p.bytes = s.within in
      let r : Reads (value_format p.classes (inline e.class)) p.bytes e.end e.value_at s.value e.end =
      exact_reads (value_format p.classes (inline e.class)) p.bytes e.end e.value_at e.end (slice_range p.bytes e.value_at e.end) s.value s.exact (record { order = o; within = h; bytes = refl })
      (omega arith) h in
      (read_node p.classes (inline e.class) p.bytes e.end e.value_at e.end s.value h o r).0

  value_here : (e : EntryAt) → (s : IsEntryIn p.bytes p.classes e) → value_in p.bytes p.classes e ≡ s.value
  value_here e s = value_there p.bytes p.classes e s.value s.order s.within s.exact

  -- Its new bytes are those of the spelled entry.
  changed_here : (e : EntryAt) → IsEntryIn p.bytes p.classes e → changed_bytes w.change p.classes p.bytes (entry_node e) ≡ bytes_of (new_value e)
  changed_here e s =
      ap (λ o. option_map_or (λ v. bytes_of (changed w.change None v)) o []) (value_is p.classes p.bytes (entry_node e) s.value sound (entry_is e s))
      ∙ ap (λ v. bytes_of (changed w.change None v)) (sym (value_here e s))

  entry_spelled : (e : EntryAt) → IsEntryIn p.bytes p.classes e → entry_bytes w p e ≡ bytes_of_entry (spelled e)
  entry_spelled e s = ap (λ z. spell (w.key (pair_of e)) ++ z) (changed_here e s)

  is_spelled : (e : EntryAt) → IsEntryIn p.bytes p.classes e → IsSpelled p.classes (spelled e)
  is_spelled e s =
      let i = entry_is e s in
      let v : Value = value_in p.bytes p.classes e in
      let q : v ≡ s.value = value_here e s in
      let f : Fits p.classes v = subst (Fits p.classes) (sym q) i.fits in
      let shape : shape_of (new_value e) ≡ inline e.class = changed_shape w.change None v ∙ (ap shape_of q ∙ sym i.shape) in
      record {
        known = s.known;
        key = spell_spells (w.key (pair_of e));
        value = subst (λ z. Exactly (value_format p.classes z) (bytes_of (new_value e)) (new_value e)) shape (fits_good p.classes (new_value e) sound (changed_fits w.change p.classes keeps None v f));
      }

  entries_spelled : (es : List EntryAt) (class : ℕ) → AllByRecursion (λ e. IsEntryIn p.bytes p.classes e × (e.class ≡ class)) es
      → flat_map (entry_bytes w p) es ≡ flat_map bytes_of_entry (map spelled es)
  entries_spelled [] class a = refl
  entries_spelled (e ∷ es) class a = ap (λ z. z ++ flat_map (entry_bytes w p) es) (entry_spelled e a.0.0) ∙ ap (λ z. bytes_of_entry (spelled e) ++ z) (entries_spelled es class a.1)

  -- A pool.
  group_spelled : (g : Group) → IsGroupIn p.bytes p.classes g → group_bytes w p g ≡ bytes_of_pool (spelled_pool g)
  group_spelled g s =
      ap (λ z. spell g.class ++ (spell (length g.entries) ++ z)) (entries_spelled g.entries g.class s.1)
      ∙ ap (λ n. spell g.class ++ (spell n ++ flat_map bytes_of_entry (map spelled g.entries))) (sym (length-map g.entries spelled))

  groups_spelled : (gs : List Group) → AllByRecursion (IsGroupIn p.bytes p.classes) gs → flat_map (group_bytes w p) gs ≡ flat_map bytes_of_pool (map spelled_pool gs)
  groups_spelled [] a = refl
  groups_spelled (g ∷ gs) a = ap (λ z. z ++ flat_map (group_bytes w p) gs) (group_spelled g a.0) ∙ ap (λ z. bytes_of_pool (spelled_pool g) ++ z) (groups_spelled gs a.1)

  -- They are pools, under classes that agree with the chunk's on those of the entries.
  module _ (m : Classes) where
    abbrev pub AgreeEach : List EntryAt → Type 0
    AgreeEach es = AllByRecursion (λ e. Agree p.classes m e.class) es

    spelled_under : (e : EntryAt) → IsEntryIn p.bytes p.classes e → IsEntryIn p.bytes m e → Agree p.classes m e.class → IsSpelled m (spelled e)
    spelled_under e s t g =
        let i = is_spelled e s in
        record {
          known = t.known;
          key = i.key;
          value = subst (λ (f : Format Value). Exactly f (bytes_of (spelled e).value) (spelled e).value) (value_agree p.classes m (inline e.class) g) i.value;
        }

    each_under : (es : List EntryAt) (class : ℕ) → AllByRecursion (λ e. IsEntryIn p.bytes p.classes e × (e.class ≡ class)) es → AllByRecursion (λ e. IsEntryIn p.bytes m e × (e.class ≡ class)) es
        → AgreeEach es
        → AllByRecursion (λ e. IsSpelled m e × (e.class ≡ class)) (map spelled es)
    each_under [] class a b g = tt
    each_under (e ∷ es) class a b g = ((spelled_under e a.0.0 b.0.0 g.0, a.0.1), each_under es class a.1 b.1 g.1)

    pub pools_under : (gs : List Group) → AllByRecursion (IsGroupIn p.bytes p.classes) gs → AllByRecursion (IsGroupIn p.bytes m) gs → AgreeEach (flat_map (λ g. g.entries) gs)
        → AllByRecursion (IsSpelledPool m) (map spelled_pool gs)
    pools_under [] a b g = tt
    pools_under (x ∷ gs) a b g =
        let h = all_parts (λ e. Agree p.classes m e.class) x.entries (flat_map (λ g. g.entries) gs) g in
        ((b.0.0, each_under x.entries x.class a.0.1 b.0.1 h.0), pools_under gs a.1 b.1 h.1)

  -- A checkpoint after its size.
  pub tail_spelled : (l : Link) (delta : ℕ) (gs : List Group) → AllByRecursion (IsGroupIn p.bytes p.classes) gs
      → checkpoint_tail w p l delta gs ≡ tail_of p.bytes l.frame (body_of p.bytes l delta (map spelled_pool gs))
  tail_spelled l delta gs a =
      let tail : ℕ → List ℕ → List ℕ =
      λ n items. slice_range p.bytes l.frame.type_at l.frame.body ++
      (slice_range p.bytes l.frame.body l.delta_at ++ (spell delta ++ (slice_range p.bytes l.delta_end (l.delta_end + 1) ++ (spell n ++ items)))) in
      ap (tail (length gs)) (groups_spelled gs a) ∙ ap (λ n. tail n (flat_map bytes_of_pool (map spelled_pool gs))) (sym (length-map gs spelled_pool))

  -- An entry, and the changed one that is read of the output.
  pub record Renewed (b : List ℕ) (e f : EntryAt) : Type 0 where
    pub class : e.class ≡ f.class
    pub key : w.key (pair_of e) ≡ f.key
    pub checkpoint : e.checkpoint ≡ f.checkpoint
    pub value : changed_bytes w.change p.classes p.bytes (entry_node e) ≡ node_bytes b (entry_node f)

  module _ (b : List ℕ) (end : ℕ) (checkpoint : ℕ) where
    entry_renewed : (e : EntryAt) (pool class at : ℕ) → IsEntryIn p.bytes p.classes e → e.class ≡ class → e.checkpoint ≡ checkpoint → Holds b end at (bytes_of_entry (spelled e))
        → Renewed b e (entry_of checkpoint pool class (constant_at at (spelled e)))
    entry_renewed e pool class at s c n h =
        let q = holds_parts b end at (spelled e).key_bytes (bytes_of (spelled e).value) h in
        let l : at + length (spelled e).key_bytes + length (bytes_of (spelled e).value) ≡ at + length (bytes_of_entry (spelled e)) =
        omega (arith, length-append (spelled e).key_bytes (bytes_of (spelled e).value)) in
        record {
          class = c;
          key = refl;
          checkpoint = n;
          value = changed_here e s ∙ (sym q.1.bytes ∙ ap (slice_range b (at + length (spelled e).key_bytes)) l);
        }

    entries_renewed : (es : List EntryAt) (pool class at : ℕ) → AllByRecursion (λ e. IsEntryIn p.bytes p.classes e × (e.class ≡ class)) es → AllByRecursion (λ e. e.checkpoint ≡ checkpoint) es
        → Holds b end at (flat_map bytes_of_entry (map spelled es))
        → Each (Renewed b) es (map (entry_of checkpoint pool class) (placed_each bytes_of_entry constant_at at (map spelled es)))
    entries_renewed [] pool class at s n h = tt
    entries_renewed (e ∷ es) pool class at s n h =
        let q = holds_parts b end at (bytes_of_entry (spelled e)) (flat_map bytes_of_entry (map spelled es)) h in
        (entry_renewed e pool class at s.0.0 s.0.1 n.0 q.0, entries_renewed es pool class (at + length (bytes_of_entry (spelled e))) s.1 n.1 q.1)

    -- The entries of the pools that are read are those of the groups.
    pub groups_renewed : (gs : List Group) (pool at : ℕ) → AllByRecursion (IsGroupIn p.bytes p.classes) gs → AllByRecursion (λ e. e.checkpoint ≡ checkpoint) (flat_map (λ g. g.entries) gs)
        → Holds b end at (flat_map bytes_of_pool (map spelled_pool gs))
        → Each (Renewed b) (flat_map (λ g. g.entries) gs) (entries_from checkpoint pool (placed_each bytes_of_pool pool_at at (map spelled_pool gs)))
    groups_renewed [] pool at s n h = tt
    groups_renewed (g ∷ gs) pool at s n h =
        let es : List Spelled = map spelled g.entries in
        let items : List ℕ = flat_map bytes_of_entry es in
        let count : List ℕ = spell (length es) in
        let first : ℕ = at + length (spell g.class) + length count in
        let next : ℕ = at + length (bytes_of_pool (spelled_pool g)) in
        let q = holds_parts b end at (bytes_of_pool (spelled_pool g)) (flat_map bytes_of_pool (map spelled_pool gs)) h in
        let u = holds_parts b end at (spell g.class) (count ++ items) q.0 in
        let v = holds_parts b end (at + length (spell g.class)) count items u.1 in
        let a = all_parts (λ e. e.checkpoint ≡ checkpoint) g.entries (flat_map (λ g. g.entries) gs) n in
        each_append (Renewed b) g.entries (map (entry_of checkpoint pool g.class) (placed_each bytes_of_entry constant_at first es)) (flat_map (λ g. g.entries) gs)
        (entries_from checkpoint (pool + 1) (placed_each bytes_of_pool pool_at next (map spelled_pool gs)))
        (entries_renewed g.entries pool g.class first s.0.1 a.0 v.1) (groups_renewed gs (pool + 1) next s.1 a.1 q.1)
