-- Chunks and recordings that differ only in masked texts have equal outputs.
use Rattle.std.specs.Prelude.{◌≡◌, ℕ, ◌+◌, ◌==◌, Bool, true, false, List, [], ◌∷◌, ◌++◌, map, find, Option, Some, None, length, slice_range, if◌then◌else◌}
use Rattle.std.specs.List.{flat_map}
use Rattle.std.specs.Option.{option_map_or}
use Rattle.std.proofs.Common.{ap, refl, sym, ◌∙◌}
use Rattle.jfr_base.specs.Integer.{spell}
use Rattle.jfr_frame.specs.Records.{record_end}
use Rattle.jfr_header.specs.declared.header.Header.{Header}
use Rattle.jfr_header.specs.Headers.{header_bytes}
use Rattle.jfr_value.specs.declared.leaf.Holder.{Holder}
use Rattle.jfr_value.specs.Values.{Value, bytes_of}
use Rattle.jfr_value.specs.Nodes.{Both, NodeAt, value_of}
use Rattle.jfr_pool.specs.declared.link.Link.{Link}
use Rattle.jfr_pool.specs.declared.entry.EntryAt.{EntryAt}
use Rattle.jfr_pool.specs.Entries.{entry_node}
use Rattle.jfr_chunk.specs.Parts.{Parts, EventAt, metadata_at}
use Rattle.jfr_chunk.specs.Scrub.{OutputRecord, Whole, Chained, Rebuilt, Written, header_with, newest_at, moved, newest_after, record_of}
use Rattle.jfr_chunk.specs.Written.{Group, distance, sized}
use Rattle.jfr_rewrite.specs.Changed.{Change, changed}
use Rattle.jfr_rewrite.specs.Rewrite.{Rewrite, bytes_by, changed_bytes, checkpoint_tail, entry_bytes, event_bytes, event_tail, event_there, fewest, group_bytes, new_bytes, resized, rewritten, whole_bytes, written_by}
use Rattle.jfr_rewrite.specs.Rewritten.{OneToOne}
use Rattle.jfr_mask.specs.Masked.{masked_texts, masking}
use Rattle.jfr_mask.specs.MaskOf.{Chosen, Event, Masking, Metadata, Origin, Pools, dictionary_after, entries_left, events_kept, group_texts, is_masked_in, mask_all, mask_of, next_dictionary, node_texts, origin_of, origin_texts, records_out, rewrite_of, whole_origin}
use Rattle.jfr_mask.specs.Pseudonyms.{shown, with_texts}
use Rattle.jfr_mask.specs.Secrecy.{IsExchange, AlikeAll, AlikeChunk, AlikeEntry, AlikeEvent, AlikeGroup, AlikeNode, AlikeOrigin, AlikePools, AlikeRecord, AlikeValue}
use Rattle.jfr_mask.proofs.ExchangeLaws.{all_mapped}
use Rattle.jfr_mask.proofs.OneToOnes.{flat_map_alike, flat_map_mapped, same_length}
use Rattle.jfr_mask.proofs.SecrecyLaws.{masked_alike, texts_exchanged}

last_cons : (o : Option ℕ) (x : Written) (ws : List Written) → newest_at o (x ∷ ws) ≡ newest_at (newest_after x.output_record x.at o) ws
last_cons None x ws = refl
last_cons (Some z) x ws = refl

moved_cons : (x : Written) (ws : List Written) (at : ℕ) → moved (x ∷ ws) at ≡ (if (record_of x.output_record).at == at then x.at else moved ws at)
moved_cons x ws at = by_test ((record_of x.output_record).at == at)
  where
    by_test : (b : Bool) → option_map_or (λ (w : Written). w.at) (if b then Some x else find (λ (w : Written). (record_of w.output_record).at == at) ws) 0 ≡ (if b then x.at else moved ws at)
    by_test true = refl
    by_test false = refl

-- The bytes of an output record by its origin, and the older checkpoint after it.
abbrev origin_bytes : Rewrite → Parts → Origin → ℕ → Option ℕ → List ℕ
origin_bytes w p (Event e) at older = event_bytes w p e
origin_bytes w p (Metadata bytes) at older = bytes
origin_bytes w p (Pools l pools) at older = resized w l.frame (checkpoint_tail w p l (distance at older) pools)

abbrev origin_older : Origin → ℕ → Option ℕ → Option ℕ
origin_older (Event e) at older = older
origin_older (Metadata bytes) at older = older
origin_older (Pools l pools) at older = Some at

module _ (w : Rewrite) (p : Parts) (kept : List EventAt) (entries : List EntryAt) where
  bytes_are : (o : OutputRecord) (at : ℕ) (older : Option ℕ) → new_bytes w p kept entries o at older ≡ origin_bytes w p (origin_of p kept entries o) at older
  bytes_are (Whole r) at older = by_event (event_there kept r)
    where
      by_event : (o : Option EventAt) → whole_bytes w p r o ≡ origin_bytes w p (whole_origin p r o) at older
      by_event None = refl
      by_event (Some e) = refl
  bytes_are (Rebuilt r x) at older = refl
  bytes_are (Chained number l) at older = refl

  older_is : (o : OutputRecord) (at : ℕ) (older : Option ℕ) → newest_after o at older ≡ origin_older (origin_of p kept entries o) at older
  older_is (Whole r) at older = by_event (event_there kept r)
    where
      by_event : (o : Option EventAt) → older ≡ origin_older (whole_origin p r o) at older
      by_event None = refl
      by_event (Some e) = refl
  older_is (Rebuilt r x) at older = refl
  older_is (Chained number l) at older = refl

module _ (m : Masking) (g : List ℕ → List ℕ) (ex : IsExchange m.known g) (p q : Parts) (kept others : List EventAt) (alike : AlikeChunk m g p q kept others) where
  abbrev here : Option Holder → Bool
  here = is_masked_in m p.classes

  -- Both mask the same fields.
  same_masked : is_masked_in m q.classes ≡ here
  same_masked = ap (is_masked_in m) (sym alike.classes)

  values_mapped : (x y : Option Value) → Both (AlikeValue here g p q None) x y → option_map_or (masked_texts here m.known q None) y [] ≡ map g (option_map_or (masked_texts here m.known p None) x [])
  values_mapped None None a = refl
  values_mapped (Some v) (Some w) a = texts_exchanged m.known g ex here p q None v w a
  values_mapped None (Some w) a = absurd a
  values_mapped (Some v) None a = absurd a

  node_mapped : (n o : NodeAt) → AlikeNode m g p q n o → node_texts m q o ≡ map g (node_texts m p n)
  node_mapped n o a =
      let v : Option Value = value_of q.classes q.bytes o in
      ap (λ z. option_map_or (masked_texts z m.known q None) v []) same_masked ∙ values_mapped (value_of p.classes p.bytes n) v a

  group_mapped : (x y : Group) → AlikeGroup m g p q x y → group_texts m q y ≡ map g (group_texts m p x)
  group_mapped x y a =
      flat_map_mapped (AlikeEntry m g p q) g (λ e. node_texts m p (entry_node e)) (λ e. node_texts m q (entry_node e))
      (λ e f b. node_mapped (entry_node e) (entry_node f) b.value) x.entries y.entries a.entries

  origin_mapped : (x y : Origin) → AlikeOrigin m g p q x y → origin_texts m q y ≡ map g (origin_texts m p x)
  origin_mapped (Event e) (Event f) a = node_mapped e.node f.node a.fields
  origin_mapped (Metadata x) (Metadata y) a = refl
  origin_mapped (Pools l xs) (Pools k ys) a = flat_map_mapped (AlikeGroup m g p q) g (group_texts m p) (group_texts m q) group_mapped xs ys a.pools
  origin_mapped (Event e) (Metadata y) a = absurd a
  origin_mapped (Event e) (Pools k ys) a = absurd a
  origin_mapped (Metadata x) (Event f) a = absurd a
  origin_mapped (Metadata x) (Pools k ys) a = absurd a
  origin_mapped (Pools l xs) (Event f) a = absurd a
  origin_mapped (Pools l xs) (Metadata y) a = absurd a

  abbrev origins : OutputRecord → Origin
  origins = origin_of p kept (entries_left m p kept)

  abbrev other_origins : OutputRecord → Origin
  other_origins = origin_of q others (entries_left m q others)

  -- So the dictionary after the second chunk is the exchanged one.
  pub dictionary_exchanged : (d : List (List ℕ)) → dictionary_after m (map g d) q others ≡ map g (dictionary_after m d p kept)
  dictionary_exchanged d =
      ap (with_texts (map g d))
      (flat_map_mapped (AlikeRecord m g p q kept others) g (λ o. origin_texts m p (origins o)) (λ u. origin_texts m q (other_origins u)) (λ o u a. origin_mapped (origins o) (other_origins u) a.origin)
      (records_out m p kept) (records_out m q others) alike.records)
      ∙ all_mapped m.known g ex d (flat_map (λ o. origin_texts m p (origins o)) (records_out m p kept))

  -- With it, the same is written.
  module _ (d : List (List ℕ)) where
    abbrev one : Rewrite
    one = rewrite_of m d p kept

    abbrev two : Rewrite
    two = rewrite_of m (map g d) q others

    abbrev changed_value : Change → Option Value → List ℕ
    changed_value ch = λ o. option_map_or (λ v. bytes_of (changed ch None v)) o []

    values_alike : (x y : Option Value) → Both (AlikeValue here g p q None) x y → changed_value (masking here (shown m.known (map g d)) q) y ≡ changed_value one.change x
    values_alike None None a = refl
    values_alike (Some v) (Some w) a = ap bytes_of (masked_alike m.known g ex here p q d None v w a)
    values_alike None (Some w) a = absurd a
    values_alike (Some v) None a = absurd a

    node_alike : (n o : NodeAt) → AlikeNode m g p q n o → changed_bytes two.change q.classes q.bytes o ≡ changed_bytes one.change p.classes p.bytes n
    node_alike n o a =
        let v : Option Value = value_of q.classes q.bytes o in
        ap (λ z. changed_value (masking z (shown m.known (map g d)) q) v) same_masked ∙ values_alike (value_of p.classes p.bytes n) v a

    tail_alike : (e f : EventAt) → AlikeEvent m g p q e f → event_tail two q f ≡ event_tail one p e
    tail_alike e f a =
        ap (λ z. z ++ (changed_bytes two.change q.classes q.bytes f.node ++ slice_range q.bytes f.node.end (record_end f.record_of))) (sym a.type)
        ∙ (ap (λ z. slice_range p.bytes e.record_of.type_at e.record_of.body ++ (z ++ slice_range q.bytes f.node.end (record_end f.record_of))) (node_alike e.node f.node a.fields)
        ∙ ap (λ z. slice_range p.bytes e.record_of.type_at e.record_of.body ++ (changed_bytes one.change p.classes p.bytes e.node ++ z)) (sym a.rest))

    -- The width of a size depends on the type and on what follows the size.
    abbrev sized_by : ℕ → List ℕ → List ℕ
    sized_by type tail = sized (if type == 1 then 5 else fewest (length tail)) tail

    event_alike : (e f : EventAt) → AlikeEvent m g p q e f → event_bytes two q f ≡ event_bytes one p e
    event_alike e f a = ap (λ z. sized_by z (event_tail two q f)) (sym a.class) ∙ ap (sized_by e.record_of.type_id) (tail_alike e f a)

    entry_alike : (x y : EntryAt) → AlikeEntry m g p q x y → entry_bytes two q y ≡ entry_bytes one p x
    entry_alike x y a = ap (λ z. spell z ++ changed_bytes two.change q.classes q.bytes (entry_node y)) (sym a.key) ∙ ap (λ z. spell x.key ++ z) (node_alike (entry_node x) (entry_node y) a.value)

    group_alike : (x y : Group) → AlikeGroup m g p q x y → group_bytes two q y ≡ group_bytes one p x
    group_alike x y a =
        ap (λ z. spell z ++ (spell (length y.entries) ++ flat_map (entry_bytes two q) y.entries)) (sym a.class)
        ∙ (ap (λ z. spell x.class ++ (spell z ++ flat_map (entry_bytes two q) y.entries)) (same_length (AlikeEntry m g p q) x.entries y.entries a.entries)
        ∙ ap (λ z. spell x.class ++ (spell (length x.entries) ++ z)) (flat_map_alike (AlikeEntry m g p q) (entry_bytes one p) (entry_bytes two q) entry_alike x.entries y.entries a.entries))

    checkpoint_alike : (l k : Link) (xs ys : List Group) (delta : ℕ) → AlikePools m g p q l k xs ys → checkpoint_tail two q k delta ys ≡ checkpoint_tail one p l delta xs
    checkpoint_alike l k xs ys delta a =
        let tail : List ℕ → List ℕ → List ℕ → ℕ → List ℕ → List ℕ = λ type times kind n items. type ++ (times ++ (spell delta ++ (kind ++ (spell n ++ items)))) in
        let times : List ℕ = slice_range q.bytes k.frame.body k.delta_at in
        let kind : List ℕ = slice_range q.bytes k.delta_end (k.delta_end + 1) in
        let items : List ℕ = flat_map (group_bytes two q) ys in
        let type_here : List ℕ = slice_range p.bytes l.frame.type_at l.frame.body in
        let times_here : List ℕ = slice_range p.bytes l.frame.body l.delta_at in
        let kind_here : List ℕ = slice_range p.bytes l.delta_end (l.delta_end + 1) in
        ap (λ z. tail z times kind (length ys) items) (sym a.type)
        ∙ (ap (λ z. tail type_here z kind (length ys) items) (sym a.times)
        ∙ (ap (λ z. tail type_here times_here z (length ys) items) (sym a.type_byte)
        ∙ (ap (λ z. tail type_here times_here kind_here z items) (same_length (AlikeGroup m g p q) xs ys a.pools)
        ∙ ap (λ z. tail type_here times_here kind_here (length xs) z) (flat_map_alike (AlikeGroup m g p q) (group_bytes one p) (group_bytes two q) group_alike xs ys a.pools))))

    origin_alike : (x y : Origin) → AlikeOrigin m g p q x y → (at : ℕ) (older : Option ℕ) → origin_bytes two q y at older ≡ origin_bytes one p x at older
    origin_alike (Event e) (Event f) a at older = event_alike e f a
    origin_alike (Metadata x) (Metadata y) a at older = sym a
    origin_alike (Pools l xs) (Pools k ys) a at older =
        ap (λ z. sized_by z (checkpoint_tail two q k (distance at older) ys)) (sym a.type_id) ∙ ap (sized_by l.frame.type_id) (checkpoint_alike l k xs ys (distance at older) a)
    origin_alike (Event e) (Metadata y) a at older = absurd a
    origin_alike (Event e) (Pools k ys) a at older = absurd a
    origin_alike (Metadata x) (Event f) a at older = absurd a
    origin_alike (Metadata x) (Pools k ys) a at older = absurd a
    origin_alike (Pools l xs) (Event f) a at older = absurd a
    origin_alike (Pools l xs) (Metadata y) a at older = absurd a

    same_older : (x y : Origin) → AlikeOrigin m g p q x y → (at : ℕ) (older : Option ℕ) → origin_older y at older ≡ origin_older x at older
    same_older (Event e) (Event f) a at older = refl
    same_older (Metadata x) (Metadata y) a at older = refl
    same_older (Pools l xs) (Pools k ys) a at older = refl
    same_older (Event e) (Metadata y) a at older = refl
    same_older (Event e) (Pools k ys) a at older = absurd a
    same_older (Metadata x) (Event f) a at older = refl
    same_older (Metadata x) (Pools k ys) a at older = absurd a
    same_older (Pools l xs) (Event f) a at older = absurd a
    same_older (Pools l xs) (Metadata y) a at older = absurd a

    abbrev first : OutputRecord → ℕ → Option ℕ → List ℕ
    first = new_bytes one p kept (entries_left m p kept)

    abbrev second : OutputRecord → ℕ → Option ℕ → List ℕ
    second = new_bytes two q others (entries_left m q others)

    record_alike : (o u : OutputRecord) → AlikeRecord m g p q kept others o u → (at : ℕ) (older : Option ℕ) → second u at older ≡ first o at older
    record_alike o u a at older =
        bytes_are two q others (entries_left m q others) u at older ∙ (origin_alike (origins o) (other_origins u) a.origin at older ∙ sym (bytes_are one p kept (entries_left m p kept) o at older))

    older_alike : (o u : OutputRecord) → AlikeRecord m g p q kept others o u → (at : ℕ) (older : Option ℕ) → newest_after u at older ≡ newest_after o at older
    older_alike o u a at older =
        older_is two q others (entries_left m q others) u at older ∙ (same_older (origins o) (other_origins u) a.origin at older ∙ sym (older_is one p kept (entries_left m p kept) o at older))

    -- What is written of all: the bytes, the newest checkpoint, and the position of the metadata record.
    record AllWritten (xs ys : List OutputRecord) (at : ℕ) (older : Option ℕ) : Type 0 where
      bytes : flat_map (bytes_by second) (written_by second at older ys) ≡ flat_map (bytes_by first) (written_by first at older xs)
      last : newest_at older (written_by second at older ys) ≡ newest_at older (written_by first at older xs)
      position : moved (written_by second at older ys) (metadata_at q.bytes) ≡ moved (written_by first at older xs) (metadata_at p.bytes)

    all_written : (xs ys : List OutputRecord) (at : ℕ) (older : Option ℕ) → OneToOne (AlikeRecord m g p q kept others) xs ys → AllWritten xs ys at older
    all_written [] [] at older a = record { bytes = refl; last = refl; position = refl }
    all_written [] (y ∷ ys) at older a = absurd a
    all_written (x ∷ xs) [] at older a = absurd a
    all_written (x ∷ xs) (y ∷ ys) at older a =
        let same : second y at older ≡ first x at older = record_alike x y a.0 at older in
        let next : newest_after y at older ≡ newest_after x at older = older_alike x y a.0 at older in
        let to : ℕ = at + length (first x at older) in
        let i : AllWritten xs ys to (newest_after x at older) = all_written xs ys to (newest_after x at older) a.1 in
        let ws : ℕ → Option ℕ → List Written = λ n o. written_by second n o ys in
        let rest : List Written = ws (at + length (second y at older)) (newest_after y at older) in
        let moves : rest ≡ ws to (newest_after x at older) = ap (λ z. ws (at + length z) (newest_after y at older)) same ∙ ap (ws to) next in
        let u : Written = record { output_record = y; at = at; newest = older } in
        let v : Written = record { output_record = x; at = at; newest = older } in
        record {
          bytes = ap (λ z. second y at older ++ flat_map (bytes_by second) z) moves
              ∙ (ap (λ z. z ++ flat_map (bytes_by second) (ws to (newest_after x at older))) same ∙ ap (λ z. first x at older ++ z) i.bytes);
          last =
              last_cons older u rest
              ∙ (ap (newest_at (newest_after y at older)) moves
              ∙ (ap (λ z. newest_at z (ws to (newest_after x at older))) next ∙ (i.last ∙ sym (last_cons older v (written_by first to (newest_after x at older) xs)))));
          position =
              moved_cons u rest (metadata_at q.bytes)
              ∙ (ap (λ z. if z then at else moved rest (metadata_at q.bytes)) (sym a.0.position)
              ∙ (ap (λ z. if (record_of x).at == metadata_at p.bytes then at else moved z (metadata_at q.bytes)) moves
              ∙ (ap (λ z. if (record_of x).at == metadata_at p.bytes then at else z) i.position
              ∙ sym (moved_cons v (written_by first to (newest_after x at older) xs) (metadata_at p.bytes)))));
        }

    chunk_alike : rewritten two q others (entries_left m q others) ≡ rewritten one p kept (entries_left m p kept)
    unfolding rewritten
    chunk_alike =
        let i : AllWritten (records_out m p kept) (records_out m q others) 68 None = all_written (records_out m p kept) (records_out m q others) 68 None alike.records in
        let ws : List Written = written_by second 68 None (records_out m q others) in
        let ws_here : List Written = written_by first 68 None (records_out m p kept) in
        let b : List ℕ = flat_map (bytes_by first) ws_here in
        let l : ℕ = newest_at None ws_here in
        let position : ℕ = moved ws_here (metadata_at p.bytes) in
        ap (λ z. header_with q.bytes (68 + length z) (newest_at None ws) (moved ws (metadata_at q.bytes)) ++ z) i.bytes
        ∙ (ap (λ z. header_with q.bytes (68 + length b) z (moved ws (metadata_at q.bytes)) ++ b) i.last
        ∙ (ap (λ z. header_with q.bytes (68 + length b) l z ++ b) i.position
        ∙ ap (λ (h : Header). header_bytes (record h { size = 68 + length b; pools = l; metadata = position }) ++ b) (sym alike.header)))

  -- Chunks that differ only in masked texts become equal.
  pub masked_equal : (d : List (List ℕ)) → mask_of m (map g d) q others ≡ mask_of m d p kept
  unfolding mask_of
  masked_equal d = ap (λ z. rewritten (rewrite_of m z q others) q others (entries_left m q others)) (dictionary_exchanged d) ∙ chunk_alike (dictionary_after m d p kept)

pub all_equal : (m : Masking) (g : List ℕ → List ℕ) → IsExchange m.known g → (d : List (List ℕ)) (cs es : List Chosen) → AlikeAll m g cs es → mask_all m (map g d) es ≡ mask_all m d cs
all_equal m g ex d [] [] a = refl
all_equal m g ex d [] (e ∷ es) a = absurd a
all_equal m g ex d (c ∷ cs) [] a = absurd a
all_equal m g ex d (c ∷ cs) (e ∷ es) a =
    ap (λ z. z ∷ mask_all m (next_dictionary m (map g d) e) es) (masked_equal m g ex c.parts e.parts (events_kept c) (events_kept e) a.0 d)
    ∙ ap (λ z. mask_of m d c.parts (events_kept c) ∷ z)
    (ap (λ z. mask_all m z es) (dictionary_exchanged m g ex c.parts e.parts (events_kept c) (events_kept e) a.0 d) ∙ all_equal m g ex (next_dictionary m d c) cs es a.1)
