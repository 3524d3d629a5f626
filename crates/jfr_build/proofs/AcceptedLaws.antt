-- A built chunk is accepted, and has the classes, the events and the constants of its lines.
use Rattle.std.specs.Prelude.{◌≡◌, ℕ, ◌+◌, ◌^◌, ◌<◌, false, List, [], ◌∷◌, ◌++◌, length, All, Contains, Ok}
use Rattle.std.proofs.Common.{Global, IfOk, MatchResult, Result, Vec, Err}
use Rattle.std.specs.List.{flat_map, filter_map, AllByRecursion, AllZip}
use Rattle.std.proofs.Common.{ap, arith, refl, sym, ◌∙◌, subst, length-append}
use Rattle.std.proofs.lemmas.List.Elements.{All-cons, All-nil, Contains-append_right}
use Rattle.std.proofs.lemmas.List.Folds.{flat_map-map}
use Rattle.jfr_base.proofs.HoldLaws.{Holds, holds_parts}
use Rattle.jfr_header.specs.declared.header.Header.{Header}
use Rattle.jfr_header.specs.Headers.{header_bytes}
use Rattle.jfr_header.specs.Made.{made_header}
use Rattle.jfr_header.proofs.Layouts.{after_header, header_long}
use Rattle.jfr_header.proofs.MadeHeaders.{HasMadeHeader, has_made_header}
use Rattle.jfr_frame.specs.declared.framed.Framed.{Framed}
use Rattle.jfr_frame.specs.Records.{Tiles, record_end}
use Rattle.jfr_frame.proofs.RecordLaws.{tiles_more}
use Rattle.jfr_layout.specs.Classes.{Classes, Sound, is_event_class}
use Rattle.jfr_chunk.specs.Parts.{EventAt, Parts, AreParts, HasFields, event_of, event_records, events_of, pools_at, metadata_at}
use Rattle.jfr_pool.specs.declared.entry.EntryAt.{EntryAt}
use Rattle.jfr_pool.specs.Entries.{entry_node}
use Rattle.jfr_value.specs.Nodes.{NodeAt}
use Rattle.jfr_value.specs.Leaves.{leaves}
use Rattle.jfr_build.specs.declared.line.BuildLine.{BuildLine}
use Rattle.jfr_build.specs.declared.line.BuildLine.TheVariants.{Class, Field, Constant, Record, Region}
use Rattle.jfr_build.specs.declared.lines.NumberedLine.{NumberedLine}
use Rattle.jfr_build.specs.ClassLines.{classes_in}
use Rattle.jfr_build.specs.LeafWords.{AreWordsOf}
use Rattle.jfr_build.specs.Built.{checkpoint_of, chunk_with, line_event, events_of as event_bytes}
use Rattle.jfr_build.specs.declared.reason.BuildFault.{BuildFault}
use Rattle.jfr_build.specs.Builds.{IsFault, build_of}
use Rattle.jfr_build.specs.Accepted.{HasWords, IsBuilt, IsBuiltOf, IsEntryOf, IsEventOf, constant_lines, event_lines, plain_lines}
use Rattle.jfr_build.proofs.EventsRead.{EventsStand, IsEvent, IsGood, all_good, events_stand}
use Rattle.jfr_build.proofs.CheckpointRead.{CheckpointStands, checkpoint_at, checkpoint_stands, link_at}
use Rattle.jfr_build.proofs.MetadataRead.{MetadataStands, metadata_stands}
use Rattle.jfr_build.proofs.BuildStages.{chunk_parts, stages}

-- No class with the id of the metadata's type or of a checkpoint's type is one of events.
not_metadata : (k : Classes) → is_event_class k 0 ≡ false
unfolding is_event_class
not_metadata k = refl

not_checkpoint : (k : Classes) → is_event_class k 1 ≡ false
unfolding is_event_class
not_checkpoint k = refl

module _ (p : Parts) where
  events_kept : (last : Framed) (frames : List Framed) → last.type_id ≡ 1 → AllByRecursion (IsEvent p) frames → event_records p.classes (frames ++ last ∷ []) ≡ frames
  events_kept last [] one e = rw (ap (is_event_class p.classes) one ∙ not_checkpoint p.classes) refl
  events_kept last (r ∷ rs) one e = rw e.0.class (ap (λ z. r ∷ z) (events_kept last rs one e.1))

  -- The records of events are those between the metadata record and the checkpoint.
  events_between : (first last : Framed) (frames : List Framed) → first.type_id ≡ 0 → last.type_id ≡ 1 → AllByRecursion (IsEvent p) frames
      → event_records p.classes (first ∷ (frames ++ last ∷ [])) ≡ frames
  events_between first last frames zero one e = rw (ap (is_event_class p.classes) zero ∙ not_metadata p.classes) (events_kept last frames one e)

  all_fields : (frames : List Framed) → AllByRecursion (IsEvent p) frames → All (HasFields p.bytes p.classes) frames
  all_fields [] e = All-nil (HasFields p.bytes p.classes)
  all_fields (r ∷ rs) e = All-cons (HasFields p.bytes p.classes) r rs e.0.fields (all_fields rs e.1)

-- Words, events and entries depend only on the bytes and the classes.
module _ (p q : Parts) (bytes : p.bytes ≡ q.bytes) (classes : p.classes ≡ q.classes) where
  same_words : (class : ℕ) (words : List (List ℕ)) (n : NodeAt) → HasWords p class words n → HasWords q class words n
  same_words class words n h = record { shape = h.shape; leaves = subst (λ k. AreWordsOf words (leaves k q.bytes n)) classes (subst (λ c. AreWordsOf words (leaves p.classes c n)) bytes h.leaves) }

  same_event : (line : BuildLine) (e : EventAt) → IsEventOf p line e → IsEventOf q line e
  same_event (Class id name event) e h = h
  same_event (Field name shape) e h = h
  same_event (Constant class key words) e h = h
  same_event (Record class words) e h = (h.0, same_words class words e.node h.1)
  same_event (Region region) e h = h

  same_entry : (line : BuildLine) (e : EntryAt) → IsEntryOf p line e → IsEntryOf q line e
  same_entry (Class id name event) e h = h
  same_entry (Field name shape) e h = h
  same_entry (Constant class key words) e h = (h.0, h.1, same_words class words (entry_node e) h.2)
  same_entry (Record class words) e h = h
  same_entry (Region region) e h = h

-- One relation of two lists follows from another.
zip_to : {A B : Type 0} (R S : A → B → Type 0) → ((a : A) (b : B) → R a b → S a b) → (xs : List A) (ys : List B) → AllZip R xs ys → AllZip S xs ys
zip_to R S f [] [] h = tt
zip_to R S f [] (y ∷ ys) h = h
zip_to R S f (x ∷ xs) [] h = h
zip_to R S f (x ∷ xs) (y ∷ ys) h = (f x y h.0, zip_to R S f xs ys h.1)

-- With its metadata record after the header, the chunk of lines is accepted, and has what they say.
chunk_built : (ls : List NumberedLine) (m c : List ℕ) → MetadataStands c m (classes_in ls) → Sound (classes_in ls) → AllByRecursion (IsGood (classes_in ls)) (plain_lines ls)
    → c ≡ chunk_with m (event_bytes (classes_in ls) ls) (checkpoint_of (classes_in ls) ls) → length c < 2 ^ 30 → IsBuilt ls c
unfolding events_of
chunk_built ls m c md sound good is small =
    let k : Classes = classes_in ls in
    let evs : List ℕ = event_bytes k ls in
    let cp : List ℕ = checkpoint_of k ls in
    let last : ℕ = 68 + length m + length evs in
    let size : ℕ = last + length cp in
    let h : Header = made_header size last in
    let bare : Parts = record { bytes = c; records = []; chain = []; body = md.body; classes = k; entries = [] } in
    let long : length c ≡ size = ap length is ∙ omega (arith, length-append (header_bytes h) (m ++ (evs ++ cp)), length-append m (evs ++ cp), length-append evs cp, header_long h) in
    let top : HasMadeHeader c size last = has_made_header c (m ++ (evs ++ cp)) size last is (sym long) (omega arith) (omega arith) in
    let q = holds_parts c (length c) 68 m (evs ++ cp) (after_header c (m ++ (evs ++ cp)) h is) in
    let r = holds_parts c (length c) (68 + length m) evs cp q.1 in
    let plain : flat_map (line_event k) (plain_lines ls) ≡ evs = flat_map-map (line_event k) (λ (l : NumberedLine). l.line) ls in
    let es : EventsStand bare (68 + length m) (68 + length m + length (flat_map (line_event k) (plain_lines ls))) (event_lines ls) =
    events_stand bare sound small (plain_lines ls) (68 + length m) good (subst (Holds c (length c) (68 + length m)) (sym plain) r.0) in
    let cs : CheckpointStands bare last ls = checkpoint_stands bare last ls sound small good r.1 in
    let frames : List Framed = es.frames in
    let cf : Framed = checkpoint_at last k ls in
    let rs : List Framed = md.frame ∷ (frames ++ cf ∷ []) in
    let p : Parts = record { bytes = c; records = rs; chain = link_at last k ls ∷ []; body = md.body; classes = k; entries = cs.entries } in
    let end : record_end cf ≡ length c = cs.end ∙ sym long in
    let begin : Tiles c (68 + length m) frames last = subst (Tiles c (68 + length m) frames) (ap (λ z. 68 + length m + length z) plain) es.tiles in
    let tiles : Tiles c (68 + length m) (frames ++ cf ∷ []) (length c) = subst (Tiles c (68 + length m) (frames ++ cf ∷ [])) end (tiles_more c (68 + length m) last frames cf begin refl cs.is) in
    let kept : event_records k rs ≡ frames = events_between bare md.frame cf frames md.type_is refl es.are in
    let listed : Contains rs cf = Contains-append_right (md.frame ∷ frames) (cf ∷ []) cf (0, omega arith, refl) in
    let pools : pools_at c ≡ last = ap (λ z. z.pools) top.read in
    let meta : metadata_at c ≡ 68 = ap (λ z. z.metadata) top.read in
    let are : AreParts p = record {
      records = (md.at, md.is, subst (λ z. Tiles c z (frames ++ cf ∷ []) (length c)) (sym md.end) tiles);
      chain = (record { framed = listed; checkpoint = refl; head = cs.head }, sym pools, refl);
      metadata_record = md.frame;
      metadata_there = record { listed = (0, omega arith, refl); place = md.at ∙ sym meta; type_is = md.type_is };
      metadata = md.read;
      entries = cs.are;
      events = subst (All (HasFields c k)) (sym kept) (all_fields bare frames es.are);
    } in
    record {
      parts = p;
      bytes = refl;
      whole = top.whole;
      are = are;
      classes = refl;
      events = subst (λ z. AllZip (IsEventOf p) (event_lines ls) (filter_map (event_of c k) z)) (sym kept)
          (zip_to (IsEventOf bare) (IsEventOf p) (same_event bare p refl refl) (event_lines ls) (filter_map (event_of c k) frames) es.events);
      entries = zip_to (IsEntryOf bare) (IsEntryOf p) (same_entry bare p refl refl) (constant_lines ls) cs.entries cs.of_lines;
    }

-- What is built of a text is the chunk of its lines.
pub built_accepted : (text chunk : List ℕ) → build_of text ≡ Ok chunk → IsBuiltOf text chunk
built_accepted text chunk e =
    let s = stages text chunk e in
    let k : Classes = classes_in s.lines in
    let evs : List ℕ = event_bytes k s.lines in
    let cp : List ℕ = checkpoint_of k s.lines in
    let parts = chunk_parts k s.lines chunk s.made in
    let m : List ℕ = parts.metadata in
    let h : Header = made_header (68 + length m + length evs + length cp) (68 + length m + length evs) in
    let md = metadata_stands text s.lines s.read s.flawless m parts.recorded (header_bytes h) (evs ++ cp) chunk parts.is (header_long h) parts.small in
    record { lines = s.lines; read = s.read; built = chunk_built s.lines m chunk md (record { none = s.flawless }) (all_good k s.lines s.good) parts.is parts.small }

-- What is answered is such a chunk.
pub accepted_by : (result : Result (Vec ℕ Global) BuildFault) (text : List ℕ) → MatchResult result (λ chunk. build_of text ≡ Ok chunk.items) (IsFault (build_of text))
    → IfOk result (λ chunk. IsBuiltOf text chunk.items)
accepted_by (Ok chunk) text e = built_accepted text chunk.items e
accepted_by (Err fault) text e = tt
