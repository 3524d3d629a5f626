-- A chunk has parts or is refused, and either is what is computed, if this is so for the chain.
use Rattle.std.specs.Prelude.{◌≡◌, ◌⊎◌, ℕ, ◌≤◌, List, [], ◌∷◌, length, reverse, All, Option, Some, None, Result, Ok, Err}
use Rattle.std.specs.List.{AllByRecursion}
use Rattle.std.proofs.Common.{ap, refl, sym, ◌∙◌, subst, inl, inr}
use Rattle.std.proofs.lemmas.List.Elements.{All-from_recursion, recursion_from_All}
use Rattle.jfr_base.specs.declared.reason.Reason.TheVariants.{RecordSize, MetadataPosition, PoolPosition}
use Rattle.jfr_base.specs.declared.flaw.Flaw.{Flaw}
use Rattle.jfr_base.specs.Formats.{Reads, Answer, run}
use Rattle.jfr_base.proofs.Exact.{ReadsOrFails, run_reads_or_fails}
use Rattle.jfr_base.proofs.OneAnswer.{reads_computed, fails_computed}
use Rattle.jfr_layout.specs.Classes.{Classes, is_event_class}
use Rattle.jfr_frame.specs.declared.framed.Framed.{Framed}
use Rattle.jfr_frame.specs.Records.{IsRecord, AreRecords, FrameFlaw, record_there, record_end}
use Rattle.jfr_frame.proofs.FramingLaws.{framing_computed, one_framing}
use Rattle.jfr_meta.specs.Body.{Body, body_format, meta_format}
use Rattle.jfr_meta.specs.Described.{described}
use Rattle.jfr_pool.specs.declared.link.Link.{Link}
use Rattle.jfr_pool.specs.declared.entry.EntryAt.{EntryAt}
use Rattle.jfr_pool.specs.Chains.{IsChain, ChainFlaw, chain_of}
use Rattle.jfr_pool.specs.Entries.{entries_of}
use Rattle.jfr_chunk.specs.Parts.{Parts, StartsAt, HasFields, event_records, AreParts, pools_at, metadata_at}
use Rattle.jfr_chunk.specs.Refusal.{Framing, Chained, Described, Pooled, Refused, framing, metadata_position, pool_position, chain, metadata, checkpoints, events, and_then, found_or, body_by, events_checked, read_parts}
use Rattle.jfr_worklist.proofs.Members.{contains_in}
use Rattle.jfr_chunk.proofs.AllLaws.{all_in, all_reverse, filter_all}
use Rattle.jfr_chunk.proofs.PartsLaws.{links_record}
use Rattle.jfr_chunk.proofs.HasNodesLaws.{tiles_each, links_each}
use Rattle.jfr_chunk.proofs.StageLaws.{flaw_is, there_starts, none_starts, starts_there, starts_none, to_end, EventsTell, events_tell, events_ok, events_err, EntriesTell, entries_tell, entries_ok, entries_err}

-- What the chain that is computed says.
abbrev pub ChainTells : List ℕ → List Framed → ℕ → Result (List Link) Flaw → Type 0
ChainTells c rs at (Ok ls) = IsChain c rs at ls
ChainTells c rs at (Err flaw) = (ls : List Link) × ChainFlaw c rs at ls flaw.offset flaw.reason

-- The chain of a chunk's records, or its flaw, is what is computed.
pub record ChainAnswers (c : List ℕ) (rs : List Framed) : Type 0 where
  pub tells : (at : ℕ) (r : Framed) → StartsAt rs at 1 r → ChainTells c rs at (chain_of c rs r)
  pub chain : (at : ℕ) (ls : List Link) (r : Framed) → StartsAt rs at 1 r → IsChain c rs at ls → chain_of c rs r ≡ Ok ls
  pub flaw : (at : ℕ) (ls : List Link) (f : Flaw) (r : Framed) → StartsAt rs at 1 r → ChainFlaw c rs at ls f.offset f.reason → chain_of c rs r ≡ Err f

abbrev no_metadata : Flaw
no_metadata = record { offset = 24; reason = MetadataPosition }

abbrev no_pools : Flaw
no_pools = record { offset = 16; reason = PoolPosition }

-- What is left to do after each stage.
module _ (c : List ℕ) where
  abbrev after_entries : List Framed → List Link → Body → Classes → List EntryAt → Result Parts Flaw
  after_entries rs ls b k es = and_then (events_checked c k (event_records k rs) (event_records k rs)) λ all. Ok (record { bytes = c; records = rs; chain = ls; body = b; classes = k; entries = es })

  abbrev after_classes : List Framed → List Link → Body → Classes → Result Parts Flaw
  after_classes rs ls b k = and_then (entries_of c k 0 (reverse ls)) (after_entries rs ls b k)

  abbrev after_body : List Framed → List Link → Body → Result Parts Flaw
  after_body rs ls b = and_then (described b) (after_classes rs ls b)

  abbrev after_chain : List Framed → Framed → List Link → Result Parts Flaw
  after_chain rs m ls = and_then (body_by (run meta_format c (record_end m) m.body)) (after_body rs ls)

  abbrev after_last : List Framed → Framed → Framed → Result Parts Flaw
  after_last rs m last = and_then (chain_of c rs last) (after_chain rs m)

  abbrev after_metadata : List Framed → Framed → Result Parts Flaw
  after_metadata rs m = and_then (found_or no_pools (record_there rs (pools_at c) 1)) (after_last rs m)

  abbrev behind_records : List Framed → Result Parts Flaw
  behind_records rs = and_then (found_or no_metadata (record_there rs (metadata_at c) 0)) (after_metadata rs)

meta_end : (c : List ℕ) (end at : ℕ) (b : Body) (to : ℕ) → at ≤ end → Reads meta_format c end at b to → to ≡ end
unfolding meta_format
meta_end c end at b to h r = to_end body_format c end at b to h r

module _ (c : List ℕ) (long : 68 ≤ length c) (chains : (rs : List Framed) → AreRecords c rs → ChainAnswers c rs) where
  each : (f : Framing c) → AllByRecursion (IsRecord c) f.records
  each f = tiles_each c 68 (length c) f.records f.cover

  metadata_is : (f : Framing c) → IsRecord c f.metadata
  metadata_is f = all_in (IsRecord c) f.records f.metadata (each f) (contains_in f.records f.metadata f.metadata_there.listed)

  links : (h : Chained c) → AllByRecursion (λ l. IsRecord c l.frame) (reverse h.chain)
  links h = all_reverse (λ l. IsRecord c l.frame) h.chain (links_record c h.framing.records (each h.framing) h.chain (links_each c h.framing.records (pools_at c) h.chain h.links))

  event_each : (k : Classes) (f : Framing c) → AllByRecursion (IsRecord c) (event_records k f.records)
  event_each k f = filter_all (IsRecord c) (λ r. is_event_class k r.type_id) f.records (each f)

  -- What is computed are the parts, or the first flaw.
  abbrev pub Tells : Result Parts Flaw → Type 0
  Tells (Ok p) = (p.bytes ≡ c) × AreParts p
  Tells (Err flaw) = Refused c flaw

  events_told : (d : Pooled c) → Tells (after_entries c d.described.chained.framing.records d.described.chained.chain d.described.body d.described.classes d.entries)
  events_told d =
      by_result (events_checked c k (event_records k rs) (event_records k rs)) (events_tell c k (event_records k rs) (event_records k rs) (event_each k d.described.chained.framing))
    where
      k : Classes
      k = d.described.classes

      rs : List Framed
      rs = d.described.chained.framing.records

      by_result : (r : Result (List Framed) Flaw) → EventsTell c k (event_records k rs) (event_records k rs) r
          → Tells (and_then r λ all. Ok (record { bytes = c; records = rs; chain = d.described.chained.chain; body = d.described.body; classes = k; entries = d.entries }))
      by_result (Ok all) t = (
        refl,
        record {
          records = d.described.chained.framing.cover;
          chain = d.described.chained.links;
          metadata_record = d.described.chained.framing.metadata;
          metadata_there = d.described.chained.framing.metadata_there;
          metadata = d.described.metadata;
          entries = d.valid;
          events = All-from_recursion (HasFields c k) (event_records k rs) t;
        },
      )
      by_result (Err f) t = events d t

  entries_told : (d : Described c) → Tells (after_classes c d.chained.framing.records d.chained.chain d.body d.classes)
  entries_told d = by_result (entries_of c d.classes 0 (reverse d.chained.chain)) (entries_tell c d.classes 0 (reverse d.chained.chain) (links d.chained))
    where
      by_result : (r : Result (List EntryAt) Flaw) → EntriesTell c d.classes 0 (reverse d.chained.chain) r
          → Tells (and_then r (after_entries c d.chained.framing.records d.chained.chain d.body d.classes))
      by_result (Ok es) t = events_told (record { described = d; entries = es; valid = t })
      by_result (Err f) t = checkpoints d t

  metadata_told : (h : Chained c) → Tells (after_chain c h.framing.records h.framing.metadata h.chain)
  metadata_told h = by_answer (run meta_format c (record_end m) m.body) (run_reads_or_fails meta_format c (record_end m) m.body i.covers i.within)
    where
      m : Framed
      m = h.framing.metadata

      i : IsRecord c m
      i = metadata_is h.framing

      by_classes : (b : Body) (r : Result Classes Flaw) → Reads meta_format c (record_end m) m.body b (record_end m) → described b ≡ r
          → Tells (and_then r (after_classes c h.framing.records h.chain b))
      by_classes b (Err f) s e = metadata h (inr (b, s, e))
      by_classes b (Ok k) s e = entries_told (record { chained = h; body = b; classes = k; metadata = record { body = s; classes = e } })

      by_answer : (a : Answer Body) → ReadsOrFails meta_format c (record_end m) m.body a → Tells (and_then (body_by a) (after_body c h.framing.records h.chain))
      by_answer (Err f) s = metadata h (inl s)
      by_answer (Ok g) s = by_classes g.value (described g.value) (subst (λ to. Reads meta_format c (record_end m) m.body g.value to) (meta_end c (record_end m) m.body g.value g.place i.covers s) s)
          refl

  chain_told : (f : Framing c) → Tells (after_last c f.records f.metadata f.last)
  chain_told f = by_result (chain_of c f.records f.last) ((chains f.records f.cover).tells (pools_at c) f.last f.last_there)
    where
      by_result : (r : Result (List Link) Flaw) → ChainTells c f.records (pools_at c) r → Tells (and_then r (after_chain c f.records f.metadata))
      by_result (Ok ls) t = metadata_told (record { framing = f; chain = ls; links = t })
      by_result (Err g) t = chain f t.0 t.1

  positions_told : (rs : List Framed) → AreRecords c rs → Tells (behind_records c rs)
  positions_told rs cover = by_metadata (record_there rs (metadata_at c) 0) refl
    where
      by_last : (m : Framed) → StartsAt rs (metadata_at c) 0 m → (o : Option Framed) → record_there rs (pools_at c) 1 ≡ o → Tells (and_then (found_or no_pools o) (after_last c rs m))
      by_last m s None e = pool_position rs cover m s (none_starts rs (pools_at c) 1 e) refl
      by_last m s (Some last) e = chain_told (record { records = rs; cover = cover; metadata = m; metadata_there = s; last = last; last_there = there_starts rs (pools_at c) 1 last e })

      by_metadata : (o : Option Framed) → record_there rs (metadata_at c) 0 ≡ o → Tells (and_then (found_or no_metadata o) (after_metadata c rs))
      by_metadata None e = metadata_position rs cover (none_starts rs (metadata_at c) 0 e) refl
      by_metadata (Some m) e = by_last m (there_starts rs (metadata_at c) 0 m e) (record_there rs (pools_at c) 1) refl

  framed_to : (rs : List Framed) → AreRecords c rs → read_parts c ≡ behind_records c rs
  unfolding read_parts
  framed_to rs cover = ap (λ x. and_then x (behind_records c)) (((framing_computed c long).records rs).0 cover)

  flawed_to : (o : ℕ) → FrameFlaw c o → read_parts c ≡ Err (record { offset = o; reason = RecordSize })
  unfolding read_parts
  flawed_to o f = ap (λ x. and_then x (behind_records c)) (((framing_computed c long).flaw o).0 f)

  pub read_tells : Tells (read_parts c)
  read_tells = by_framing (one_framing c long).some
    where
      by_framing : ((rs : List Framed) × AreRecords c rs) ⊎ ((o : ℕ) × FrameFlaw c o) → Tells (read_parts c)
      by_framing (inl (rs, cover)) = subst Tells (sym (framed_to rs cover)) (positions_told rs cover)
      by_framing (inr (o, f)) = subst Tells (sym (flawed_to o f)) (framing f refl)

  -- And back, stage by stage.
  metadata_to : (rs : List Framed) (m : Framed) → AreRecords c rs → StartsAt rs (metadata_at c) 0 m → read_parts c ≡ after_metadata c rs m
  metadata_to rs m cover s = framed_to rs cover ∙ ap (λ x. and_then (found_or no_metadata x) (after_metadata c rs)) (starts_there c rs (metadata_at c) 0 m (tiles_each c 68 (length c) rs cover) s)

  last_to : (f : Framing c) → read_parts c ≡ after_last c f.records f.metadata f.last
  last_to f = metadata_to f.records f.metadata f.cover f.metadata_there ∙ ap (λ x. and_then (found_or no_pools x) (after_last c f.records f.metadata))
      (starts_there c f.records (pools_at c) 1 f.last (each f) f.last_there)

  chained_to : (h : Chained c) → read_parts c ≡ after_chain c h.framing.records h.framing.metadata h.chain
  chained_to h = last_to h.framing ∙ ap (λ x. and_then x (after_chain c h.framing.records h.framing.metadata))
      ((chains h.framing.records h.framing.cover).chain (pools_at c) h.chain h.framing.last h.framing.last_there h.links)

  body_to : (h : Chained c) (b : Body) → Reads meta_format c (record_end h.framing.metadata) h.framing.metadata.body b (record_end h.framing.metadata)
      → read_parts c ≡ after_body c h.framing.records h.chain b
  body_to h b r =
      let i = metadata_is h.framing in
      chained_to h ∙ ap (λ x. and_then (body_by x) (after_body c h.framing.records h.chain))
      (reads_computed c (record_end h.framing.metadata) i.within meta_format h.framing.metadata.body b (record_end h.framing.metadata) i.covers r)

  described_to : (d : Described c) → read_parts c ≡ after_classes c d.chained.framing.records d.chained.chain d.body d.classes
  described_to d = body_to d.chained d.body d.metadata.body ∙ ap (λ x. and_then x (after_classes c d.chained.framing.records d.chained.chain d.body)) d.metadata.classes

  pooled_to : (p : Pooled c) → read_parts c ≡ after_entries c p.described.chained.framing.records p.described.chained.chain p.described.body p.described.classes p.entries
  pooled_to p =
      described_to p.described
      ∙ ap (λ x. and_then x (after_entries c p.described.chained.framing.records p.described.chained.chain p.described.body p.described.classes))
      (entries_ok c p.described.classes 0 (reverse p.described.chained.chain) p.entries (links p.described.chained) p.valid)

  pub refused_read : (f : Flaw) → Refused c f → read_parts c ≡ Err f
  refused_read f (framing o e) = flawed_to f.offset o ∙ ap (λ z. Err z) (flaw_is f f.offset RecordSize refl e)
  refused_read f (metadata_position rs cover n e) =
      framed_to rs cover ∙ (ap (λ x. and_then (found_or no_metadata x) (after_metadata c rs)) (starts_none rs (metadata_at c) 0 n) ∙ ap (λ z. Err z) (sym e))
  refused_read f (pool_position rs cover m s n e) =
      metadata_to rs m cover s ∙ (ap (λ x. and_then (found_or no_pools x) (after_last c rs m)) (starts_none rs (pools_at c) 1 n) ∙ ap (λ z. Err z) (sym e))
  refused_read f (chain g before w) =
      last_to g ∙ ap (λ x. and_then x (after_chain c g.records g.metadata)) ((chains g.records g.cover).flaw (pools_at c) before f g.last g.last_there w)
  refused_read f (metadata h (inl w)) =
      let i = metadata_is h.framing in
      chained_to h ∙ ap (λ x. and_then (body_by x) (after_body c h.framing.records h.chain))
      (fails_computed c (record_end h.framing.metadata) i.within meta_format h.framing.metadata.body f.offset f.reason i.covers w)
  refused_read f (metadata h (inr w)) = body_to h w.0 w.1 ∙ ap (λ x. and_then x (after_classes c h.framing.records h.chain w.0)) w.2
  refused_read f (checkpoints d w) =
      described_to d ∙ ap (λ x. and_then x (after_entries c d.chained.framing.records d.chained.chain d.body d.classes)) (entries_err c d.classes 0 (reverse d.chained.chain) f (links d.chained) w)
  refused_read f (events p w) =
      pooled_to p
      ∙ ap (λ x. and_then x λ all. Ok (record {
        bytes = c;
        records = p.described.chained.framing.records;
        chain = p.described.chained.chain;
        body = p.described.body;
        classes = p.described.classes;
        entries = p.entries;
      }))
      (events_err c p.described.classes (event_records p.described.classes p.described.chained.framing.records) (event_records p.described.classes p.described.chained.framing.records) f
      (event_each p.described.classes p.described.chained.framing) w)

  pooled_read : (p : Pooled c) → All (HasFields c p.described.classes) (event_records p.described.classes p.described.chained.framing.records)
      → read_parts c ≡ Ok (record { bytes = c; records = p.described.chained.framing.records; chain = p.described.chained.chain; body = p.described.body; classes = p.described.classes; entries = p.entries })
  pooled_read p w =
      pooled_to p
      ∙ ap (λ x. and_then x λ all. Ok (record {
        bytes = c;
        records = p.described.chained.framing.records;
        chain = p.described.chained.chain;
        body = p.described.body;
        classes = p.described.classes;
        entries = p.entries;
      }))
      (events_ok c p.described.classes (event_records p.described.classes p.described.chained.framing.records) (event_records p.described.classes p.described.chained.framing.records)
      (event_each p.described.classes p.described.chained.framing)
      (recursion_from_All (HasFields c p.described.classes) (event_records p.described.classes p.described.chained.framing.records) w))

-- The newest link's checkpoint is where the chain starts.
chain_start : (c : List ℕ) (rs : List Framed) (at : ℕ) (ls : List Link) → IsChain c rs at ls → (r : Framed) × StartsAt rs at 1 r
chain_start c rs at [] h = absurd h
chain_start c rs at (l ∷ []) h = (l.frame, record { listed = h.0.framed; place = h.1; type_is = h.0.checkpoint })
chain_start c rs at (l ∷ m ∷ ls) h = (l.frame, record { listed = h.0.framed; place = h.1; type_is = h.0.checkpoint })

pub parts_read : (p : Parts) → 68 ≤ length p.bytes → ((rs : List Framed) → AreRecords p.bytes rs → ChainAnswers p.bytes rs) → AreParts p → read_parts p.bytes ≡ Ok p
parts_read p long chains a =
    let s = chain_start p.bytes p.records (pools_at p.bytes) p.chain a.chain in
    let f : Framing p.bytes = record { records = p.records; cover = a.records; metadata = a.metadata_record; metadata_there = a.metadata_there; last = s.0; last_there = s.1 } in
    let h : Chained p.bytes = record { framing = f; chain = p.chain; links = a.chain } in
    let d : Described p.bytes = record { chained = h; body = p.body; classes = p.classes; metadata = a.metadata } in
    pooled_read p.bytes long chains (record { described = d; entries = p.entries; valid = a.entries }) a.events
