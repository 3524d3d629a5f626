-- Reading a chunk, stage by stage: what each refuses refuses the chunk, and all together give its parts.
use Rattle.std.specs.Prelude.{◌≡◌, ℕ, ◌≤◌, List, length, take, reverse, IsTrue, Option, Some, None, Result, Ok, Err, IfErr, MatchResult}
use Rattle.std.specs.List.{AllByRecursion}
use Rattle.std.specs.Result.{IsErr}
use Rattle.std.proofs.Common.{map, ap, refl, sym, subst}
use Rattle.std.proofs.lemmas.List.{reverse-reverse}
use Rattle.jfr_base.specs.declared.reason.Reason.TheVariants.{MetadataPosition, PoolPosition}
use Rattle.jfr_base.specs.declared.flaw.Flaw.{Flaw}
use Rattle.jfr_base.specs.declared.flaw.ReadFault.{ReadFault}
use Rattle.jfr_base.specs.declared.flaw.ReadFault.TheVariants.{Flawed, Memory}
use Rattle.jfr_header.specs.declared.header.Header.{Header}
use Rattle.jfr_header.specs.Headers.{header_of}
use Rattle.jfr_header.specs.Fronts.{Whole}
use Rattle.jfr_layout.specs.Classes.{Classes}
use Rattle.jfr_frame.specs.declared.framed.Framed.{Framed}
use Rattle.jfr_frame.specs.Records.{IsRecord, AreRecords, record_there, starts_at}
use Rattle.jfr_frame.specs.Refused.{RefusedAt}
use Rattle.jfr_meta.specs.Answers.{IfFlawed}
use Rattle.jfr_meta.specs.Body.{Body}
use Rattle.jfr_meta.specs.Described.{IsMetadata, IsMetadataFlaw}
use Rattle.jfr_pool.specs.declared.link.Link.{Link}
use Rattle.jfr_pool.specs.declared.entry.EntryAt.{EntryAt}
use Rattle.jfr_pool.specs.Chains.{IsChain, IsRefusedChain}
use Rattle.jfr_pool.specs.Entries.{AreEntries, entries_of}
use Rattle.jfr_pool.specs.Faults.{TellsFlaw}
use Rattle.jfr_pool.proofs.Among.{found_any}
use Rattle.jfr_chunk.specs.declared.event_index.EventIndex.{EventIndex}
use Rattle.jfr_chunk.specs.Parts.{Parts, StartsAt, AreParts, events_of, metadata_at, pools_at}
use Rattle.jfr_chunk.specs.Refusal.{Framing, Chained, Described, Refused, framing, metadata_position, pool_position, chain, metadata, checkpoints, events, found_or, read_parts}
use Rattle.jfr_meta.specs.Stays.{is_in}
use Rattle.jfr_chunk.specs.Indexed.{AreKeysIn, AreRefs, IsIndexed, indexed_missing, indexed_refs, parts_in, used_in}
use Rattle.jfr_chunk.specs.Missing.{AreNotedIn}
use Rattle.jfr_chunk.specs.Stages.{AreFields, IsRefusedEvents}
use Rattle.jfr_worklist.proofs.Members.{contains_in}
use Rattle.jfr_chunk.proofs.AllLaws.{all_in, all_reverse}
use Rattle.jfr_chunk.proofs.BoundLaws.{entries_few}
use Rattle.jfr_chunk.proofs.HasNodesLaws.{tiles_each, links_each, described_sound}
use Rattle.jfr_chunk.proofs.PartsLaws.{links_record}
use Rattle.jfr_chunk.proofs.StageLaws.{there_starts, none_starts, EntriesTell, entries_tell}
use Rattle.jfr_chunk.proofs.AnswerLaws.{refused_read}
use Rattle.jfr_chunk.proofs.ChainAnswers.{chain_answers, is_computed}

-- The flaw for which a chunk is refused is the computed one.
pub told : (c : List ℕ) (fault : ReadFault) → 68 ≤ length c → IfFlawed (Refused c) fault → TellsFlaw (read_parts c) fault
told c (Flawed flaw) long r = refused_read c long (chain_answers c) flaw r
told c Memory long r = tt

pub told_of : {T : Type 0} (c : List ℕ) (P : T → Type 0) (r : Result T ReadFault) → 68 ≤ length c → IsErr r → IfErr r (IfFlawed (Refused c)) → MatchResult r P (TellsFlaw (read_parts c))
told_of c P (Ok x) long e r = cc
told_of c P (Err fault) long e r = told c fault long r

pub parts_told : (c : List ℕ) (p : Parts) → 68 ≤ length c → p.bytes ≡ c → AreParts p → read_parts c ≡ Ok p
parts_told c p long e a = ((is_computed c long).parts p).0 (e, a)

pub records_refused : (c : List ℕ) (fault : ReadFault) → RefusedAt c fault → IfFlawed (Refused c) fault
records_refused c (Flawed flaw) r = framing r.1 r.0
records_refused c Memory r = tt

-- The record that a position names.
named_there : (rs : List Framed) (at other type_id : ℕ) (flaw : Flaw) (r : Framed) → at ≡ other → Ok r ≡ found_or flaw (record_there rs at type_id) → record_there rs other type_id ≡ Some r
named_there rs at other type_id flaw r e s = subst (λ z. record_there rs z type_id ≡ Some r) e (by_found (record_there rs at type_id) s)
  where
    by_found : (o : Option Framed) → Ok r ≡ found_or flaw o → o ≡ Some r
    by_found (Some q) s = cc
    by_found None s = cc

not_named : (rs : List Framed) (at other type_id : ℕ) (flaw f : Flaw) → at ≡ other → Err f ≡ found_or flaw (record_there rs at type_id) → (f ≡ flaw) × (record_there rs other type_id ≡ None)
not_named rs at other type_id flaw f e s = subst (λ z. (f ≡ flaw) × (record_there rs z type_id ≡ None)) e (by_found (record_there rs at type_id) s)
  where
    by_found : (o : Option Framed) → Err f ≡ found_or flaw o → (f ≡ flaw) × (o ≡ None)
    by_found (Some q) s = cc
    by_found None s = (cc, refl)

abbrev pub no_metadata : Flaw
no_metadata = record { offset = 24; reason = MetadataPosition }

abbrev pub no_checkpoint : Flaw
no_checkpoint = record { offset = 16; reason = PoolPosition }

-- The records, the header, and the record that it names as its metadata.
pub record Named (c : List ℕ) (h : Header) (rs : List Framed) (m : Framed) : Type 0 where
  pub header_is : h ≡ header_of (take 68 c)
  pub records : AreRecords c rs
  pub metadata : Ok m ≡ found_or no_metadata (record_there rs h.metadata 0)

pub named : (c : List ℕ) (h : Header) (rs : List Framed) (m : Framed) → h ≡ header_of (take 68 c) → AreRecords c rs → Ok m ≡ found_or no_metadata (record_there rs h.metadata 0) → Named c h rs m
named c h rs m e cover s = record { header_is = e; records = cover; metadata = s }

pub metadata_refused : (c : List ℕ) (h : Header) (rs : List Framed) (f : Flaw) → h ≡ header_of (take 68 c) → AreRecords c rs → Err f ≡ found_or no_metadata (record_there rs h.metadata 0) → Refused c f
metadata_refused c h rs f e cover s =
    let n = not_named rs h.metadata (metadata_at c) 0 no_metadata f (ap (λ (z : Header). z.metadata) e) s in
    metadata_position rs cover (none_starts rs (metadata_at c) 0 n.1) n.0

module _ (c : List ℕ) (h : Header) (rs : List Framed) (m : Framed) (n : Named c h rs m) where
  metadata_there : StartsAt rs (metadata_at c) 0 m
  metadata_there = there_starts rs (metadata_at c) 0 m (named_there rs h.metadata (metadata_at c) 0 no_metadata m (ap (λ (z : Header). z.metadata) n.header_is) n.metadata)

  pub metadata_record : IsRecord c m
  metadata_record = all_in (IsRecord c) rs m (tiles_each c 68 (length c) rs n.records) (contains_in rs m metadata_there.listed)

  pools_is : h.pools ≡ pools_at c
  pools_is = ap (λ (z : Header). z.pools) n.header_is

  pub checkpoint_refused : (f : Flaw) → Err f ≡ found_or no_checkpoint (record_there rs h.pools 1) → Refused c f
  checkpoint_refused f s =
      let w = not_named rs h.pools (pools_at c) 1 no_checkpoint f pools_is s in
      pool_position rs n.records m metadata_there (none_starts rs (pools_at c) 1 w.1) w.0

  module _ (last : Framed) (s : Ok last ≡ found_or no_checkpoint (record_there rs h.pools 1)) where
    pub checkpoint_starts : IsTrue (starts_at rs h.pools 1)
    checkpoint_starts = found_any rs h.pools last (named_there rs h.pools h.pools 1 no_checkpoint last refl s)

    abbrev framed : Framing c
    framed = record {
      records = rs;
      cover = n.records;
      metadata = m;
      metadata_there = metadata_there;
      last = last;
      last_there = there_starts rs (pools_at c) 1 last (named_there rs h.pools (pools_at c) 1 no_checkpoint last pools_is s);
    }

    pub chain_refused : (fault : ReadFault) → IsRefusedChain c rs h.pools fault → IfFlawed (Refused c) fault
    chain_refused (Flawed flaw) r = let w = subst (λ at. IsRefusedChain c rs at (Flawed flaw)) pools_is r in chain framed w.0 w.1
    chain_refused Memory r = tt

    module _ (ls : List Link) (i : IsChain c rs h.pools (reverse ls)) where
      links : IsChain c rs (pools_at c) (reverse ls)
      links = subst (λ at. IsChain c rs at (reverse ls)) pools_is i

      abbrev chained : Chained c
      chained = record { framing = framed; chain = reverse ls; links = links }

      pub body_refused : (fault : ReadFault) → IfFlawed (IsMetadataFlaw c m) fault → IfFlawed (Refused c) fault
      body_refused (Flawed flaw) w = metadata chained w
      body_refused Memory w = tt

      module _ (b : Body) (k : Classes) (d : IsMetadata c m b k) where
        abbrev described : Described c
        described = record { chained = chained; body = b; classes = k; metadata = d }

        each : AllByRecursion (λ l. IsRecord c l.frame) ls
        each = subst (AllByRecursion (λ l. IsRecord c l.frame)) (reverse-reverse ls)
            (all_reverse (λ l. IsRecord c l.frame) (reverse ls) (links_record c rs (tiles_each c 68 (length c) rs n.records) (reverse ls) (links_each c rs (pools_at c) (reverse ls) links)))

        pub entries_refused : (fault : ReadFault) → TellsFlaw (entries_of c k 0 ls) fault → IfFlawed (Refused c) fault
        entries_refused (Flawed flaw) r = checkpoints described (subst (λ z. EntriesTell c k 0 z (Err flaw)) (sym (reverse-reverse ls)) (subst (EntriesTell c k 0 ls) r (entries_tell c k 0 ls each)))
        entries_refused Memory r = tt

        module _ (es : List EntryAt) (valid : AreEntries c k 0 ls es) where
          there : AreEntries c k 0 (reverse (reverse ls)) es
          there = subst (λ z. AreEntries c k 0 z es) (sym (reverse-reverse ls)) valid

          pub events_refused : (fault : ReadFault) → IfFlawed (IsRefusedEvents c k rs) fault → IfFlawed (Refused c) fault
          events_refused (Flawed flaw) w = events (record { described = described; entries = es; valid = there }) w
          events_refused Memory w = tt

          -- There are no more entries than bytes.
          pub entries_within : length es ≤ length c
          entries_within = entries_few c rs n.records (pools_at c) (reverse ls) links k (described_sound b k d.classes) es there

          pub indexed : (index : EventIndex) → Whole c → AreFields c k rs index.fields.items index.early → AreRefs (indexed_refs es k c rs index.early) 0 index.fields.items index.numbers.items
              → AreKeysIn es k c rs index.early index.fields.items index.keys
              → AreNotedIn (map (indexed_missing es k c rs index.early) index.fields.items) index.missing → ((id : ℕ) → is_in index.used.ids id ≡ used_in rs index.fields.items id)
              → IsIndexed (parts_in c rs ls b k es) h m index
          unfolding events_of
          indexed index whole f refs_end keys missing used = record {
            whole = whole;
            parts = record { records = n.records; chain = links; metadata_record = m; metadata_there = metadata_there; metadata = d; entries = there; events = f.valid };
            header_is = n.header_is;
            metadata_there = metadata_there;
            events = f.listed;
            refs_end = refs_end;
            keys = keys;
            missing = missing;
            used = used;
          }
