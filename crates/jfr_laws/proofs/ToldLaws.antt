-- An output is made of what it tells, and of nothing else, whatever is written for its events and entries.
use Rattle.std.specs.Prelude.{◌≡◌, ℕ, ◌+◌, ◌-◌, Bool, true, false, ◌==◌, List, [], ◌∷◌, ◌++◌, reverse, length, map, find, slice_range, Option, Some, None, if◌then◌else◌, ⊤}
use Rattle.std.specs.List.{flat_map, AllByRecursion, cons_option, enumerate_from, filter_map}
use Rattle.std.proofs.Common.{ap, arith, refl, sym, ◌∙◌}
use Rattle.std.proofs.lemmas.Bool.Decides.{nat_tests}
use Rattle.std.proofs.lemmas.List.{length-map}
use Rattle.jfr_base.specs.Integer.{spell}
use Rattle.jfr_frame.specs.declared.framed.Framed.{Framed}
use Rattle.jfr_frame.specs.Records.{IsRecord, record_bytes}
use Rattle.jfr_frame.proofs.RecordLaws.{record_one}
use Rattle.jfr_pool.specs.declared.link.Link.{Link}
use Rattle.jfr_pool.specs.declared.entry.EntryAt.{EntryAt}
use Rattle.jfr_pool.specs.Chains.{IsLink}
use Rattle.jfr_worklist.proofs.Members.{contains_in}
use Rattle.jfr_chunk.specs.Parts.{Parts, EventAt, AreParts, metadata_at, pools_at}
use Rattle.jfr_chunk.specs.Reach.{remain}
use Rattle.jfr_chunk.specs.Written.{Group, distance, entry_bytes, sized}
use Rattle.jfr_chunk.specs.Scrub.{OutputRecord, Whole, Chained, Rebuilt, Written, bytes_of, groups_of, header_with, is_kept_or_metadata, newest_at, moved, newest_after, output_record_by, output_record_of, output_records, record_of, scrub_with, written, written_anew}
use Rattle.jfr_chunk.proofs.AllLaws.{all_in, all_reverse}
use Rattle.jfr_chunk.proofs.HasNodesLaws.{links_each}
use Rattle.jfr_laws.specs.Told.{ToldRecord, Event, Metadata, after, body_from, last_from, metadata_from, pool_bytes, rendered, tail_bytes, told, told_by, told_bytes, told_head, told_pool, told_record}
use Rattle.jfr_laws.proofs.Order.{found_numbered}
use Rattle.jfr_laws.proofs.Premises.{metadata_stands, recorded}

-- What is built anew is the record at this offset, and no checkpoint is.
abbrev pub IsApart : ℕ → OutputRecord → Type 0
IsApart m (Whole r) = ⊤
IsApart m (Rebuilt r x) = (r.at == m) ≡ true
IsApart m (Chained number l) = (l.frame.at == m) ≡ false

-- A pool, given the bytes of an entry.
abbrev pub pool_with : (EntryAt → List ℕ) → Group → List ℕ
pool_with entry g = spell g.class ++ (spell (length g.entries) ++ flat_map entry g.entries)

-- A checkpoint with these pools, given the bytes of an entry.
abbrev pub checkpoint_with : (EntryAt → List ℕ) → List ℕ → Link → ℕ → List Group → List ℕ
checkpoint_with entry c l delta gs =
    sized (l.frame.type_at - l.frame.at) (slice_range c l.frame.type_at l.frame.body ++ (slice_range c l.frame.body l.delta_at ++ (spell delta ++ (slice_range c l.delta_end (l.delta_end + 1)
    ++ (spell (length gs) ++ flat_map (pool_with entry) gs)))))

-- Output records have these bytes, and are laid out one after another, given the bytes of what isn't a checkpoint,
-- the entries of the output, and the bytes of each.
pub record AreWritten (whole : Framed → List ℕ) (entry : EntryAt → List ℕ) (c : List ℕ) (entries : List EntryAt) (bytes : OutputRecord → ℕ → Option ℕ → List ℕ)
    (lay : ℕ → Option ℕ → List OutputRecord → List Written) : Type 0 where
  pub whole_bytes : (r : Framed) (at : ℕ) (older : Option ℕ) → bytes (Whole r) at older ≡ whole r
  pub new_bytes : (r : Framed) (x : List ℕ) (at : ℕ) (older : Option ℕ) → bytes (Rebuilt r x) at older ≡ x
  pub chained_bytes : (number : ℕ) (l : Link) (at : ℕ) (older : Option ℕ) → bytes (Chained number l) at older ≡ checkpoint_with entry c l (distance at older) (groups_of entries number)
  pub none : (at : ℕ) (older : Option ℕ) → lay at older [] ≡ []
  pub next : (at : ℕ) (older : Option ℕ) (s : OutputRecord) (ss : List OutputRecord)
      → lay at older (s ∷ ss) ≡ record { output_record = s; at = at; newest = older } ∷ lay (at + length (bytes s at older)) (newest_after s at older) ss

module _ (whole : Framed → List ℕ) (entry : EntryAt → List ℕ) (p : Parts) (entries : List EntryAt) (bytes : OutputRecord → ℕ → Option ℕ → List ℕ) (lay : ℕ → Option ℕ → List OutputRecord → List Written)
    (are : AreWritten whole entry p.bytes entries bytes lay) where
  abbrev shown : OutputRecord → ToldRecord
  shown s = told_record whole entry p entries s

  abbrev m : ℕ
  m = metadata_at p.bytes

  -- The bytes of one record.
  entries_same : (es : List EntryAt) → flat_map (λ x. x) (map entry es) ≡ flat_map entry es
  entries_same [] = refl
  entries_same (e ∷ es) = ap (λ z. entry e ++ z) (entries_same es)

  pools_same : (gs : List Group) → flat_map pool_bytes (map (told_pool entry) gs) ≡ flat_map (pool_with entry) gs
  pools_same [] = refl
  pools_same (g ∷ gs) = rw (entries_same g.entries, length-map g.entries entry, pools_same gs) refl

  checkpoint_same : (gs : List Group) (l : Link) (delta : ℕ)
      → sized (l.frame.type_at - l.frame.at) (tail_bytes (record (told_head p.bytes l) { pools = map (told_pool entry) gs }) delta) ≡ checkpoint_with entry p.bytes l delta gs
  checkpoint_same gs l delta = rw (pools_same gs, length-map gs (told_pool entry)) refl

  bytes_same : (s : OutputRecord) (at : ℕ) (older : Option ℕ) → told_bytes (shown s) at older ≡ bytes s at older
  bytes_same (Whole r) at older = by_test (r.at == m) ∙ sym (are.whole_bytes r at older)
    where
      by_test : (t : Bool) → told_bytes (if t then Metadata (whole r) else Event (whole r)) at older ≡ whole r
      by_test true = refl
      by_test false = refl
  bytes_same (Rebuilt r x) at older = sym (are.new_bytes r x at older)
  bytes_same (Chained number l) at older = checkpoint_same (groups_of entries number) l (distance at older) ∙ sym (are.chained_bytes number l at older)

  after_same : (s : OutputRecord) (at : ℕ) (older : Option ℕ) → after (shown s) at older ≡ newest_after s at older
  after_same (Whole r) at older = by_test (r.at == m)
    where
      by_test : (t : Bool) → after (if t then Metadata (whole r) else Event (whole r)) at older ≡ older
      by_test true = refl
      by_test false = refl
  after_same (Rebuilt r x) at older = refl
  after_same (Chained number l) at older = refl

  -- The bytes of all.
  abbrev body : ℕ → Option ℕ → List OutputRecord → List ℕ
  body at older ss = flat_map (λ w. bytes w.output_record w.at w.newest) (lay at older ss)

  body_same : (ss : List OutputRecord) (at : ℕ) (older : Option ℕ) → body_from at older (map shown ss) ≡ body at older ss
  body_same [] at older = sym (ap (flat_map (λ w. bytes w.output_record w.at w.newest)) (are.none at older))
  body_same (s ∷ ss) at older =
      (λ i. bytes_same s at older i ++ body_from (at + length (bytes_same s at older i)) (after_same s at older i) (map shown ss))
      ∙ (ap (λ z. bytes s at older ++ z) (body_same ss (at + length (bytes s at older)) (newest_after s at older))
      ∙ sym (ap (flat_map (λ w. bytes w.output_record w.at w.newest)) (are.next at older s ss)))

  -- The offset of the last checkpoint.
  last_step : (s : OutputRecord) (ss : List OutputRecord) (at : ℕ) (older : Option ℕ)
      → last_from at older (map shown (s ∷ ss)) ≡ last_from (at + length (bytes s at older)) (newest_after s at older) (map shown ss)
  last_step s ss at older = λ i. last_from (at + length (bytes_same s at older i)) (after_same s at older i) (map shown ss)

  last_same : (ss : List OutputRecord) (at : ℕ) (older : Option ℕ) → last_from at older (map shown ss) ≡ newest_at older (lay at older ss)
  last_same [] at None = sym (ap (newest_at None) (are.none at None))
  last_same [] at (Some o) = sym (ap (newest_at (Some o)) (are.none at (Some o)))
  last_same (s ∷ ss) at None = last_step s ss at None ∙ (last_same ss (at + length (bytes s at None)) (newest_after s at None) ∙ sym (ap (newest_at None) (are.next at None s ss)))
  last_same (s ∷ ss) at (Some o) = last_step s ss at (Some o)
      ∙ (last_same ss (at + length (bytes s at (Some o))) (newest_after s at (Some o)) ∙ sym (ap (newest_at (Some o)) (are.next at (Some o) s ss)))

  -- The offset of the metadata record.
  moved_here : (s : OutputRecord) (at : ℕ) (older : Option ℕ) (ws : List Written) → ((record_of s).at == m) ≡ true → at ≡ moved (record { output_record = s; at = at; newest = older } ∷ ws) m
  moved_here s at older ws e = rw e refl

  moved_on : (s : OutputRecord) (at : ℕ) (older : Option ℕ) (ws : List Written) → ((record_of s).at == m) ≡ false → moved ws m ≡ moved (record { output_record = s; at = at; newest = older } ∷ ws) m
  moved_on s at older ws e = rw e refl

  metadata_same : (ss : List OutputRecord) (at : ℕ) (older : Option ℕ) → AllByRecursion (IsApart m) ss → metadata_from at older (map shown ss) ≡ moved (lay at older ss) m
  metadata_same [] at older a = sym (ap (λ z. moved z m) (are.none at older))
  metadata_same (Whole r ∷ ss) at older a = by_test (r.at == m) refl (metadata_same ss (at + length (whole r)) older a.1) ∙ sym (ap (λ z. moved z m) laid)
    where
      laid : lay at older (Whole r ∷ ss) ≡ record { output_record = Whole r; at = at; newest = older } ∷ lay (at + length (whole r)) older ss
      laid = are.next at older (Whole r) ss ∙ ap (λ z. record { output_record = Whole r; at = at; newest = older } ∷ lay (at + length z) older ss) (are.whole_bytes r at older)

      by_test : (t : Bool) → (r.at == m) ≡ t → metadata_from (at + length (whole r)) older (map shown ss) ≡ moved (lay (at + length (whole r)) older ss) m
          → metadata_from at older ((if t then Metadata (whole r) else Event (whole r)) ∷ map shown ss) ≡ moved (record { output_record = Whole r; at = at; newest = older } ∷ lay (at + length (whole r)) older ss) m
      by_test true e i = moved_here (Whole r) at older (lay (at + length (whole r)) older ss) e
      by_test false e i = i ∙ moved_on (Whole r) at older (lay (at + length (whole r)) older ss) e
  metadata_same (Rebuilt r x ∷ ss) at older a =
      moved_here (Rebuilt r x) at older (lay (at + length (bytes (Rebuilt r x) at older)) older ss) a.0 ∙ sym (ap (λ z. moved z m) (are.next at older (Rebuilt r x) ss))
  metadata_same (Chained number l ∷ ss) at older a =
      ap (λ z. metadata_from (at + length z) (Some at) (map shown ss)) (bytes_same (Chained number l) at older)
      ∙ (metadata_same ss (at + length (bytes (Chained number l) at older)) (Some at) a.1
      ∙ (moved_on (Chained number l) at older (lay (at + length (bytes (Chained number l) at older)) (Some at) ss) a.0 ∙ sym (ap (λ z. moved z m) (are.next at older (Chained number l) ss))))

  pub rendered_same : (ss : List OutputRecord) → AllByRecursion (IsApart m) ss
      → header_with p.bytes (68 + length (body 68 None ss)) (newest_at None (lay 68 None ss)) (moved (lay 68 None ss) m) ++ body 68 None ss ≡ rendered (told_by whole entry p entries ss)
  unfolding rendered
  rendered_same ss a = λ i. header_with p.bytes (68 + length (sym (body_same ss 68 None) i)) (sym (last_same ss 68 None) i) (sym (metadata_same ss 68 None a) i) ++ sym (body_same ss 68 None) i

-- Of the records that an accepted chunk's output has, only the metadata record is built anew, and no checkpoint is.
numbered_each : (P : Link → Type 0) (n : ℕ) (ls : List Link) → AllByRecursion P ls → AllByRecursion (λ (l : ℕ × Link). P l.1) (enumerate_from n ls)
numbered_each P n [] a = tt
numbered_each P n (l ∷ ls) a = (a.0, numbered_each P (n + 1) ls a.1)

module _ (slim : Option (List ℕ)) (p : Parts) (kept : List EventAt) (a : AreParts p) where
  abbrev Elsewhere : Link → Type 0
  Elsewhere l = (l.frame.at == metadata_at p.bytes) ≡ false

  elsewhere : (l : Link) → IsLink p.bytes p.records l → Elsewhere l
  elsewhere l k = by_test (l.frame.at == metadata_at p.bytes) refl
    where
      two_types : (n : ℕ) → n ≡ 1 → n ≡ 0 → ⊥
      two_types n e f = omega arith

      by_test : (t : Bool) → (l.frame.at == metadata_at p.bytes) ≡ t → t ≡ false
      by_test false e = refl
      by_test true e =
          let q : l.frame.at ≡ metadata_at p.bytes = grind (arith, nat_tests) in
          let s : IsRecord p.bytes l.frame = all_in (IsRecord p.bytes) p.records l.frame (recorded p a) (contains_in p.records l.frame k.framed) in
          let g : l.frame ≡ a.metadata_record = record_one p.bytes l.frame a.metadata_record s (metadata_stands p a) (q ∙ sym a.metadata_there.place) in
          absurd (two_types l.frame.type_id k.checkpoint (ap (λ (z : Framed). z.type_id) g ∙ a.metadata_there.type_is))

  each_elsewhere : (ls : List Link) → AllByRecursion (IsLink p.bytes p.records) ls → AllByRecursion Elsewhere ls
  each_elsewhere [] k = tt
  each_elsewhere (l ∷ ls) k = (elsewhere l k.0, each_elsewhere ls k.1)

  links : AllByRecursion (λ (l : ℕ × Link). Elsewhere l.1) (enumerate_from 0 (reverse p.chain))
  links = numbered_each Elsewhere 0 (reverse p.chain) (all_reverse Elsewhere p.chain (each_elsewhere p.chain (links_each p.bytes p.records (pools_at p.bytes) p.chain a.chain)))

  at_metadata : (r : Framed) (x : List ℕ) → written_anew slim p r ≡ Some x → (r.at == metadata_at p.bytes) ≡ true
  at_metadata r x e = by_test (r.at == metadata_at p.bytes) e
    where
      by_test : (t : Bool) → (if t then slim else None) ≡ Some x → t ≡ true
      by_test true h = refl
      by_test false h = cc

  abbrev AllApart : List OutputRecord → Type 0
  AllApart ss = AllByRecursion (IsApart (metadata_at p.bytes)) ss

  apart_from : (rs : List Framed) → AllApart (filter_map (output_record_of slim p kept) rs)
  apart_from [] = tt
  apart_from (r ∷ rs) = one (find (λ l. l.1.frame.at == r.at) (enumerate_from 0 (reverse p.chain))) refl (is_kept_or_metadata p kept r) (written_anew slim p r) refl (apart_from rs)
    where
      one : (o : Option (ℕ × Link)) → find (λ l. l.1.frame.at == r.at) (enumerate_from 0 (reverse p.chain)) ≡ o → (t : Bool) (w : Option (List ℕ)) → written_anew slim p r ≡ w
          → AllApart (filter_map (output_record_of slim p kept) rs) → AllApart (cons_option (output_record_by o t w r) (filter_map (output_record_of slim p kept) rs))
      one (Some l) e t w f i = ((found_numbered (λ (x : ℕ × Link). Elsewhere x.1) (enumerate_from 0 (reverse p.chain)) r.at l links e).0, i)
      one None e true None f i = (tt, i)
      one None e true (Some x) f i = (at_metadata r x f, i)
      one None e false w f i = i

  pub all_apart : AllApart (output_records slim p kept)
  all_apart = apart_from p.records

  are_written : AreWritten (record_bytes p.bytes) (entry_bytes p.bytes) p.bytes (remain p kept) (bytes_of p.bytes (remain p kept)) (written p.bytes (remain p kept))
  are_written = record { whole_bytes = λ r at older. refl; new_bytes = λ r x at older. refl; chained_bytes = λ number l at older. refl; none = λ at older. refl; next = λ at older s ss. refl }

  -- The law: the output is made of what `told` lists, and of nothing else.
  pub scrub_tells : scrub_with slim p kept ≡ rendered (told slim p kept)
  unfolding scrub_with told
  scrub_tells = rendered_same (record_bytes p.bytes) (entry_bytes p.bytes) p (remain p kept) (bytes_of p.bytes (remain p kept)) (written p.bytes (remain p kept)) are_written
      (output_records slim p kept) all_apart
