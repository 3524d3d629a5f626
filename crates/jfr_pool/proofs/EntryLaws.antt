-- The chained checkpoints have entries, or one has a flaw, and either is what is computed.
use Rattle.std.specs.Prelude.{◌≡◌, ℕ, zero, suc, ◌+◌, ◌-◌, ◌≤◌, List, [], ◌∷◌, ◌++◌, length, drop, reverse, slice_get, Some, Result, Ok, Err}
use Rattle.std.proofs.Common.{ap, arith, refl, sym, ◌∙◌, inl, inr, subst, append_assoc, get_or}
use Rattle.std.proofs.lemmas.List.{append-nil, get_or-reverse, length-reverse}
use Rattle.std.proofs.lemmas.Option.{slice_get_within, get_or_from_slice_get}
use Rattle.jfr_base.specs.declared.flaw.Flaw.{Flaw}
use Rattle.jfr_base.specs.declared.flaw.ReadFault.{ReadFault}
use Rattle.jfr_base.specs.declared.flaw.ReadFault.TheVariants.{Flawed, Memory}
use Rattle.jfr_base.specs.declared.reason.Reason.{Reason}
use Rattle.jfr_base.specs.Formats.{Stop, Done, Reads, Answer, run, times}
use Rattle.jfr_base.proofs.Exact.{ReadsOrFails, run_reads_or_fails}
use Rattle.jfr_base.proofs.OneAnswer.{reads_computed, fails_computed}
use Rattle.jfr_base.proofs.ReadLaws.{reads_parted, reads_within}
use Rattle.jfr_layout.specs.Classes.{Classes}
use Rattle.jfr_frame.specs.declared.framed.Framed.{Framed}
use Rattle.jfr_frame.specs.Records.{IsRecord, record_end}
use Rattle.jfr_pool.specs.declared.link.Link.{Link}
use Rattle.jfr_pool.specs.declared.entry.EntryAt.{EntryAt}
use Rattle.jfr_pool.specs.Chains.{IsLink, IsChain, IsReadFrom}
use Rattle.jfr_pool.specs.Entries.{PoolAt, pool_format, checkpoint_format, entries_from, AreEntries, EntriesFlaw, IsRefusedEntries, before_entries, entries_by, entries_of}
use Rattle.jfr_pool.specs.Faults.{TellsFlaw}
use Rattle.jfr_pool.specs.Listing.{listed, Adds}
use Rattle.jfr_pool.proofs.Among.{Among, among_of, are_records}

-- The links of a chain are checkpoints.
chain_among : (c : List ℕ) (rs : List Framed) (at : ℕ) (ls : List Link) → IsChain c rs at ls → (l : Link) → Among ls l → IsLink c rs l
chain_among c rs at [] h l a = absurd a
chain_among c rs at (x ∷ []) h l (inl e) = subst (IsLink c rs) e h.0
chain_among c rs at (x ∷ []) h l (inr a) = absurd a
chain_among c rs at (x ∷ m ∷ ls) h l (inl e) = subst (IsLink c rs) e h.0
chain_among c rs at (x ∷ m ∷ ls) h l (inr a) = chain_among c rs m.frame.at (m ∷ ls) h.3 l a

among_reversed : (ls : List Link) (i : ℕ) (l : Link) → slice_get ls i ≡ Some l → Among (reverse ls) l
among_reversed ls i l e =
    let b = slice_get_within ls i l e in
    let n : length (reverse ls) ≡ length ls = length-reverse ls in
    let k : length ls - 1 - (length ls - 1 - i) ≡ i = omega arith in
    among_of (reverse ls) l
    (length ls - 1 - i, omega arith, get_or-reverse ls (length ls - 1 - i) l (omega arith) ∙ ap (λ j. get_or ls j l) k ∙ get_or_from_slice_get ls i l l e)

pub link_record : (c : List ℕ) (ls : List Link) (i : ℕ) (l : Link) → IsReadFrom c ls → slice_get ls i ≡ Some l → IsRecord c l.frame
link_record c ls i l h e =
    let k = chain_among c h.records h.last (reverse ls) h.chain l (among_reversed ls i l e) in
    are_records c 68 (length c) h.records h.cover l.frame (among_of h.records l.frame k.framed)

-- A checkpoint's body is read to its end.
body_end : (c : List ℕ) (k : Classes) (end at : ℕ) (pools : List PoolAt) (to : ℕ) → at ≤ end → Reads (checkpoint_format k) c end at pools to → to ≡ end
unfolding checkpoint_format
body_end c k end at pools to h r =
    let n : ℕ = r.5.5.5.1.1 in
    let q = reads_parted (times n (pool_format k)) (λ pools. Stop (Done pools)) c end r.5.5.5.1.0 pools to r.5.5.5.1.5 in
    let i : end ≤ q.place = q.second.0 in
    let j : to ≡ q.place = q.second.1.1 in
    let l : to ≤ end = reads_within (checkpoint_format k) c end at pools to h r in
    omega arith

module _ (c : List ℕ) (k : Classes) where
  abbrev pub Told : ℕ → List Link → Result (List EntryAt) Flaw → Type 0
  Told n ls (Ok es) = AreEntries c k n ls es
  Told n ls (Err f) = EntriesFlaw c k ls f.offset f.reason

  abbrev pub Stand : List Link → Type 0
  Stand ls = (l : Link) → Among ls l → IsRecord c l.frame

  told_before : (n : ℕ) (l : Link) (ls : List Link) (pools : List PoolAt) → Reads (checkpoint_format k) c (record_end l.frame) l.frame.body pools (record_end l.frame)
      → (a : Result (List EntryAt) Flaw) → Told (n + 1) ls a → Told n (l ∷ ls) (before_entries (entries_from n 0 pools) a)
  told_before n l ls pools r (Ok es) h = (pools, r, es, refl, h)
  told_before n l ls pools r (Err f) h = inr (pools, r, h)

  pub entries_told : (n : ℕ) (ls : List Link) → Stand ls → Told n ls (entries_of c k n ls)
  entries_told n [] s = refl
  entries_told n (l ∷ ls) s =
      let i = s l (inl refl) in
      by_body (run (checkpoint_format k) c (record_end l.frame) l.frame.body) (run_reads_or_fails (checkpoint_format k) c (record_end l.frame) l.frame.body i.covers i.within)
      (entries_told (n + 1) ls (λ m a. s m (inr a)))
    where
      by_body : (a : Answer (List PoolAt)) → ReadsOrFails (checkpoint_format k) c (record_end l.frame) l.frame.body a → Told (n + 1) ls (entries_of c k (n + 1) ls)
          → Told n (l ∷ ls) (entries_by n a (entries_of c k (n + 1) ls))
      by_body (Err f) h t = inl h
      by_body (Ok g) h t =
          let i = s l (inl refl) in
          told_before n l ls g.value (subst (λ (z : ℕ). Reads (checkpoint_format k) c (record_end l.frame) l.frame.body g.value z)
          (body_end c k (record_end l.frame) l.frame.body g.value g.place i.covers h) h) (entries_of c k (n + 1) ls) t

  body_read : (l : Link) → IsRecord c l.frame → (pools : List PoolAt) → Reads (checkpoint_format k) c (record_end l.frame) l.frame.body pools (record_end l.frame)
      → run (checkpoint_format k) c (record_end l.frame) l.frame.body ≡ Ok (record { value = pools; place = record_end l.frame })
  body_read l i pools r = reads_computed c (record_end l.frame) i.within (checkpoint_format k) l.frame.body pools (record_end l.frame) i.covers r

  pub entries_read : (n : ℕ) (ls : List Link) (es : List EntryAt) → Stand ls → AreEntries c k n ls es → entries_of c k n ls ≡ Ok es
  entries_read n [] es s h = ap (λ z. Ok z) (sym h)
  entries_read n (l ∷ ls) es s (pools, r, later, e, h) =
      ap (λ a. entries_by n a (entries_of c k (n + 1) ls)) (body_read l (s l (inl refl)) pools r)
      ∙ ap (before_entries (entries_from n 0 pools)) (entries_read (n + 1) ls later (λ m a. s m (inr a)) h)
      ∙ ap (λ z. Ok z) (sym e)

  pub entries_fail : (n : ℕ) (ls : List Link) (o : ℕ) (why : Reason) → Stand ls → EntriesFlaw c k ls o why → entries_of c k n ls ≡ Err (record { offset = o; reason = why })
  entries_fail n [] o why s h = absurd h
  entries_fail n (l ∷ ls) o why s (inl f) =
      let i = s l (inl refl) in
      ap (λ a. entries_by n a (entries_of c k (n + 1) ls)) (fails_computed c (record_end l.frame) i.within (checkpoint_format k) l.frame.body o why i.covers f)
  entries_fail n (l ∷ ls) o why s (inr (pools, r, h)) =
      ap (λ a. entries_by n a (entries_of c k (n + 1) ls)) (body_read l (s l (inl refl)) pools r)
      ∙ ap (before_entries (entries_from n 0 pools)) (entries_fail (n + 1) ls o why (λ m a. s m (inr a)) h)

-- The entries of the checkpoints before a number are gathered.
pub record Gathered (c : List ℕ) (k : Classes) (ls : List Link) (number : ℕ) (es : List EntryAt) : Type 0 where
  pub same : entries_of c k 0 ls ≡ before_entries es (entries_of c k number (drop number ls))

before_none : (a : Result (List EntryAt) Flaw) → a ≡ before_entries [] a
before_none (Ok es) = refl
before_none (Err f) = refl

pub gathered_none : (c : List ℕ) (k : Classes) (ls : List Link) (es : List EntryAt) → es ≡ [] → Gathered c k ls 0 es
gathered_none c k ls es e = record { same = before_none (entries_of c k 0 ls) ∙ ap (λ z. before_entries z (entries_of c k 0 ls)) (sym e) }

drop_more : (ls : List Link) (i : ℕ) (l : Link) → slice_get ls i ≡ Some l → drop i ls ≡ l ∷ drop (i + 1) ls
drop_more [] i l e = cc
drop_more (x ∷ ls) zero l e = let q : x ≡ l = cc in ap (λ z. z ∷ ls) q
drop_more (x ∷ ls) (suc i) l e = let q : suc i + 1 ≡ suc (i + 1) = omega arith in drop_more ls i l e ∙ ap (λ n. l ∷ drop n (x ∷ ls)) (sym q)

before_before : (es fs : List EntryAt) (a : Result (List EntryAt) Flaw) → before_entries es (before_entries fs a) ≡ before_entries (es ++ fs) a
before_before es fs (Ok gs) = ap (λ z. Ok z) (sym (append_assoc es fs gs))
before_before es fs (Err f) = refl

listed_ok : (n : ℕ) (a : Answer (List PoolAt)) (later : Result (List EntryAt) Flaw) (es : List EntryAt) (to : ℕ) → listed (entries_from n 0) a ≡ Ok (es, to)
    → entries_by n a later ≡ before_entries es later
listed_ok n (Ok g) later es to e =
    let q : (entries_from n 0 g.value, g.place) ≡ (es, to) = cc in
    ap (λ z. before_entries z later) (ap (λ (z : List EntryAt × ℕ). z.0) q)
listed_ok n (Err f) later es to e = cc

listed_err : (n : ℕ) (a : Answer (List PoolAt)) (later : Result (List EntryAt) Flaw) (f : Flaw) → listed (entries_from n 0) a ≡ Err f → entries_by n a later ≡ Err f
listed_err n (Ok g) later f e = cc
listed_err n (Err g) later f e = ap (λ (z : Flaw). Err z) (let q : g ≡ f = cc in q)

module _ (c : List ℕ) (k : Classes) (ls : List Link) (i : ℕ) (es : List EntryAt) (l : Link) (h : Gathered c k ls i es) (there : slice_get ls i ≡ Some l) where
  abbrev body_listing : Result (List EntryAt × ℕ) Flaw
  body_listing = listed (entries_from i 0) (run (checkpoint_format k) c (record_end l.frame) l.frame.body)

  gathered_step : entries_of c k 0 ls ≡ before_entries es (entries_by i (run (checkpoint_format k) c (record_end l.frame) l.frame.body) (entries_of c k (i + 1) (drop (i + 1) ls)))
  gathered_step = h.same ∙ ap (λ z. before_entries es (entries_of c k i z)) (drop_more ls i l there)

  pub gathered_more : (new : List EntryAt) (to : ℕ) → Adds body_listing es new (Ok to) → Gathered c k ls (i + 1) new
  gathered_more new to a = record {
    same =
        gathered_step
        ∙ ap (before_entries es) (listed_ok i (run (checkpoint_format k) c (record_end l.frame) l.frame.body) (entries_of c k (i + 1) (drop (i + 1) ls)) a.0 to a.1)
        ∙ before_before es a.0 (entries_of c k (i + 1) (drop (i + 1) ls))
        ∙ ap (λ z. before_entries z (entries_of c k (i + 1) (drop (i + 1) ls))) (sym a.2);
  }

  pub gathered_fault : (fault : ReadFault) → TellsFlaw body_listing fault → TellsFlaw (entries_of c k 0 ls) fault
  gathered_fault (Flawed f) e = gathered_step ∙ ap (before_entries es) (listed_err i (run (checkpoint_format k) c (record_end l.frame) l.frame.body) (entries_of c k (i + 1) (drop (i + 1) ls)) f e)
  gathered_fault Memory e = tt

drop_all : (ls : List Link) (i : ℕ) → length ls ≤ i → drop i ls ≡ []
drop_all [] zero h = refl
drop_all [] (suc i) h = refl
drop_all (x ∷ ls) zero h = absurd (omega arith)
drop_all (x ∷ ls) (suc i) h = drop_all ls i (omega arith)

pub gathered_all : (c : List ℕ) (k : Classes) (ls : List Link) (i : ℕ) (es : List EntryAt) → Gathered c k ls i es → length ls ≤ i → entries_of c k 0 ls ≡ Ok es
gathered_all c k ls i es h l = h.same ∙ ap (λ z. before_entries es (entries_of c k i z)) (drop_all ls i l) ∙ ap (λ z. Ok z) (append-nil es)

-- What the entries, or the flaw, that are computed say of a chain.
pub chain_stands : (c : List ℕ) (ls : List Link) → IsReadFrom c ls → (l : Link) → Among ls l → IsRecord c l.frame
chain_stands c ls h l a = by_place (place ls a)
  where
    by_place : (i : ℕ) × (slice_get ls i ≡ Some l) → IsRecord c l.frame
    by_place (i, e) = link_record c ls i l h e

    place : (ms : List Link) → Among ms l → (i : ℕ) × (slice_get ms i ≡ Some l)
    place [] a = absurd a
    place (m ∷ ms) (inl e) = (0, ap (λ z. Some z) e)
    place (m ∷ ms) (inr a) = let (i, e) = place ms a in (suc i, e)

pub told_entries : (c : List ℕ) (k : Classes) (ls : List Link) (es : List EntryAt) → IsReadFrom c ls → entries_of c k 0 ls ≡ Ok es → AreEntries c k 0 ls es
told_entries c k ls es h e = subst (Told c k 0 ls) e (entries_told c k 0 ls (chain_stands c ls h))

pub told_fault : (c : List ℕ) (k : Classes) (ls : List Link) (fault : ReadFault) → IsReadFrom c ls → TellsFlaw (entries_of c k 0 ls) fault → IsRefusedEntries c k ls fault
told_fault c k ls (Flawed f) h e = subst (Told c k 0 ls) e (entries_told c k 0 ls (chain_stands c ls h))
told_fault c k ls Memory h e = tt
