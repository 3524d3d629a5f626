-- What the parts of a chunk say of what stays of it: it can be written.
use Rattle.std.specs.Prelude.{◌≡◌, ℕ, ◌+◌, ◌≤◌, Bool, true, false, List, [], ◌∷◌, reverse, length, Option, Some, None, ⊤}
use Rattle.std.specs.List.{AllByRecursion, cons_option, enumerate_from}
use Rattle.std.proofs.Common.{ap, arith, refl, sym, subst, inl, inr}
use Rattle.jfr_layout.specs.Classes.{Classes}
use Rattle.jfr_frame.specs.declared.framed.Framed.{Framed}
use Rattle.jfr_frame.specs.Records.{IsRecord, Tiles}
use Rattle.jfr_pool.specs.declared.link.Link.{Link}
use Rattle.jfr_pool.specs.declared.entry.EntryAt.{EntryAt}
use Rattle.jfr_pool.specs.Chains.{IsLink}
use Rattle.jfr_chunk.specs.Parts.{Parts, AreParts, pools_at}
use Rattle.jfr_chunk.specs.Reach.{marked}
use Rattle.jfr_chunk.specs.Scrub.{OutputRecord, Whole, Chained, Rebuilt, output_record_by, groups_of}
use Rattle.jfr_worklist.specs.Members.{In}
use Rattle.jfr_worklist.proofs.Members.{contains_in}
use Rattle.jfr_chunk.proofs.AllLaws.{all_in}
use Rattle.jfr_chunk.proofs.HasNodesLaws.{tiles_each}
use Rattle.jfr_laws.proofs.Chains.{Linked, chain_linked}
use Rattle.jfr_laws.proofs.Checkpoints.{CanWrite, checkpoints_can, nine_of}
use Rattle.jfr_laws.proofs.Order.{Numbered, numbered_at, output_records_in, chained_of, Rising, Occurs, AllOccur, occurs_low, in_order}
use Rattle.jfr_laws.proofs.OutputRecords.{Deltas, IsOutputRecordIn, own_frame}

-- The chained checkpoints with their numbers, oldest first.
abbrev pub all_links : Parts → List Numbered
all_links p = enumerate_from 0 (reverse p.chain)

-- A record of type 1.
abbrev pub IsCheckpoint : List ℕ → Numbered → Type 0
IsCheckpoint c m = IsRecord c m.1.frame × (m.1.frame.type_id ≡ 1)

occurs_in : (rs : List Framed) (f : Framed) → In rs f → Occurs f.at rs
occurs_in [] f i = absurd i
occurs_in (r ∷ rs) f (inl e) = inl (ap (λ (z : Framed). z.at) e)
occurs_in (r ∷ rs) f (inr i) = inr (occurs_in rs f i)

module _ (c : List ℕ) (rs : List Framed) where
  links_stand : (older : Option ℕ) (ls : List Link) → AllByRecursion (IsRecord c) rs → Linked c rs older ls → AllByRecursion (λ l. IsRecord c l.frame × IsLink c rs l) ls
  links_stand older [] a k = tt
  links_stand older (l ∷ ls) a k = ((all_in (IsRecord c) rs l.frame a (contains_in rs l.frame k.0.framed), k.0), links_stand (Some l.frame.at) ls a k.2)

  checkpoints_stand : (i : ℕ) (ls : List Link) → AllByRecursion (λ l. IsRecord c l.frame × IsLink c rs l) ls → AllByRecursion (IsCheckpoint c) (enumerate_from i ls)
  checkpoints_stand i [] a = tt
  checkpoints_stand i (l ∷ ls) a = ((a.0.0, a.0.1.checkpoint), checkpoints_stand (i + 1) ls a.1)

  links_occur : (older : Option ℕ) (i : ℕ) (ls : List Link) → Linked c rs older ls → AllOccur rs (enumerate_from i ls)
  links_occur older i [] k = tt
  links_occur older i (l ∷ ls) k = (occurs_in rs l.frame (contains_in rs l.frame k.0.framed), links_occur (Some l.frame.at) (i + 1) ls k.2)

  links_rise : (at i : ℕ) (ls : List Link) → Linked c rs (Some at) ls → Rising (at + 1) (enumerate_from i ls)
  links_rise at i [] k = tt
  links_rise at i (l ∷ ls) k = (omega (arith, k.1.earlier), links_rise l.frame.at (i + 1) ls k.2)

  chain_rises : (p q : ℕ) (ls : List Link) → Tiles c p rs q → Linked c rs None ls → Rising p (enumerate_from 0 ls)
  chain_rises p q [] t k = tt
  chain_rises p q (l ∷ ls) t k = (occurs_low c p q rs l.frame.at t (links_occur None 0 (l ∷ ls) k).0, links_rise l.frame.at 1 ls k.2)

-- It took nine bytes for its delta.
abbrev IsNine : Numbered → Type 0
IsNine m = m.1.delta_end ≡ m.1.delta_at + 9

abbrev Nines : Bool → List Numbered → Type 0
Nines true ts = AllByRecursion IsNine ts
Nines false [] = ⊤
Nines false (t ∷ ts) = AllByRecursion IsNine ts

module _ (c : List ℕ) (k : Classes) (remaining : List EntryAt) where
  -- It can be written with the entries that are left.
  abbrev CanOutputRecord : Numbered → Type 0
  CanOutputRecord m = CanWrite c k m.1 (groups_of remaining m.0)

  nines_later : (rs : List Framed) (older i : ℕ) (ls : List Link) → AllByRecursion CanOutputRecord (enumerate_from i ls) → Linked c rs (Some older) ls → AllByRecursion IsNine (enumerate_from i ls)
  nines_later rs older i [] a b = tt
  nines_later rs older i (l ∷ ls) a b = (nine_of c l older a.0.link b.1, nines_later rs l.frame.at (i + 1) ls a.1 b.2)

  nines : (rs : List Framed) (ls : List Link) → AllByRecursion CanOutputRecord (enumerate_from 0 ls) → Linked c rs None ls → Nines false (enumerate_from 0 ls)
  nines rs [] a b = tt
  nines rs (l ∷ ls) a b = nines_later rs l.frame.at 1 ls a.1 b.2

deltas_of : (seen : Bool) (ss : List OutputRecord) → Nines seen (chained_of ss) → Deltas seen ss
deltas_of seen [] n = tt
deltas_of seen (Whole r ∷ ss) n = deltas_of seen ss n
deltas_of seen (Rebuilt r x ∷ ss) n = deltas_of seen ss n
deltas_of true (Chained i l ∷ ss) n = ((λ e. n.0), deltas_of true ss n.1)
deltas_of false (Chained i l ∷ ss) n = ((λ e. cc), deltas_of true ss n)

-- What holds of those that stay whole.
abbrev pub OnWhole : (Framed → Type 0) → OutputRecord → Type 0
OnWhole P (Whole r) = P r
OnWhole P (Chained i l) = ⊤
OnWhole P (Rebuilt r x) = ⊤

pub on_whole : (P : Framed → Type 0) (all : List Numbered) (whole : Framed → Bool) (new : Framed → Option (List ℕ)) (rs : List Framed) → AllByRecursion P rs
    → AllByRecursion (OnWhole P) (output_records_in all whole new rs)
on_whole P all whole new [] a = tt
on_whole P all whole new (r ∷ rs) a = one (numbered_at all r.at) (whole r) (new r) (on_whole P all whole new rs a.1)
  where
    one : (o : Option Numbered) (t : Bool) (w : Option (List ℕ)) → AllByRecursion (OnWhole P) (output_records_in all whole new rs)
        → AllByRecursion (OnWhole P) (cons_option (output_record_by o t w r) (output_records_in all whole new rs))
    one (Some l) t w i = (tt, i)
    one None true None i = (a.0, i)
    one None true (Some x) i = (tt, i)
    one None false w i = i

-- What is built anew is a record by itself, and no longer than what it was.
abbrev pub OnAnew : List ℕ → OutputRecord → Type 0
OnAnew c (Whole r) = ⊤
OnAnew c (Chained i l) = ⊤
OnAnew c (Rebuilt r x) = IsRecord c r × IsRecord x (own_frame x) × (length x ≤ r.size)

-- So is each record that is built anew.
abbrev pub GoodAnew : List ℕ → (Framed → Option (List ℕ)) → Type 0
GoodAnew c new = (r : Framed) (x : List ℕ) → IsRecord c r → new r ≡ Some x → IsRecord x (own_frame x) × (length x ≤ r.size)

on_anew : (c : List ℕ) (all : List Numbered) (whole : Framed → Bool) (new : Framed → Option (List ℕ)) → GoodAnew c new → (rs : List Framed) → AllByRecursion (IsRecord c) rs
    → AllByRecursion (OnAnew c) (output_records_in all whole new rs)
on_anew c all whole new g [] a = tt
on_anew c all whole new g (r ∷ rs) a = one (numbered_at all r.at) (whole r) (new r) refl (on_anew c all whole new g rs a.1)
  where
    one : (o : Option Numbered) (t : Bool) (w : Option (List ℕ)) → new r ≡ w → AllByRecursion (OnAnew c) (output_records_in all whole new rs)
        → AllByRecursion (OnAnew c) (cons_option (output_record_by o t w r) (output_records_in all whole new rs))
    one (Some l) t w q i = (tt, i)
    one None true None q i = (tt, i)
    one None true (Some x) q i = (let h = g r x a.0 q in ((a.0, h.0, h.1), i))
    one None false w q i = i

output_records_stand : (c : List ℕ) (remaining : List EntryAt) (k : Classes) (ss : List OutputRecord) → AllByRecursion (OnWhole (IsRecord c)) ss → AllByRecursion (OnAnew c) ss
    → AllByRecursion (CanOutputRecord c k remaining) (chained_of ss) → AllByRecursion (IsOutputRecordIn c remaining k) ss
output_records_stand c remaining k [] a w d = tt
output_records_stand c remaining k (Whole r ∷ ss) a w d = (a.0, output_records_stand c remaining k ss a.1 w.1 d)
output_records_stand c remaining k (Rebuilt r x ∷ ss) a w d = (w.0, output_records_stand c remaining k ss a.1 w.1 d)
output_records_stand c remaining k (Chained i l ∷ ss) a w d = ((d.0.link, d.0.groups, d.0.room), output_records_stand c remaining k ss a.1 w.1 d.1)

-- What stays can be written, with these entries left.
pub record Ready (p : Parts) (remaining : List EntryAt) (ss : List OutputRecord) : Type 0 where
  pub order : chained_of ss ≡ all_links p
  pub valid : AllByRecursion (IsOutputRecordIn p.bytes remaining p.classes) ss
  pub deltas : Deltas false ss

module _ (p : Parts) (a : AreParts p) where
  abbrev pub recorded : AllByRecursion (IsRecord p.bytes) p.records
  recorded = tiles_each p.bytes 68 (length p.bytes) p.records a.records

  pub metadata_stands : IsRecord p.bytes a.metadata_record
  metadata_stands = all_in (IsRecord p.bytes) p.records a.metadata_record recorded (contains_in p.records a.metadata_record a.metadata_there.listed)

  linked : Linked p.bytes p.records None (reverse p.chain)
  linked = chain_linked p.bytes p.records (pools_at p.bytes) p.chain a.chain

  abbrev standing_links : AllByRecursion (λ l. IsRecord p.bytes l.frame × IsLink p.bytes p.records l) (reverse p.chain)
  standing_links = links_stand p.bytes p.records None (reverse p.chain) recorded linked

  pub chained_checkpoints : AllByRecursion (IsCheckpoint p.bytes) (all_links p)
  chained_checkpoints = checkpoints_stand p.bytes p.records 0 (reverse p.chain) standing_links

  pub ready : (whole : Framed → Bool) (new : Framed → Option (List ℕ)) → GoodAnew p.bytes new → (marks : List Bool)
      → Ready p (marked marks p.entries) (output_records_in (all_links p) whole new p.records)
  ready whole new g marks =
      let c : List ℕ = p.bytes in
      let ls : List Link = reverse p.chain in
      let remaining : List EntryAt = marked marks p.entries in
      let ss : List OutputRecord = output_records_in (all_links p) whole new p.records in
      let order : chained_of ss ≡ all_links p =
      in_order c (all_links p) whole new p.records 68 (length c) [] (all_links p) a.records refl tt
      (chain_rises c p.records 68 (length c) ls a.records linked) (links_occur c p.records None 0 ls linked) in
      let can = checkpoints_can c p.classes p.records marks ls p.entries standing_links a.entries in
      record {
        order = order;
        valid = output_records_stand c remaining p.classes ss (on_whole (IsRecord c) (all_links p) whole new p.records recorded) (on_anew c (all_links p) whole new g p.records recorded)
            (subst (AllByRecursion (CanOutputRecord c p.classes remaining)) (sym order) can);
        deltas = deltas_of false ss (subst (Nines false) (sym order) (nines c p.classes remaining p.records ls can linked));
      }
