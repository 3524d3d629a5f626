-- Laws of the chain and of the entries of every chunk.
use Rattle.std.specs.Prelude.{◌≡◌, ◌≢◌, ◌⊎◌, ◌↔◌, ◌<◌, ℕ, List, slice_get, Some, Ok, Err}
use Rattle.jfr_base.specs.declared.flaw.Flaw.{Flaw}
use Rattle.jfr_base.specs.declared.reason.Reason.{Reason}
use Rattle.jfr_layout.specs.Classes.{Classes}
use Rattle.jfr_frame.specs.declared.framed.Framed.{Framed}
use Rattle.jfr_pool.specs.declared.link.Link.{Link}
use Rattle.jfr_pool.specs.declared.entry.EntryAt.{EntryAt}
use Rattle.jfr_pool.specs.Chains.{IsChain, ChainFlaw, chain_of}
use Rattle.jfr_pool.specs.Entries.{AreEntries, EntriesFlaw, entries_of}

-- From a checkpoint on there is a chain or a flaw, never both; and there is only one such chain, or one such
-- flaw.
pub record HasOneChain (c : List ℕ) (rs : List Framed) (at : ℕ) : Type 0 where
  pub some : ((ls : List Link) × IsChain c rs at ls) ⊎ ((flaw : Flaw) × (ls : List Link) × ChainFlaw c rs at ls flaw.offset flaw.reason)
  pub not_both : (ls ms : List Link) (o : ℕ) (why : Reason) → IsChain c rs at ls → ChainFlaw c rs at ms o why → ⊥
  pub one_chain : (ls ms : List Link) → IsChain c rs at ls → IsChain c rs at ms → ls ≡ ms
  pub one_flaw : (ls ms : List Link) (o p : ℕ) (why other : Reason) → ChainFlaw c rs at ls o why → ChainFlaw c rs at ms p other → (o ≡ p) × (why ≡ other)

-- The chain from a checkpoint on, or its flaw, is what `chain_of` computes.
pub record IsComputedChain (c : List ℕ) (rs : List Framed) (r : Framed) : Type 0 where
  pub chain : (ls : List Link) → IsChain c rs r.at ls ↔ (chain_of c rs r ≡ Ok ls)
  pub flaw : (o : ℕ) (why : Reason) → ((ls : List Link) × ChainFlaw c rs r.at ls o why) ↔ (chain_of c rs r ≡ Err (record { offset = o; reason = why }))

-- Either the chained checkpoints have entries or one has a flaw, never both; and there is only one such list
-- of entries, or one such flaw.
pub record HaveOneList (c : List ℕ) (k : Classes) (ls : List Link) : Type 0 where
  pub some : ((es : List EntryAt) × AreEntries c k 0 ls es) ⊎ ((flaw : Flaw) × EntriesFlaw c k ls flaw.offset flaw.reason)
  pub not_both : (es : List EntryAt) (o : ℕ) (why : Reason) → AreEntries c k 0 ls es → EntriesFlaw c k ls o why → ⊥
  pub one_list : (es fs : List EntryAt) → AreEntries c k 0 ls es → AreEntries c k 0 ls fs → es ≡ fs
  pub one_flaw : (o p : ℕ) (why other : Reason) → EntriesFlaw c k ls o why → EntriesFlaw c k ls p other → (o ≡ p) × (why ≡ other)

-- The entries of a chain's checkpoints, or their flaw, are what `entries_of` computes.
pub record AreComputed (c : List ℕ) (k : Classes) (ls : List Link) : Type 0 where
  pub entries : (es : List EntryAt) → AreEntries c k 0 ls es ↔ (entries_of c k 0 ls ≡ Ok es)
  pub flaw : (o : ℕ) (why : Reason) → EntriesFlaw c k ls o why ↔ (entries_of c k 0 ls ≡ Err (record { offset = o; reason = why }))

-- The entry with this number has the class and the key, and no later one has them.
pub record IsLast (es : List EntryAt) (target : ℕ × ℕ) (number : ℕ) : Type 0 where
  pub entry : EntryAt
  pub holds : slice_get es number ≡ Some entry
  pub has : (entry.class, entry.key) ≡ target
  pub last : (later : ℕ) (e : EntryAt) → number < later → slice_get es later ≡ Some e → (e.class, e.key) ≢ target
