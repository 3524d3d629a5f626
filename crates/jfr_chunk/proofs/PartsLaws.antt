-- The bytes determine the parts.
use Rattle.std.specs.Prelude.{◌≡◌, ℕ, ◌+◌, ℤ, pos, ◌+ℤ◌, List, [], ◌∷◌, ◌++◌, length, reverse, Ok}
use Rattle.std.specs.List.{AllByRecursion}
use Rattle.std.proofs.Common.{ap, sym, ◌∙◌, subst}
use Rattle.jfr_base.specs.Formats.{Reads}
use Rattle.jfr_base.proofs.OneAnswer.{has_one_answer}
use Rattle.jfr_layout.specs.Classes.{Classes}
use Rattle.jfr_frame.specs.declared.framed.Framed.{Framed}
use Rattle.jfr_frame.specs.Records.{IsRecord, AreRecords, record_end}
use Rattle.jfr_frame.proofs.RecordLaws.{record_one, tiles_one}
use Rattle.jfr_meta.specs.Body.{Body, meta_format}
use Rattle.jfr_meta.specs.Described.{described, IsMetadata}
use Rattle.jfr_pool.specs.declared.link.Link.{Link}
use Rattle.jfr_pool.specs.declared.entry.EntryAt.{EntryAt}
use Rattle.jfr_pool.specs.Chains.{Delta, head_format, IsLink, IsChain, StepsTo}
use Rattle.jfr_pool.specs.Entries.{checkpoint_format, entries_from, AreEntries}
use Rattle.jfr_chunk.specs.Parts.{Parts, StartsAt, AreParts, pools_at, metadata_at}
use Rattle.jfr_worklist.specs.Members.{In}
use Rattle.jfr_worklist.proofs.Members.{contains_in}
use Rattle.jfr_chunk.proofs.AllLaws.{all_in, all_reverse}
use Rattle.jfr_chunk.proofs.HasNodesLaws.{tiles_each, links_each}

link_path : (l m : Link) → l.frame ≡ m.frame → l.delta_at ≡ m.delta_at → l.delta_end ≡ m.delta_end → l.delta ≡ m.delta → l ≡ m
link_path l m a b c d = λ i. record { frame = a i; delta_at = b i; delta_end = c i; delta = d i }

parts_path : (p q : Parts) → p.bytes ≡ q.bytes → p.records ≡ q.records → p.chain ≡ q.chain → p.body ≡ q.body → p.classes ≡ q.classes → p.entries ≡ q.entries → p ≡ q
parts_path p q a b c d e f = λ i. record { bytes = a i; records = b i; chain = c i; body = d i; classes = e i; entries = f i }

module _ (c : List ℕ) (rs : List Framed) (each : AllByRecursion (IsRecord c) rs) where
  abbrev recorded : (r : Framed) → In rs r → IsRecord c r
  recorded r i = all_in (IsRecord c) rs r each i

  -- There is only one link at an offset.
  link_one : (l m : Link) → IsLink c rs l → IsLink c rs m → l.frame.at ≡ m.frame.at → l ≡ m
  link_one l m i j e =
      let r = recorded l.frame (contains_in rs l.frame i.framed) in
      let s = recorded m.frame (contains_in rs m.frame j.framed) in
      let f : l.frame ≡ m.frame = record_one c l.frame m.frame r s e in
      let h : Reads head_format c (record_end l.frame) l.frame.body (record { at = m.delta_at; end = m.delta_end; value = m.delta }) m.delta_end =
      subst (λ (z : Framed). Reads head_format c (record_end z) z.body (record { at = m.delta_at; end = m.delta_end; value = m.delta }) m.delta_end) (sym f) j.head in
      let d = ((has_one_answer head_format c (record_end l.frame) l.frame.body r.covers r.within).one_reading
      (record { at = l.delta_at; end = l.delta_end; value = l.delta }) (record { at = m.delta_at; end = m.delta_end; value = m.delta }) l.delta_end m.delta_end i.head h).0 in
      link_path l m f (ap (λ (z : Delta). z.at) d) (ap (λ (z : Delta). z.end) d) (ap (λ (z : Delta). z.value) d)

  step_one : (at : ℕ) (d e : ℤ) (a b : ℕ) → d ≡ e → StepsTo at d a → StepsTo at e b → a ≡ b
  step_one at d e a b q s t =
      let h : pos a ≡ pos b = sym s.lands ∙ (ap (λ z. pos at +ℤ z) q ∙ t.lands) in
      cc

  pub chain_one : (at : ℕ) (ls ms : List Link) → IsChain c rs at ls → IsChain c rs at ms → ls ≡ ms
  chain_one at [] ms a b = absurd a
  chain_one at (l ∷ []) [] a b = absurd b
  chain_one at (l ∷ k ∷ ls) [] a b = absurd b
  chain_one at (l ∷ []) (m ∷ []) a b = ap (λ z. z ∷ []) (link_one l m a.0 b.0 (a.1 ∙ sym b.1))
  chain_one at (l ∷ []) (m ∷ n ∷ ms) a b =
      let e : l ≡ m = link_one l m a.0 b.0 (a.1 ∙ sym b.1) in
      absurd (b.2.moves (sym (ap (λ (z : Link). z.delta) e) ∙ a.2))
  chain_one at (l ∷ k ∷ ls) (m ∷ []) a b =
      let e : l ≡ m = link_one l m a.0 b.0 (a.1 ∙ sym b.1) in
      absurd (a.2.moves (ap (λ (z : Link). z.delta) e ∙ b.2))
  chain_one at (l ∷ k ∷ ls) (m ∷ n ∷ ms) a b =
      let e : l ≡ m = link_one l m a.0 b.0 (a.1 ∙ sym b.1) in
      let f : k.frame.at ≡ n.frame.at = step_one at l.delta m.delta k.frame.at n.frame.at (ap (λ (z : Link). z.delta) e) a.2 b.2 in
      let g : k ∷ ls ≡ n ∷ ms = chain_one k.frame.at (k ∷ ls) (n ∷ ms) a.3 (subst (λ z. IsChain c rs z (n ∷ ms)) (sym f) b.3) in
      ap (λ z. z ∷ (k ∷ ls)) e ∙ ap (λ z. m ∷ z) g

  body_one : (r s : Framed) (b d : Body) (k m : Classes) (at : ℕ) → StartsAt rs at 0 r → StartsAt rs at 0 s → IsMetadata c r b k → IsMetadata c s d m → (b ≡ d) × (k ≡ m)
  body_one r s b d k m at i j x y =
      let u = recorded r (contains_in rs r i.listed) in
      let v = recorded s (contains_in rs s j.listed) in
      let e : r ≡ s = record_one c r s u v (i.place ∙ sym j.place) in
      let h : Reads meta_format c (record_end r) r.body d (record_end r) = subst (λ (z : Framed). Reads meta_format c (record_end z) z.body d (record_end z)) (sym e) y.body in
      let f : b ≡ d = ((has_one_answer meta_format c (record_end r) r.body u.covers u.within).one_reading b d (record_end r) (record_end r) x.body h).0 in
      let g : Ok k ≡ Ok m = sym x.classes ∙ (ap described f ∙ y.classes) in
      (f, cc)

entries_one : (c : List ℕ) (k : Classes) (number : ℕ) (ls : List Link) (es fs : List EntryAt) → AllByRecursion (λ l. IsRecord c l.frame) ls → AreEntries c k number ls es → AreEntries c k number ls fs
    → es ≡ fs
entries_one c k number [] es fs r a b = a ∙ sym b
entries_one c k number (l ∷ ls) es fs r a b =
    let p : a.0 ≡ b.0 = ((has_one_answer (checkpoint_format k) c (record_end l.frame) l.frame.body r.0.covers r.0.within).one_reading a.0 b.0 (record_end l.frame) (record_end l.frame) a.1 b.1).0 in
    let q : a.2 ≡ b.2 = entries_one c k (number + 1) ls a.2 b.2 r.1 a.4 b.4 in
    a.3 ∙ (ap (λ z. entries_from number 0 z ++ a.2) p ∙ (ap (λ z. entries_from number 0 b.0 ++ z) q ∙ sym b.3))

pub links_record : (c : List ℕ) (rs : List Framed) (each : AllByRecursion (IsRecord c) rs) (ls : List Link) → AllByRecursion (IsLink c rs) ls → AllByRecursion (λ l. IsRecord c l.frame) ls
links_record c rs each [] a = tt
links_record c rs each (l ∷ ls) a = (all_in (IsRecord c) rs l.frame each (contains_in rs l.frame a.0.framed), links_record c rs each ls a.1)

pub one_parts : (p q : Parts) → AreParts p → AreParts q → p.bytes ≡ q.bytes → p ≡ q
one_parts p q a b e =
    let c : List ℕ = p.bytes in
    let t : AreRecords c q.records = subst (λ z. AreRecords z q.records) (sym e) b.records in
    let r : q.records ≡ p.records = tiles_one c 68 (length c) q.records p.records t a.records in
    let each = tiles_each c 68 (length c) p.records a.records in
    let h : IsChain c p.records (pools_at c) q.chain = subst (λ z. IsChain z p.records (pools_at z) q.chain) (sym e) (subst (λ z. IsChain q.bytes z (pools_at q.bytes) q.chain) r b.chain) in
    let l : p.chain ≡ q.chain = chain_one c p.records each (pools_at c) p.chain q.chain a.chain h in
    let s : StartsAt p.records (metadata_at c) 0 b.metadata_record =
    subst (λ z. StartsAt p.records (metadata_at z) 0 b.metadata_record) (sym e) (subst (λ z. StartsAt z (metadata_at q.bytes) 0 b.metadata_record) r b.metadata_there) in
    let m : IsMetadata c b.metadata_record q.body q.classes = subst (λ z. IsMetadata z b.metadata_record q.body q.classes) (sym e) b.metadata in
    let d = body_one c p.records each a.metadata_record b.metadata_record p.body q.body p.classes q.classes (metadata_at c) a.metadata_there s a.metadata m in
    let x : AreEntries c p.classes 0 (reverse p.chain) q.entries =
    subst (λ z. AreEntries c p.classes 0 (reverse z) q.entries) (sym l)
    (subst (λ z. AreEntries c z 0 (reverse q.chain) q.entries) (sym d.1) (subst (λ z. AreEntries z q.classes 0 (reverse q.chain) q.entries) (sym e) b.entries)) in
    let n = all_reverse (λ l. IsRecord c l.frame) p.chain (links_record c p.records each p.chain (links_each c p.records (pools_at c) p.chain a.chain)) in
    parts_path p q e (sym r) l d.0 d.1 (entries_one c p.classes 0 (reverse p.chain) p.entries q.entries n a.entries x)
