-- The texts of an output record.
use Rattle.std.specs.Prelude.{◌≡◌, ℕ, ◌==◌, Bool, true, false, List, [], ◌∷◌, ◌++◌, filter, find, Option, None, Some, Contains}
use Rattle.std.specs.List.{flat_map}
use Rattle.std.proofs.Common.{ap, refl, sym, ◌∙◌}
use Rattle.std.proofs.lemmas.Bool.{eqb-true}
use Rattle.std.proofs.lemmas.Grind.{flat_map-append}
use Rattle.std.proofs.lemmas.List.Elements.{All-contains}
use Rattle.jfr_layout.specs.Classes.{is_event_class}
use Rattle.jfr_frame.specs.declared.framed.Framed.{Framed}
use Rattle.jfr_frame.specs.Records.{IsRecord}
use Rattle.jfr_frame.proofs.RecordLaws.{record_one}
use Rattle.jfr_worklist.specs.Members.{In}
use Rattle.jfr_worklist.proofs.Members.{contains_in, in_contains}
use Rattle.jfr_pool.specs.declared.entry.EntryAt.{EntryAt}
use Rattle.jfr_pool.specs.declared.link.Link.{Link}
use Rattle.jfr_pool.specs.Entries.{entry_node}
use Rattle.jfr_chunk.specs.Parts.{AreParts, EventAt, Parts, events_of, metadata_at}
use Rattle.jfr_chunk.specs.Reach.{kept_by}
use Rattle.jfr_chunk.specs.Scrub.{Whole, groups_of}
use Rattle.jfr_chunk.specs.Written.{Group}
use Rattle.jfr_chunk.proofs.AllLaws.{all_in}
use Rattle.jfr_laws.proofs.Groups.{groups_hold}
use Rattle.jfr_laws.proofs.Passing.{clash}
use Rattle.jfr_laws.proofs.Premises.{metadata_stands, recorded}
use Rattle.jfr_laws.proofs.Quiet.{no_metadata_event}
use Rattle.jfr_laws.proofs.Same.{chosen_events, event_of_chunk}
use Rattle.jfr_output.specs.RemainingRecords.{IsKeptEvent, whole_or}
use Rattle.jfr_rewrite.proofs.Accepted.{computed}
use Rattle.jfr_rewrite.proofs.Output.{find_in}
use Rattle.jfr_mask.specs.declared.numbering.Numbering.{Numbering}
use Rattle.jfr_mask.specs.Masked as masked
use Rattle.jfr_mask.specs.Masked.{is_held_masked, is_masked_string}
use Rattle.jfr_mask.specs.Maskers.{IsMaskingBy, entries_by, held_by, node_texts_by}
use Rattle.jfr_mask.specs.MaskOf.{Masking, Pools, entries_left, is_masked_in, node_texts, origin_of, origin_texts, whole_origin}
use Rattle.jfr_mask.specs.ReachBut.{remain_but}

-- No kept event is the metadata record.
metadata_no_event : (p : Parts) → AreParts p → (flags : List Bool) (r : Framed) → (r.at == metadata_at p.bytes) ≡ true → find (λ e. e.record_of.at == r.at) (kept_by p flags) ≡ None
metadata_no_event p a flags r t = by_find (find (λ e. e.record_of.at == r.at) (kept_by p flags)) refl
  where
    by_find : (o : Option EventAt) → find (λ e. e.record_of.at == r.at) (kept_by p flags) ≡ o → o ≡ None
    by_find None q = refl
    by_find (Some e) q =
        let f = find_in (λ e. e.record_of.at == r.at) (kept_by p flags) e q in
        let i : In (events_of p) e = contains_in (events_of p) e (All-contains (Contains (events_of p)) (kept_by p flags) e (chosen_events p flags) (in_contains (kept_by p flags) e f.0)) in
        let s : IsRecord p.bytes e.record_of = all_in (IsRecord p.bytes) p.records e.record_of (recorded p a) (event_of_chunk p a (kept_by p flags) (chosen_events p flags) e f.0).listed in
        let same : e.record_of ≡ a.metadata_record =
        record_one p.bytes e.record_of a.metadata_record s (metadata_stands p a) (eqb-true e.record_of.at r.at f.1 ∙ (eqb-true r.at (metadata_at p.bytes) t ∙ sym a.metadata_there.place)) in
        let none : is_event_class p.classes e.record_of.type_id ≡ false =
        ap (λ (z : Framed). is_event_class p.classes z.type_id) same ∙ (ap (is_event_class p.classes) a.metadata_there.type_is ∙ no_metadata_event p.classes) in
        absurd (clash (is_event_class p.classes e.record_of.type_id) (computed p e i).class none)

flat_flat : {X Y Z : Type 0} (f : Y → List Z) (g : X → List Y) (xs : List X) → flat_map f (flat_map g xs) ≡ flat_map (λ x. flat_map f (g x)) xs
flat_flat f g [] = refl
flat_flat f g (x ∷ xs) = flat_map-append f (g x) (flat_map g xs) ∙ ap (λ z. flat_map f (g x) ++ z) (flat_flat f g xs)

module _ (n : Numbering) (m : Masking) (is : IsMaskingBy n m) where
  abbrev p : Parts
  p = n.strings.chunk.now

  masked_same : is_masked_in m p.classes ≡ held_by n.strings
  masked_same = ap (λ z. is_held_masked z p.classes) (sym is.masks)

  -- The entries that are left.
  pub entries_same : (kept : List EventAt) → entries_left m p kept ≡ entries_by n.strings kept
  entries_same kept = ap (λ z. remain_but (is_masked_string z) p kept) masked_same

  pub node_same : node_texts m p ≡ node_texts_by n
  node_same = ap (λ z. masked.node_texts z m.known p) masked_same ∙ ap (λ z. masked.node_texts (held_by n.strings) z p) is.known

  module _ (flags : List Bool) (entries : List EntryAt) where
    pub event_texts : (number : ℕ) (r : Framed) → (k : IsKeptEvent p flags number r) → origin_texts m p (origin_of p (kept_by p flags) entries (Whole r)) ≡ node_texts_by n k.event.node
    event_texts number r k = ap (λ o. origin_texts m p (whole_origin p r o)) k.there ∙ ap (λ f. f k.event.node) node_same

    pub metadata_texts : AreParts p → (slim : Option (List ℕ)) (r : Framed) → (r.at == metadata_at p.bytes) ≡ true → origin_texts m p (origin_of p (kept_by p flags) entries (whole_or slim r)) ≡ []
    metadata_texts a None r t = ap (λ o. origin_texts m p (whole_origin p r o)) (metadata_no_event p a flags r t)
    metadata_texts a (Some x) r t = refl

    pub chained_texts : (number : ℕ) (l : Link) → origin_texts m p (Pools l (groups_of entries number)) ≡ flat_map (λ e. node_texts_by n (entry_node e)) (filter (λ e. e.checkpoint == number) entries)
    chained_texts number l =
        sym (flat_flat (λ e. node_texts m p (entry_node e)) (λ (g : Group). g.entries) (groups_of entries number))
        ∙ (ap (flat_map (λ e. node_texts m p (entry_node e))) (groups_hold (filter (λ e. e.checkpoint == number) entries))
        ∙ ap (λ f. flat_map (λ e. f (entry_node e)) (filter (λ e. e.checkpoint == number) entries)) node_same)
