-- The masked chunk, from what it is made of.
use Rattle.std.specs.Prelude.{◌≡◌, ℕ, List, Option, Result, Ok, Err, OnOk}
use Rattle.std.proofs.Common.{ap, ◌∙◌}
use Rattle.jfr_pool.specs.declared.entry.EntryAt.{EntryAt}
use Rattle.jfr_chunk.specs.Metas.{new_metadata}
use Rattle.jfr_chunk.specs.Parts.{EventAt, Parts}
use Rattle.jfr_rewrite.specs.Rewrite.{fewest_or_five, rewritten}
use Rattle.jfr_rewrite.specs.Writing.{AreSomeOf}
use Rattle.jfr_mask.specs.Fields.{Masks, masks_of}
use Rattle.jfr_mask.specs.Masked.{is_held_masked, is_masked_string, masking}
use Rattle.jfr_mask.specs.MaskOf.{Masking, dictionary_after, mask_of}
use Rattle.jfr_mask.specs.Pseudonyms.{shown}
use Rattle.jfr_mask.specs.ReachBut.{marks_but, remain_but}

-- The entries that are left are some of the chunk's.
pub left_are_some : (masks : Masks) (p : Parts) (kept : List EventAt) (es : List EntryAt) → es ≡ remain_but (is_masked_string (is_held_masked masks p.classes)) p kept → AreSomeOf p es
unfolding remain_but
left_are_some masks p kept es e = (marks_but (is_masked_string (is_held_masked masks p.classes)) p kept, e)

-- The chunk that is rewritten with these masked fields, this dictionary, these entries and this metadata record.
abbrev pub written_with : Masking → Parts → List EventAt → Masks → List (List ℕ) → List EntryAt → Option (List ℕ) → List ℕ
written_with m p kept masks d es metadata =
    rewritten (record { change = masking (is_held_masked masks p.classes) (shown m.known d) p; key = λ t. t.1; width = fewest_or_five; metadata = metadata }) p kept es

-- With those that masking asks for, it is the masked chunk.
pub masked_is : (m : Masking) (before d : List (List ℕ)) (p : Parts) (kept : List EventAt) (masks : Masks) (es : List EntryAt) (metadata : Option (List ℕ))
    → masks ≡ masks_of m.strings m.except p.classes → d ≡ dictionary_after m before p kept → es ≡ remain_but (is_masked_string (is_held_masked masks p.classes)) p kept
    → metadata ≡ new_metadata m.described p kept
    → written_with m p kept masks d es metadata ≡ mask_of m before p kept
unfolding mask_of
masked_is m before d p kept masks es metadata masks_is d_is es_is metadata_is =
    let fields = masks_of m.strings m.except p.classes in
    let after = dictionary_after m before p kept in
    ap (λ z. written_with m p kept z d es metadata) masks_is
    ∙ ap (λ z. written_with m p kept fields z es metadata) d_is
    ∙ ap (λ z. written_with m p kept fields after z metadata) (es_is ∙ ap (λ z. remain_but (is_masked_string (is_held_masked z p.classes)) p kept) masks_is)
    ∙ ap (λ z. written_with m p kept fields after (remain_but (is_masked_string (is_held_masked fields p.classes)) p kept) z) metadata_is

-- What holds anyway holds if there is a value.
pub always_ok : {T E P : Type 0} (r : Result T E) → P → OnOk r P
always_ok (Ok x) p = p
always_ok (Err e) p = tt
