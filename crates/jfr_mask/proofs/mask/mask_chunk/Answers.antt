use Rattle.std.specs.Prelude.{◌≡◌, ◌≤◌, ◌^◌, length, option_map, Err, IfOk}
use Rattle.std.proofs.Common.{rules, ◌∙◌, ap, refl, subst}
use Rattle.jfr_chunk.specs.Metas.{new_metadata}
use Rattle.jfr_chunk.specs.Reach.{kept_by}
use Rattle.jfr_filter.specs.Filters.{describes}
use Rattle.jfr_mask.specs.declared.fault.MaskFault.TheVariants.{TooLong}
use Rattle.jfr_mask.specs.Fields.{masks_of}
use Rattle.jfr_mask.specs.Maskers.{masking_of}
use Rattle.jfr_mask.specs.MaskOf.{dictionary_after, mask_of}
use Rattle.jfr_mask.proofs.MaskedChunk.{always_ok, left_are_some, masked_is, written_with}
use Rattle.jfr_mask.proofs.mask.mask_chunk.Goals as goal

-- src/mask.rt:82:5
pub put_masked-requires-clause-entries : goal.put_masked-requires-clause-entries
put_masked-requires-clause-entries c =
    left_are_some c.in_ok-masked.masked c.args.chunk.now (kept_by c.args.chunk.now c.args.kept.now) c.deref-2.result.now (c.deref-2.ensures.value ∙ c.in_ok-entries.ensures.entries)

fields_are : (c : goal.After-drop-masked-inside-2) → c.in_ok-masked.masked ≡ masks_of (masking_of c.args.options).strings (masking_of c.args.options).except c.args.chunk.now.classes
fields_are c = c.in_ok-masked.ensures.ok ∙ ap (masks_of (masking_of c.args.options).strings (masking_of c.args.options).except) c.classes.ensures

dictionary_is : (c : goal.After-drop-masked-inside-2)
    → c.number_chunk.new.dictionary ≡ dictionary_after (masking_of c.args.options) c.args.dictionary.now c.args.chunk.now (kept_by c.args.chunk.now c.args.kept.now)
dictionary_is c = c.in_ok-noted.ensures.ok (masking_of c.args.options) (record { masks = fields_are c; known = refl })

same_slim : (c : goal.After-drop-masked-inside-2)
    → option_map (λ s. s.now) c.as_deref.result ≡ new_metadata (describes c.args.options.filter.now) c.args.chunk.now (kept_by c.args.chunk.now c.args.kept.now)
same_slim c = search rules

output_is : (c : goal.After-drop-masked-inside-2)
    → written_with (masking_of c.args.options) c.args.chunk.now (kept_by c.args.chunk.now c.args.kept.now) c.in_ok-masked.masked c.number_chunk.new.dictionary c.deref-2.result.now (option_map (λ s. s.now) c.as_deref.result) ≡ mask_of (masking_of c.args.options) c.args.dictionary.now c.args.chunk.now (kept_by c.args.chunk.now c.args.kept.now)
output_is c =
    masked_is (masking_of c.args.options) c.args.dictionary.now c.number_chunk.new.dictionary c.args.chunk.now (kept_by c.args.chunk.now c.args.kept.now) c.in_ok-masked.masked c.deref-2.result.now
    (option_map (λ s. s.now) c.as_deref.result)
    (fields_are c) (dictionary_is c) (c.deref-2.ensures.value ∙ c.in_ok-entries.ensures.entries) (same_slim c)

-- src/mask.rt:41:1
pub returns-clause-ok : goal.returns-clause-ok
returns-clause-ok c = subst (λ z. IfOk c.put_masked.result (λ out. out.items ≡ z)) (output_is c) c.put_masked.ensures.ok

-- src/mask.rt:41:1
pub returns-clause-dictionary : goal.returns-clause-dictionary
returns-clause-dictionary c = always_ok c.put_masked.result (dictionary_is c)

-- src/mask.rt:41:1
pub returns-clause-too_long : goal.returns-clause-too_long
returns-clause-too_long c = subst (λ z. c.put_masked.result ≡ Err TooLong → 2 ^ 30 ≤ length z) (output_is c) c.put_masked.ensures.too_long
