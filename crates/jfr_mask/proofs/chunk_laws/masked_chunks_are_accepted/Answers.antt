use Rattle.std.specs.Prelude.{Bool, List}
use Rattle.jfr_chunk.specs.Laws.{AreEvents}
use Rattle.jfr_chunk.specs.Metas.{remaining_classes}
use Rattle.jfr_chunk.specs.Parts.{EventAt}
use Rattle.jfr_chunk.specs.Reach.{kept_by, marked}
use Rattle.jfr_laws.proofs.Same.{chosen_events}
use Rattle.jfr_rewrite.specs.Rewrite.{Rewrite}
use Rattle.jfr_mask.specs.MaskOf.{dictionary_after, is_masked_in, mask_of, rewrite_of, stops_in}
use Rattle.jfr_mask.specs.Pseudonyms.{shown}
use Rattle.jfr_mask.specs.ReachBut.{marks_but, remain_but}
use Rattle.jfr_mask.proofs.MaskLaws.{masking_keeps}
use Rattle.jfr_mask.proofs.Remains.{remains_reached}
use Rattle.jfr_mask.proofs.chunk_laws.masked_chunks_are_accepted.Goals as goal

pub returns : goal.returns
unfolding mask_of remain_but
returns c = λ m d p flags a whole small.
    let kept : List EventAt = kept_by p flags in
    let are : AreEvents p kept = chosen_events p flags in
    let marks : List Bool = marks_but (stops_in m p) p kept in
    let w : Rewrite = rewrite_of m (dictionary_after m d p kept) p kept in
    c.rewritten_chunks_are_accepted.ensures w p flags marks (remaining_classes m.described p kept) a whole
    (masking_keeps (is_masked_in m p.classes) (shown m.known (dictionary_after m d p kept)) p p.classes)
    (c.remaining_classes_are_described.ensures.describes m.described p kept a are)
    (c.remaining_classes_are_described.ensures.suits m.described p kept marks a are (remains_reached (stops_in m p) p kept a are))
    small
    (c.sizes_are_carried.ensures.all w p kept (marked marks p.entries) c.sizes_are_carried.ensures.fewest small)
