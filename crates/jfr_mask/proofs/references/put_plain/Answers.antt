use Rattle.std.proofs.Common.{false, option_to_list, slice_get}
use Rattle.std.specs.List.{flat_map}
use Rattle.jfr_value.specs.Nodes.{targets}
use Rattle.jfr_chunk.specs.Parts.{events_of}
use Rattle.jfr_mask.specs.Masked.{is_masked_string}
use Rattle.jfr_mask.proofs.WalkBut.{event_numbers, numbers_below}
use Rattle.jfr_mask.proofs.references.put_plain.Goals as goal

pub put_each-requires : goal.put_each-requires
put_each-requires c =
    let p = c.args.chunk.now in
    let event = slice_get (events_of p) c.args.number in
    numbers_below (is_masked_string (λ h. false)) p (flat_map (λ e. targets p.classes p.bytes e.node) (option_to_list event)) c.in-Some.entries.now _
    (event_numbers (is_masked_string (λ h. false)) p event c.in-Some.entries.now c.in-Some.ensures)
    c.requires.size
