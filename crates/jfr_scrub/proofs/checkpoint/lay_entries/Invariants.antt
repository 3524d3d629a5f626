use Rattle.std.proofs.Common.{◌≡◌, [], take, drop}
use Rattle.std.specs.List.{flat_map}
use Rattle.jfr_chunk.specs.Written.{entry_bytes}
use Rattle.jfr_scrub.specs.Pieces.{EntryIsCopied, Grows, output_so_far, more}
use Rattle.jfr_scrub.proofs.CopiedLaws.{SoFar}
use Rattle.jfr_scrub.proofs.checkpoint.lay_entries.Given as goal

abbrev pub invariant-loop-entry : goal.invariant-loop-entry
invariant-loop-entry l = record {
  laid : output_so_far l.output ≡ more (output_so_far l.fn.output) (flat_map (entry_bytes l.fn.output.chunk) (take l.entry-index l.entries));
  copied : SoFar EntryIsCopied l.output.pieces (drop l.entry-index l.entries) l.entries;
  grows : Grows l.fn.output.pieces l.output.pieces [];
}
