use Rattle.std.proofs.Common.{sym}
use Rattle.jfr_mask.proofs.PlainChunk.{chunk_none}
use Rattle.jfr_mask.proofs.numbering.Numbering.add_chunk.Goals as goal

pub returns-then-are_none : goal.returns-then-are_none
returns-then-are_none c = record {
  ok = λ m is. sym (chunk_none c.args.self.now c.requires.plain (c.are_none.ensures c.if-are_none.true) c.parts_are_valid.ensures.parts c.parts_are_valid.ensures.sound m is c.args.self.now.kept.now
      c.args.growing.now.dictionary);
  noted = c.requires.noted;
}
