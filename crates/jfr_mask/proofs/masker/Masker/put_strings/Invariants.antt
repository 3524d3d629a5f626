use Rattle.jfr_frame.specs.Records.{record_end}
use Rattle.jfr_mask.specs.NewLeaves.{masked_by}
use Rattle.jfr_mask.proofs.StringsPut.{IsPutUpTo}
use Rattle.jfr_mask.proofs.masker.Masker.put_strings.Given as goal

abbrev pub invariant-loop-number : goal.invariant-loop-number
invariant-loop-number l =
    IsPutUpTo (masked_by l.self) l.self.strings.chunk.now l.self.events.now.strings.items l.fn.numbers.start l.fn.numbers.end l.frame.at (record_end l.frame) l.number l.copied l.fn.out.items l.out.items
