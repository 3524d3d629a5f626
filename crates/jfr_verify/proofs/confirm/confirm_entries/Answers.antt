use Rattle.jfr_verify.proofs.ClaimLaws.{entries_next}
use Rattle.jfr_verify.proofs.confirm.confirm_entries.Goals as goal

pub loop-number-preserved : goal.loop-number-preserved
loop-number-preserved c = entries_next c.args.chunk.now c.loop-number.number c.args.claims.now c.loop-number.claims c.confirm_entry.new.claims c.requires.size c.loop-number.invariant
    (record { confirmed = c.confirm_entry.ensures.confirmed; parents = c.confirm_entry.ensures.parents })
