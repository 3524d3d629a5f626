use Rattle.std.proofs.Common.{[]}
use Rattle.std.proofs.lemmas.List.{drop_all}
use Rattle.jfr_scrub.proofs.CheckpointLaws.{entry_laid}
use Rattle.jfr_scrub.proofs.CopiedLaws.{grows_then, so_far_done, so_far_entry, so_far_now}
use Rattle.jfr_scrub.proofs.MeasureLaws.{range_get}
use Rattle.jfr_scrub.proofs.checkpoint.lay_entries.Goals as goal

pub loop-entry-preserved : goal.loop-entry-preserved
loop-entry-preserved c = record {
  laid = entry_laid _ _ _ _ _ _ c.loop-entry-test.true c.loop-entry.invariant.laid c.in_ok-copy.ensures.ok;
  copied = so_far_entry _ c.loop-entry.entry-index _ c.copy.new.self.pieces c.args.entries.now c.args.entries.now _ c.loop-entry-test.true c.loop-entry.invariant.copied
      c.in_ok-copy.ensures.grows.keeps
      (range_get _ _ _ _ c.requires c.loop-entry-test.true) c.in_ok-copy.ensures.copied;
  grows = grows_then _ _ _ [] [] c.loop-entry.invariant.grows c.in_ok-copy.ensures.grows;
}

pub returns-clause-copied : goal.returns-clause-copied
returns-clause-copied c = so_far_now _ _ _ (so_far_done _ _ _ _ c.loop-entry.invariant.copied (drop_all c.loop-entry.entry-index c.args.entries.now c.loop-entry-test.false))
