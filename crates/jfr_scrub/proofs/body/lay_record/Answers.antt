use Rattle.std.proofs.Common.{sym, subst, length}
use Rattle.std.specs.List.{AllByRecursion}
use Rattle.jfr_scrub.specs.Sizes.{HasRange}
use Rattle.jfr_scrub.proofs.BodyLaws.{range_filter}
use Rattle.jfr_scrub.proofs.body.lay_record.Goals as goal

pub lay_checkpoint-requires-clause-ranges : goal.lay_checkpoint-requires-clause-ranges
lay_checkpoint-requires-clause-ranges c = subst (AllByRecursion (HasRange (length c.args.body.now.output.chunk))) (sym c.entries_of.ensures) (range_filter _ _ _ c.requires.ranges)
