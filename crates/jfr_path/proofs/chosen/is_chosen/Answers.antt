use Rattle.std.proofs.lemmas.Slice.Zip.{AllZip-long}
use Rattle.jfr_path.specs.Verdicts.{IsVerdict}
use Rattle.jfr_path.proofs.chosen.is_chosen.Goals as goal

pub verdict_of-requires-clause-each : goal.verdict_of-requires-clause-each
verdict_of-requires-clause-each c = AllZip-long (IsVerdict c.args.threads.now.filter) c.args.chunk.now.classes c.args.verdicts.now c.requires.verdicts
