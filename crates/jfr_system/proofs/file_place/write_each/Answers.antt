use Rattle.std.proofs.KnownBytes.{Appends-nil}
use Rattle.jfr_system.proofs.Pieces.{wrote_next}
use Rattle.jfr_system.proofs.file_place.write_each.Goals as goal

pub loop-piece-init : goal.loop-piece-init
loop-piece-init g c = Appends-nil (g.W.Write.contents c.args.writer.now)

pub loop-piece-preserved : goal.loop-piece-preserved
loop-piece-preserved g c = wrote_next _ _ _ c.args.pieces.now c.loop-piece.piece-index _ c.loop-piece-test.true c.loop-piece.invariant c.in_ok-write_portions.ensures.grew
