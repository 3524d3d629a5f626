use Rattle.std.specs.Io.KnownBytes.{Appends}
use Rattle.std.proofs.Common.{ap, subst, ◌∙◌}
use Rattle.std.proofs.KnownBytes.{Appends-nil}
use Rattle.jfr_system.proofs.Pieces.{left_less, none_left, wrote_more}
use Rattle.jfr_system.proofs.file_place.write_portions.Goals as goal

pub loop-portion-init : goal.loop-portion-init
loop-portion-init g c = record {
  wrote = Appends-nil (g.W.Write.contents c.args.writer.now);
  left = ap (λ i. i.rest.now) c.into_iter-portion-iterator.ensures.into_iter_gives
      ∙ c.chunks-portion-items.ensures.rest;
}

pub loop-portion-preserved : goal.loop-portion-preserved
loop-portion-preserved g c =
    let held = c.loop-portion.invariant in
    record {
      wrote = wrote_more _ _ _ c.loop-portion.yielded c.in-Some.portion held.wrote c.in-Ok.ensures.bytes;
      left = left_less c.args.bytes.now c.loop-portion.yielded c.in-Some.portion c.loop-portion.portion-iterator.rest.now c.next.new.self.rest.now held.left c.in-Some.ensures.steps.1.0;
    }

pub returns : goal.returns
returns g c =
    let held = c.loop-portion.invariant in
    record { grew = subst (Appends _ _) (none_left c.args.bytes.now c.loop-portion.yielded c.loop-portion.portion-iterator.rest.now held.left c.in-None.ensures.steps.1.0) held.wrote }
