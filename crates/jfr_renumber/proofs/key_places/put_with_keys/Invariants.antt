use Rattle.jfr_renumber.proofs.PlaceLaws.{IsPutUpTo}
use Rattle.jfr_renumber.proofs.key_places.put_with_keys.Given as goal

abbrev pub invariant-loop-place : goal.invariant-loop-place
invariant-loop-place l = IsPutUpTo l.rekeying.new_keys.now l.rekeying.bytes.now l.from l.to l.places l.place-index l.copied l.fn.out.items l.out.items
