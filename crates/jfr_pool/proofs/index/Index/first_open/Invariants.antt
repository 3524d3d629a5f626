use Rattle.std.proofs.Common.{◌≡◌, ◌-◌}
use Rattle.jfr_pool.specs.Index.{open_slot_from}
use Rattle.jfr_pool.proofs.index.Index.first_open.Given as goal

abbrev pub invariant-loop-place : goal.invariant-loop-place
invariant-loop-place l = open_slot_from (l.end - l.place) l.place l.self.slots.items (l.class, l.key) ≡ open_slot_from (l.end - l.from) l.from l.self.slots.items (l.class, l.key)
