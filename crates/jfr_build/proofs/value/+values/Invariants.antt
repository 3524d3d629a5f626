use Rattle.std.proofs.Common.{◌≡◌, ◌+◌, ◌-◌, ◌*◌, drop, if◌then◌else◌}
use Rattle.jfr_layout.specs.Classes.{item_of}
use Rattle.jfr_build.specs.Taking.{class_taken, each_taken, shape_taken, times_taken}
use Rattle.jfr_build.specs.Writing.{wrote_all}
use Rattle.jfr_build.proofs.value.+values.Given as goal

abbrev pub decreases-push_array : goal.decreases-push_array
decreases-push_array l = 5 * l.levels + 2

abbrev pub decreases-push_fields : goal.decreases-push_fields
decreases-push_fields l = 5 * l.levels + 4

abbrev pub decreases-push_layout : goal.decreases-push_layout
decreases-push_layout l = 5 * l.levels + (if l.layout.now.shape.array then 3 else 1)

abbrev pub invariant-push_array-loop : goal.invariant-push_array-loop
invariant-push_array-loop l = wrote_all l.out (times_taken (l.count - l.counter) (shape_taken (class_taken (l.levels + 1) l.classes) (item_of l.layout.shape)) l.words)
    ≡ wrote_all l.initial.out (times_taken l.count (shape_taken (class_taken (l.levels + 1) l.classes) (item_of l.layout.shape)) l.initial.words)

abbrev pub invariant-push_fields-loop-layout : goal.invariant-push_fields-loop-layout
invariant-push_fields-loop-layout l = wrote_all l.out (each_taken (drop l.layout-index l.layouts) (λ s. shape_taken (class_taken (l.levels + 1) l.classes) s.shape) l.words)
    ≡ wrote_all l.initial.out (each_taken l.layouts (λ s. shape_taken (class_taken (l.levels + 1) l.classes) s.shape) l.initial.words)
