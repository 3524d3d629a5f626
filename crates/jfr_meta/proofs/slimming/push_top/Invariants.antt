use Rattle.std.proofs.Common.{◌≡◌, take}
use Rattle.std.specs.Prelude.{codes}
use Rattle.std.specs.List.{list_any}
use Rattle.jfr_meta.specs.Rewritten.{WroteTrees}
use Rattle.jfr_meta.specs.Slimmed.{first_changed, is_named, slim_holder}
use Rattle.jfr_meta.specs.Stays.{is_in}
use Rattle.jfr_meta.proofs.slimming.push_top.Given as goal

abbrev pub invariant-loop-element : goal.invariant-loop-element
invariant-loop-element l =
    WroteTrees l.strings (first_changed (is_named l.strings (codes "metadata")) (slim_holder l.strings (is_in l.stay)) (take l.element-index l.elements)) l.initial.tree l.tree
    × (l.found ≡ list_any (is_named l.strings (codes "metadata")) (take l.element-index l.elements))
