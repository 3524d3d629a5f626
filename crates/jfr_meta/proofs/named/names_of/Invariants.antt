use Rattle.std.proofs.Common.{map, take}
use Rattle.std.specs.List.{AllZip, filter_map}
use Rattle.jfr_meta.specs.Described.{IsNamedBy, class_of, heads}
use Rattle.jfr_meta.proofs.named.names_of.Given as goal

-- The classes of the elements so far have their names.
abbrev pub invariant-loop-element : goal.invariant-loop-element
invariant-loop-element l =
    AllZip (IsNamedBy l.strings) (filter_map (class_of l.strings (heads l.strings (map (λ e. e.now) l.elements))) (map (λ e. e.now) (take l.element-index l.elements))) l.names.items
