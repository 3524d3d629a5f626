use Rattle.std.proofs.Common.{◌≡◌, map, take}
use Rattle.std.specs.List.{filter_map}
use Rattle.jfr_meta.specs.Attributes.{text_at}
use Rattle.jfr_meta.specs.Described.{field_of}
use Rattle.jfr_meta.proofs.named.field_indices.Given as goal

-- The fields of the elements so far have their names.
abbrev pub invariant-loop-field : goal.invariant-loop-field
invariant-loop-field l = map (text_at l.strings) l.indices.items ≡ map (λ f. f.name) (filter_map (field_of l.strings) (map (λ e. e.now) (take l.field-index l.field-items)))
