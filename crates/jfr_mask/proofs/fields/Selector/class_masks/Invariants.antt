use Rattle.std.proofs.Common.{◌≡◌, [], map, take}
use Rattle.std.specs.Option.{option_map_or}
use Rattle.jfr_mask.specs.Fields.{is_masked}
use Rattle.jfr_mask.proofs.fields.Selector.class_masks.Given as goal

abbrev pub invariant-loop-field : goal.invariant-loop-field
invariant-loop-field l = l.masked.items ≡ map (is_masked l.self.strings.now (option_map_or (λ p. p.now) l.self.except []) l.self.classes.now l.class) (take l.field-index l.field-items)
