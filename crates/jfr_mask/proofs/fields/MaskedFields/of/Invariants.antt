use Rattle.std.proofs.Common.{◌≡◌, ◌&&◌, [], map, take}
use Rattle.std.specs.List.{list_any}
use Rattle.std.specs.Option.{option_map_or}
use Rattle.jfr_mask.specs.Fields.{is_masked}
use Rattle.jfr_mask.proofs.fields.MaskedFields.of.Given as goal

abbrev pub invariant-loop-class : goal.invariant-loop-class
invariant-loop-class l =
    (map (λ flags. flags.items) l.fields.items ≡ map (λ c. map (is_masked l.strings (option_map_or (λ p. p.now) l.except []) l.classes c) c.fields) (take l.class-index l.class-items))
    × (l.constants ≡ list_any (λ c. list_any (λ f. f.shape.constant && is_masked l.strings (option_map_or (λ p. p.now) l.except []) l.classes c f) c.fields) (take l.class-index l.class-items))
