use Rattle.std.specs.Prelude.{◌≡◌, ◌++◌, take}
use Rattle.std.specs.List.{flat_map}
use Rattle.jfr_show.specs.Json.{json_line}
use Rattle.jfr_show.specs.Metadata.{class_json}
use Rattle.jfr_show.proofs.metadata.json.show_metadata_json.Given as goal

abbrev pub invariant-loop-class : goal.invariant-loop-class
invariant-loop-class l = l.out ≡ l.initial.out ++ flat_map (λ c. json_line (class_json l.number l.chunk.classes c)) (take l.class-index l.chunk.classes)
