use Rattle.std.specs.Prelude.{string_bytes, take}
use Rattle.jfr_show.specs.Json.{text_json}
use Rattle.jfr_show.proofs.ArrayLaws.{AreWritten}
use Rattle.jfr_show.proofs.metadata.json.push_categories.Given as goal

abbrev pub invariant-loop-category : goal.invariant-loop-category
invariant-loop-category l = AreWritten text_json (take l.category-index l.categories) l.later (string_bytes l.initial.out) (string_bytes l.out)
