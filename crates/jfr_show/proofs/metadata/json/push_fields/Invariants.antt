use Rattle.std.specs.Prelude.{string_bytes, take}
use Rattle.jfr_show.specs.Metadata.{field_json}
use Rattle.jfr_show.proofs.ArrayLaws.{AreWritten}
use Rattle.jfr_show.proofs.metadata.json.push_fields.Given as goal

abbrev pub invariant-loop-field : goal.invariant-loop-field
invariant-loop-field l = AreWritten (field_json l.chunk.classes) (take l.field-index l.fields) l.later (string_bytes l.initial.out) (string_bytes l.out)
