-- How a chunk is rewritten, and what has to hold of it.
use Rattle.std.specs.Prelude.{Bool, List}
use Rattle.jfr_layout.specs.Classes.{Classes}
use Rattle.jfr_chunk.specs.Parts.{AreParts, Parts}
use Rattle.jfr_chunk.specs.Reach.{kept_by, marked}
use Rattle.jfr_rewrite.specs.Changed.{KeepsFit}
use Rattle.jfr_rewrite.specs.Rewrite.{Rewrite}
use Rattle.jfr_rewrite.specs.Rewritten.{Describes, Suits, metadata_bytes}

pub record Rewriting : Type 0 where
  pub rewrite : Rewrite
  pub parts : Parts
  pub accepted : AreParts parts
  pub keeps : KeepsFit parts.classes rewrite.change
  pub flags : List Bool
  pub marks : List Bool
  pub classes : Classes
  pub describes : Describes (metadata_bytes rewrite.metadata parts accepted.metadata_record) classes
  pub suits : Suits parts (kept_by parts flags) (marked marks parts.entries) classes
