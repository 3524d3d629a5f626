use Rattle.std.specs.List.{AllZip}
use Rattle.std.proofs.Common.{subst}
use Rattle.jfr_meta.specs.Described.{IsNamedBy, described}
use Rattle.jfr_chunk.specs.Parts.{Parts}
use Rattle.jfr_chunk.proofs.chunk.Chunk.class_names.Goals as goal

pub returns : goal.returns
unfolding described
returns c = record {
  ok = subst (λ (p : Parts). AllZip (IsNamedBy p.body.strings) p.classes c.in_ok-names.names.items) c.self.view_is (c.in_ok-names.ensures.ok _ c.self.invariant.parts.metadata.classes);
}
