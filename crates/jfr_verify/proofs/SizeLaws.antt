-- A chunk has fewer entries and events than bytes.
use Rattle.std.specs.Prelude.{◌^◌, ◌<◌, length}
use Rattle.std.proofs.Common.{arith}
use Rattle.jfr_header.specs.Fronts.{Whole}
use Rattle.jfr_chunk.specs.Parts.{AreParts, Parts, events_of, pools_at}
use Rattle.jfr_chunk.proofs.BoundLaws.{entries_few}
use Rattle.jfr_chunk.proofs.CountLaws.{events_few, whole_small}
use Rattle.jfr_chunk.proofs.HasNodesLaws.{described_sound}

pub few_entries : (p : Parts) → Whole p.bytes → AreParts p → length p.entries < 2 ^ 30
few_entries p w a =
    let e = entries_few p.bytes p.records a.records (pools_at p.bytes) p.chain a.chain p.classes (described_sound p.body p.classes a.metadata.classes) p.entries a.entries in
    let s = whole_small p.bytes w in
    omega arith

pub few_events : (p : Parts) → Whole p.bytes → AreParts p → length (events_of p) < 2 ^ 30
few_events p w a = let e = events_few p a in let s = whole_small p.bytes w in omega arith
