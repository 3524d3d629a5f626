use Rattle.std.proofs.Common.{◌≡◌, Some, Global, Vec, ap, subst, ◌∙◌}
use Rattle.std.specs.Prelude.{ℕ, IfOk, option_map}
use Rattle.jfr_build.specs.Described.{metadata_record}
use Rattle.jfr_build.proofs.ChunkLaws.{chunk_made, large_events, no_metadata}
use Rattle.jfr_build.proofs.building.chunk_of.Goals as goal

pub returns-in_default : goal.returns-in_default
returns-in_default c = let m = c.in_ok-metadata.ensures.exact ∙ ap (metadata_record c.args.classes)
    c.region_in.ensures in record { exact = no_metadata c.args.classes c.args.lines.now (rw c.in_default.is at m) }

pub returns-in_default-2 : goal.returns-in_default-2
returns-in_default-2 c =
    let m = c.in_ok-metadata.ensures.exact ∙ ap (metadata_record c.args.classes) c.region_in.ensures in
    let e = c.in_ok-events.ensures.exact in
    record {
      exact = large_events c.args.classes c.in_ok-metadata.classes c.args.lines.now c.in-Some.metadata.items c.in_ok-metadata.ensures.classes (rw c.in-Some.is at m)
          (rw c.in_default-2.is at e);
    }

pub returns : goal.returns
returns c =
    let m = c.in_ok-metadata.ensures.exact ∙ ap (metadata_record c.args.classes) c.region_in.ensures in
    let e = c.in_ok-events.ensures.exact in
    let made = chunk_made c.args.classes c.in_ok-metadata.classes c.args.lines.now c.deref.result.now c.deref-2.result.now c.deref-3.result.now c.in_ok-metadata.ensures.classes
    (ap (λ z. Some z) c.deref.ensures.value ∙ (rw c.in-Some.is at m)) (c.deref-2.ensures.value ∙ (rw c.in-Some-2.is at e)) (c.deref-3.ensures.value ∙ c.in_ok-pools.ensures.ok) in
    record { exact = subst (λ z. IfOk c.chunk_with.result (λ found. option_map (λ (v : Vec ℕ Global). v.items) found ≡ z)) made c.chunk_with.ensures.exact }
