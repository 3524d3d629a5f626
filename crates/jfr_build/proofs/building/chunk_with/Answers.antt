use Rattle.std.proofs.Common.{refl, sym}
use Rattle.jfr_build.proofs.ChunkLaws.{chunk_joined, too_long}
use Rattle.jfr_build.proofs.building.chunk_with.Goals as goal

pub returns-in_default-size_of : goal.returns-in_default-size_of
returns-in_default-size_of c = record { exact = sym (too_long c.args.metadata.now c.args.events.now c.args.pools.now c.in-Some.last c.in-Some.ensures c.in_default-size_of.ensures) }

pub returns : goal.returns
returns c = record {
  exact = chunk_joined c.args.metadata.now c.args.events.now c.args.pools.now c.extend_from_slice-5.new.self.items c.in-Some.last c.in-Some-size_of.size c.in-Some.ensures c.in-Some-size_of.ensures
      (rw (
        c.in_ok-extend_from_slice-5.ensures.items,
        c.in_ok-extend_from_slice-4.ensures.items,
        c.in_ok-push_size.ensures.ok,
        c.in_ok-extend_from_slice-3.ensures.items,
        c.in_ok-extend_from_slice-2.ensures.items,
        c.in_ok-extend_from_slice.ensures.items,
        c.in_ok-chunk.ensures.items,
        c.header_of.ensures,
      ) refl);
}
