use Rattle.std.proofs.Common.{◌≡◌, ◌-◌, length, refl, subst, arith}
use Rattle.std.specs.Prelude.{filter}
use Rattle.jfr_chunk.specs.Parts.{Parts, is_inert}
use Rattle.jfr_chunk.proofs.InertLaws.{inert_counted}
use Rattle.jfr_chunk.proofs.chunk.Chunk.inert_count.Goals as goal

pub overflow_sub-result : goal.overflow_sub-result
overflow_sub-result c = let h = inert_counted _ c.self.inside.events.early c.self.inside.events.fields.items c.self.inside.chain c.self.invariant.parts refl c.self.invariant.events in omega
    (arith, h, c.len.ensures, c.len-2.ensures)

pub overflow_sub-result-2 : goal.overflow_sub-result-2
overflow_sub-result-2 c = let h = inert_counted _ c.self.inside.events.early c.self.inside.events.fields.items c.self.inside.chain c.self.invariant.parts refl c.self.invariant.events in omega
    (arith, h, c.len.ensures, c.len-2.ensures, c.len-3.ensures)

pub overflow_sub-result-3 : goal.overflow_sub-result-3
overflow_sub-result-3 c = let h = inert_counted _ c.self.inside.events.early c.self.inside.events.fields.items c.self.inside.chain c.self.invariant.parts refl c.self.invariant.events in omega
    (arith, h, c.len.ensures, c.len-2.ensures, c.len-3.ensures)

pub returns : goal.returns
returns c =
    let h = inert_counted _ c.self.inside.events.early c.self.inside.events.fields.items c.self.inside.chain c.self.invariant.parts refl c.self.invariant.events in
    subst (λ (p : Parts). c.len.result - c.len-2.result - c.len-3.result - 1 ≡ length (filter (is_inert p) p.records)) c.self.view_is
    (omega (arith, h, c.len.ensures, c.len-2.ensures, c.len-3.ensures))
