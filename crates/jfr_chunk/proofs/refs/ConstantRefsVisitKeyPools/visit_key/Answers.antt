use Rattle.std.proofs.Common.{◌<◌, ◌^◌, arith, length, sym}
use Rattle.jfr_pool.proofs.ForceLaws.{force_within}
use Rattle.jfr_chunk.proofs.refs.ConstantRefsVisitKeyPools.visit_key.Goals as goal

pub overflow_cast-number : goal.overflow_cast-number
overflow_cast-number c =
    let h : c.in-Some.number < length c.args.pools.now = force_within c.args.pools.now _ c.in-Some.number (sym c.in-Some.ensures) in
    let s : length c.args.pools.now < 2 ^ 32 = c.requires.ready.0 in
    omega arith
