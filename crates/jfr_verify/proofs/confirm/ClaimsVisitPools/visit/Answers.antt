use Rattle.std.proofs.Common.{◌≡◌, ◌<◌, length, arith, sym}
use Rattle.jfr_pool.proofs.ForceLaws.{force_within}
use Rattle.jfr_verify.proofs.confirm.ClaimsVisitPools.visit.Goals as goal

pub put-requires : goal.put-requires
put-requires c =
    let h : c.in-Some.number < length c.args.pools.now = force_within c.args.pools.now _ c.in-Some.number (sym c.in-Some.ensures) in
    let s : length c.args.self.now.confirmed.items ≡ length c.args.pools.now = c.requires.ready in
    omega arith
