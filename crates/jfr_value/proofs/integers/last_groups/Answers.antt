use Rattle.std.specs.Prelude.{take, drop}
use Rattle.std.proofs.Common.{arith, subst, sym, ltb, w8}
use Rattle.std.proofs.lemmas.Simd.{bitmask_splat}
use Rattle.jfr_value.specs.Groups.{AreLastGroups}
use Rattle.jfr_value.proofs.LastGroups.{long, mask_lasts}
use Rattle.jfr_value.proofs.integers.last_groups.Goals as goal

pub returns : goal.returns
returns c =
    let x = c.args.bytes.now in
    let at = c.args.at in
    subst (AreLastGroups x at) (sym (bitmask_splat w8 ltb (take 16 (drop at x)) 16 128 (long x at c.requires.room) (omega arith))) (mask_lasts x at c.requires.room)
