use Rattle.std.proofs.Common.{◌≡◌, length, take}
use Rattle.jfr_verify.specs.Confirmed.{Confirms}
use Rattle.jfr_verify.proofs.confirm.confirm_each.Given as goal

abbrev pub invariant-loop-number : goal.invariant-loop-number
invariant-loop-number l = record {
  holds : Confirms (take l.number-index l.entries) l.initial.claims l.claims;
  size : length l.claims.confirmed.items ≡ length l.initial.claims.confirmed.items;
}
