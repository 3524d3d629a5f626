use Rattle.jfr_verify.proofs.StreamLaws.{compared_once, compared_is, all_verified, scrubbed_is_verified}
use Rattle.jfr_verify.proofs.laws.streams_are_compared.Goals as goal

pub returns : goal.returns
returns c = λ g ps end qs r n. record {
  there = compared_is g ps end qs r n;
  one = compared_once g ps end qs r n;
  sound = all_verified g ps end qs r n;
  complete = λ names. scrubbed_is_verified g names
      ps qs n;
}
