use Rattle.std.proofs.Common.{◌+◌, subst}
use Rattle.std.specs.Slice.Iter.{iter_rest}
use Rattle.jfr_verify.specs.Verdicts.{ComparedWith}
use Rattle.jfr_verify.proofs.ComparingLaws.{take_one, pair_passes, pair_fails}
use Rattle.jfr_verify.proofs.comparer.Comparer.compare_next.Goals as goal

pub returns-in-Ok-checked-clause-steps : goal.returns-in-Ok-checked-clause-steps
returns-in-Ok-checked-clause-steps c = λ n qs at h.
    let s = c.args.self.now in
    let bs = iter_rest c.next.new.self in
    let t = take_one c.in-Some.output.now bs (iter_rest s.outputs) qs c.in-Some.ensures.steps h in (
      t.later,
      t.outputs,
      λ k y d. pair_passes s.filter.now c.args.input.now c.in-Ok.output c.in-Some.output.now bs qs s.receipts.now n c.in-Ok-checked.len c.deref.result.now c.deref.ensures.value t c.in-Ok.ensures.exact
          c.in-Ok-checked.ensures.exact k y
          (subst (λ z. ComparedWith s.filter.now k t.later z (n + 1) y) c.split_at.ensures.back d),
    )

pub returns-in-Err-checked-clause-steps : goal.returns-in-Err-checked-clause-steps
returns-in-Err-checked-clause-steps c = λ n qs at h.
    let s = c.args.self.now in
    let bs = iter_rest c.next.new.self in
    let t = take_one c.in-Some.output.now bs (iter_rest s.outputs) qs c.in-Some.ensures.steps h in
    rw c.of_check.ensures (pair_fails s.filter.now c.args.input.now c.in-Ok.output c.in-Some.output.now bs qs s.receipts.now n c.args.number c.in-Err-checked.fault c.deref.result.now at
    c.deref.ensures.value t c.in-Ok.ensures.exact c.in-Err-checked.ensures.exact)
