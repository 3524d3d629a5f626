use Rattle.std.proofs.Common.{◌≡◌, ◌-◌, ◌+◌, suc, ap, sym, ◌∙◌, arith}
use Rattle.std.specs.Prelude.{Ok}
use Rattle.jfr_base.specs.Formats.{Done, times, integer, run, end_or_flaw}
use Rattle.jfr_base.proofs.FormatEnds.{end_or_flaw-times, then_at}
use Rattle.jfr_text.proofs.ReadSteps.{int_there, done_there}
use Rattle.jfr_text.proofs.read.skip_each_integer.Goals as goal

pub loop-preserved : goal.loop-preserved
loop-preserved c =
    let x = c.args.bytes.now in
    let end = c.args.end in
    let rest = c.args.count - (c.loop.counter + 1) in
    let v = c.in_ok-place.field-0 in
    let left : c.args.count - c.loop.counter ≡ suc rest = omega arith in
    let ends : end_or_flaw (run integer x end c.loop.place) ≡ Ok v.end = ap end_or_flaw (int_there x end c.loop.place (λ w s. Done w) v c.in_ok-place.ensures.exact ∙ done_there x end v.end v.value) in
    let one : end_or_flaw (run (times (c.args.count - c.loop.counter) integer) x end c.loop.place) ≡ end_or_flaw (run (times rest integer) x end v.end) =
    ap (λ n. end_or_flaw (run (times n integer) x end c.loop.place)) left
    ∙ (end_or_flaw-times rest integer x end c.loop.place ∙ ap (λ r. then_at r (λ p. end_or_flaw (run (times rest integer) x end p))) ends) in
    record {
      from = omega (arith, c.in_ok-place.ensures.range, c.loop.invariant.from);
      to = omega (arith, c.in_ok-place.ensures.range);
      same = sym one ∙ c.loop.invariant.same;
    }
