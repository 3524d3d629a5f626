use Rattle.std.proofs.Common.{◌≡◌, arith, sym}
use Rattle.jfr_verify.proofs.ReadingLaws.{count_none, count_differs, read_ends}
use Rattle.jfr_verify.proofs.reading.read_lines.Goals as goal

pub returns-in_default : goal.returns-in_default
returns-in_default c = sym (count_none c.args.receipt.now c.args.count c.in_default.ensures.exact)

pub returns-then-many-count : goal.returns-then-many-count
returns-then-many-count c = sym (count_differs c.args.receipt.now c.args.count c.in-Ok.many c.in-Ok.ensures.exact (λ q. omega (arith, q)))

pub returns : goal.returns
returns c =
    let q : c.in-Ok.many.value ≡ c.args.count = omega arith in
    read_ends c.args.receipt.now c.args.count c.in-Ok.many c.in-Ok.ensures.exact q c.read_each.result c.read_each.ensures
