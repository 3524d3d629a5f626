use Rattle.std.specs.Prelude.{◌≡◌, IfSome, IsTrue}
use Rattle.jfr_verify.specs.declared.verdict.Verdict.TheVariants as verdicts
use Rattle.jfr_verify.specs.Verdicts.{AllVerified, HasNoVerdict, LacksOne, VerdictOf, three}
use Rattle.jfr_words.specs.Words.{file_name}
use Rattle.jfr_cli.proofs.Orders.{named}
use Rattle.jfr_cli.proofs.Checking.{check_verified, check_refused, check_halted, check_short, check_doubted, renamed}
use Rattle.jfr_cli.proofs.execute.verify.Goals as goal

pub returns-in-Verified : goal.returns-in-Verified
returns-in-Verified g c =
    let f = c.args.filter.now in
    let n = c.args.files.now in
    let p = g.P.Place.state c.args.place.now in
    let q = g.P.Place.state c.verify_stream.new.place in
    let s = g.O.Sink.state c.args.out.now in
    let i = c.as_str-input.result.now in
    let o = c.as_str-output.result.now in
    let r = c.as_str.result.now in
    let a = named i n.input.now c.as_str-input.utf8 c.as_str-input.ensures in
    let b = named o n.output.now c.as_str-output.utf8 c.as_str-output.ensures in
    let d = named r n.receipt.now c.as_str.utf8 c.as_str.ensures in
    let z = g.O.Sink.state c.write_verified.new.out in
    let x = verdicts.Verified c.in-Verified.count in
    check_verified f n.input.now n.output.now n.receipt.now p q s z c.verify_stream.ensures.unchanged c.in-Verified.count c.write_verified.result
    (renamed i (file_name n.input.now) o (file_name n.output.now) r (file_name n.receipt.now) (λ i o r. IfSome p.contents (λ w. VerdictOf f (three i o r w) x)) a b d c.in-Verified.ensures.exact)
    (renamed i (file_name n.input.now) o (file_name n.output.now) r (file_name n.receipt.now) (λ i o r. IfSome p.contents (λ w. AllVerified f (three i o r w) c.in-Verified.count)) a b d
    c.in-Verified.ensures.verified)
    c.in-Verified.ensures.counts c.write_verified.ensures

pub returns-in-Doubted : goal.returns-in-Doubted
returns-in-Doubted g c =
    let f = c.args.filter.now in
    let n = c.args.files.now in
    let p = g.P.Place.state c.args.place.now in
    let q = g.P.Place.state c.verify_stream.new.place in
    let s = g.O.Sink.state c.args.out.now in
    let i = c.as_str-input.result.now in
    let o = c.as_str-output.result.now in
    let r = c.as_str.result.now in
    let a = named i n.input.now c.as_str-input.utf8 c.as_str-input.ensures in
    let b = named o n.output.now c.as_str-output.utf8 c.as_str-output.ensures in
    let d = named r n.receipt.now c.as_str.utf8 c.as_str.ensures in
    check_doubted f n.input.now n.output.now n.receipt.now p q s c.verify_stream.ensures.unchanged c.in-Doubted.chunk c.in-Doubted.doubt
    (renamed i (file_name n.input.now) o (file_name n.output.now) r (file_name n.receipt.now)
    (λ i o r. IfSome p.contents (λ w. VerdictOf f (three i o r w) (verdicts.Doubted c.in-Doubted.chunk c.in-Doubted.doubt))) a b d c.in-Doubted.ensures.exact)
    c.in-Doubted.ensures.counts

pub returns-in-Refused : goal.returns-in-Refused
returns-in-Refused g c =
    let f = c.args.filter.now in
    let n = c.args.files.now in
    let p = g.P.Place.state c.args.place.now in
    let q = g.P.Place.state c.verify_stream.new.place in
    let s = g.O.Sink.state c.args.out.now in
    let i = c.as_str-input.result.now in
    let o = c.as_str-output.result.now in
    let r = c.as_str.result.now in
    let a = named i n.input.now c.as_str-input.utf8 c.as_str-input.ensures in
    let b = named o n.output.now c.as_str-output.utf8 c.as_str-output.ensures in
    let d = named r n.receipt.now c.as_str.utf8 c.as_str.ensures in
    check_refused f n.input.now n.output.now n.receipt.now p q s c.verify_stream.ensures.unchanged c.in-Refused.refusal
    (renamed i (file_name n.input.now) o (file_name n.output.now) r (file_name n.receipt.now) (λ i o r. IfSome p.contents (λ w. VerdictOf f (three i o r w) (verdicts.Refused c.in-Refused.refusal))) a
    b d c.in-Refused.ensures.exact)
    c.in-Refused.ensures.counts

pub returns-in-ReadFault : goal.returns-in-ReadFault
returns-in-ReadFault g c =
    let f = c.args.filter.now in
    let n = c.args.files.now in
    let p = g.P.Place.state c.args.place.now in
    let q = g.P.Place.state c.verify_stream.new.place in
    let s = g.O.Sink.state c.args.out.now in
    let i = c.as_str-input.result.now in
    let o = c.as_str-output.result.now in
    let r = c.as_str.result.now in
    let a = named i n.input.now c.as_str-input.utf8 c.as_str-input.ensures in
    let b = named o n.output.now c.as_str-output.utf8 c.as_str-output.ensures in
    let d = named r n.receipt.now c.as_str.utf8 c.as_str.ensures in
    check_halted f n.input.now n.output.now n.receipt.now p q s c.verify_stream.ensures.unchanged
    (renamed i (file_name n.input.now) o (file_name n.output.now) r (file_name n.receipt.now)
    (λ i o r. IsTrue p.steady → verdicts.ReadFault ≡ verdicts.ReadFault → IfSome p.contents (λ w. HasNoVerdict f (three i o r w))) a b d c.in-ReadFault.ensures.undecided)
    (renamed i (file_name n.input.now) o (file_name n.output.now) r (file_name n.receipt.now)
    (λ i o r. IsTrue p.steady → verdicts.ReadFault ≡ verdicts.ReadFault → IfSome p.contents (λ w. LacksOne (three i o r w))) a b d c.in-ReadFault.ensures.steady)
    c.in-ReadFault.ensures.counts

pub returns-in-Memory : goal.returns-in-Memory
returns-in-Memory g c =
    let f = c.args.filter.now in
    let n = c.args.files.now in
    let p = g.P.Place.state c.args.place.now in
    let q = g.P.Place.state c.verify_stream.new.place in
    let s = g.O.Sink.state c.args.out.now in
    check_short f n.input.now n.output.now n.receipt.now p q s c.verify_stream.ensures.unchanged c.in-Memory.ensures.counts
