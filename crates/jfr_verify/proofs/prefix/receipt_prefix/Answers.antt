use Rattle.std.proofs.Common.{◌≡◌, length, true, false, ap, ◌∙◌, subst}
use Rattle.jfr_verify.specs.Parents.{ParentsOf}
use Rattle.jfr_verify.specs.Claims.{AreConfirmed}
use Rattle.jfr_verify.specs.Decided.{Decided}
use Rattle.jfr_verify.proofs.PrefixLaws.{by_none, by_unordered, by_confirmed}
use Rattle.jfr_verify.proofs.prefix.receipt_prefix.Goals as goal

pub returns-in_default : goal.returns-in_default
returns-in_default c =
    let n : c.len-count.result ≡ length c.args.chunk.now.entries = c.len-count.ensures ∙ ap length c.pools.ensures in
    by_none c.args.chunk.now c.args.receipt.now c.len-count.result c.in_ok-read.field-0 n c.in_ok-read.ensures c.in_default.is

pub returns-in_default-2 : goal.returns-in_default-2
returns-in_default-2 c =
    let n : c.len-count.result ≡ length c.args.chunk.now.entries = c.len-count.ensures ∙ ap length c.pools.ensures in
    let w : ParentsOf c.len-count.result c.in-Some.read.lines.items c.in_ok-parents.field-0 =
    subst (λ z. ParentsOf c.len-count.result z c.in_ok-parents.field-0) c.deref.ensures.value c.in_ok-parents.ensures in
    by_unordered c.args.chunk.now c.args.receipt.now c.len-count.result c.in_ok-read.field-0 c.in-Some.read c.in_ok-parents.field-0 n c.in_ok-read.ensures c.in-Some.is w c.in_default-2.is

pub returns-then-branch : goal.returns-then-branch
returns-then-branch c =
    let n : c.len-count.result ≡ length c.args.chunk.now.entries = c.len-count.ensures ∙ ap length c.pools.ensures in
    let w : ParentsOf c.len-count.result c.in-Some.read.lines.items c.in_ok-parents.field-0 =
    subst (λ z. ParentsOf c.len-count.result z c.in_ok-parents.field-0) c.deref.ensures.value c.in_ok-parents.ensures in
    by_confirmed c.args.chunk.now c.args.receipt.now c.requires c.len-count.result c.in_ok-read.field-0 c.in-Some.read c.in_ok-parents.field-0 c.in-Some-2.parents true n c.in_ok-read.ensures
    c.in-Some.is w c.in-Some-2.is
    (subst (Decided (AreConfirmed c.args.chunk.now c.in-Some-2.parents.items)) c.if-branch.true c.in_ok-are_confirmed.ensures)

pub returns : goal.returns
returns c =
    let n : c.len-count.result ≡ length c.args.chunk.now.entries = c.len-count.ensures ∙ ap length c.pools.ensures in
    let w : ParentsOf c.len-count.result c.in-Some.read.lines.items c.in_ok-parents.field-0 =
    subst (λ z. ParentsOf c.len-count.result z c.in_ok-parents.field-0) c.deref.ensures.value c.in_ok-parents.ensures in
    by_confirmed c.args.chunk.now c.args.receipt.now c.requires c.len-count.result c.in_ok-read.field-0 c.in-Some.read c.in_ok-parents.field-0 c.in-Some-2.parents false n c.in_ok-read.ensures
    c.in-Some.is w c.in-Some-2.is
    (subst (Decided (AreConfirmed c.args.chunk.now c.in-Some-2.parents.items)) c.if-branch.false c.in_ok-are_confirmed.ensures)
