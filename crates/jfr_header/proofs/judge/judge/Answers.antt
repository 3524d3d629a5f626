use Rattle.std.proofs.Common.{rules, ◌≡◌, ◌≤◌, ◌<◌, ◌∙◌, length, take, ap, sym, arith}
use Rattle.std.proofs.lemmas.List.{take_all}
use Rattle.jfr_header.specs.Fronts.{header_flaw, size_of}
use Rattle.jfr_header.specs.declared.header.Header.{Header}
use Rattle.jfr_header.proofs.Judges.{judged_none, judged_long, judged_short, judged_header}
use Rattle.jfr_header.proofs.judge.judge.Goals as goal

pub returns-then-is_empty : goal.returns-then-is_empty
returns-then-is_empty c =
    let empty : length c.args.front.now ≡ 0 = search rules in
    rw (c.bad.ensures, c.if-given.false) (judged_none c.args.front.now c.args.start empty)

pub returns-then-start-ge-START_LIMIT : goal.returns-then-start-ge-START_LIMIT
returns-then-start-ge-START_LIMIT c =
    let some : 0 < length c.args.front.now = search rules in
    rw c.bad-then-start-ge-START_LIMIT.ensures (judged_long c.args.front.now c.args.start c.args.given some c.if-start-ge-START_LIMIT.true)

pub returns-in_default : goal.returns-in_default
returns-in_default c =
    let some : 0 < length c.args.front.now = search rules in
    let short : length c.args.front.now < 68 = search rules in
    rw c.bad-in_default.ensures (judged_short c.args.front.now c.args.start c.args.given some c.if-start-ge-START_LIMIT.false short)

pub returns-in-Ok : goal.returns-in-Ok
returns-in-Ok c =
    let long : 68 ≤ length c.args.front.now = search rules in
    let n : length c.args.front.now ≡ 68 = omega (arith, long, c.requires) in
    let first : c.in-Some.header.now ≡ take 68 c.args.front.now = search rules in
    let same : c.in-Some.header.now ≡ c.args.front.now = first ∙ take_all 68 c.args.front.now c.requires in
    (c.if-start-ge-START_LIMIT.false, n, ap header_flaw (sym same) ∙ c.in-Ok.ensures.ok.0, ap (λ (h : Header). h.size) c.in-Ok.ensures.ok.1 ∙ ap size_of same)

pub returns-in-Err : goal.returns-in-Err
returns-in-Err c =
    let long : 68 ≤ length c.args.front.now = search rules in
    let n : length c.args.front.now ≡ 68 = omega (arith, long, c.requires) in
    let first : c.in-Some.header.now ≡ take 68 c.args.front.now = search rules in
    let same : c.in-Some.header.now ≡ c.args.front.now = first ∙ take_all 68 c.args.front.now c.requires in
    judged_header c.args.front.now c.args.start c.args.given c.in-Err.flaw n c.if-start-ge-START_LIMIT.false (ap header_flaw (sym same) ∙ c.in-Err.ensures.refused)
