use Rattle.std.specs.Prelude.{◌≡◌, ◌+◌, suc, drop, length, take}
use Rattle.std.proofs.Common.{[], ◌∷◌, Ok, Err, ap, arith, sym, ◌∙◌, subst}
use Rattle.std.proofs.lemmas.Result.{err_from_is_err_and}
use Rattle.std.specs.Str.{chars}
use Rattle.jfr_plan.specs.Effects.{Append}
use Rattle.jfr_plan.specs.Parts.{IsPlaceAfter}
use Rattle.jfr_plan.proofs.Leaving.{counts_then}
use Rattle.jfr_mask.specs.Recordings.{table_line, table_lines}
use Rattle.jfr_mask.proofs.MaskedFile.{appends}
use Rattle.jfr_mask.proofs.TableLines.{LinesDone, all_lines, line_at, none_left, one_failed, one_more, split_at}
use Rattle.jfr_mask.proofs.table.append_lines.Goals as goal

pub returns-in_err-put_line-clause-contents : goal.returns-in_err-put_line-clause-contents
returns-in_err-put_line-clause-contents g c =
    let d = c.args.dictionary.now in
    let p = err_from_is_err_and c.from_residual.result c.from_residual.ensures.1 in
    rw (p.1, p.2) (none_left (take c.loop-at.at (table_lines 1 d)) (drop c.loop-at.at (table_lines 1 d)) (table_lines 1 d) (g.P.Place.state c.args.place.now) (g.P.Place.state c.loop-at.place)
    (split_at c.loop-at.at (table_lines 1 d)) c.loop-at.invariant)

pub returns-in_err-put_line-clause-counts : goal.returns-in_err-put_line-clause-counts
returns-in_err-put_line-clause-counts g c =
    let p = err_from_is_err_and c.from_residual.result c.from_residual.ensures.1 in
    rw (p.1, p.2) c.loop-at.invariant.counts

pub returns-in_err-append_output-clause-contents : goal.returns-in_err-append_output-clause-contents
returns-in_err-append_output-clause-contents g c =
    let d = c.args.dictionary.now in
    let p = err_from_is_err_and c.from_residual-in_err-append_output.result c.from_residual-in_err-append_output.ensures.1 in
    let e = c.in_err-append_output.field-0.0 in
    let line = line_at 1 d c.loop-at.at (chars c.known.result.now) c.known.ensures.text in
    rw (p.1, p.2) (one_failed (take c.loop-at.at (table_lines 1 d)) (drop (suc c.loop-at.at) (table_lines 1 d)) (table_lines 1 d) (table_line (c.loop-at.at + 1) (chars c.known.result.now)) e
    (g.P.Place.state c.args.place.now) (g.P.Place.state c.loop-at.place) (g.P.Place.state c.append_output.new.place) line.whole c.loop-at.invariant
    (subst (λ b. IsPlaceAfter (Append b ∷ []) (Err e) (g.P.Place.state c.loop-at.place) (g.P.Place.state c.append_output.new.place))
    (c.as_bytes.ensures ∙ c.in_ok-put_line.ensures.ok) c.in_err-append_output.ensures.contents))

pub returns-in_err-append_output-clause-counts : goal.returns-in_err-append_output-clause-counts
returns-in_err-append_output-clause-counts g c =
    let p = err_from_is_err_and c.from_residual-in_err-append_output.result c.from_residual-in_err-append_output.ensures.1 in
    rw (p.1, p.2) (counts_then tt (Err c.in_err-append_output.field-0.0) (g.P.Place.state c.args.place.now) (g.P.Place.state c.loop-at.place)
    (g.P.Place.state c.append_output.new.place) c.loop-at.invariant.counts c.in_err-append_output.ensures.counts)

pub loop-at-preserved : goal.loop-at-preserved
loop-at-preserved g c =
    let d = c.args.dictionary.now in
    let lines = take c.loop-at.at (table_lines 1 d) in
    let new = table_line (c.loop-at.at + 1) (chars c.known.result.now) in
    let x = g.P.Place.state c.args.place.now in
    let y = g.P.Place.state c.loop-at.place in
    let z = g.P.Place.state c.append_output.new.place in
    let o = c.in_ok-append_output.field-0 in
    let line = line_at 1 d c.loop-at.at (chars c.known.result.now) c.known.ensures.text in
    let next : suc c.loop-at.at ≡ c.loop-at.at + 1 = omega arith in
    subst (λ n. LinesDone (take n (table_lines 1 d)) x z) next
    (subst (λ ls. LinesDone ls x z) (sym line.next)
    (one_more lines new o x y z c.loop-at.invariant
    (subst (λ b. IsPlaceAfter (Append b ∷ []) (Ok o) y z) (c.as_bytes.ensures ∙ c.in_ok-put_line.ensures.ok) c.in_ok-append_output.ensures.contents) c.in_ok-append_output.ensures.counts))

pub returns-clause-contents : goal.returns-clause-contents
returns-clause-contents g c =
    let d = c.args.dictionary.now in
    let end : c.loop-at.at ≡ length d = omega (arith, c.loop-at-test.false, c.loop-at.auto.at-end, c.len-at-end.ensures) in
    subst (λ ls. IsPlaceAfter (appends ls) (Ok tt) (g.P.Place.state c.args.place.now) (g.P.Place.state c.loop-at.place))
    (ap (λ n. take n (table_lines 1 d)) end ∙ all_lines 1 d) c.loop-at.invariant.leaves
