use Rattle.std.proofs.Common.{◌≡◌, Ok, ap, subst, sym, ◌∙◌}
use Rattle.std.proofs.lemmas.Result.{err_from_is_err_and}
use Rattle.std.specs.Prelude.{MatchResult}
use Rattle.jfr_build.specs.Builds.{IsFault, build_lines, line_count}
use Rattle.jfr_build.proofs.AcceptedLaws.{accepted_by}
use Rattle.jfr_build.proofs.ChunkLaws.{bad_line, text_lines, text_too_large}
use Rattle.jfr_build.proofs.building.build.Goals as goal

pub returns-then-text-ge-TEXT_LIMIT : goal.returns-then-text-ge-TEXT_LIMIT
returns-then-text-ge-TEXT_LIMIT c = record { exact = rw c.too_large.ensures (text_too_large c.args.text.now c.if-text-ge-TEXT_LIMIT.true); accepted = tt }

pub returns-in_err-lines-clause-exact : goal.returns-in_err-lines-clause-exact
returns-in_err-lines-clause-exact c =
    let p = err_from_is_err_and c.from_residual.result c.from_residual.ensures.1 in
    rw (p.1, p.2) (bad_line c.args.text.now c.in_err-lines.field-0.0 c.if-text-ge-TEXT_LIMIT.false c.in_err-lines.ensures.exact)

pub returns : goal.returns
returns c =
    let e = text_lines c.args.text.now c.if-text-ge-TEXT_LIMIT.false
    ∙ (ap (build_lines (line_count c.args.text.now)) (c.in_ok-lines.ensures.exact ∙ ap (λ z. Ok z) (sym c.deref.ensures.value))
    ∙ ap (λ n. build_lines n (Ok c.deref.result.now)) (sym c.line_count.ensures)) in
    let exact = subst (λ z. MatchResult c.build_lines.result (λ chunk. z ≡ Ok chunk.items) (IsFault z)) (sym e) c.build_lines.ensures.exact in
    record { exact = exact; accepted = accepted_by c.build_lines.result c.args.text.now exact }
