use Rattle.std.proofs.Common.{◌∙◌, sym}
use Rattle.std.proofs.lemmas.List.{append-nil}
use Rattle.std.proofs.lemmas.Result.{err_from_is_err_and}
use Rattle.jfr_show.proofs.TextLaws.{indent_more, indent_part}
use Rattle.jfr_show.proofs.builder.TextBuilder.push_indent.Goals as goal

pub loop-init : goal.loop-init
loop-init c = sym (append-nil c.args.self.now)

pub loop-preserved : goal.loop-preserved
loop-preserved c = c.in_ok-push_ascii.ensures.ok ∙ indent_more c.args.self.now c.loop.self c.loop.counter c.loop.invariant

pub returns-in_err-push_ascii-clause-part : goal.returns-in_err-push_ascii-clause-part
returns-in_err-push_ascii-clause-part c =
    let p = err_from_is_err_and c.from_residual.result c.from_residual.ensures.1 in
    rw p.1 (indent_part c.args.self.now c.push_ascii.new.self c.loop.counter c.args.level c.loop-test.true (c.in_err-push_ascii.ensures.unchanged ∙ c.loop.invariant))
