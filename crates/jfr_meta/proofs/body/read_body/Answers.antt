use Rattle.std.proofs.Common.{sym, arith}
use Rattle.std.proofs.lemmas.Result.{err_from_is_err_and}
use Rattle.jfr_base.specs.Formats.{run, times}
use Rattle.jfr_meta.specs.Body.{table_string, element_format, meta_format}
use Rattle.jfr_meta.proofs.Parts.{carried}
use Rattle.jfr_meta.proofs.Bodies.{no_head, no_strings, no_root, left_over, whole_body}
use Rattle.jfr_meta.proofs.body.read_body.Goals as goal

pub returns-in_err-head : goal.returns-in_err-head
returns-in_err-head c =
    let p = err_from_is_err_and c.from_residual.result c.from_residual.ensures.1 in
    rw (p.1, p.2) (record { exact = no_head c.args.bytes.now c.args.end c.args.at c.in_err-head.field-0.0 (sym c.in_err-head.ensures.exact) })

pub returns-in_err-strings : goal.returns-in_err-strings
returns-in_err-strings c =
    let p = err_from_is_err_and c.from_residual-in_err-strings.result c.from_residual-in_err-strings.ensures.1 in
    rw (p.1, p.2) (record {
      exact = carried (run (times c.in_ok-head.head.count table_string) c.args.bytes.now c.args.end c.in_ok-head.head.end)
          (run meta_format c.args.bytes.now c.args.end c.args.at) c.in_err-strings.field-0.0 c.in_err-strings.ensures.exact
          (λ w e. no_strings c.args.bytes.now c.args.end c.args.at (c.in_ok-head.head.start, c.in_ok-head.head.duration, c.in_ok-head.head.id, c.in_ok-head.head.count) c.in_ok-head.head.end w
          (sym c.in_ok-head.ensures.exact) e);
    })

pub returns-in_err-root : goal.returns-in_err-root
returns-in_err-root c =
    let p = err_from_is_err_and c.from_residual-in_err-root.result c.from_residual-in_err-root.ensures.1 in
    rw (p.1, p.2) (record {
      exact = carried (run (element_format 16 c.in_ok-head.head.count) c.args.bytes.now c.args.end c.in_ok-strings.place)
          (run meta_format c.args.bytes.now c.args.end c.args.at) c.in_err-root.field-0.0 c.in_err-root.ensures.exact
          (λ w e. no_root c.args.bytes.now c.args.end c.args.at (c.in_ok-head.head.start, c.in_ok-head.head.duration, c.in_ok-head.head.id, c.in_ok-head.head.count) c.in_ok-head.head.end
          c.in_ok-strings.strings c.in_ok-strings.place w (sym c.in_ok-head.ensures.exact) c.in_ok-strings.ensures.exact e);
    })

pub returns-then-place-end : goal.returns-then-place-end
returns-then-place-end c = record {
  exact = left_over c.args.bytes.now c.args.end c.args.at (c.in_ok-head.head.start, c.in_ok-head.head.duration, c.in_ok-head.head.id, c.in_ok-head.head.count)
      c.in_ok-head.head.end c.in_ok-strings.strings c.in_ok-strings.place c.in_ok-root.root c.in_ok-root.place (sym c.in_ok-head.ensures.exact) c.in_ok-strings.ensures.exact c.in_ok-root.ensures.exact
      (omega arith);
}

pub returns : goal.returns
returns c = record {
  exact = whole_body c.args.bytes.now c.args.end c.args.at (c.in_ok-head.head.start, c.in_ok-head.head.duration, c.in_ok-head.head.id, c.in_ok-head.head.count) c.in_ok-head.head.end
      c.in_ok-strings.strings c.in_ok-strings.place c.in_ok-root.root c.in_ok-root.place (sym c.in_ok-head.ensures.exact) c.in_ok-strings.ensures.exact c.in_ok-root.ensures.exact
      (omega (arith, c.in_ok-root.ensures.range));
}
