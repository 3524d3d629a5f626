use Rattle.std.proofs.lemmas.Result.{err_from_is_err_and}
use Rattle.jfr_meta.specs.Heads.{body_value}
use Rattle.jfr_meta.proofs.Answered.{metadata_ok, body_refused, classes_refused}
use Rattle.jfr_meta.proofs.Depths.{shallow}
use Rattle.jfr_meta.proofs.metadata.read_metadata.Goals as goal

pub returns-in_err-body-clause-refused : goal.returns-in_err-body-clause-refused
returns-in_err-body-clause-refused c =
    let p = err_from_is_err_and c.from_residual.result c.from_residual.ensures.1 in
    rw (p.1, p.2) (body_refused c.args.chunk.now c.args.frame.now c.in_err-body.field-0.0 c.requires c.in_err-body.ensures.exact)

pub returns-in_err-classes-clause-refused : goal.returns-in_err-classes-clause-refused
returns-in_err-classes-clause-refused c =
    let p = err_from_is_err_and c.from_residual-in_err-classes.result c.from_residual-in_err-classes.ensures.1 in
    rw (p.1, p.2) (classes_refused c.args.chunk.now c.args.frame.now (body_value c.in_ok-body.body) c.in_err-classes.field-0.0 c.requires c.in_ok-body.ensures.exact c.in_err-classes.ensures)

pub returns-clause-ok : goal.returns-clause-ok
returns-clause-ok c = metadata_ok c.args.chunk.now c.args.frame.now (body_value c.in_ok-body.body) c.in_ok-classes.classes c.requires c.in_ok-body.ensures.exact c.in_ok-classes.ensures

pub returns-clause-shallow : goal.returns-clause-shallow
returns-clause-shallow c =
    shallow c.args.chunk.now c.args.frame.now (body_value c.in_ok-body.body) c.in_ok-classes.classes
    (metadata_ok c.args.chunk.now c.args.frame.now (body_value c.in_ok-body.body) c.in_ok-classes.classes c.requires c.in_ok-body.ensures.exact c.in_ok-classes.ensures)
