use Rattle.std.proofs.Common.{arith}
use Rattle.std.proofs.lemmas.Result.{err_from_is_err_and}
use Rattle.jfr_pool.proofs.EntryLaws.{gathered_none, gathered_more, gathered_fault, gathered_all, link_record, told_entries, told_fault}
use Rattle.jfr_pool.proofs.pools.Pools.read.Goals as goal

pub loop-number-init : goal.loop-number-init
loop-number-init c = gathered_none c.args.chunk.now c.args.classes.now c.args.chain.now c.new-entries.result.items c.new-entries.ensures.items

pub loop-number-preserved : goal.loop-number-preserved
loop-number-preserved c = gathered_more c.args.chunk.now c.args.classes.now c.args.chain.now c.loop-number.number c.loop-number.entries.items c.at.result.now c.loop-number.invariant c.at.ensures
    c.read_checkpoint.new.entries.items c.in_ok-read_checkpoint.field-0 c.in_ok-read_checkpoint.ensures.exact

pub read_checkpoint-requires : goal.read_checkpoint-requires
read_checkpoint-requires c = link_record c.args.chunk.now c.args.chain.now c.loop-number.number c.at.result.now c.requires c.at.ensures

pub returns-in_err-read_checkpoint-clause-refused : goal.returns-in_err-read_checkpoint-clause-refused
returns-in_err-read_checkpoint-clause-refused c =
    let p = err_from_is_err_and c.from_residual.result c.from_residual.ensures.1 in
    rw (p.1, p.2) (told_fault c.args.chunk.now c.args.classes.now c.args.chain.now c.in_err-read_checkpoint.field-0.0 c.requires
    (gathered_fault c.args.chunk.now c.args.classes.now c.args.chain.now c.loop-number.number c.loop-number.entries.items c.at.result.now c.loop-number.invariant c.at.ensures
    c.in_err-read_checkpoint.field-0.0 c.in_err-read_checkpoint.ensures.exact))

pub returns-in_err-read_checkpoint-clause-exact : goal.returns-in_err-read_checkpoint-clause-exact
returns-in_err-read_checkpoint-clause-exact c =
    let p = err_from_is_err_and c.from_residual.result c.from_residual.ensures.1 in
    rw (p.1, p.2) (gathered_fault c.args.chunk.now c.args.classes.now c.args.chain.now c.loop-number.number c.loop-number.entries.items c.at.result.now c.loop-number.invariant c.at.ensures
    c.in_err-read_checkpoint.field-0.0 c.in_err-read_checkpoint.ensures.exact)

pub returns-clause-ok : goal.returns-clause-ok
returns-clause-ok c = told_entries c.args.chunk.now c.args.classes.now c.args.chain.now c.loop-number.entries.items c.requires
    (gathered_all c.args.chunk.now c.args.classes.now c.args.chain.now c.loop-number.number c.loop-number.entries.items c.loop-number.invariant (omega arith))

pub returns-clause-exact : goal.returns-clause-exact
returns-clause-exact c = gathered_all c.args.chunk.now c.args.classes.now c.args.chain.now c.loop-number.number c.loop-number.entries.items c.loop-number.invariant (omega arith)
