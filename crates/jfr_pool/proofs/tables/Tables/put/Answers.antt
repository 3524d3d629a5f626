use Rattle.std.proofs.Common.{arith, refl}
use Rattle.std.proofs.lemmas.Option.{slice_get_read}
use Rattle.jfr_pool.proofs.TableLaws.{no_table, passed, placed}
use Rattle.jfr_pool.proofs.tables.Tables.put.Goals as goal

pub returns-then-class-len : goal.returns-then-class-len
returns-then-class-len c = λ es h n. passed c.args.self.now c.args.entry.now es
    (no_table c.args.self.now.by_class.items (c.args.entry.now.class, c.args.entry.now.key) (omega (arith, c.args.self.now.by_class.ok.0, c.len.ensures, c.if-class-len.true))) h

pub returns : goal.returns
returns c =
    let by_class = c.args.self.now.by_class in
    let holds = slice_get_read by_class.items by_class.len c.args.entry.now.class c.index_mut.result.now by_class.ok.0 (omega (arith, c.len.ensures, c.if-class-len.false)) c.index_mut.ensures.value in
    placed c.args.self.now _ c.index_mut.result.now c.put.new.self c.args.entry.now c.args.number holds refl c.put.ensures.here c.put.ensures.others
